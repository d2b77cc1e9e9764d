-- The ways of `put_sync`: refused for its format, refused for a short output, and done. Assumes nothing.
use mathlib.Core.Path.{◌≡◌, sym, ap, ap₂, ◌∙◌}
use mathlib.Core.List.{List, ◌++◌}
use Prim.Native.Nat.{ℕ, ◌+◌, ◌*◌, ◌/◌}
use native.Mathlib.Nat.{zero-add}
use lib.ListN.{length, take, drop}
use Rattle.std.specs.Prelude.{Result, Ok, Err}
use Rattle.std.specs.Result.{IsErrAnd}
use Rattle.bits.specs.Bits.{bits_of, fields_of, Below}
use Rattle.bits.proofs.Below.{below_drop}
use Rattle.bits.proofs.Bytes.{bits_drop}
use Rattle.bits.proofs.Fields.{bytes_front}
use Rattle.refusals.specs.declared.Refusal.{Refusal}
use Rattle.refusals.specs.Refusals.{short_of, number_of}
use Rattle.refusals.proofs.Numbers.{refused_first, passed_first}
use Rattle.refusals.proofs.Lent.{lent_err, lent_ok}
use Rattle.formats.specs.Formats.{format_of, FormatOk}
use Rattle.formats.specs.declared.Format.{Format}
use Rattle.formats.proofs.Settled.{format_is}
use Rattle.formats.proofs.Which.{parts, is_unknown}
use Rattle.scramble.specs.Register.{scrambling_bits}
use Rattle.scramble.specs.Sync.{SYNC}
use Rattle.scramble.proofs.Steps.{length_scrambling, scrambling_below}
use Rattle.sync.specs.Put.{before_sync, put_sync_refusal, PutSyncOk, put_sync_left}
use Rattle.sync.proofs.Opening.{sync_from}

abbrev Gives : ℕ → List ℕ → Result ℕ Refusal → List ℕ → Type 0
Gives n out r after = PutSyncOk n out r × (after ≡ put_sync_left n out)

-- refused with k, the refusal of a number that names no format
pub sync_refused : (n : ℕ) (out : List ℕ) (r : Result ℕ Refusal) (k : Refusal) → IsErrAnd r (λ (d : Refusal). d ≡ k) → format_of n ≡ Err k → Gives n out r out
unfolding put_sync_refusal put_sync_left
sync_refused n out r k h e = lent_err _ _ _ _ _ r k h (refused_first k _ _ (sym (is_unknown n k e)))

module _ (n : ℕ) (out : List ℕ) (f : Format) (is : FormatOk n (Ok f)) where
  pub sync_number : (e : ℕ) → e ≡ short_of (length out) (f.sync / 8) 3 → e ≡ put_sync_refusal n (length out)
  unfolding put_sync_refusal
  sync_number e short = passed_first _ _ e is.0 (short ∙ ap (λ (g : Format). short_of (length out) (g.sync / 8) 3) is.1)

  -- refused with k, for an output shorter than SYNC
  pub sync_short : (r : Result ℕ Refusal) (k : Refusal) → IsErrAnd r (λ (d : Refusal). d ≡ k) → number_of k ≡ short_of (length out) (f.sync / 8) 3 → Gives n out r out
  unfolding put_sync_left
  sync_short r k h short = lent_err _ _ _ _ _ r k h (sync_number (number_of k) short)

  pub sync_done : (reg : ℕ) (after : List ℕ) → 0 ≡ short_of (length out) (f.sync / 8) 3 → Below 256 out → Below 256 after
      → reg ≡ before_sync f.sync → bits_of after ≡ take 0 (bits_of out) ++ scrambling_bits f.sync reg ++ drop (0 + f.sync) (bits_of out)
      → Gives n out (Ok (f.sync / 8)) after
  unfolding put_sync_left SYNC
  sync_done reg after room b b' at w =
      let named = sym (format_is n (Ok f) is) in
      let whole : f.sync ≡ f.sync / 8 * 8 = (parts n f named).sync_whole in
      let rest : drop (0 + f.sync) (bits_of out) ≡ bits_of (drop (f.sync / 8) out) =
      ap (λ (k : ℕ). drop k (bits_of out)) (zero-add f.sync ∙ whole) ∙ bits_drop out (f.sync / 8) in
      let bytes : after ≡ fields_of 8 (f.sync / 8) (SYNC f.sync) ++ drop (f.sync / 8) out =
      bytes_front (f.sync / 8) after (SYNC f.sync) (drop (f.sync / 8) out) b' (below_drop 256 (f.sync / 8) out b)
      (length_scrambling f.sync _ ∙ whole) (scrambling_below f.sync _) (w ∙ ap₂ (λ (x y : List ℕ). x ++ y) (ap (scrambling_bits f.sync) at ∙ sync_from n f named) rest) in
      lent_ok _ _ _ _ _ _ _ (sync_number 0 room) (ap (λ (g : Format). g.sync / 8) is.1)
      (bytes ∙ ap (λ (g : Format). fields_of 8 (g.sync / 8) (SYNC g.sync) ++ drop (g.sync / 8) out) is.1)
