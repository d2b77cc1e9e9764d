-- The reader's numbers and its buffer stand for the bits that came: remembered bits for the last bits of the search; in a
-- line the buffer's first bytes and the waiting bits for the plain bits so far. One bit keeps it so, and when a line is
-- complete it stands whole in the buffer. Over any length of a window, any test and any line length. Assumes nothing.
use mathlib.Core.Bool.{Bool, true, false, cond, false≢true}
use mathlib.Core.List.{List, [], ◌∷◌, ◌++◌, append-nil}
use mathlib.Core.Path.{◌≡◌, refl, sym, ap, ◌∙◌}
use Prim.Native.Nat.{ℕ, zero, suc, ◌+◌, ◌*◌, ◌/◌, ◌%◌, ◌^◌, ◌≤◌, ◌<◌}
use native.Mathlib.Nat.{le_refl, mod-lt}
use native.Mathlib.Numerals.{add-one}
use native.Mathlib.Omega.{arith}
use borrow.Author.Tests.{leb-true, leb-false, ltb-true, ltb-false, lt-ltb, le-ltb}
use lib.Dec.{leb, ltb, eqb}
use lib.ListN.{length, take, drop, set, length-append, length-set}
use lib.Pow.{pow_pos}
use Rattle.bits.specs.Bits.{digits, bits_of}
use Rattle.bits.proofs.Bytes.{no_bits}
use Rattle.bits.proofs.Digits.{length_digits, no_digits, digits_snoc, digits_rest}
use Rattle.scramble.specs.Register.{next_register, register_after}
use Rattle.scramble.specs.Sync.{fifteen_ones}
use Rattle.scramble.specs.Wire.{plain_bit}
use Rattle.wire.specs.Parts.{line_of}
use Rattle.scramble.proofs.Steps.{after_more}
use Rattle.reader_bits.specs.Lines.{opens}
use Rattle.reader_bits.specs.Phase.{Phase, seeking, within, phase_next, buffer_next, completes}
use Rattle.cuts.proofs.Auto.{Auto, seek, line, step_a, ends_a, line_a}
use Rattle.bits.proofs.Push.{push_lt}
use Rattle.scramble.proofs.Wire.{plain_lt}
use Rattle.wire.proofs.Wire.{line_snoc, line_none}
use Rattle.cuts.proofs.Snoc.{in_buffer}
use Rattle.cuts.proofs.Windows.{opens_short, opens_window}

pub buffer_length : (f : Phase) (buf : List ℕ) (b : ℕ) → length (buffer_next f b buf) ≡ length buf
unfolding buffer_next
buffer_length (seeking c w) buf b = refl
buffer_length (within p r q) buf b = go (eqb (p % 8) 7)
  where
    go : (t : Bool) → length (cond t (set buf (p / 8) (q * 2 + plain_bit p r b)) buf) ≡ length buf
    go true = length-set buf (p / 8) (q * 2 + plain_bit p r b)
    go false = refl

module _ (W : ℕ) (test : List ℕ → Bool) (M : ℕ) where
  abbrev pub Stands : Phase → List ℕ → Auto → Type 0
  Stands (seeking c w) buf (seek l) = (c < W) × (w < 2 ^ c) × (l ≡ digits c w)
  Stands (seeking c w) buf (line g) = ⊥
  Stands (within p r q) buf (seek l) = ⊥
  Stands (within p r q) buf (line g) =
      (length g ≡ p) × (p < M * 8) × (r ≡ register_after p fifteen_ones) × (bits_of (take (p / 8) buf) ++ digits (p % 8) q ≡ line_of g)

  pub after_line : (f : Phase) (b : ℕ) → completes M f b ≡ true → phase_next W test M f b ≡ seeking 0 0
  unfolding completes phase_next
  after_line (seeking c w) b e = absurd (false≢true e)
  after_line (within p r q) b e = rw e

  module _ (pw : zero < W) (pm : zero < M) where
    abbrev step_b : Auto → ℕ → Auto
    step_b = step_a W test (M * 8) line_of

    fresh_line : (buf : List ℕ) → Stands (within 0 fifteen_ones 0) buf (line [])
    unfolding register_after
    fresh_line buf = (refl, omega arith, refl, rw (no_bits, no_digits 0, line_none))

    pub fresh_search : (buf : List ℕ) → Stands (seeking 0 0) buf (seek [])
    fresh_search buf = (pw, le_refl 1, sym (no_digits 0))

    seek_stands : (c w b : ℕ) (buf l : List ℕ) → b < 2 → Stands (seeking c w) buf (seek l)
        → Stands (phase_next W test M (seeking c w) b) (buffer_next (seeking c w) b buf) (step_b (seek l) b)
    unfolding phase_next buffer_next
    seek_stands c w b buf l h s =
        rw (ap (λ (k : List ℕ). k ++ (b ∷ [])) s.2 ∙ sym (digits_snoc c w b h)) (go (ltb (suc c) W) refl (test (digits W v)) refl)
      where
        v : ℕ
        v = w * 2 + b

        x : List ℕ
        x = digits (suc c) v

        xl : length x ≡ suc c
        xl = length_digits (suc c) v

        -- a window as long as it must be
        window : suc c ≡ W → opens W test x ≡ test (digits W v)
        window e = opens_window W test x (xl ∙ e) ∙ ap (λ (k : ℕ). test (digits k v)) e

        go : (t : Bool) → ltb (suc c) W ≡ t → (u : Bool) → test (digits W v) ≡ u
            → Stands (cond t (seeking (suc c) v) (cond u (within 0 fifteen_ones 0) (seeking c (v % 2 ^ c)))) buf
            (cond (opens W test x) (line []) (seek (cond (ltb (length x) W) x (drop 1 x))))
        go true e u f =
            let k = ltb-true (suc c) W e in
            rw (opens_short W test x (omega (arith, xl)), lt-ltb (length x) W (omega (arith, xl)))
            (k, rw add-one at (push_lt c w b s.1 h), refl)
        go false e true f =
            let k = ltb-false (suc c) W e in
            let z : suc c ≡ W = omega (arith, s.0) in
            rw (window z ∙ f) (fresh_line buf)
        go false e false f =
            let k = ltb-false (suc c) W e in
            let z : suc c ≡ W = omega (arith, s.0) in
            rw (window z ∙ f, le-ltb (length x) W (omega (arith, xl)))
            (s.0, mod-lt v (pow_pos c), digits_rest c v)

    line_stands : (p r q b : ℕ) (buf g : List ℕ) → M ≤ length buf → Stands (within p r q) buf (line g)
        → Stands (phase_next W test M (within p r q) b) (buffer_next (within p r q) b buf) (step_b (line g) b)
    unfolding phase_next buffer_next
    line_stands p r q b buf g m s = rw s.0 (go (leb (M * 8) (suc p)) refl)
      where
        go : (t : Bool) → leb (M * 8) (suc p) ≡ t
            → Stands (cond t (seeking 0 0) (within (suc p) (next_register r) (cond (eqb (p % 8) 7) 0 (q * 2 + plain_bit p r b))))
            (cond (eqb (p % 8) 7) (set buf (p / 8) (q * 2 + plain_bit p r b)) buf)
            (cond t (seek []) (line (g ++ (b ∷ []))))
        go true e = fresh_search buf
        go false e =
            let k = leb-false (M * 8) (suc p) e in
            let l = length-append g (b ∷ []) in (
              omega (arith, s.0),
              omega arith,
              ap next_register s.2 ∙ sym (after_more p fifteen_ones),
              in_buffer M p q (plain_bit p r b) buf (line_of g) (plain_lt p r b) s.1 m s.3 ∙ sym (line_snoc p r b g s.0 s.2),
            )

    pub stands_next : (f : Phase) (buf : List ℕ) (q : Auto) (b : ℕ) → b < 2 → M ≤ length buf → Stands f buf q
        → Stands (phase_next W test M f b) (buffer_next f b buf) (step_b q b)
    stands_next (seeking c w) buf (seek l) b h m s = seek_stands c w b buf l h s
    stands_next (seeking c w) buf (line g) b h m s = absurd s
    stands_next (within p r q) buf (seek l) b h m s = absurd s
    stands_next (within p r q) buf (line g) b h m s = line_stands p r q b buf g m s

    pub ends_same : (f : Phase) (buf : List ℕ) (q : Auto) (b : ℕ) → Stands f buf q → completes M f b ≡ ends_a W test (M * 8) line_of q b
    unfolding completes
    ends_same (seeking c w) buf (seek l) b s = refl
    ends_same (seeking c w) buf (line g) b s = absurd s
    ends_same (within p r q) buf (seek l) b s = absurd s
    ends_same (within p r q) buf (line g) b s = ap (λ (x : ℕ). leb (M * 8) (suc x)) (sym s.0)

    -- WHEN A LINE IS COMPLETE IT STANDS WHOLE IN THE BUFFER
    pub line_whole : (f : Phase) (buf : List ℕ) (q : Auto) (b : ℕ) → M ≤ length buf → Stands f buf q → completes M f b ≡ true
        → bits_of (take M (buffer_next f b buf)) ≡ line_a W test (M * 8) line_of q b
    unfolding completes buffer_next
    line_whole (seeking c w) buf q b m s e = absurd (false≢true e)
    line_whole (within p r q) buf (seek l) b m s e = absurd s
    line_whole (within p r q) buf (line g) b m s e =
        let k = leb-true (M * 8) (suc p) e in
        let z : suc p % 8 ≡ 0 = omega (arith, s.1) in
        let d : suc p / 8 ≡ M = omega (arith, s.1) in
        let h = in_buffer M p q (plain_bit p r b) buf (line_of g) (plain_lt p r b) s.1 m s.3 in
        sym (append-nil _) ∙ (rw (d, z, no_digits) at h) ∙ sym (line_snoc p r b g s.0 s.2)
