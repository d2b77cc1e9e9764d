-- DEMAND 3 ACROSS THE BOUNDARY, a to d: runs and moments there are the reader's own, and a call takes what the reader's takes.
-- Assumes nothing.
use mathlib.Core.List.{List, [], ◌++◌}
use mathlib.Core.Bool.{true}
use mathlib.Core.Path.{◌≡◌, refl, sym, ap, ap₂, ◌∙◌}
use Prim.Native.Nat.{ℕ, zero, ◌-◌, ◌*◌, ◌≤◌, ◌<◌}
use native.Mathlib.Omega.{arith}
use lib.ListN.{length, take, drop, length-append, length-drop}
use Rattle.std.specs.Prelude.{Result, Ok}
use Rattle.refusals.specs.declared.Refusal.{Refusal}
use Rattle.bits.specs.Bits.{bits_of, in_arow}
use Rattle.refusals.proofs.Words.{none_second}
use Rattle.formats.specs.declared.Format.{Format}
use Rattle.formats.specs.Formats.{format_of, format_refusal}
use Rattle.reader_bits.specs.Lines.{lines}
use Rattle.reader_record.specs.Records.{fresh_state}
use Rattle.reader_line.specs.declared.Reading.{Reading}
use Rattle.reader.specs.Read.{read_answer}
use Rattle.reader_refusals.specs.Refusing.{largest_setting, setting_refusal}
use Rattle.cuts.proofs.Advances.{takes_most, takes_one, takes_none}
use Rattle.cuts.specs.Driven.{bits_read}
use Rattle.demands.specs.Demand3 as reader
use Rattle.demands.proofs.Demand3.{demand_3_all}
use Rattle.rack_recording.specs.declared.ReaderState.{ReaderState}
use Rattle.rack_recording.specs.declared.ReadAnswer.{ReadAnswer}
use Rattle.rack_recording.specs.Recording.{handed_of, kept_of, flag_refusal, refused_read, read_given, read_of, line_left}
use Rattle.rack.specs.Demand3.{Unchanged, Demand3}
use Rattle.rack.specs.Run as run
use Rattle.rack.specs.Run.{lent_at, Played, taken_at, MomentAt}
use Rattle.rack.proofs.Calls.{Both, both}
use Rattle.rack.proofs.Moments.{through}
use Rattle.rack.proofs.Played.{from_driven, to_driven}
use Rattle.rack.proofs.Records.{read_ways, given_refused, given_taken}

-- ---- what one call takes, from any record

takes_most_at : (f setting : ℕ) (r : ReaderState) (p buf : List ℕ) → (read_of f setting r p buf).taken ≤ length p
unfolding refused_read
takes_most_at f setting r p buf =
    read_ways f setting r p buf (λ (a : ReadAnswer) (after : List ℕ). a.taken ≤ length p) (omega arith)
    (λ k. omega (arith, given_taken r (read_answer f setting (handed_of r) p buf), takes_most f setting (handed_of r) p buf))

-- the call for its flag is refused
turned : (f setting : ℕ) → flag_refusal f setting ≡ 0 → ⊥
unfolding flag_refusal
turned f setting e = let z = none_second (setting_refusal setting) 12 (none_second (format_refusal f) _ e) in omega arith

takes_one_at : (f setting : ℕ) (r : ReaderState) (p buf : List ℕ) → (read_of f setting r p buf).refused ≡ 0 → zero < length p → 1 ≤ (read_of f setting r p buf).taken
unfolding refused_read
takes_one_at f setting r p buf =
    read_ways f setting r p buf (λ (a : ReadAnswer) (after : List ℕ). a.refused ≡ 0 → zero < length p → 1 ≤ a.taken) (λ e l. absurd (turned f setting e))
    (λ k e l. let x : Result Reading Refusal = read_answer f setting (handed_of r) p buf in omega (arith, given_taken r x, takes_one f setting (handed_of r) p buf (sym (given_refused r x) ∙ e) l))

takes_none_at : (f setting : ℕ) (r : ReaderState) (buf : List ℕ) → (read_of f setting r [] buf).refused ≡ 0 → Unchanged r buf (read_of f setting r [] buf) (line_left f setting r [] buf)
unfolding refused_read read_given
takes_none_at f setting r buf =
    read_ways f setting r [] buf (λ (a : ReadAnswer) (after : List ℕ). a.refused ≡ 0 → Unchanged r buf a after) (λ e. absurd (turned f setting e))
    (λ k e.
    let x : Result Reading Refusal = read_answer f setting (handed_of r) [] buf in
    let n = takes_none f setting (handed_of r) buf (sym (given_refused r x) ∙ e) in
    record {
      given_back = ap (λ (y : Result Reading Refusal). (read_given r y).state) n.0 ∙ k;
      taken_none = ap (λ (y : Result Reading Refusal). (read_given r y).taken) n.0;
      none_complete = ap (λ (y : Result Reading Refusal). (read_given r y).complete) n.0;
      buffer = n.1;
    })

-- a run takes every byte of its pieces, and no other
takes_all_at : {f setting : ℕ} {lend : ℕ → List ℕ → List ℕ} {k : ℕ} {s : ReaderState} {buf : List ℕ} {ps ls : List (List ℕ)} (d : Played f setting lend k s buf ps ls)
    → taken_at d ≡ length (in_arow ps)
unfolding taken_at
takes_all_at run.Played.end = refl
takes_all_at (run.Played.used d) = takes_all_at d
takes_all_at {f} {setting} {lend} {k} {s} {buf} (run.Played.on {p = p} {ps = ps} none more d) =
    let t : ℕ = (read_of f setting s p (lent_at lend k s buf)).taken in
    omega (arith, takes_most_at f setting s p (lent_at lend k s buf), takes_all_at d, length-append (drop t p) (in_arow ps), length-append p (in_arow ps), length-drop t p)
takes_all_at {f} {setting} {lend} {k} {s} {buf} (run.Played.got {p = p} {ps = ps} none line d) =
    let t : ℕ = (read_of f setting s p (lent_at lend k s buf)).taken in
    omega (arith, takes_most_at f setting s p (lent_at lend k s buf), takes_all_at d, length-append (drop t p) (in_arow ps), length-append p (in_arow ps), length-drop t p)

-- ---- the demand

module _ (f setting : ℕ) (lend : ℕ → List ℕ → List ℕ) (first : List ℕ) (own : reader.Demand3 f setting lend first) where
  bits_at : {k : ℕ} {s : ReaderState} {buf bytes : List ℕ} {ls : List (List ℕ)} → MomentAt f setting lend first k s buf bytes ls
      → ls ≡ lines setting (take (8 * length bytes - s.unread_count) (bits_of bytes))
  unfolding kept_of bits_read
  bits_at {bytes = bytes} m =
      let t = through f setting lend first m in
      own.a_bits t.met.moment ∙ ap (λ (r : ReaderState). lines setting (take (8 * length bytes - r.unread_count) (bits_of bytes))) (sym t.same)

  last_bit_at : {k : ℕ} {s : ReaderState} {buf bytes : List ℕ} {ls : List (List ℕ)} → MomentAt f setting lend first k s buf bytes ls → (p : List ℕ) (answer : ReadAnswer)
      → answer ≡ read_of f setting s p (lent_at lend k s buf) → answer.refused ≡ 0 → answer.complete ≡ true
      → lines setting (take (8 * length (bytes ++ take answer.taken p) - answer.state.unread_count - 1) (bits_of (bytes ++ take answer.taken p))) ≡ ls
  unfolding kept_of
  last_bit_at {k = k} {s = r} {buf = buf} {bytes = bytes} m p answer is none line =
      let t = through f setting lend first m in
      let b : Both f setting lend true k t.state r p buf =
      both f setting lend true k t.state r p buf t.same (ap (λ (x : ReadAnswer). x.refused) (sym is) ∙ none) (ap (λ (x : ReadAnswer). x.complete) (sym is) ∙ line) in
      let took : answer.taken ≡ b.taken = ap (λ (x : ReadAnswer). x.taken) is ∙ b.took in
      let left : answer.state.unread_count ≡ b.after.unread_count = ap (λ (x : ReadAnswer). x.state.unread_count) is ∙ ap (λ (x : ReaderState). x.unread_count) b.brings in
      ap₂ (λ (n u : ℕ). lines setting (take (8 * length (bytes ++ take n p) - u - 1) (bits_of (bytes ++ take n p)))) took left
      ∙ own.a_last_bit t.met.moment p b.taken b.after b.is

  -- where the reader's own calls keep it, those across the boundary do
  across : Demand3 f setting lend first
  across = record {
    a = λ ps ls. (λ r. (own.a ps ls).0 (to_driven f setting lend r fresh_state refl), λ e. from_driven f setting lend ((own.a ps ls).1 e));
    a_bytes = λ m. own.a_bytes (through f setting lend first m).met.moment;
    a_bits = bits_at;
    a_last_bit = last_bit_at;
    b = λ m whole. let t = through f setting lend first m in own.b t.met.moment (t.met.stands whole);
    c = λ ps qs ls ms p q. own.c ps qs ls ms (to_driven f setting lend p fresh_state refl) (to_driven f setting lend q fresh_state refl);
    d = λ ps ls d. takes_all_at d;
    d_most = takes_most_at f setting;
    d_one = takes_one_at f setting;
    d_none = takes_none_at f setting;
  }

-- DEMAND 3, of the calls that C and Rust make: a record with 0 in every field, one format, one setting, a full-size buffer, exchanged between
-- lines for any other full-size one as the caller likes
pub demand_3_across : (f : ℕ) (format : Format) → format_of f ≡ Ok format → (setting : ℕ) → setting ≤ largest_setting
    → (lend : ℕ → List ℕ → List ℕ) → ((k : ℕ) (buf : List ℕ) → 44356 ≤ length buf → 44356 ≤ length (lend k buf)) → (first : List ℕ) → 44356 ≤ length first → Demand3 f setting lend first
demand_3_across f format ok setting small lend long first room = across f setting lend first (demand_3_all f format ok setting small lend long first room)
