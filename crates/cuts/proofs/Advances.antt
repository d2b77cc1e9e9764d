-- D. The bytes taken are the advance in the recording: what stands to be read after a call is what stood to be read before
-- it, less the bits read; a piece that is not empty and not refused gives up a byte; and a driven run takes every byte.
-- Assumes nothing.
use mathlib.Core.Bool.{Bool, true, false, cond}
use mathlib.Core.List.{List, [], ◌∷◌}
use mathlib.Core.Path.{◌≡◌, refl, ap}
use Prim.Native.Nat.{ℕ, zero, suc, ◌≤◌, ◌<◌}
use native.Mathlib.Nat.{not-suc-le-zero}
use native.Mathlib.Omega.{arith}
use lib.ListN.{length, drop, length-append, length-drop}
use Rattle.std.specs.Prelude.{Result, Ok}
use Rattle.refusals.specs.declared.Refusal.{Refusal}
use Rattle.reader_line.specs.declared.Reading.{Reading}
use Rattle.bits.specs.Bits.{in_arow}
use Rattle.bits.proofs.Digits.{no_digits}
use Rattle.formats.specs.Formats.{line_bytes}
use Rattle.reader_bits.specs.Call.{Call, more, whole}
use Rattle.refusals.specs.Refusals.{answer_number}
use Rattle.refusals.proofs.Numbers.{number_some}
use Rattle.cuts.specs.Driven as driven
use Rattle.cuts.specs.Driven.{lent_for, Driven, taken_in}
use Rattle.reader_bits.specs.Lines.{is_tail}
use Rattle.reader_bits.specs.Phase.{seeking, within, Bench}
use Rattle.reader_bits.specs.Loops.{step_of, done_of}
use Rattle.reader.specs.Read.{call_of, read_answer, read_left, taken_by}
use Rattle.reader_line.specs.Answers.{call_answer}
use Rattle.reader_record.specs.Records.{possible_of, phase_of}
use Rattle.reader_record.specs.declared.State.{State}
use Rattle.reader_line.specs.declared.Reading.TheVariants.{More}
use Rattle.cuts.proofs.Calls.{taken_of, taken_most, taken_least, Quiet}
use Rattle.cuts.proofs.Cases.{read_cases}
use Rattle.reader_record.proofs.Checked.{Facts, facts, counts_true_in}
use Rattle.cuts.proofs.Demand.{some_window, some_bytes}
use Rattle.cuts.proofs.Simulates as simulates
use Rattle.cuts.proofs.Simulates.{seeking_quiet}

taken_same : (c : Call Bench) → taken_by (Ok (call_answer c)) ≡ taken_of c
taken_same (more t s n v) = refl
taken_same (whole t s n v) = refl

-- no more than the piece has, for every input
pub takes_most : (f setting : ℕ) (s : State) (p buf : List ℕ) → taken_by (read_answer f setting s p buf) ≤ length p
takes_most f setting s p buf =
    read_cases f setting s p buf (λ (a : Result Reading Refusal) (b : List ℕ). taken_by a ≤ length p) (λ n. omega arith) (λ h e. omega arith)
    (λ h m l. rw (taken_same (call_of setting s p buf)) (unfold call_of in taken_most (step_of setting) done_of (phase_of s, buf) s.unread_count s.unread p))

-- unread bits complete no line
quiet_state : (setting : ℕ) (s : State) (buf : List ℕ) → possible_of s ≡ true → Quiet (step_of setting) done_of (simulates.line_in line_bytes) (phase_of s, buf) s.unread_count s.unread
quiet_state setting s buf h = go s.in_line refl
  where
    f : Facts s
    f = facts s h

    nothing : (b : Bench) (n v : ℕ) → n ≡ 0 → Quiet (step_of setting) done_of (simulates.line_in line_bytes) b n v
    nothing b n v e = rw (e, no_digits v)

    go : (i : Bool) → s.in_line ≡ i
        → Quiet (step_of setting) done_of (simulates.line_in line_bytes) (cond i (within s.position s.register s.waiting) (seeking s.search_count s.search), buf) s.unread_count s.unread
    go true e = nothing (within s.position s.register s.waiting, buf) s.unread_count s.unread (counts_true_in s e f.counts).1
    go false e = seeking_quiet 64 (is_tail setting) line_bytes some_window some_bytes s.search_count s.search buf s.unread_count s.unread f.seven

-- a piece that is not empty and not refused gives up at least one byte
pub takes_one : (f setting : ℕ) (s : State) (p buf : List ℕ) → answer_number (read_answer f setting s p buf) ≡ 0 → zero < length p → 1 ≤ taken_by (read_answer f setting s p buf)
takes_one f setting s [] buf = λ e l. absurd (not-suc-le-zero l)
takes_one f setting s (y ∷ ys) buf =
    read_cases f setting s (y ∷ ys) buf (λ (a : Result Reading Refusal) (b : List ℕ). answer_number a ≡ 0 → zero < suc (length ys) → 1 ≤ taken_by a)
    (λ n e l. absurd (number_some n e))
    (λ h e r l. absurd (let z : ⊥ = omega arith in z))
    (λ h m k e l. rw (taken_same (call_of setting s (y ∷ ys) buf))
    (unfold call_of in taken_least (step_of setting) done_of (simulates.line_in line_bytes) (phase_of s, buf) s.unread_count s.unread y ys (quiet_state setting s buf h)))

-- an empty piece that is not refused: nothing taken, the record given back as it was
pub takes_none : (f setting : ℕ) (s : State) (buf : List ℕ) → answer_number (read_answer f setting s [] buf) ≡ 0 → (read_answer f setting s [] buf ≡ Ok (More 0 s)) × (read_left f setting s [] buf ≡ buf)
takes_none f setting s buf =
    read_cases f setting s [] buf (λ (a : Result Reading Refusal) (b : List ℕ). answer_number a ≡ 0 → (a ≡ Ok (More 0 s)) × (b ≡ buf))
    (λ n e. absurd (number_some n e))
    (λ h e r. (refl, refl))
    (λ h m l e. absurd (not-suc-le-zero l))

-- a driven run takes every byte of its pieces, and no other
pub takes_all : {f setting : ℕ} {lend : ℕ → List ℕ → List ℕ} {k : ℕ} {s : State} {buf : List ℕ} {ps ls : List (List ℕ)} (d : Driven f setting lend k s buf ps ls)
    → taken_in d ≡ length (in_arow ps)
unfolding taken_in
takes_all driven.Driven.end = refl
takes_all (driven.Driven.used d) = takes_all d
takes_all {f} {setting} {lend} {k} {s} {buf} (driven.Driven.on {p = p} {ps = ps} {t = t} e d) =
    let m : t ≤ length p = rw (ap taken_by e) at (takes_most f setting s p (lent_for lend k s buf)) in
    omega (arith, takes_all d, length-append (drop t p) (in_arow ps), length-append p (in_arow ps), length-drop t p)
takes_all {f} {setting} {lend} {k} {s} {buf} (driven.Driven.got {p = p} {ps = ps} {t = t} e d) =
    let m : t ≤ length p = rw (ap taken_by e) at (takes_most f setting s p (lent_for lend k s buf)) in
    omega (arith, takes_all d, length-append (drop t p) (in_arow ps), length-append p (in_arow ps), length-drop t p)
