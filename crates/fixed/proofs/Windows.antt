-- NO WINDOW BEFORE THE TRUE ONE. In what the reader searches before a written line, each window of 64 bits before the
-- last differs from the tail in at least nine places (`earlier_apart`), and so is not the tail (`earlier_not_tail`).
-- Assumes nothing.
use mathlib.Core.Path.{◌≡◌, refl, sym, ap, ◌∙◌, subst}
use mathlib.Core.Logic.{◌≢◌}
use mathlib.Core.List.{List, [], ◌∷◌, ◌++◌}
use Prim.Native.Nat.{ℕ, ◌+◌, ◌<◌, ◌≤◌}
use native.Mathlib.Omega.{arith}
use lib.Dec.{T}
use lib.ListN.{length, take, drop, replicate}
use lib.Seq.{drop-drop}
use Rattle.formats.specs.Formats.{svissr, hirid, svissr_ones, format_of}
use Rattle.formats.specs.declared.Format.{Format}
use Rattle.std.specs.Prelude.{Ok}
use Rattle.formats.proofs.Which.{of_each}
use Rattle.scramble.specs.Sync.{SYNC, tail}
use Rattle.scramble.specs.Wire.{complemented, scrambled, wire_of}
use Rattle.wire.specs.Parts.{dummy_of}
use Rattle.bits.specs.Bits.{apart}
use Rattle.fixed.specs.Written.{first_searched, next_searched, dummy_from}
use Rattle.fixed.proofs.Far.{clear, clear_apart, clear_join, apart_other}
use Rattle.fixed.proofs.Sync.{length_sync, sync_ends}
use Rattle.fixed.proofs.Period.{after_information}
use Rattle.fixed.proofs.Sweep.{in_sync, in_dummy, behind_dummy, dummy_starts}

-- each window before place n differs from the tail in at least nine places
abbrev pub Apart : ℕ → List ℕ → Type 0
Apart n l = (k : ℕ) → k < n → 9 ≤ apart tail (take 64 (drop k l))

tail_long : length tail ≡ 64
unfolding tail
tail_long = length_sync 64

from_clear : (n : ℕ) (l : List ℕ) → T (clear n tail 9 l) → Apart n l
from_clear n l h k lt = subst (λ (m : ℕ). 9 ≤ apart tail (take m (drop k l))) tail_long (clear_apart n tail 9 l h k lt)

-- ---- the two SYNCs: format 1's is the second half of format 2's

sync_2 : Apart 19936 (SYNC 20000)
sync_2 = from_clear 19936 (SYNC 20000) in_sync

at_half : (k : ℕ) → drop (10000 + k) (SYNC 20000) ≡ drop k (SYNC 10000)
at_half k = sym (drop-drop k 10000 (SYNC 20000)) ∙ ap (drop k) (sync_ends 10000 10000)

sync_1 : Apart 9936 (SYNC 10000)
sync_1 k h = subst (λ (l : List ℕ). 9 ≤ apart tail (take 64 l)) (at_half k) (sync_2 (10000 + k) (omega arith))

-- ---- the dummy and SYNC of format 2

dummy_is : dummy_of 354848 21152 ≡ dummy_from 4016
unfolding dummy_of dummy_from
dummy_is = ap (λ (r : ℕ). wire_of 354848 r (replicate 21152 0)) after_information

swept : T (clear 41088 tail 9 (dummy_from 4016 ++ SYNC 20000))
swept = clear_join 21152 19936 tail 9 (dummy_from 4016 ++ SYNC 20000) in_dummy (subst (λ (l : List ℕ). T (clear 19936 tail 9 l)) (sym behind_dummy) in_sync)

next_2 : Apart 41088 (dummy_of 354848 21152 ++ SYNC 20000)
next_2 = subst (λ (d : List ℕ). Apart 41088 (d ++ SYNC 20000)) (sym dummy_is) (from_clear 41088 (dummy_from 4016 ++ SYNC 20000) swept)

-- the first 24 bits of format 2's dummy: 21 5F C5
pub dummy_opens : take 24 (dummy_of 354848 21152) ≡ 0 ∷ 0 ∷ 1 ∷ 0 ∷ 0 ∷ 0 ∷ 0 ∷ 1 ∷ 0 ∷ 1 ∷ 0 ∷ 1 ∷ 1 ∷ 1 ∷ 1 ∷ 1 ∷ 1 ∷ 1 ∷ 0 ∷ 0 ∷ 0 ∷ 1 ∷ 0 ∷ 1 ∷ []
dummy_opens = ap (take 24) dummy_is ∙ dummy_starts

-- format 1 has no dummy
no_dummy : dummy_of 354848 0 ≡ []
unfolding dummy_of wire_of complemented scrambled
no_dummy = refl

-- ---- every format

-- what holds of a format's windows, before its first line and before each later one
pub record Windows (f : Format) : Type 0 where
  pub before_first : (k : ℕ) → k + 64 < f.sync → 9 ≤ apart tail (take 64 (drop k (first_searched f)))
  pub before_next : (k : ℕ) → k + 64 < f.dummy + f.sync → 9 ≤ apart tail (take 64 (drop k (next_searched f)))

windows_1 : Windows svissr
unfolding first_searched next_searched
windows_1 =
    record {
      before_first = λ k h. sync_1 k (omega arith);
      before_next = λ k h. subst (λ (d : List ℕ). 9 ≤ apart tail (take 64 (drop k (d ++ SYNC 10000)))) (sym no_dummy) (sync_1 k (omega arith));
    }

windows_2 : Windows hirid
unfolding first_searched next_searched
windows_2 = record { before_first = λ k h. sync_2 k (omega arith); before_next = λ k h. next_2 k (omega arith) }

-- windows go by the lengths alone, and format 3 has those of format 1
windows_3 : Windows svissr_ones
unfolding first_searched next_searched
windows_3 = record { before_first = windows_1.before_first; before_next = windows_1.before_next }

-- EACH EARLIER WINDOW DIFFERS IN AT LEAST NINE PLACES
pub earlier_apart : (n : ℕ) (f : Format) → format_of n ≡ Ok f → Windows f
earlier_apart = of_each Windows windows_1 windows_2 windows_3

-- NO EARLIER WINDOW IS THE TAIL
pub record NotTail (f : Format) : Type 0 where
  pub before_first : (k : ℕ) → k + 64 < f.sync → take 64 (drop k (first_searched f)) ≢ tail
  pub before_next : (k : ℕ) → k + 64 < f.dummy + f.sync → take 64 (drop k (next_searched f)) ≢ tail

pub earlier_not_tail : (n : ℕ) (f : Format) → format_of n ≡ Ok f → NotTail f
earlier_not_tail n f e =
    let w = earlier_apart n f e in
    record {
      before_first = λ k h. apart_other tail (take 64 (drop k (first_searched f))) (some (w.before_first k h));
      before_next = λ k h. apart_other tail (take 64 (drop k (next_searched f))) (some (w.before_next k h));
    }
  where
    some : {a : ℕ} → 9 ≤ a → 0 < a
    some h = omega arith
