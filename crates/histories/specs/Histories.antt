-- HISTORIES of a desk from an empty one: any calls, the accepted ones written down, the newest first; and what a history
-- says of a slot. Assumes nothing.
use Rattle.std.specs.Prelude.{Bool, true, false, cond, ◌&&◌, ◌||◌, not, List, [], ◌∷◌, ◌≡◌, ℕ, zero, suc, ◌+◌, eqb}
use Rattle.std.proofs.Math.Option.{Option, none, some}
use Rattle.refusals.specs.Refusals.{answer_number}
use Rattle.desk_record.specs.declared.Use.{Use}
use Rattle.desk_record.specs.declared.Use.TheVariants.{Free, Filling, Held}
use Rattle.desk_record.specs.declared.Desk.{Desk}
use Rattle.desk_record.specs.Slots.{held_or}
use Rattle.desk_record.specs.Desks.{empty_desk}
use Rattle.desk.specs.Calls.{take_answer, publish_answer, release_answer, desk_after, take_after}

-- an accepted call
pub data Done : Type 0 where
  took : (slot serial : ℕ) → Done
  published : (slot serial : ℕ) → Done
  released : (consumer slot serial : ℕ) → Done

-- the desks after any calls, with what was accepted; the length of the area may be another in every call
pub data History (count : ℕ) : Desk → List Done → Type 0 where
  start : History count (empty_desk count) []
  takes : {d : Desk} {log : List Done} (area : ℕ) → History count d log → answer_number (take_answer d area) ≡ 0
      → History count (take_after d (take_answer d area)).desk (took (take_after d (take_answer d area)).slot (take_after d (take_answer d area)).serial ∷ log)
  publishes : {d : Desk} {log : List Done} (area i n : ℕ) → History count d log → answer_number (publish_answer d area i n) ≡ 0
      → History count (desk_after d (publish_answer d area i n)) (published i n ∷ log)
  releases : {d : Desk} {log : List Done} (area c i n : ℕ) → History count d log → answer_number (release_answer d area c i n) ≡ 0
      → History count (desk_after d (release_answer d area c i n)) (released c i n ∷ log)
  -- a refused call
  no_take : {d : Desk} {log : List Done} (area : ℕ) → History count d log → (answer_number (take_answer d area) ≡ 0 → ⊥)
      → History count (take_after d (take_answer d area)).desk log
  no_publish : {d : Desk} {log : List Done} (area i n : ℕ) → History count d log → (answer_number (publish_answer d area i n) ≡ 0 → ⊥)
      → History count (desk_after d (publish_answer d area i n)) log
  no_release : {d : Desk} {log : List Done} (area c i n : ℕ) → History count d log → (answer_number (release_answer d area c i n) ≡ 0 → ⊥)
      → History count (desk_after d (release_answer d area c i n)) log

-- the serial number of the last take of slot i; and what was accepted since
unfoldable pub last_take : ℕ → List Done → Option ℕ
last_take i [] = none
last_take i (took j n ∷ log) = cond (eqb j i) (some n) (last_take i log)
last_take i (published j n ∷ log) = last_take i log
last_take i (released c j n ∷ log) = last_take i log

unfoldable pub since : ℕ → List Done → List Done
since i [] = []
since i (took j n ∷ log) = cond (eqb j i) [] (took j n ∷ since i log)
since i (published j n ∷ log) = published j n ∷ since i log
since i (released c j n ∷ log) = released c j n ∷ since i log

-- there is a publish of slot i under serial n; a release of it by consumer c
unfoldable pub is_published : ℕ → ℕ → List Done → Bool
is_published i n [] = false
is_published i n (took j m ∷ log) = is_published i n log
is_published i n (published j m ∷ log) = (eqb j i && eqb m n) || is_published i n log
is_published i n (released c j m ∷ log) = is_published i n log

unfoldable pub is_released : ℕ → ℕ → ℕ → List Done → Bool
is_released c i n [] = false
is_released c i n (took j m ∷ log) = is_released c i n log
is_released c i n (published j m ∷ log) = is_released c i n log
is_released c i n (released b j m ∷ log) = (eqb b c && (eqb j i && eqb m n)) || is_released c i n log

-- WHAT A HISTORY SAYS OF SLOT i: free where it was never taken; else, by what came since its last take under serial n:
-- being filled until it is published under n; then held by each who has not released it under n, and free once both have
abbrev pub use_since : ℕ → Option ℕ → List Done → Use
use_since i none later = Free
use_since i (some n) later =
    cond (is_published i n later) (held_or n (not (is_released 1 i n later)) (not (is_released 2 i n later))) (Filling n)

unfoldable pub used_by : ℕ → List Done → Use
used_by i log = use_since i (last_take i log) (since i log)

-- the serial numbers given, the newest first; and n, n-1, .., 1
unfoldable pub given : List Done → List ℕ
given [] = []
given (took j n ∷ log) = n ∷ given log
given (published j n ∷ log) = given log
given (released c j n ∷ log) = given log

unfoldable pub down_from : ℕ → List ℕ
down_from zero = []
down_from (suc n) = suc n ∷ down_from n

-- how many of the k slots from i on pass a test
unfoldable pub how_many : (Use → Bool) → (ℕ → Use) → ℕ → ℕ → ℕ
how_many test u zero i = 0
how_many test u (suc k) i = cond (test (u i)) 1 0 + how_many test u k (suc i)

abbrev pub is_filling : Use → Bool
is_filling Free = false
is_filling (Filling n) = true
is_filling (Held n p q) = false

abbrev pub is_held : Use → Bool
is_held Free = false
is_held (Filling n) = false
is_held (Held n p q) = true

-- the last line of slot i, under serial n, was since published and released by both
pub record Gone (i : ℕ) (log : List Done) : Type 0 where
  pub serial : ℕ
  pub last : last_take i log ≡ some serial
  pub out : is_published i serial (since i log) ≡ true
  pub first : is_released 1 i serial (since i log) ≡ true
  pub second : is_released 2 i serial (since i log) ≡ true

-- it is not yet published
pub record Waiting (i n : ℕ) (log : List Done) : Type 0 where
  pub last : last_take i log ≡ some n
  pub out : is_published i n (since i log) ≡ false

-- it is published, and consumer c has not released it
pub record Keeps (c i n : ℕ) (log : List Done) : Type 0 where
  pub last : last_take i log ≡ some n
  pub out : is_published i n (since i log) ≡ true
  pub mine : is_released c i n (since i log) ≡ false
