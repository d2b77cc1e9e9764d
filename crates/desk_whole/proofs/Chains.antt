-- What the chains over a desk's slots give is what the definitions look for, slot by slot. Assumes nothing.
use mathlib.Core.Bool.{Bool, true, false, cond, ◌||◌, ◌&&◌, not}
use mathlib.Core.List.{List, ◌∷◌}
use mathlib.Core.Path.{◌≡◌, refl, ap}
use Prim.Native.Nat.{ℕ, zero, suc, ◌+◌, ◌-◌, ◌≤◌}
use native.Mathlib.Numerals.{add-one}
use native.Mathlib.Omega.{arith}
use lib.ListN.{length, take, drop, get_or}
use Rattle.std.proofs.Math.Seq.{drop-cons}
use Rattle.std.specs.Prelude.{Some}
use Rattle.std.specs.Option.{unwrap_or}
use Rattle.std.specs.List.{list_any, list_all, find, range_with_len}
use Rattle.desk_record.specs.declared.Use.{Use}
use Rattle.desk_record.specs.declared.Slot.{Slot}
use Rattle.desk_record.specs.Slots.{free_slot, is_free, serial_of, sound_use, busy_as}
use Rattle.desk_record.specs.Desks.{lowest_from, busy_from, possible_from}

-- what a slot of a list is used for
abbrev used : List Slot → ℕ → Use
used xs i = (get_or xs i free_slot).used

-- the k slots from i on, of which the first is slot i
next : (xs : List Slot) (k i : ℕ) → i + suc k ≤ length xs → take (suc k) (drop i xs) ≡ get_or xs i free_slot ∷ take k (drop (suc i) xs)
next xs k i h = ap (take (suc k)) (drop-cons xs i free_slot (omega arith))

pub busy_any : (n : ℕ) (xs : List Slot) (k i : ℕ) → i + k ≤ length xs → list_any (λ (s : Slot). busy_as n s.used) (take k (drop i xs)) ≡ busy_from (used xs) n k i
unfolding busy_from
busy_any n xs zero i h = refl
busy_any n xs (suc k) i h = rw (next xs k i h, busy_any n xs k (suc i) (omega arith)) refl

-- the first free one of the k from i on; past the last where there is none
pub lowest_found : (u : ℕ → Use) (k i end : ℕ) → i + k ≡ end → unwrap_or (find (λ (j : ℕ). is_free (u j)) (range_with_len i k)) end ≡ lowest_from u k i
unfolding lowest_from
lowest_found u zero i end e = omega (arith, e)
lowest_found u (suc k) i end e = rw add-one (go (is_free (u i)) (lowest_found u k (suc i) end (omega arith)))
  where
    go : (t : Bool) → unwrap_or (find (λ (j : ℕ). is_free (u j)) (range_with_len (suc i) k)) end ≡ lowest_from u k (suc i)
        → unwrap_or (cond t (Some i) (find (λ (j : ℕ). is_free (u j)) (range_with_len (suc i) k))) end ≡ cond t i (lowest_from u k (suc i))
    go true e = refl
    go false e = e

-- no later slot of the n is busy with the serial of slot i, where that is busy
abbrev pub alone_in : (ℕ → Use) → ℕ → ℕ → Bool
alone_in u n i = is_free (u i) || not (busy_from u (serial_of (u i)) (n - (i + 1)) (i + 1))

pub possible_all : (u : ℕ → Use) (last n k i : ℕ) → i + k ≡ n → list_all (λ (j : ℕ). sound_use last (u j) && alone_in u n j) (range_with_len i k) ≡ possible_from u last k i
unfolding possible_from
possible_all u last n zero i e = refl
possible_all u last n (suc k) i e =
    let z : n - suc i ≡ k = omega arith in
    rw (add-one, z, possible_all u last n k (suc i) (omega arith)) refl
