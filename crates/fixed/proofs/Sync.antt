-- SYNC keeps the rule and ends with fifteen ones (`sync_is`), and is the only sequence of its length that does
-- (`sync_only`). Each ends with every shorter one (`sync_ends`). Assumes nothing.
use mathlib.Core.Path.{◌≡◌, refl, sym, ap, ap₂, ◌∙◌, subst}
use mathlib.Core.List.{List, [], ◌∷◌}
use Prim.Native.Nat.{ℕ, zero, suc, ◌+◌, ◌-◌, ◌%◌, ◌<◌, ◌≤◌}
use native.Mathlib.Nat.{zero-add, suc-add}
use native.Mathlib.Omega.{arith}
use lib.ListN.{length, get_or, drop, replicate}
use lib.Dec.{lit<}
use Rattle.bits.specs.Bits.{Below}
use Rattle.scramble.specs.Register.{new_bit, next_register, scrambling_bits}
use Rattle.scramble.specs.Sync.{KeepsRule, IsSync, earlier_register, register_before, fifteen_ones, SYNC, tail}
use Rattle.scramble.proofs.Steps.{new_bit_lt, length_scrambling, scrambling_below}
use Rattle.wire.proofs.Rule.{scrambling_rule}
use Rattle.fixed.proofs.Back.{before_more, before_lt, next_earlier}

pub length_sync : (n : ℕ) → length (SYNC n) ≡ n
unfolding SYNC
length_sync n = length_scrambling n (register_before n fifteen_ones)

pub sync_below : (n : ℕ) → Below 2 (SYNC n)
unfolding SYNC
sync_below n = scrambling_below n (register_before n fifteen_ones)

sync_rule : (n : ℕ) → KeepsRule (SYNC n)
unfolding SYNC
sync_rule n = scrambling_rule n (register_before n fifteen_ones)

-- one bit more, at the front
before_sync_is : ℕ → ℕ
before_sync_is n = new_bit (earlier_register (register_before n fifteen_ones))

sync_suc : (n : ℕ) → SYNC (suc n) ≡ before_sync_is n ∷ SYNC n
unfolding SYNC before_sync_is register_before scrambling_bits
sync_suc n =
    ap (λ (r : ℕ). new_bit r ∷ scrambling_bits n (next_register r)) (before_more n fifteen_ones)
    ∙ ap (λ (r : ℕ). new_bit (earlier_register (register_before n fifteen_ones)) ∷ scrambling_bits n r) (next_earlier (register_before n fifteen_ones) (before_lt n fifteen_ones (lit< tt)))

-- SYNC ends with every shorter one
pub sync_ends : (m n : ℕ) → drop m (SYNC (m + n)) ≡ SYNC n
sync_ends zero n = ap SYNC (zero-add n)
sync_ends (suc m) n = ap (drop (suc m)) (ap SYNC (suc-add m n) ∙ sync_suc (m + n)) ∙ sync_ends m n

pub sync_fifteen : SYNC 15 ≡ replicate 15 1
unfolding SYNC register_before earlier_register scrambling_bits new_bit next_register
sync_fifteen = refl

pub sync_is : (n : ℕ) → 15 ≤ n → IsSync n (SYNC n)
sync_is n h =
    let e : n - 15 + 15 ≡ n = omega arith in
    record {
      long = length_sync n;
      bits = sync_below n;
      rule = sync_rule n;
      ends = ap (λ (k : ℕ). drop (n - 15) (SYNC k)) (sym e) ∙ sync_ends (n - 15) 15 ∙ sync_fifteen;
    }

-- ---- no other

rest_keeps : (x : ℕ) (l : List ℕ) → KeepsRule (x ∷ l) → KeepsRule l
unfolding KeepsRule
rest_keeps x l o i h =
    subst (λ (j : ℕ). get_or (x ∷ l) j 0 ≡ (get_or l (i + 1) 0 + get_or l i 0) % 2) (suc-add i 15)
    (o (suc i) (omega arith) ∙ ap (λ (j : ℕ). (get_or (x ∷ l) j 0 + get_or l i 0) % 2) (suc-add i 1))

-- going backward the rule leaves one bit
same_head : (x y : ℕ) (l : List ℕ) → 14 < length l → x < 2 → y < 2 → KeepsRule (x ∷ l) → KeepsRule (y ∷ l) → x ≡ y
unfolding KeepsRule
same_head x y l h p q o u =
    let a : get_or l 14 0 ≡ (get_or l 0 0 + x) % 2 = o 0 (omega arith) in
    let c : get_or l 14 0 ≡ (get_or l 0 0 + y) % 2 = u 0 (omega arith) in
    omega arith

only : (n : ℕ) (l : List ℕ) → length l ≡ n + 15 → Below 2 l → KeepsRule l → drop n l ≡ SYNC 15 → l ≡ SYNC (n + 15)
unfolding Below
only zero l e b o t = t
only (suc n) [] e b o t = absurd (let z : ⊥ = omega arith in z)
only (suc n) (x ∷ l) e b o t =
    let m : ℕ = n + 15 in
    let y : ℕ = before_sync_is m in
    let ih : l ≡ SYNC m = only n l (omega arith) b.1 (rest_keeps x l o) t in
    let u : KeepsRule (y ∷ l) = subst (λ (k : List ℕ). KeepsRule (y ∷ k)) (sym ih) (subst KeepsRule (sync_suc m) (sync_rule (suc m))) in
    ap₂ (λ (a : ℕ) (k : List ℕ). a ∷ k) (same_head x y l (omega arith) b.0 (bit m) o u) ih
    ∙ sym (sync_suc m) ∙ ap SYNC (sym (suc-add n 15))
  where
    bit : (m : ℕ) → before_sync_is m < 2
    bit m = unfold before_sync_is in new_bit_lt (earlier_register (register_before m fifteen_ones))

pub sync_only : (n : ℕ) (l : List ℕ) → 15 ≤ n → IsSync n l → l ≡ SYNC n
sync_only n l h s =
    let e : n - 15 + 15 ≡ n = omega arith in
    only (n - 15) l (s.long ∙ sym e) s.bits s.rule (s.ends ∙ sym sync_fifteen) ∙ ap SYNC e

-- the tail is the last 64 bits of every SYNC
pub tail_ends : (n : ℕ) → drop n (SYNC (n + 64)) ≡ tail
unfolding tail
tail_ends n = sync_ends n 64
