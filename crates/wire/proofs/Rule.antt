-- The scrambling bits keep the rule: each is the exclusive or of the bits 14 and 15 places earlier; and many steps of the
-- register. Assumes nothing.
use mathlib.Core.Path.{◌≡◌, sym, ap, ap₂, ◌∙◌}
use mathlib.Core.List.{List, ◌∷◌, ◌++◌}
use Prim.Native.Nat.{ℕ, zero, suc, ◌+◌, ◌-◌, ◌/◌, ◌%◌, ◌^◌, ◌<◌, ◌≤◌}
use native.Mathlib.Nat.{add-zero, zero-add, suc-add, pow-succ', div-div-eq-div-mul, div-one, add-mod}
use native.Mathlib.Omega.{arith}
use lib.Pow.{field, mod-mod-pow}
use lib.Dec.{lit≤}
use Rattle.scramble.specs.Register.{new_bit, next_register, register_after, scrambling_bits}
use Rattle.scramble.specs.Sync.{KeepsRule}
use Rattle.scramble.proofs.Steps.{next_lt, after_more, length_scrambling, get_d_scrambling}

-- ---- many steps

pub after_add : (m n r : ℕ) → register_after (m + n) r ≡ register_after n (register_after m r)
unfolding register_after
after_add zero n r = ap (λ (k : ℕ). register_after k r) (zero-add n)
after_add (suc m) n r = ap (λ (k : ℕ). register_after k r) (suc-add m n) ∙ after_add m n (next_register r)

pub after_lt : (n r : ℕ) → r < 2 ^ 15 → register_after n r < 2 ^ 15
unfolding register_after
after_lt zero r h = h
after_lt (suc n) r h = after_lt n (next_register r) (next_lt r)

pub scrambling_append : (m n r : ℕ) → scrambling_bits (m + n) r ≡ scrambling_bits m r ++ scrambling_bits n (register_after m r)
unfolding scrambling_bits register_after
scrambling_append zero n r = ap (λ (k : ℕ). scrambling_bits k r) (zero-add n)
scrambling_append (suc m) n r = ap (λ (k : ℕ). scrambling_bits k r) (suc-add m n) ∙ ap (λ (l : List ℕ). new_bit r ∷ l) (scrambling_append m n (next_register r))

-- ---- the rule

next_high : (r : ℕ) → next_register r / 2 ≡ r % 2 ^ 14
unfolding next_register new_bit
next_high r = omega arith

next_low : (r : ℕ) → next_register r % 2 ≡ new_bit r
unfolding next_register new_bit
next_low r = omega arith

-- digit j goes to place j + 1
moves : (a j r : ℕ) → 14 ≡ suc a + j → next_register r / 2 ^ suc j % 2 ≡ r / 2 ^ j % 2
moves a j r e =
    let one_more : suc a ≡ a + 1 = omega arith in
    ap (λ (m : ℕ). next_register r / m % 2) (pow-succ' 2 j)
    ∙ ap (λ (m : ℕ). m % 2) (sym (div-div-eq-div-mul (next_register r) 2 (2 ^ j)))
    ∙ ap (λ (m : ℕ). m / 2 ^ j % 2) (next_high r)
    ∙ ap (λ (m : ℕ). r % 2 ^ m / 2 ^ j % 2) e
    ∙ ap (λ (m : ℕ). m % 2) (field r (suc a) j)
    ∙ ap (λ (m : ℕ). r / 2 ^ j % 2 ^ m % 2) one_more
    ∙ mod-mod-pow (r / 2 ^ j) a 1

-- digit k is digit j + k after j steps, as long as the register holds it
pub ago_at : (j k r : ℕ) → j + k ≤ 14 → register_after j r / 2 ^ (j + k) % 2 ≡ r / 2 ^ k % 2
unfolding register_after
ago_at zero k r h = ap (λ (m : ℕ). r / 2 ^ m % 2) (zero-add k)
ago_at (suc j) k r h =
    let e : suc j + k ≡ suc (j + k) = suc-add j k in
    ap (λ (x : ℕ). x / 2 ^ (suc j + k) % 2) (after_more j r)
    ∙ ap (λ (m : ℕ). next_register (register_after j r) / 2 ^ m % 2) e
    ∙ moves (13 - (j + k)) (j + k) (register_after j r) (omega arith)
    ∙ ago_at j k r (omega arith)

-- what was lowest j steps ago is digit j
ago : (j r : ℕ) → j ≤ 14 → register_after j r / 2 ^ j % 2 ≡ r % 2
ago j r h =
    ap (λ (m : ℕ). register_after j r / 2 ^ m % 2) (sym (add-zero j))
    ∙ ago_at j 0 r (omega arith)
    ∙ ap (λ (m : ℕ). m % 2) (div-one r)

-- the new bit by two digits of the register
pub new_bit_is : (x : ℕ) → new_bit x ≡ (x / 2 ^ 13 % 2 + x / 2 ^ 14 % 2) % 2
unfolding new_bit
new_bit_is x = add-mod (x / 2 ^ 13) (x / 2 ^ 14) 2

-- fifteen steps on, the new bit is that of this step and the next
pub fifteen : (r : ℕ) → new_bit (register_after 15 r) ≡ (new_bit (next_register r) + new_bit r) % 2
unfolding register_after
fifteen r =
    let x : ℕ = register_after 15 r in
    new_bit_is x
    ∙ ap₂ (λ (a b : ℕ). (a + b) % 2) (ago 13 (next_register (next_register r)) (lit≤ tt) ∙ next_low (next_register r)) (ago 14 (next_register r) (lit≤ tt) ∙ next_low r)

pub scrambling_rule : (n r : ℕ) → KeepsRule (scrambling_bits n r)
unfolding KeepsRule register_after
scrambling_rule n r i h =
    let inside : i + 15 < n = rw length_scrambling at h in
    get_d_scrambling n r (i + 15) inside
    ∙ ap new_bit (after_add i 15 r)
    ∙ fifteen (register_after i r)
    ∙ ap₂ (λ (a b : ℕ). (a + b) % 2)
    (ap new_bit (sym (after_add i 1 r)) ∙ sym (get_d_scrambling n r (i + 1) (omega arith)))
    (sym (get_d_scrambling n r i (omega arith)))
