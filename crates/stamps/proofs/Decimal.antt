-- THE ORDER OF STAMPS IS THAT OF THEIR DECIMAL NUMBERS, where no digit is over 9: year, month, day, hour, minute, second,
-- hundredths and scan count, digit behind digit. Assumes nothing.
use mathlib.Core.Path.{◌≡◌, sym, ap₂, ◌∙◌}
use mathlib.Core.Bool.{false}
use mathlib.Core.List.{List, ◌++◌}
use Prim.Native.Nat.{ℕ, ◌*◌}
use native.Mathlib.Omega.{arith}
use lib.Dec.{ltb}
use lib.ListN.{length}
use Rattle.bits.specs.Bits.{bits_of, in_base, Below}
use Rattle.bits.proofs.Below.{below_mono}
use Rattle.bits.proofs.Bytes.{length_bits}
use Rattle.bits.proofs.Fields.{length_fields}
use Rattle.bits.proofs.Whole.{fields_number, number_bytes}
use Rattle.numbers.specs.Decimals.{some_over9, digits_in}
use Rattle.numbers.proofs.Nines.{over_none}
use Rattle.stamps.specs.Stamps.{count_bytes, date_bytes, less, before}
use Rattle.stamps.proofs.Orders.{less_base}
use Rattle.stamps.proofs.Order.{Stamp, key_length, key_below}

-- ---- BCD bytes

hex : (n : ℕ) (xs : List ℕ) → length xs ≡ n → Below 256 xs → in_base 256 xs ≡ in_base 16 (digits_in n xs)
unfolding digits_in
hex n xs l b =
    let bits : length (bits_of xs) ≡ 2 * n * 4 = omega (arith, length_bits xs, l) in
    sym (fields_number 4 (2 * n) (bits_of xs) bits ∙ number_bytes xs b)

-- BCD COMPARES AS BYTES
pub less_decimal : (n : ℕ) (xs ys : List ℕ) → length xs ≡ n → length ys ≡ n → Below 256 xs → Below 256 ys
    → some_over9 (digits_in n xs) ≡ false → some_over9 (digits_in n ys) ≡ false → less xs ys ≡ ltb (in_base 10 (digits_in n xs)) (in_base 10 (digits_in n ys))
unfolding digits_in
less_decimal n xs ys lx ly bx by ex ey =
    let dx : List ℕ = digits_in n xs in
    let dy : List ℕ = digits_in n ys in
    let long : length dx ≡ length dy = length_fields 4 (2 * n) (bits_of xs) ∙ sym (length_fields 4 (2 * n) (bits_of ys)) in
    let tx : Below 10 dx = over_none dx ex in
    let ty : Below 10 dy = over_none dy ey in
    less_base 256 xs ys (lx ∙ sym ly) bx by
    ∙ ap₂ ltb (hex n xs lx bx) (hex n ys ly by)
    ∙ sym (less_base 16 dx dy long (below_mono 10 16 dx (omega arith) tx) (below_mono 10 16 dy (omega arith) ty))
    ∙ less_base 10 dx dy long tx ty

-- the date's sixteen digits and the count's four
unfoldable pub decimal_digits : List ℕ → List ℕ
decimal_digits s = digits_in 10 (date_bytes s ++ count_bytes s)

pub before_decimal : (a b : List ℕ) → Stamp a → Stamp b → some_over9 (decimal_digits a) ≡ false → some_over9 (decimal_digits b) ≡ false
    → before a b ≡ ltb (in_base 10 (decimal_digits a)) (in_base 10 (decimal_digits b))
unfolding before decimal_digits
before_decimal a b ka kb ea eb =
    less_decimal 10 (date_bytes a ++ count_bytes a) (date_bytes b ++ count_bytes b) (key_length a ka) (key_length b kb) (key_below a ka) (key_below b kb) ea eb
