-- What the library's methods say of eight bytes and a number, in the words of the contracts. Assumes nothing.
use mathlib.Core.Path.{◌≡◌, refl, sym, ap, ◌∙◌}
use mathlib.Core.List.{List, [], ◌∷◌}
use Prim.Native.Nat.{ℕ, zero, suc, ◌+◌, ◌*◌, ◌/◌, ◌%◌, ◌^◌, ◌≤◌, ◌<◌}
use native.Mathlib.Nat.{div-one}
use native.Mathlib.Omega.{arith}
use borrow.Rule.Slice.PartMut.{put_mid}
use Rattle.std.proofs.lemmas.Slice.{put_mid-paste}
use lib.ListN.{length, get_or}
use lib.Seq.{paste, paste-zero, paste-suc}
use mir.Syntax.{w64}
use Rattle.std.specs.Int.{from_le_bytes, to_le_bytes}
use Rattle.bits.specs.LowFirst.{low_first, bytes_from, stored}

pub from_bytes : (s : List ℕ) → from_le_bytes w64 (get_or s 0 0 ∷ get_or s 1 0 ∷ get_or s 2 0 ∷ get_or s 3 0 ∷ get_or s 4 0 ∷ get_or s 5 0 ∷ get_or s 6 0 ∷ get_or s 7 0 ∷ []) ≡ low_first 8 (bytes_from s 0)
unfolding low_first
from_bytes s = omega arith

byte_is : (y n : ℕ) → n < 8 → get_or (to_le_bytes w64 y) n 0 ≡ y / 2 ^ (n * 8) % 2 ^ 8
byte_is y zero h = ap (λ (x : ℕ). x % 2 ^ 8) (sym (div-one y))
byte_is y (suc zero) h = refl
byte_is y (suc (suc zero)) h = refl
byte_is y (suc (suc (suc zero))) h = refl
byte_is y (suc (suc (suc (suc zero)))) h = refl
byte_is y (suc (suc (suc (suc (suc zero))))) h = refl
byte_is y (suc (suc (suc (suc (suc (suc zero)))))) h = refl
byte_is y (suc (suc (suc (suc (suc (suc (suc zero))))))) h = refl
byte_is y (suc (suc (suc (suc (suc (suc (suc (suc n)))))))) h = absurd (omega arith)

-- n of the eight bytes put into a slice, one after the other
stored_paste : (s : List ℕ) (at y n : ℕ) → n ≤ 8 → at + 8 ≤ length s → stored n s at y ≡ paste s at (to_le_bytes w64 y) n
unfolding stored
stored_paste s at y zero h fits = paste-zero s at (to_le_bytes w64 y)
stored_paste s at y (suc n) h fits =
    let byte = byte_is y n (omega arith) in
    rw (stored_paste s at y n (omega arith) fits, ← byte) (paste-suc s at (to_le_bytes w64 y) n 0 (omega arith) (omega arith))

-- all of them, as `copy_from_slice` puts them
pub put_bytes : (s bytes : List ℕ) (at y k : ℕ) → at + 8 ≤ length s → bytes ≡ to_le_bytes w64 y → k ≡ 8 → put_mid at k s bytes ≡ stored 8 s at y
put_bytes s bytes at y k fits e ek =
    put_mid-paste at k s bytes (to_le_bytes w64 y) 8 e (sym ek) refl ∙ sym (stored_paste s at y 8 (omega arith) fits)
