-- THE BYTE IS RECOVERED from the name that it was given, so that no two bytes share one; and each name is that of its own
-- byte. Assumes nothing.
use mathlib.Core.Path.{◌≡◌, refl, sym, ap, ap₂, ◌∙◌}
use mathlib.Core.Bool.{Bool, true, false, cond}
use Prim.Native.Nat.{ℕ}
use lib.Dec.{eqb}
use borrow.Author.Tests.{eqb-true}
use Rattle.document.specs.declared.modes.ScanMode.{ScanMode}
use Rattle.document.specs.declared.modes.Mirror.{Mirror}
use Rattle.document.specs.declared.modes.ScanMode.TheVariants as mode
use Rattle.document.specs.declared.modes.Mirror.TheVariants as mirror
use Rattle.document.specs.Modes.{mode_name, mode_byte, mode_of, mirror_name, mirror_byte, mirror_of}

-- one name more, of any kind of name
named : {A : Type 0} (byte : A → ℕ) (b n : ℕ) (x other : A) → byte x ≡ n → byte other ≡ b → byte (cond (eqb b n) x other) ≡ b
named {A} byte b n x other own rest = go (eqb b n) refl
  where
    go : (t : Bool) → eqb b n ≡ t → byte (cond t x other) ≡ b
    go true e = own ∙ sym (eqb-true b n e)
    go false e = rest

pub mode_byte_is : (b : ℕ) → mode_byte (mode_of b) ≡ b
mode_byte_is b =
    named mode_byte b 0x00 mode.Full _ refl
    (named mode_byte b 0x0F mode.Limited _ refl
    (named mode_byte b 0xFF mode.Single (mode.Unnamed b) refl refl))

pub mirror_byte_is : (b : ℕ) → mirror_byte (mirror_of b) ≡ b
mirror_byte_is b =
    named mirror_byte b 0xFF mirror.OneA _ refl
    (named mirror_byte b 0xF0 mirror.OneB _ refl
    (named mirror_byte b 0x00 mirror.TwoA _ refl
    (named mirror_byte b 0x0F mirror.TwoB (mirror.Unnamed b) refl refl)))

-- name and byte of what a byte names
pub mode_both : (m : ScanMode) (b c : ℕ) → m ≡ mode_of b → b ≡ c → ◌≡◌ {A = ℕ × ℕ} (mode_name m, mode_byte m) (mode_name (mode_of c), c)
mode_both m b c is same = let named = is ∙ ap mode_of same in ap₂ (λ (i j : ℕ). (i, j)) (ap mode_name named) (ap mode_byte named ∙ mode_byte_is c)

pub mirror_both : (m : Mirror) (b c : ℕ) → m ≡ mirror_of b → b ≡ c → ◌≡◌ {A = ℕ × ℕ} (mirror_name m, mirror_byte m) (mirror_name (mirror_of c), c)
mirror_both m b c is same = let named = is ∙ ap mirror_of same in ap₂ (λ (i j : ℕ). (i, j)) (ap mirror_name named) (ap mirror_byte named ∙ mirror_byte_is c)
