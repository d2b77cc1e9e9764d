-- NINE IS THE SMALLEST NUMBER of every format, bound and witness: no window that is searched before a true tail differs from the tail in
-- fewer places, and one of SYNC differs in nine. Assumes nothing.
use mathlib.Core.Bool.{true}
use mathlib.Core.Path.{◌≡◌, refl}
use Prim.Native.Nat.{ℕ}
use native.Mathlib.Omega.{arith}
use borrow.Author.Tests.{le-leb}
use lib.Dec.{lit<}
use lib.ListN.{take, drop}
use Rattle.bits.specs.Bits.{apart}
use Rattle.formats.specs.Formats.{svissr, hirid, svissr_ones, format_of}
use Rattle.formats.specs.declared.Format.{Format}
use Rattle.std.specs.Prelude.{Ok}
use Rattle.formats.proofs.Which.{of_each}
use Rattle.scramble.specs.Register.{new_bit, next_register, scrambling_bits}
use Rattle.scramble.specs.Sync.{earlier_register, register_before, SYNC, tail}
use Rattle.fixed.specs.Written.{first_searched}
use Rattle.fixed.proofs.Windows.{Windows, earlier_apart}
use Rattle.reader_bits.specs.Lines.{is_tail}
use Rattle.demands.specs.Iced.{Smallest}

-- computed
at_1 : apart tail (take 64 (drop 5782 (SYNC 10000))) ≡ 9
unfolding apart tail SYNC register_before earlier_register scrambling_bits new_bit next_register
at_1 = refl

at_2 : apart tail (take 64 (drop 5409 (SYNC 20000))) ≡ 9
unfolding apart tail SYNC register_before earlier_register scrambling_bits new_bit next_register
at_2 = refl

nine_1 : Windows svissr → Smallest svissr 9
unfolding first_searched
nine_1 w = record { before_first = w.before_first; before_next = w.before_next; place = 5782; before = lit< tt; met = at_1 }

nine_2 : Windows hirid → Smallest hirid 9
unfolding first_searched
nine_2 w = record { before_first = w.before_first; before_next = w.before_next; place = 5409; before = lit< tt; met = at_2 }

nine_3 : Windows svissr_ones → Smallest svissr_ones 9
unfolding first_searched
nine_3 w = record { before_first = w.before_first; before_next = w.before_next; place = 5782; before = lit< tt; met = at_1 }

-- THE NUMBER
pub nine : (n : ℕ) (f : Format) → format_of n ≡ Ok f → Smallest f 9
nine n f e = of_each (λ g. Windows g → Smallest g 9) nine_1 nine_2 nine_3 n f e (earlier_apart n f e)

-- and there is one such number
pub only_one : {f : Format} {a b : ℕ} → Smallest f a → Smallest f b → a ≡ b
only_one x y =
    let p = x.before_first y.place y.before in
    let q = y.before_first x.place x.before in
    omega (arith, p, q, x.met, y.met)

-- at the setting 9 a window before the true one counts as the tail
pub nine_too_many : (n : ℕ) (f : Format) (e : format_of n ≡ Ok f) → is_tail 9 (take 64 (drop (nine n f e).place (first_searched f))) ≡ true
unfolding is_tail
nine_too_many n f e = le-leb (apart tail (take 64 (drop (nine n f e).place (first_searched f)))) 9 (omega (arith, (nine n f e).met))
