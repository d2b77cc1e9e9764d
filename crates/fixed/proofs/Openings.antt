-- What SYNC opens and ends with, and what the opening that 000 prints for 10,000 bits is. Read as
-- SYNC's first fifteen bits it leads to no fifteen ones. It is the fifteen bits before SYNC's first. Assumes nothing.
use mathlib.Core.Path.{◌≡◌, refl, sym, ap, ◌∙◌}
use mathlib.Core.Logic.{◌≢◌}
use mathlib.Core.List.{List, [], ◌∷◌}
use Prim.Native.Nat.{ℕ, ◌+◌}
use native.Mathlib.Omega.{arith}
use lib.Dec.{lit≤}
use lib.ListN.{take, drop, get_or}
use Rattle.bits.specs.Bits.{number_of, in_base, through, longer}
use Rattle.scramble.specs.Register.{new_bit, next_register, scrambling_bits}
use Rattle.scramble.specs.Sync.{IsSync, earlier_register, register_before, fifteen_ones, SYNC}
use Rattle.sync.proofs.Opening.{before_1}
use Rattle.fixed.proofs.Sync.{sync_only, sync_ends}

-- the 20,000-bit SYNC opens 010001001100001, as 000 prints for FY-2B
pub opens_2 : take 15 (SYNC 20000) ≡ 0 ∷ 1 ∷ 0 ∷ 0 ∷ 0 ∷ 1 ∷ 0 ∷ 0 ∷ 1 ∷ 1 ∷ 0 ∷ 0 ∷ 0 ∷ 0 ∷ 1 ∷ []
unfolding SYNC register_before earlier_register scrambling_bits new_bit next_register
opens_2 = refl

-- the 10,000-bit SYNC opens 101010010100000
pub opens_1 : take 15 (SYNC 10000) ≡ 1 ∷ 0 ∷ 1 ∷ 0 ∷ 1 ∷ 0 ∷ 0 ∷ 1 ∷ 0 ∷ 1 ∷ 0 ∷ 0 ∷ 0 ∷ 0 ∷ 0 ∷ []
unfolding SYNC register_before earlier_register scrambling_bits new_bit next_register
opens_1 = refl

-- 000's printed opening for 10,000 bits, 011001110011111
pub printed : List ℕ
printed = 0 ∷ 1 ∷ 1 ∷ 0 ∷ 0 ∷ 1 ∷ 1 ∷ 1 ∷ 0 ∷ 0 ∷ 1 ∷ 1 ∷ 1 ∷ 1 ∷ 1 ∷ []

-- no sequence of 10,000 bits that opens so keeps the rule and ends with fifteen ones
pub printed_leads_elsewhere : (l : List ℕ) → IsSync 10000 l → take 15 l ≢ printed
unfolding printed
printed_leads_elsewhere l s e =
    let same : take 15 l ≡ take 15 (SYNC 10000) = ap (take 15) (sync_only 10000 l (lit≤ tt) s) in
    let heads : ◌≡◌ {A = ℕ} 0 1 = ap (λ (k : List ℕ). get_or k 0 0) (sym e ∙ same ∙ opens_1) in
    let z : ⊥ = omega arith in
    z

-- as the register before SYNC's first bit it is the right one
pub printed_before : register_before 10000 fifteen_ones ≡ number_of printed
unfolding printed number_of in_base through longer
printed_before = before_1

-- the last 30 bits of SYNC: 010101010101010 and then 111111111111111
pub ends_30 : (n : ℕ) → drop n (SYNC (n + 30))
    ≡ 0 ∷ 1 ∷ 0 ∷ 1 ∷ 0 ∷ 1 ∷ 0 ∷ 1 ∷ 0 ∷ 1 ∷ 0 ∷ 1 ∷ 0 ∷ 1 ∷ 0 ∷ 1 ∷ 1 ∷ 1 ∷ 1 ∷ 1 ∷ 1 ∷ 1 ∷ 1 ∷ 1 ∷ 1 ∷ 1 ∷ 1 ∷ 1 ∷ 1 ∷ 1 ∷ []
ends_30 n = sync_ends n 30 ∙ last
  where
    last : SYNC 30 ≡ 0 ∷ 1 ∷ 0 ∷ 1 ∷ 0 ∷ 1 ∷ 0 ∷ 1 ∷ 0 ∷ 1 ∷ 0 ∷ 1 ∷ 0 ∷ 1 ∷ 0 ∷ 1 ∷ 1 ∷ 1 ∷ 1 ∷ 1 ∷ 1 ∷ 1 ∷ 1 ∷ 1 ∷ 1 ∷ 1 ∷ 1 ∷ 1 ∷ 1 ∷ 1 ∷ []
    last = unfold SYNC register_before earlier_register scrambling_bits new_bit next_register in refl
