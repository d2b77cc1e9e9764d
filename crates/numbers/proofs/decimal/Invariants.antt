-- `numbers::decimal` meets its contract: after i turns the number is that of the first i digits, none of which is over 9.
-- Assumes nothing.
use mathlib.Core.Path.{◌≡◌}
use Prim.Native.Nat.{◌^◌, ◌<◌}
use Rattle.bits.specs.Bits.{bits_of, in_base, fields_of, Below}
use Rattle.numbers.proofs.decimal.Given as goal

abbrev pub invariant-loop-i : goal.invariant-loop-i
invariant-loop-i l = (l.a ≡ in_base 10 (fields_of 4 l.i (bits_of l.bytes))) × (l.a < 10 ^ l.i) × Below 10 (fields_of 4 l.i (bits_of l.bytes))
