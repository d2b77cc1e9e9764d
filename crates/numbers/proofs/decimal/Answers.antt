-- `numbers::decimal` meets its contract: after i turns the number is that of the first i digits, none of which is over 9.
-- Assumes nothing.
use mathlib.Core.Path.{◌≡◌, sym, refl}
use mathlib.Core.List.{[], ◌∷◌, ◌++◌}
use Prim.Native.Nat.{ℕ, ◌+◌, ◌*◌, ◌^◌, ◌<◌}
use native.Mathlib.Omega.{arith}
use borrow.Author.Rules.{rules}
use lib.Dec.{lit<}
use Rattle.refusals.specs.declared.Refusal.TheVariants.{Field}
use Rattle.refusals.specs.Refusals.{when}
use Rattle.refusals.proofs.Numbers.{answers_err, answers_ok}
use Rattle.bits.specs.Bits.{bits_of, part, stretch, number_of, fields_of, Below}
use Rattle.bits.proofs.Below.{below_nil, below_cons, below_append}
use Rattle.bits.proofs.Fields.{field_turn}
use Rattle.bits.proofs.Base.{base_more, base_none, digit_fits}
use Rattle.numbers.proofs.Nines.{none_over, some_over_is}
use Rattle.numbers.proofs.decimal.Goals as goal

pub loop-i-init : goal.loop-i-init
unfolding fields_of
loop-i-init c = (sym (base_none 10), lit< tt, below_nil 10)

pub returns-then-d-gt-LARGEST_DIGIT : goal.returns-then-d-gt-LARGEST_DIGIT
unfolding when part stretch
returns-then-d-gt-LARGEST_DIGIT c =
    let args = c.args in
    let over : 9 < number_of (part args.bytes.now (c.loop-i.i * 4) 4) = rw c.field-d.ensures.0 at c.if-d-gt-LARGEST_DIGIT.true in
    rw (some_over_is 4 args.count c.loop-i.i (bits_of args.bytes.now) (search rules) over) (answers_err Field 7 _ _ refl)

-- a turn's number fits twelve digits, whatever the digit
fits : (i a d : ℕ) → i < 12 → a < 10 ^ i → d < 10 → a * 10 + d < 10 ^ 12
fits i a d few small digit = digit_fits 10 a d i 12 small digit (omega arith)

pub overflow_mul-a : goal.overflow_mul-a
overflow_mul-a c = omega (arith, fits _ _ 0 (omega arith) c.loop-i.invariant.1 (lit< tt))

pub overflow_add-a : goal.overflow_add-a
overflow_add-a c = omega (arith, fits _ _ c.field-d.result (omega arith) c.loop-i.invariant.1 (omega arith))

pub loop-i-preserved : goal.loop-i-preserved
loop-i-preserved c =
    let s = c.args.bytes.now in
    let i = c.loop-i.i in
    let d = c.field-d.result in
    let small : d < 10 = search rules in
    let more : fields_of 4 (i + 1) (bits_of s) ≡ fields_of 4 i (bits_of s) ++ (d ∷ []) =
    rw c.field-d.ensures.0 (field_turn s 0 4 i (i * 4) (omega arith)) in (
      cc (more, base_more 10 (fields_of 4 i (bits_of s)) d),
      digit_fits 10 c.loop-i.a d i (i + 1) c.loop-i.invariant.1 small (omega arith),
      rw more (below_append 10 (fields_of 4 i (bits_of s)) (d ∷ []) c.loop-i.invariant.2 (below_cons 10 d [] small (below_nil 10))),
    )

pub returns : goal.returns
unfolding when
returns c =
    let args = c.args in
    let past : c.loop-i.i ≡ args.count = omega arith in
    let all : Below 10 (fields_of 4 args.count (bits_of args.bytes.now)) = rw past at c.loop-i.invariant.2 in
    rw (none_over (fields_of 4 args.count (bits_of args.bytes.now)) all) (answers_ok 0 _ _ _ refl (cc past))
