-- `tail_search::seek` meets its contract: at each bit, and behind bytes that go whole, the call that was begun is the call
-- that is on its way. Assumes nothing.
use mathlib.Core.Path.{refl, sym, ◌∙◌}
use Prim.Native.Nat.{◌≤◌}
use native.Mathlib.Omega.{arith}
use Rattle.reader_bits.proofs.Masks.{bit_and_is}
use Rattle.tail_search.proofs.Searching.{way_short, way_miss, way_hit, way_byte, way_whole, way_passed, way_end, under_56}
use Rattle.tail_search.proofs.seek.Goals as goal

pub loop-left-preserved-then-count-lt-REMEMBERED : goal.loop-left-preserved-then-count-lt-REMEMBERED
loop-left-preserved-then-count-lt-REMEMBERED c = way_short c.loop-left.invariant _ (bit_and_is _ _) (omega (arith, c.before.before)) (omega arith)

pub loop-left-preserved : goal.loop-left-preserved
loop-left-preserved c =
    let at_test = c.before.before in
    way_miss c.loop-left.invariant _ (bit_and_is _ _) (omega (arith, at_test.before.before)) (omega (arith, at_test.before)) (sym c.counts_as_tail.ensures ∙ c.if-counts_as_tail.false)

pub returns-then-at-piece : goal.returns-then-at-piece
returns-then-at-piece c =
    let after = c.before.before.before in
    let done = way_passed c.loop-left.invariant c.pass_over-passed.result (omega (arith, after)) c.pass_over-passed.ensures in
    way_end done (omega (arith, after)) c.if-at-piece.true

pub overflow_mul-search : goal.overflow_mul-search
overflow_mul-search c =
    let few : c.loop-left.count ≤ 56 = omega (arith, c.before) in
    omega (arith, under_56 _ _ few c.pass_over-passed.ensures.small)

pub overflow_add-search : goal.overflow_add-search
overflow_add-search c =
    let few : c.loop-left.count ≤ 56 = omega (arith, c.before) in
    omega (arith, under_56 _ _ few c.pass_over-passed.ensures.small, (c.type_inv.piece c.pass_over-passed.result.taken).fits)

pub seek-preserved-then-count-lt-ROOM_FOR_BYTE : goal.seek-preserved-then-count-lt-ROOM_FOR_BYTE
seek-preserved-then-count-lt-ROOM_FOR_BYTE c =
    let at-known = c.before.before in
    let after = c.before.before.before.before.before in
    let done = way_passed c.loop-left.invariant c.pass_over-passed.result (omega (arith, after)) c.pass_over-passed.ensures in
    way_whole done _ refl (c.type_inv.piece c.pass_over-passed.result.taken).fits (omega (arith, after)) (omega (arith, at-known.before)) (omega (arith, c.before))

pub seek-preserved : goal.seek-preserved
seek-preserved c =
    let at-known = c.before.before in
    let after = c.before.before.before.before.before in
    let done = way_passed c.loop-left.invariant c.pass_over-passed.result (omega (arith, after)) c.pass_over-passed.ensures in
    way_byte done (omega (arith, after)) (omega (arith, at-known.before))

pub returns : goal.returns
returns c =
    let at_test = c.before.before in
    way_hit c.loop-left.invariant _ (bit_and_is _ _) (omega (arith, at_test.before.before)) (omega (arith, at_test.before)) (sym c.counts_as_tail.ensures ∙ c.if-counts_as_tail.true)
