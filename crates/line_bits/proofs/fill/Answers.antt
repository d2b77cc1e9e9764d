-- `line_bits::fill` meets its contract: at each bit, and behind each run of whole bytes, the call that was begun is the
-- call that is on its way. Assumes nothing.
use Prim.Native.Nat.{◌<◌}
use native.Mathlib.Omega.{arith}
use Rattle.scramble.proofs.Wire.{plain_lt}
use Rattle.line_bits.proofs.Filling.{waiting_lt, plain_of, fills_wait, fills_store, fills_whole, fills_byte, fills_end, fills_here, fills_trans, fills_span}
use Rattle.line_bits.proofs.fill.Goals as goal

pub overflow_add-w : goal.overflow_add-w
overflow_add-w c =
    let x : c.mix_bit-plain.result.bit < 2 = rw c.mix_bit-plain.ensures.1 (plain_lt _ _ _) in
    omega (arith, waiting_lt _ _ _ c.loop-left-2.invariant.1.ok.small x)

pub returns-then-place : goal.returns-then-place
returns-then-place c =
    let at_plain = c.before.before.before.before.before.before in
    let begun = fills_span (fills_here c.requires) c.whole_bytes-begun.ensures in
    fills_whole (fills_trans begun (fills_trans c.loop-left.invariant c.loop-left-2.invariant.1)) c.mix_bit-plain.result.bit c.low.result
    (plain_of _ _ _ _ _ c.mix_bit-plain.ensures.1) c.low.ensures (omega (arith, at_plain.before)) c.if-place.true

pub whole_bytes-span-requires : goal.whole_bytes-span-requires
whole_bytes-span-requires c =
    let at_plain = c.before.before.before.before.before.before in
    let stored = fills_store c.loop-left-2.invariant.1 c.mix_bit-plain.result.bit c.mix_bit-plain.result.next.bits
    (plain_of _ _ _ _ _ c.mix_bit-plain.ensures.1) c.mix_bit-plain.ensures.0 (omega (arith, at_plain.before)) c.if-place-eq7.true c.if-place.false in
    stored.ok

pub loop-left-2-preserved-then-place-eq7 : goal.loop-left-2-preserved-then-place-eq7
loop-left-2-preserved-then-place-eq7 c =
    let at_plain = c.before.before.before.before.before.before.before.before.before in
    let stored = fills_store c.loop-left-2.invariant.1 c.mix_bit-plain.result.bit c.mix_bit-plain.result.next.bits
    (plain_of _ _ _ _ _ c.mix_bit-plain.ensures.1) c.mix_bit-plain.ensures.0 (omega (arith, at_plain.before)) c.if-place-eq7.true c.if-place.false in
    let span = c.whole_bytes-span.ensures in
    (omega (arith, c.loop-left-2.invariant.0, span.onward), fills_span stored span)

pub loop-left-2-preserved : goal.loop-left-2-preserved
loop-left-2-preserved c =
    let at_plain = c.before.before.before.before in (
      c.loop-left-2.invariant.0,
      fills_wait c.loop-left-2.invariant.1 c.mix_bit-plain.result.bit c.mix_bit-plain.result.next.bits
          (plain_of _ _ _ _ _ c.mix_bit-plain.ensures.1) c.mix_bit-plain.ensures.0 (omega (arith, at_plain.before)) c.if-place-eq7.false,
    )

pub returns-then-at-piece : goal.returns-then-at-piece
returns-then-at-piece c =
    let begun = fills_span (fills_here c.requires) c.whole_bytes-begun.ensures in
    fills_end (fills_trans begun (fills_trans c.loop-left.invariant c.loop-left-2.invariant.1)) (omega arith) c.if-at-piece.true

pub loop-left-preserved : goal.loop-left-preserved
loop-left-preserved c = fills_byte (fills_trans c.loop-left.invariant c.loop-left-2.invariant.1) (omega arith) (omega arith)
