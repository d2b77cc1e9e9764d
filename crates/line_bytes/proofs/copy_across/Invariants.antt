-- `line_bytes::copy_across` meets its contract. Assumes nothing.
use mathlib.Core.List.{List}
use Prim.Native.Nat.{ℕ}
use Rattle.line_bytes.specs.Spans.{Copied}
use Rattle.line_bytes.proofs.copy_across.Given as goal

abbrev pub invariant-loop-i : goal.invariant-loop-i
invariant-loop-i l = (buf : List ℕ) → Copied l.piece l.at l.left l.byte0 1 l.first buf l.initial.line → Copied l.piece l.at l.left l.byte0 l.i l.first buf l.line
