-- `unpacking::last_byte` meets its contract: the shift loses no bit, and what it gives fits a byte. Assumes nothing.
use mathlib.Core.Path.{◌≡◌, ap, ◌∙◌}
use Prim.Native.Nat.{ℕ, ◌+◌, ◌-◌, ◌*◌, ◌%◌, ◌^◌, ◌<◌}
use native.Mathlib.Omega.{arith}
use lib.Pow.{shl_exact, shl_lt}
use Rattle.unpacking.proofs.last_byte.Goals as goal

pub overflow_cast-result-2 : goal.overflow_cast-result-2
overflow_cast-result-2 c =
    let shifted : c.field.result * 2 ^ c.args.spare % 2 ^ 16 ≡ c.field.result * 2 ^ c.args.spare =
    let spare = c.args.spare in
    shl_exact (8 - spare) spare 16 c.field.ensures.1 (omega arith) in
    let below : c.field.result * 2 ^ c.args.spare < 2 ^ 8 =
    let spare = c.args.spare in
    let whole : 8 - spare + spare ≡ 8 = omega arith in
    rw whole at (shl_lt (8 - spare) spare c.field.ensures.1) in
    record { fits = rw shifted below }

pub returns : goal.returns
returns c =
    let shifted : c.field.result * 2 ^ c.args.spare % 2 ^ 16 ≡ c.field.result * 2 ^ c.args.spare =
    let spare = c.args.spare in
    shl_exact (8 - spare) spare 16 c.field.ensures.1 (omega arith) in
    let spare = c.args.spare in
    shifted ∙ ap (λ (n : ℕ). n * 2 ^ spare) c.field.ensures.0
