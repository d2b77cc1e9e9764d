-- `bcd_dates::decimals::bcd_in` meets its contract. Assumes nothing.
use mathlib.Core.List.{List}
use mathlib.Core.Path.{subst}
use Prim.Native.Nat.{ℕ}
use Rattle.numbers.specs.Decimals.{ReadBcdOk}
use Rattle.numbers.proofs.Settled.{read_bcd_is}
use Rattle.bcd_dates.specs.Decimals.{bcd_in}
use Rattle.bcd_dates.proofs.Parts.{behind}
use Rattle.bcd_dates.proofs.decimals.bcd_in.Goals as goal

pub returns : goal.returns
unfolding bcd_in
returns c =
    let a = c.args in
    read_bcd_is _ _ _ (subst (λ (l : List ℕ). ReadBcdOk a.n l c.read_bcd.result) (behind a.bytes.now a.at) c.read_bcd.ensures)
