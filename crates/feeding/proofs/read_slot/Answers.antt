-- `feeding::read_slot` meets its contract. Assumes nothing.
use mathlib.Core.Path.{◌≡◌, ap, ◌∙◌}
use mathlib.Core.List.{List, ◌++◌}
use Prim.Native.Nat.{ℕ, ◌+◌, ◌*◌, ◌-◌}
use native.Mathlib.Omega.{arith}
use lib.ListN.{take, drop}
use lib.Seq.{drop-drop}
use Rattle.formats.specs.Formats.{line_bytes}
use Rattle.reader.specs.Read.{read_answer, read_left}
use Rattle.reader.proofs.Settled.{read_is}
use Rattle.feeding.specs.Area.{slot_at, put_slot}
use Rattle.feeding.proofs.read_slot.Goals as goal

pub returns : goal.returns
unfolding slot_at put_slot
returns c =
    let x = c.args in
    let area = x.area.now in
    let a = x.slot * line_bytes in
    let p = x.piece.now in
    let width : a + line_bytes - a ≡ line_bytes = omega arith in
    let answer : c.read.result ≡ read_answer x.format x.setting x.state p (take (a + line_bytes - a) (drop a area)) = read_is x.format x.setting x.state p (take (a + line_bytes - a) (drop a area)) _ c.read.ensures.0 in
    let lent : c.read.new.line ≡ read_left x.format x.setting x.state p (take (a + line_bytes - a) (drop a area)) = c.read.ensures.1 in (
      answer ∙ ap (λ (k : ℕ). read_answer x.format x.setting x.state p (take k (drop a area))) width,
      ap (λ (y : List ℕ). take a area ++ (y ++ drop (a + line_bytes - a) (drop a area))) lent
          ∙ ap (λ (k : ℕ). take a area ++ (read_left x.format x.setting x.state p (take k (drop a area)) ++ drop k (drop a area))) width
          ∙ ap (λ (y : List ℕ). take a area ++ (read_left x.format x.setting x.state p (take line_bytes (drop a area)) ++ y)) (drop-drop line_bytes a area),
    )
