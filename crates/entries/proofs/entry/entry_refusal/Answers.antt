-- `entries::entry::entry_refusal` meets its contract. Assumes nothing.
use mathlib.Core.Path.{◌≡◌, ap, ap₂, ◌∙◌}
use Prim.Native.Nat.{ℕ}
use Rattle.refusals.specs.Refusals.{first, short_of}
use Rattle.blocks.specs.declared.block.Block.{Block}
use Rattle.blocks.specs.Blocks.{block_refusal}
use Rattle.entries.specs.Entries.{entry_refusal}
use Rattle.entries.proofs.entry.entry_refusal.Goals as goal

pub returns : goal.returns
unfolding entry_refusal
returns c =
    let args = c.args in
    let in_order : c.first-2.result ≡ first c.first-named.result c.first-whole.result = c.first-2.ensures in
    let long : c.short-long.result ≡ short_of args.given c.block_of-needed.result.size 2
    = c.short-long.ensures ∙ ap (short_of args.given c.block_of-needed.result.size) c.number.ensures in
    let block : c.number_in-block.result ≡ block_refusal args.format args.number = c.number_in-block.ensures ∙ c.block_refusal.ensures in
    let size = ap (λ (b : Block). short_of args.given b.size 2) c.block_of-needed.ensures in
    c.first-3.ensures
    ∙ ap₂ first
    (c.first-asked.ensures
    ∙ ap₂ first (c.number_in-known.ensures ∙ c.format_refusal.ensures) (c.number_in.ensures ∙ c.marks_refusal.ensures))
    (in_order
    ∙ ap₂ first
    (c.first-named.ensures ∙ ap (λ (n : ℕ). first n args.range) (c.first.ensures ∙ ap (λ (n : ℕ). first n args.channel) block))
    (c.first-whole.ensures ∙ ap₂ first (long ∙ size) (c.number_in-2.ensures ∙ c.unfinished_refusal.ensures)))
