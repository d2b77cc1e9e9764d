-- `formats::Format::of` meets its contract: each arm knows its number, and the constructors say what they make.
-- Assumes nothing.
use mathlib.Core.Path.{ap, refl}
use borrow.Author.Tests.{ne_eqb}
use Rattle.std.specs.Prelude.{Ok}
use Rattle.refusals.specs.Refusals.{refuses}
use Rattle.formats.proofs.Settled.{format_told}
use Rattle.formats.proofs.Format.of.Goals as goal

pub returns-in-1 : goal.returns-in-1
returns-in-1 c = format_told _ (Ok c.svissr.result) (rw c.in-1.is (ap Ok c.svissr.ensures))

pub returns-in-2 : goal.returns-in-2
returns-in-2 c = format_told _ (Ok c.hirid.result) (rw c.in-2.is (ap Ok c.hirid.ensures))

pub returns-in-3 : goal.returns-in-3
returns-in-3 c = format_told _ (Ok c.svissr_ones.result) (rw c.in-3.is (ap Ok c.svissr_ones.ensures))

pub returns-in_default : goal.returns-in_default
returns-in_default c = format_told _ (refuses 1) (simp (ne_eqb _ _ c.in_default.in_default-own.rest.0.0.1, ne_eqb _ _ c.in_default.in_default-own.rest.0.1, ne_eqb _ _ c.in_default.in_default-own.rest.1) refl)
