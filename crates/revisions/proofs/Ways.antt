-- A line with its numbers: what a foreign one is, and what is remembered. Assumes nothing.
use mathlib.Core.Bool.{Bool, true, false, true≢false, not, ◌&&◌, and-false}
use mathlib.Core.Logic.{◌↔◌}
use mathlib.Core.Path.{◌≡◌, refl, sym, ap, ◌∙◌}
use Prim.Native.Nat.{ℕ}
use lib.Dec.{eqb}
use borrow.Author.Tests.{eq-eqb, ne_eqb, eqb-true, not-false}
use Rattle.blocks.specs.declared.assembly.Revisions.{Revisions}
use Rattle.blocks.specs.declared.assembly.Assembly.{Assembly}
use Rattle.blocks.specs.Record.{started, revision_of}
use Rattle.revisions.specs.Carried.{foreign, remembered}

-- a foreign revision in plain words
pub foreign_when : (n : ℕ) (a : Assembly) (c : Revisions) → (foreign n a c ≡ true) ↔ ((a.marks.segments ≡ 0 → ⊥) × (revision_of n a.revisions ≡ revision_of n c → ⊥))
unfolding foreign started
foreign_when n a c = (
  λ e. (λ z. true≢false (sym e ∙ unstored z), λ same. true≢false (sym e ∙ own same)),
  λ h. rw (ne_eqb a.marks.segments 0 h.0, ne_eqb (revision_of n a.revisions) (revision_of n c) h.1) refl,
)
  where
    unstored : a.marks.segments ≡ 0 → (not (eqb a.marks.segments 0) && not (eqb (revision_of n a.revisions) (revision_of n c))) ≡ false
    unstored z = rw (eq-eqb a.marks.segments 0 z)

    own : revision_of n a.revisions ≡ revision_of n c → (not (eqb a.marks.segments 0) && not (eqb (revision_of n a.revisions) (revision_of n c))) ≡ false
    own e = rw (eq-eqb (revision_of n a.revisions) (revision_of n c) e) (and-false (not (eqb a.marks.segments 0)))

-- the numbers that are remembered: as they were, or the line's
pub remembered_kept : (a : Assembly) (c : Revisions) → started a ≡ true → remembered a c ≡ a.revisions
unfolding remembered
remembered_kept a c h = rw h

pub remembered_new : (a : Assembly) (c : Revisions) → started a ≡ false → remembered a c ≡ c
unfolding remembered
remembered_new a c h = rw h

-- where the line is not foreign, the block's revision is then the line's
pub remembered_own : (n : ℕ) (a : Assembly) (c : Revisions) → foreign n a c ≡ false → revision_of n (remembered a c) ≡ revision_of n c
unfolding foreign
remembered_own n a c = by (started a) refl
  where
    by : (t : Bool) → started a ≡ t → (t && not (eqb (revision_of n a.revisions) (revision_of n c))) ≡ false → revision_of n (remembered a c) ≡ revision_of n c
    by true h e = ap (revision_of n) (remembered_kept a c h) ∙ eqb-true (revision_of n a.revisions) (revision_of n c) (not-false (eqb (revision_of n a.revisions) (revision_of n c)) e)
    by false h e = ap (revision_of n) (remembered_new a c h)
