-- B. THE LINE HANDED OUT LAST STANDS IN THE BUFFER until a later call finds the next tail: from its call on, over calls that find
-- no tail and calls that are refused, whatever the buffer was before. Assumes nothing.
use mathlib.Core.List.{List, [], ◌∷◌, ◌++◌}
use mathlib.Core.Path.{◌≡◌, refl, sym, ap, ◌∙◌}
use Prim.Native.Nat.{ℕ}
use Rattle.cuts.specs.Driven as driven
use Rattle.cuts.specs.Driven.{lent_for, line_in, Moment, Standing}
use Rattle.reader.specs.Read.{read_left}
use Rattle.reader_record.specs.declared.State.{State}
use Rattle.cuts.proofs.Keeps.{line_stays, refused_stays}

-- the line in the buffer is the last of those handed out
pub record Last (ls : List (List ℕ)) (buf : List ℕ) : Type 0 where
  pub before : List (List ℕ)
  pub all : ls ≡ before ++ (line_in buf ∷ [])

kept_last : (ls : List (List ℕ)) (buf after : List ℕ) → after ≡ buf → Last ls buf → Last ls after
kept_last ls buf after e l = record { before = l.before; all = l.all ∙ ap (λ (x : List ℕ). l.before ++ (line_in x ∷ [])) (sym e) }

pub line_stands : {f setting : ℕ} {lend : ℕ → List ℕ → List ℕ} {first : List ℕ} {k : ℕ} {s : State} {buf bytes : List ℕ} {ls : List (List ℕ)}
    (m : Moment f setting lend first k s buf bytes ls) → Standing m → Last ls buf
unfolding Standing
line_stands driven.Moment.start w = absurd w
line_stands (driven.Moment.got {ls = ls} p m e) w = record { before = ls; all = refl }
line_stands {f} {setting} {lend} (driven.Moment.on {k = k} {s = s} {buf = buf} {ls = ls} {t = t} {s' = s'} p m e) w =
    kept_last ls buf (read_left f setting s p (lent_for lend k s buf)) (line_stays f setting s p (lent_for lend k s buf) t s' e w.2 ∙ w.1) (line_stands m w.0)
line_stands (driven.Moment.refused {buf = buf} {ls = ls} {e = n} g a r p m e) w = kept_last ls buf (read_left g a r p buf) (refused_stays g a r p buf n e) (line_stands m w)
