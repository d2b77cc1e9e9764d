-- What holds of a call's answer and buffer in each case holds of them: refused, nothing to read, or the call on the bits.
-- Assumes nothing.
use mathlib.Core.Bool.{Bool, true, false, cond}
use mathlib.Core.List.{List}
use mathlib.Core.Path.{◌≡◌, refl}
use Prim.Native.Nat.{ℕ, zero, suc, ◌≤◌, ◌<◌}
use native.Mathlib.Omega.{arith}
use borrow.Author.Tests.{eqb-true, eqb-false}
use lib.Dec.{eqb}
use lib.ListN.{length}
use Rattle.std.specs.Prelude.{Result, Ok, Err}
use Rattle.refusals.specs.declared.Refusal.{Refusal}
use Rattle.refusals.specs.Refusals.{answered, kept, refuses, refusal_of}
use Rattle.reader_record.specs.Records.{possible_of}
use Rattle.reader_record.specs.declared.State.{State}
use Rattle.reader.specs.Read.{call_of, served_answer, served_left, read_answer, read_left}
use Rattle.reader_line.specs.Answers.{call_answer, call_left}
use Rattle.reader_refusals.specs.Refusing.{read_refusal}
use Rattle.reader_line.specs.declared.Reading.{Reading}
use Rattle.reader_line.specs.declared.Reading.TheVariants.{More}
use Rattle.reader.proofs.Ways.{Admitted, admitted}

module _ (f setting : ℕ) (s : State) (p buf : List ℕ) (P : Result Reading Refusal → List ℕ → Type 0)
    (refused : (e : Refusal) → P (Err e) buf)
    (nothing : possible_of s ≡ true → length p ≡ 0 → P (Ok (More 0 s)) buf)
    (called : possible_of s ≡ true → 44356 ≤ length buf → zero < length p → P (Ok (call_answer (call_of setting s p buf))) (call_left (call_of setting s p buf))) where
  served_cases : Admitted setting s (length buf) → P (Ok (served_answer setting s p buf)) (served_left setting s p buf)
  unfolding served_answer served_left
  served_cases a = go (eqb (length p) 0) refl
    where
      go : (c : Bool) → eqb (length p) 0 ≡ c → P (Ok (cond c (More 0 s) (call_answer (call_of setting s p buf)))) (cond c buf (call_left (call_of setting s p buf)))
      go true e = nothing a.possible (eqb-true (length p) 0 e)
      go false e = called a.possible a.long (let n = eqb-false (length p) 0 e in omega arith)

  pub read_cases : P (read_answer f setting s p buf) (read_left f setting s p buf)
  unfolding read_answer read_left answered kept
  read_cases = go (read_refusal f setting s (length buf)) refl
    where
      go : (r : ℕ) → read_refusal f setting s (length buf) ≡ r → P (answered refuses r (Ok (served_answer setting s p buf))) (kept r buf (served_left setting s p buf))
      go zero e = served_cases (admitted f setting s (length buf) e)
      go (suc r) e = refused (refusal_of (suc r))
