-- The end of a call on the bits: in a line that is complete, or with the piece used up. Assumes nothing.
use mathlib.Core.List.{List}
use mathlib.Core.Path.{◌≡◌, refl, sym, ap, ◌∙◌}
use Prim.Native.Nat.{ℕ}
use lib.ListN.{length}
use Rattle.reader_bits.specs.Call.{Call}
use Rattle.reader_bits.specs.Phase.{Bench}
use Rattle.line_bits.specs.declared.Filled.{Filled}
use Rattle.line_bits.specs.declared.Filled.TheVariants.{Whole, Part}
use Rattle.line_bits.specs.Reading.{FilledOk, filled_call}
use Rattle.reader_record.specs.Records.{between_of, inside_of}
use Rattle.reader_record.specs.declared.State.{State}
use Rattle.reader_line.specs.Answers.{call_answer, call_left, CallOk, LineOk}
use Rattle.reader_line.specs.declared.Reading.{Reading}
use Rattle.reader_line.specs.declared.Reading.TheVariants.{More, Line}

-- a call that is d gives r and the buffer
pub call_ok : {c d : Call Bench} {r : Reading} {buf : List ℕ} → c ≡ d → r ≡ call_answer d → buf ≡ call_left d → CallOk c r buf
call_ok e a b = record { answer = a ∙ sym (ap call_answer e); buffer = b ∙ sym (ap call_left e) }

pub filled_whole : {p : List ℕ} {t n v place r q : ℕ} {buf buf' : List ℕ} {f : Filled} {t' n' v' : ℕ} {s : State}
    → FilledOk p t n v place r q buf buf' f → f ≡ Whole t' n' v' → s ≡ between_of 0 0 n' v'
    → LineOk p t place r q buf n v (Line t' s) buf'
filled_whole {p} {buf' = buf'} {t' = t'} h e k = record { at = λ setting. call_ok (h.same setting ∙ ap (filled_call p buf') e) (ap (λ (x : State). Line t' x) k) refl }

pub filled_part : {p : List ℕ} {t n v place r q : ℕ} {buf buf' : List ℕ} {f : Filled} {place' r' q' : ℕ} {s : State}
    → FilledOk p t n v place r q buf buf' f → f ≡ Part place' r' q' → s ≡ inside_of place' r' q'
    → LineOk p t place r q buf n v (More (length p) s) buf'
filled_part {p} {buf' = buf'} h e k = record { at = λ setting. call_ok (h.same setting ∙ ap (filled_call p buf') e) (ap (λ (x : State). More (length p) x) k) refl }
