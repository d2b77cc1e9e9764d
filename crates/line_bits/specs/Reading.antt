-- What reading on in a line promises: it leads a call on its way to its end. Assumes nothing.
use Rattle.std.specs.Prelude.{List, ◌≡◌, ℕ, length}
use Rattle.reader_bits.specs.Call.{Call, more, whole}
use Rattle.reader_bits.specs.Loops.{going}
use Rattle.reader_bits.specs.Phase.{seeking, within, Bench}
use Rattle.line_bits.specs.declared.Filled.{Filled}
use Rattle.line_bits.specs.declared.Filled.TheVariants.{Whole, Part}

-- it is complete, or all bytes are taken; in a line the setting is no matter
abbrev pub filled_call : List ℕ → List ℕ → Filled → Call Bench
filled_call p buf (Whole t n v) = whole t (seeking 0 0, buf) n v
filled_call p buf (Part place register waiting) = more (length p) (within place register waiting, buf) 0 0

pub record FilledOk (p : List ℕ) (t n v place register waiting : ℕ) (buf buf' : List ℕ) (f : Filled) : Type 0 where
  pub same : (setting : ℕ) → going setting p t (within place register waiting) buf n v ≡ filled_call p buf' f
