-- Scan mode, byte 3, and scanner select, byte 67: the names of the paper, and the byte that stands for each. A byte that
-- has no name is kept. Assumes nothing.
use Rattle.std.specs.Prelude.{ℕ, cond, List, ◌≡◌, eqb, Result, Ok}
use Rattle.refusals.specs.declared.Refusal.{Refusal}
use Rattle.refusals.specs.Refusals.{answered, kept, refuses, answer_number, answer_value}
use Rattle.document.specs.declared.modes.ScanMode.{ScanMode}
use Rattle.document.specs.declared.modes.ScanMode.TheVariants as mode
use Rattle.document.specs.declared.modes.Mirror.{Mirror}
use Rattle.document.specs.declared.modes.Mirror.TheVariants as mirror
use Rattle.document.specs.Place.{doc_refusal}
use Rattle.sector_table.specs.Place.{doc_byte}

-- ---- scan mode

-- the paper's byte for each mode, and its name by its place in the paper's order; 0 for a byte that has none
abbrev pub mode_byte : ScanMode → ℕ
mode_byte mode.Full = 0x00
mode_byte mode.Limited = 0x0F
mode_byte mode.Single = 0xFF
mode_byte (mode.Unnamed b) = b

abbrev pub mode_name : ScanMode → ℕ
mode_name mode.Full = 1
mode_name mode.Limited = 2
mode_name mode.Single = 3
mode_name (mode.Unnamed b) = 0

abbrev pub mode_of : ℕ → ScanMode
mode_of b =
    cond (eqb b 0x00) mode.Full
    (cond (eqb b 0x0F) mode.Limited
    (cond (eqb b 0xFF) mode.Single
    (mode.Unnamed b)))

-- the mode of an answer, by name and byte; a refusal has 0 for both
abbrev pub no_mode : ScanMode
no_mode = mode.Unnamed 0

abbrev pub scan_name : Result ScanMode Refusal → ℕ
scan_name r = mode_name (answer_value no_mode r)

abbrev pub scan_byte : Result ScanMode Refusal → ℕ
scan_byte r = mode_byte (answer_value no_mode r)

abbrev pub scan_values : Result ScanMode Refusal → ℕ × ℕ
scan_values r = (scan_name r, scan_byte r)

-- THE CONTRACT of `scan_mode`, refused with 1, 2, 5, 6: the number, and the name of byte 3 with that byte
abbrev pub ScanModeOk : ℕ → List ℕ → Result ScanMode Refusal → Type 0
ScanModeOk f line r =
    (answer_number r ≡ doc_refusal f line)
    × (scan_values r ≡ kept (doc_refusal f line) (0, 0) (mode_name (mode_of (doc_byte line 3)), doc_byte line 3))

unfoldable pub scan_mode_answer : ℕ → List ℕ → Result ScanMode Refusal
scan_mode_answer f line = answered refuses (doc_refusal f line) (Ok (mode_of (doc_byte line 3)))

-- ---- scanner select

-- the paper's byte for each mirror, and its name by its place in the paper's order; 0 for a byte that has none
abbrev pub mirror_byte : Mirror → ℕ
mirror_byte mirror.OneA = 0xFF
mirror_byte mirror.OneB = 0xF0
mirror_byte mirror.TwoA = 0x00
mirror_byte mirror.TwoB = 0x0F
mirror_byte (mirror.Unnamed b) = b

abbrev pub mirror_name : Mirror → ℕ
mirror_name mirror.OneA = 1
mirror_name mirror.OneB = 2
mirror_name mirror.TwoA = 3
mirror_name mirror.TwoB = 4
mirror_name (mirror.Unnamed b) = 0

abbrev pub mirror_of : ℕ → Mirror
mirror_of b =
    cond (eqb b 0xFF) mirror.OneA
    (cond (eqb b 0xF0) mirror.OneB
    (cond (eqb b 0x00) mirror.TwoA
    (cond (eqb b 0x0F) mirror.TwoB
    (mirror.Unnamed b))))

-- the mirror of an answer, by name and byte; a refusal has 0 for both
abbrev pub no_mirror : Mirror
no_mirror = mirror.Unnamed 0

abbrev pub scanner_name : Result Mirror Refusal → ℕ
scanner_name r = mirror_name (answer_value no_mirror r)

abbrev pub scanner_byte : Result Mirror Refusal → ℕ
scanner_byte r = mirror_byte (answer_value no_mirror r)

abbrev pub scanner_values : Result Mirror Refusal → ℕ × ℕ
scanner_values r = (scanner_name r, scanner_byte r)

-- THE CONTRACT of `scanner_select`, refused with 1, 2, 5, 6: the number, and the name of byte 67 with that byte
abbrev pub ScannerSelectOk : ℕ → List ℕ → Result Mirror Refusal → Type 0
ScannerSelectOk f line r =
    (answer_number r ≡ doc_refusal f line)
    × (scanner_values r ≡ kept (doc_refusal f line) (0, 0) (mirror_name (mirror_of (doc_byte line 67)), doc_byte line 67))

unfoldable pub scanner_select_answer : ℕ → List ℕ → Result Mirror Refusal
scanner_select_answer f line = answered refuses (doc_refusal f line) (Ok (mirror_of (doc_byte line 67)))
