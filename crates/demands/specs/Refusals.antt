-- A REFUSED CALL TAKES NOTHING AND CHANGES NO STATE AND NO LENT BYTE: one list of all calls that write into something lent or hand back
-- a state, over their contracts. The other calls lend nothing that could change. Assumes nothing.
use Rattle.std.specs.Prelude.{Bool, false, List, ◌≡◌, ℕ, Result}
use Rattle.refusals.specs.declared.Refusal.{Refusal}
use Rattle.bits.specs.Bits.{Below}
use Rattle.refusals.specs.Refusals.{answer_number}
use Rattle.scramble.specs.Step.{StepOk, register_left}
use Rattle.scramble.specs.declared.StepTaken.{StepTaken}
use Rattle.reader_record.specs.declared.State.{State}
use Rattle.reader.specs.Read.{taken_by, line_by, state_by}
use Rattle.reader_line.specs.declared.Reading.{Reading}
use Rattle.report_record.specs.declared.Report.{Report}
use Rattle.report.specs.declared.Reported.{Reported}
use Rattle.report.specs.Calls.{reported, with_line_answer, together_answer}
use Rattle.desk_record.specs.declared.Desk.{Desk}
use Rattle.desk_record.specs.Desks.{empty_desk}
use Rattle.desk.specs.declared.Changed.{Changed}
use Rattle.desk.specs.declared.SlotTaken.{SlotTaken}
use Rattle.desk.specs.declared.Part.{Part}
use Rattle.desk.specs.Calls.{changed, slot_taken, fresh_answer, take_answer, publish_answer, release_answer, seen_answer, take_after, part_seen}
use Rattle.blocks.specs.declared.assembly.Assembly.{Assembly}
use Rattle.segments.specs.Assembly.{assembly_after}
use Rattle.segments.specs.declared.Placed.{Placed}
use Rattle.demands.specs.Promises.{Step, PutSync, Read, WriteLine, Data, Pixels, Joined, Strip, PutData, PutPixels, PutReal, AddSegment}

-- a number is that of a refusal
abbrev pub Refuses : ℕ → Type 0
Refuses n = n ≡ 0 → ⊥

-- what is lent stays as it was where the number of the answer is that of a refusal
abbrev pub Keeps : {A B : Type 0} → (A → ℕ) → (A → B → Type 0) → B → Type 0
Keeps {A} {B} number contract was = (r : A) (x : B) → contract r x → Refuses (number r) → x ≡ was

-- the same of a line of bytes whose contract is over its bits
abbrev pub KeepsBytes : (Result (Unit {0}) Refusal → List ℕ → Type 0) → List ℕ → Type 0
KeepsBytes contract was = (r : Result (Unit {0}) Refusal) (x : List ℕ) → Below 256 was → Below 256 x → contract r x → Refuses (answer_number r) → x ≡ was

-- the reader: nothing is taken, no line is complete, and record and buffer are as they were
pub record Untouched (s : State) (line : List ℕ) (r : Result Reading Refusal) (x : List ℕ) : Type 0 where
  pub taken : taken_by r ≡ 0
  pub complete : line_by r ≡ false
  pub state : state_by s r ≡ s
  pub buffer : x ≡ line

pub record Refusals : Type 0 where
  pub stepped : (register : ℕ) (r : StepTaken) → StepOk register r.answer × (r.next.bits ≡ register_left register) → Refuses (answer_number r.answer) → r.next.bits ≡ register
  pub step : (register : ℕ) → Keeps answer_number (Step register) register
  pub put_sync : (f : ℕ) (out : List ℕ) → Keeps answer_number (PutSync f out) out
  pub read : (f k : ℕ) (s : State) (piece line : List ℕ) (r : Result Reading Refusal) (x : List ℕ) → Read f k s piece line r x → Refuses (answer_number r) → Untouched s line r x
  pub write_line : (f : ℕ) (line out : List ℕ) → Keeps answer_number (WriteLine f line out) out
  pub data_of : (f : ℕ) (line : List ℕ) (sector : ℕ) (out : List ℕ) → Keeps answer_number (Data f line sector out) out
  pub pixels : (lo hi f : ℕ) (line : List ℕ) (sector : ℕ) (out : List ℕ) → Keeps answer_number (Pixels lo hi f line sector out) out
  pub joined : (f : ℕ) (line : List ℕ) (channel : ℕ) (out : List ℕ) → Keeps answer_number (Joined f line channel out) out
  pub strip : (f : ℕ) (line out : List ℕ) → Keeps answer_number (Strip f line out) out
  pub put_data : (f : ℕ) (line : List ℕ) (sector : ℕ) (bytes : List ℕ) → KeepsBytes (PutData f line sector bytes) line
  pub put_pixels : (lo hi f : ℕ) (line : List ℕ) (sector : ℕ) (ps : List ℕ) → KeepsBytes (PutPixels lo hi f line sector ps) line
  pub with_line : (f : ℕ) (report : Report) (line : List ℕ) (r : Reported) → r ≡ reported report (with_line_answer f report line) → Refuses (answer_number r.answer) → r.report ≡ report
  pub together : (a b : Report) (r : Reported) → r ≡ reported a (together_answer a b) → Refuses (answer_number r.answer) → r.report ≡ a
  -- there is no desk to give back: it is an empty one of the count that was asked for
  pub fresh_desk : (count : ℕ) (r : Changed) → r ≡ fresh_answer count → Refuses (answer_number r.answer) → r.desk ≡ empty_desk count
  -- and no slot is taken
  pub take : (d : Desk) (area : ℕ) (r : SlotTaken) → r ≡ slot_taken d (take_answer d area) → Refuses (answer_number r.answer)
      → (r.desk ≡ d) × ((take_after d r.answer).slot ≡ 0) × ((take_after d r.answer).serial ≡ 0)
  pub publish : (d : Desk) (area i n : ℕ) (r : Changed) → r ≡ changed d (publish_answer d area i n) → Refuses (answer_number r.answer) → r.desk ≡ d
  pub release : (d : Desk) (area c i n : ℕ) (r : Changed) → r ≡ changed d (release_answer d area c i n) → Refuses (answer_number r.answer) → r.desk ≡ d
  -- and no part of the area is given
  pub seen : (d : Desk) (area c i n : ℕ) (r : Result Part Refusal) → r ≡ seen_answer d area c i n → Refuses (answer_number r) → ((part_seen r).from ≡ 0) × ((part_seen r).to ≡ 0)
  pub put_real : (negative : Bool) (magnitude n m : ℕ) (out : List ℕ) → Keeps answer_number (PutReal negative magnitude n m out) out
  pub add_segment : (f : ℕ) (a : Assembly) (line : List ℕ) (number : ℕ) (block : List ℕ) (r : Result Placed Refusal) (x : List ℕ)
      → AddSegment f a line number block r x → Refuses (answer_number r) → (x ≡ block) × (assembly_after a r ≡ a)
