-- THE REFUSALS, as `specs/Refusals` lists them: an answer has the number of one chain of refusals, and what is lent goes by the same
-- chain. Assumes nothing.
use mathlib.Core.List.{List}
use mathlib.Core.Path.{◌≡◌, refl, sym, ap, ◌∙◌}
use Prim.Native.Nat.{ℕ}
use Rattle.bits.specs.Bits.{bits_of, Below}
use Rattle.std.specs.Prelude.{Result, Ok, Err}
use Rattle.std.specs.Result.{result_and}
use Rattle.refusals.specs.declared.Refusal.{Refusal}
use Rattle.refusals.specs.Refusals.{kept, answer_number, answer_value}
use Rattle.refusals.proofs.Words.{kept_some}
use Rattle.scramble.specs.Step.{register_left}
use Rattle.sync.specs.Put.{put_sync_left}
use Rattle.reader.specs.Read.{read_left}
use Rattle.sector_check.proofs.Each.{number_stays}
use Rattle.pixels.specs.Calls.{data_left, pixels_left}
use Rattle.channels.specs.Join.{joined_left}
use Rattle.visible.specs.Strip.{strip_left}
use Rattle.sector_writer.specs.Calls.{put_data_left, put_pixels_left}
use Rattle.writer.specs.Wire.{write_line_left}
use Rattle.report.specs.declared.Reported.{Reported}
use Rattle.desk.specs.declared.Taken.{Taken}
use Rattle.desk.specs.declared.Changed.{Changed}
use Rattle.desk.specs.declared.SlotTaken.{SlotTaken}
use Rattle.desk.specs.declared.Part.{Part}
use Rattle.desk.specs.Calls.{fresh_answer, take_after}
use Rattle.number_writer.specs.Written.{put_real_left}
use Rattle.segments.specs.Assembly.{assembly_after}
use Rattle.segments.specs.declared.Placed.{Placed}
use Rattle.segments.proofs.Settled.{add_segment_is}
use Rattle.blocks.specs.declared.assembly.Assembly.{Assembly}
use Rattle.assemblies.proofs.Skips.{block_refused}
use Rattle.demands.specs.Promises.{AddSegment}
use Rattle.demands.specs.Refusals.{Refuses, Refusals}
use Rattle.demands.proofs.Unique.{unique_bytes}

-- what goes by a chain of refusals stays where the answer's number, which is that of the chain, is not 0
stays : {B : Type 0} (n k : ℕ) (was becomes x : B) → n ≡ k → x ≡ kept k was becomes → Refuses n → x ≡ was
stays n k was becomes x e left refused = left ∙ kept_some k was becomes (λ z. refused (e ∙ z))

-- the bytes stay where the bits do
stays_bytes : (n k : ℕ) (becomes was x : List ℕ) → Below 256 was → Below 256 x → n ≡ k → bits_of x ≡ kept k (bits_of was) becomes → Refuses n → x ≡ was
stays_bytes n k becomes was x hw hx e left refused = unique_bytes (bits_of was) x was hx hw (stays n k (bits_of was) becomes (bits_of x) e left refused) refl

-- a refused call gives nothing: what it leaves is what stands for nothing
nothing_of : {A : Type 0} (nothing : A) (r : Result A Refusal) → Refuses (answer_number r) → answer_value nothing r ≡ nothing
nothing_of nothing (Ok x) refused = absurd (refused refl)
nothing_of nothing (Err e) refused = refl

-- and what comes back beside an answer is what was handed in
handed_back : {A : Type 0} (was : A) (r : Result A Refusal) (n : ℕ) (left : A) → n ≡ answer_number (result_and r (Ok (tt {0}))) → left ≡ answer_value was r
    → Refuses n → left ≡ was
handed_back was (Ok x) n left e l refused = absurd (refused e)
handed_back was (Err k) n left e l refused = l

-- an assembly goes on with the block and the record that it had
assembly_stays : (f : ℕ) (a : Assembly) (line : List ℕ) (number : ℕ) (block : List ℕ) (r : Result Placed Refusal) (x : List ℕ)
    → AddSegment f a line number block r x → Refuses (answer_number r) → (x ≡ block) × (assembly_after a r ≡ a)
assembly_stays f a line number block (Ok p) x c refused = absurd (refused refl)
assembly_stays f a line number block (Err e) x c refused =
    (c.1 ∙ block_refused f a line number block e (sym (add_segment_is f a line number block (Err e) c.0)), refl)

pub refusals : Refusals
unfolding fresh_answer register_left put_sync_left read_left data_left pixels_left joined_left strip_left put_data_left put_pixels_left write_line_left put_real_left
refusals = record {
  stepped = λ register r c h. stays _ _ register _ r.next.bits c.0.0 c.1 h;
  step = λ register r x c h. stays _ _ register _ x c.0.0 c.1 h;
  put_sync = λ f out r x c h. stays _ _ out _ x c.0.0 c.1 h;
  read = λ f k s piece line r x c h. record {
    taken = stays _ _ 0 _ _ c.0.number c.0.taken h;
    complete = stays _ _ _ _ _ c.0.number c.0.complete h;
    state = stays _ _ s _ _ c.0.number c.0.state h;
    buffer = stays _ _ line _ x c.0.number c.1 h;
  };
  write_line = λ f line out r x c h. stays _ _ out _ x c.0.0 c.1 h;
  data_of = λ f line sector out r x c h. stays _ _ out _ x c.0 c.1 h;
  pixels = λ lo hi f line sector out r x c h. stays _ _ out _ x c.0 c.1 h;
  joined = λ f line channel out r x c h. stays _ _ out _ x c.0 c.1 h;
  strip = λ f line out r x c h. stays _ _ out _ x (sym (number_stays r) ∙ c.0.0) c.1 h;
  put_data = λ f line sector bytes r x hw hx c h. stays_bytes _ _ _ line x hw hx c.0 c.1 h;
  put_pixels = λ lo hi f line sector ps r x hw hx c h. stays_bytes _ _ _ line x hw hx c.0 c.1 h;
  with_line = λ f report line r e h. handed_back report _ _ _ (ap (λ (x : Reported). answer_number x.answer) e) (ap (λ (x : Reported). x.report) e) h;
  together = λ a b r e h. handed_back a _ _ _ (ap (λ (x : Reported). answer_number x.answer) e) (ap (λ (x : Reported). x.report) e) h;
  fresh_desk = λ count r e h. ap (λ (x : Changed). x.desk) e;
  take = λ d area r e h.
      let none = nothing_of (record { slot = 0; serial = 0; desk = d }) r.answer h in (
        ap (λ (x : SlotTaken). x.desk) e ∙ ap (λ (x : SlotTaken). (take_after d x.answer).desk) (sym e) ∙ ap (λ (t : Taken). t.desk) none,
        ap (λ (t : Taken). t.slot) none,
        ap (λ (t : Taken). t.serial) none,
      );
  publish = λ d area i n r e h. handed_back d _ _ _ (ap (λ (x : Changed). answer_number x.answer) e) (ap (λ (x : Changed). x.desk) e) h;
  release = λ d area c i n r e h. handed_back d _ _ _ (ap (λ (x : Changed). answer_number x.answer) e) (ap (λ (x : Changed). x.desk) e) h;
  seen = λ d area c i n r e h.
      let none = nothing_of (record { from = 0; to = 0 }) r h in
      (ap (λ (p : Part). p.from) none, ap (λ (p : Part). p.to) none);
  put_real = λ negative magnitude n m out r x c h. stays _ _ out _ x c.0 c.1 h;
  add_segment = assembly_stays;
}
