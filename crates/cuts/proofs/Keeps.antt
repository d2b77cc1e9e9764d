-- What a call leaves alone. Between lines it changes no byte of the buffer, so a line that was handed out stands in it
-- until a later call finds the next tail; in a line it changes only bytes whose eight bits are in; and never a byte past
-- the line. Assumes nothing.
use mathlib.Core.Bool.{Bool, true, false, cond, false≢true, true≢false}
use mathlib.Core.List.{List}
use mathlib.Core.Path.{◌≡◌, refl, sym, ap, ◌∙◌}
use Prim.Native.Nat.{ℕ, suc, ◌+◌, ◌-◌, ◌*◌, ◌/◌, ◌%◌, ◌^◌, ◌≤◌, ◌<◌}
use native.Mathlib.Omega.{arith}
use borrow.Author.Tests.{leb-true, eqb-true}
use lib.Dec.{ltb, eqb}
use lib.ListN.{drop, set}
use lib.Seq.{drop-drop, drop-set-lt}
use Rattle.std.specs.Prelude.{Result, Ok, Err}
use Rattle.refusals.specs.declared.Refusal.{Refusal}
use Rattle.reader_line.specs.declared.Reading.{Reading}
use Rattle.bits.specs.Bits.{digits}
use Rattle.formats.specs.Formats.{line_bytes}
use Rattle.scramble.specs.Sync.{fifteen_ones}
use Rattle.scramble.specs.Wire.{plain_bit}
use Rattle.reader_bits.specs.Call.{Call, more, whole}
use Rattle.reader_bits.specs.Lines.{is_tail}
use Rattle.reader_bits.specs.Phase.{Phase, seeking, within, phase_next, buffer_next, completes, Bench}
use Rattle.reader_bits.specs.Loops.{step_of, done_of}
use Rattle.reader.specs.Read.{call_of, read_answer, read_left}
use Rattle.reader_line.specs.Answers.{call_answer, call_left}
use Rattle.reader_record.specs.Records.{possible_of, phase_of, state_of}
use Rattle.reader_record.specs.declared.State.{State}
use Rattle.reader_line.specs.declared.Reading.TheVariants.{More, Line}
use Rattle.cuts.proofs.Calls.{Gives, gives_call}
use Rattle.cuts.proofs.Cases.{read_cases}
use Rattle.reader_record.proofs.Checked.{Facts, facts, counts_true_in}
use Rattle.cuts.proofs.Reached.{Fit, fit_next}
use Rattle.cuts.proofs.Stands.{after_line}

drop_more : (k m : ℕ) (xs ys : List ℕ) → k ≤ m → drop k xs ≡ drop k ys → drop m xs ≡ drop m ys
drop_more k m xs ys h e =
    let z : m ≡ k + (m - k) = omega arith in
    ap (λ (j : ℕ). drop j xs) z ∙ sym (drop-drop (m - k) k xs) ∙ ap (drop (m - k)) e ∙ drop-drop (m - k) k ys ∙ ap (λ (j : ℕ). drop j ys) (sym z)

module _ (was : List ℕ) where
  -- the bytes that cannot have changed
  abbrev Kept : Phase → List ℕ → Type 0
  Kept (seeking c w) buf = buf ≡ was
  Kept (within p r q) buf = drop (p / 8) buf ≡ drop (p / 8) was

  kept_store : (p v : ℕ) (buf : List ℕ) (t : Bool) → drop (p / 8) buf ≡ drop (p / 8) was → eqb (p % 8) 7 ≡ t
      → drop (suc p / 8) (cond t (set buf (p / 8) v) buf) ≡ drop (suc p / 8) was
  kept_store p v buf true e f =
      let d = eqb-true (p % 8) 7 f in
      drop-set-lt (suc p / 8) buf (p / 8) v (omega arith) ∙ drop_more (p / 8) (suc p / 8) buf was (omega arith) e
  kept_store p v buf false e f = drop_more (p / 8) (suc p / 8) buf was (omega arith) e

  abbrev pub Holds : Bench → Type 0
  Holds s = Fit s.0 × Kept s.0 s.1

  abbrev pub Used : Bench → ℕ → ℕ → Type 0
  Used s n v = Kept s.0 s.1 × Fit s.0

  -- a line complete: between lines again, and nothing past the line has changed
  abbrev pub Ended : Bench → ℕ → ℕ → Type 0
  Ended s n v = (s.0 ≡ seeking 0 0) × (drop 44356 s.1 ≡ drop 44356 was)

  kept_on : (setting : ℕ) (g : Phase) (buf : List ℕ) (b : ℕ) → completes line_bytes g b ≡ false → Kept g buf → Kept (phase_next 64 (is_tail setting) line_bytes g b) (buffer_next g b buf)
  unfolding completes phase_next buffer_next
  kept_on setting (seeking c w) buf b e h = go (ltb (suc c) 64) (is_tail setting (digits 64 (w * 2 + b)))
    where
      go : (x y : Bool) → Kept (cond x (seeking (suc c) (w * 2 + b)) (cond y (within 0 fifteen_ones 0) (seeking c ((w * 2 + b) % 2 ^ c)))) buf
      go true y = h
      go false true = h
      go false false = h
  kept_on setting (within p r q) buf b e h = rw e (kept_store p (q * 2 + plain_bit p r b) buf (eqb (p % 8) 7) h refl)

  pub holds_on : (setting : ℕ) (s : Bench) (b : ℕ) → b < 2 → done_of s b ≡ false → Holds s → Holds (step_of setting s b)
  holds_on setting s b h e i = (fit_next setting s.0 b h i.0, kept_on setting s.0 s.1 b e i.1)

  pub holds_rest : (s : Bench) → Holds s → Used s 0 0
  holds_rest s i = (i.1, i.0)

  kept_stop : (g : Phase) (buf : List ℕ) (b : ℕ) → completes line_bytes g b ≡ true → Fit g → Kept g buf → drop 44356 (buffer_next g b buf) ≡ drop 44356 was
  unfolding completes buffer_next
  kept_stop (seeking c w) buf b e f h = absurd (false≢true e)
  kept_stop (within p r q) buf b e f h =
      let l = leb-true 354848 (suc p) e in
      let z : suc p / 8 ≡ 44356 = omega (arith, f.0) in
      rw z at (kept_store p (q * 2 + plain_bit p r b) buf (eqb (p % 8) 7) h refl)

  pub holds_stop : (setting : ℕ) (s : Bench) (b : ℕ) → b < 2 → done_of s b ≡ true → Holds s → (n v : ℕ) → n ≤ 7 → v < 2 ^ n → Ended (step_of setting s b) n v
  holds_stop setting s b h e i n v l w = (after_line 64 (is_tail setting) line_bytes s.0 b e, kept_stop s.0 s.1 b e i.0 i.1)

  abbrev pub Leaves : ℕ → Call Bench → Type 0
  Leaves setting c = Gives (step_of setting) done_of Holds Used Ended (holds_on setting) holds_rest (holds_stop setting) c

  holds-first : (g : Phase) → Kept g was
  holds-first (seeking c w) = refl
  holds-first (within p r q) = refl

fit_state : (s : State) → Facts s → Fit (phase_of s)
fit_state s f = go s.in_line refl
  where
    go : (i : Bool) → s.in_line ≡ i → Fit (cond i (within s.position s.register s.waiting) (seeking s.search_count s.search))
    go true e = (f.place, f.fifteen, rw (counts_true_in s e f.counts).0 at f.held)
    go false e = (f.count, f.remembered)

leaves_call : (setting : ℕ) (s : State) (p buf : List ℕ) → possible_of s ≡ true → Leaves buf setting (call_of setting s p buf)
unfolding call_of
leaves_call setting s p buf h =
    let f = facts s h in
    gives_call (step_of setting) done_of (Holds buf) (Used buf) (Ended buf) (holds_on buf setting) (holds_rest buf) (holds_stop buf setting) p (phase_of s, buf)
    s.unread_count s.unread (omega (arith, f.seven)) (fit_state s f, holds-first buf (phase_of s)) (holds-first buf (phase_of s), fit_state s f)

-- ---- of the public call

-- what an answer and a buffer after it say of the buffer before it
abbrev pub KeepsBy : State → List ℕ → Result Reading Refusal → List ℕ → Type 0
KeepsBy s buf (Err e) after = after ≡ buf
KeepsBy s buf (Ok (More t s')) after =
    (s'.in_line ≡ false → after ≡ buf) × (s'.in_line ≡ true → drop (s'.position / 8) after ≡ drop (s'.position / 8) buf)
KeepsBy s buf (Ok (Line t s')) after = (s'.in_line ≡ false) × (drop 44356 after ≡ drop 44356 buf)

-- FOR EVERY INPUT: a refusal leaves the buffer as it was; so does a call that ends between lines without a line; one that
-- ends in a line has changed only bytes whose eight bits are in; a line complete leaves the bytes past it
pub keeps : (f setting : ℕ) (s : State) (p buf : List ℕ) → KeepsBy s buf (read_answer f setting s p buf) (read_left f setting s p buf)
keeps f setting s p buf = read_cases f setting s p buf (KeepsBy s buf) (λ n. refl) (λ h e. (λ i. refl, λ i. refl)) (λ h m l. go (call_of setting s p buf) (leaves_call setting s p buf h))
  where
    used : (g : Phase) (n v t : ℕ) (after : List ℕ) → Kept buf g after → KeepsBy s buf (Ok (More t (state_of g n v))) after
    used (seeking c w) n v t after k = (λ i. k, λ i. absurd (false≢true i))
    used (within pl r q) n v t after k = (λ i. absurd (true≢false i), λ i. k)

    ended : (g : Phase) (n v t : ℕ) (after : List ℕ) → g ≡ seeking 0 0 → drop 44356 after ≡ drop 44356 buf → KeepsBy s buf (Ok (Line t (state_of g n v))) after
    ended g n v t after e k = rw e (refl, k)

    go : (c : Call Bench) → Leaves buf setting c → KeepsBy s buf (Ok (call_answer c)) (call_left c)
    go (more t b n v) k = used b.0 n v t b.1 k.0
    go (whole t b n v) k = ended b.0 n v t b.1 k.0 k.1

-- FOR EVERY INPUT: a buffer keeps its bytes past the line
pub past_keeps : (f setting : ℕ) (s : State) (p buf : List ℕ) → drop 44356 (read_left f setting s p buf) ≡ drop 44356 buf
past_keeps f setting s p buf =
    read_cases f setting s p buf (λ (a : Result Reading Refusal) (b : List ℕ). drop 44356 b ≡ drop 44356 buf) (λ n. refl) (λ h e. refl)
    (λ h m l. go (call_of setting s p buf) (leaves_call setting s p buf h))
  where
    used : (g : Phase) (after : List ℕ) → Kept buf g after → Fit g → drop 44356 after ≡ drop 44356 buf
    used (seeking c w) after k f = ap (drop 44356) k
    used (within pl r q) after k f = drop_more (pl / 8) 44356 after buf (omega (arith, f.0)) k

    go : (c : Call Bench) → Leaves buf setting c → drop 44356 (call_left c) ≡ drop 44356 buf
    go (more t b n v) k = used b.0 b.1 k.0 k.1
    go (whole t b n v) k = k.1

-- a call that finds no tail leaves the buffer as it was
pub line_stays : (f setting : ℕ) (s : State) (p buf : List ℕ) (t : ℕ) (s' : State)
    → read_answer f setting s p buf ≡ Ok (More t s') → s'.in_line ≡ false → read_left f setting s p buf ≡ buf
line_stays f setting s p buf t s' e i = go (read_answer f setting s p buf) e (keeps f setting s p buf)
  where
    go : (a : Result Reading Refusal) → a ≡ Ok (More t s') → KeepsBy s buf a (read_left f setting s p buf) → read_left f setting s p buf ≡ buf
    go (Err n) h k = k
    go (Ok (More u r)) h k = let z : r.in_line ≡ false = (let y : r ≡ s' = cc in ap (λ (x : State). x.in_line) y ∙ i) in k.0 z
    go (Ok (Line u r)) h k = let z : ◌≡◌ {A = ℕ} 0 1 = cc in absurd (omega arith)

pub refused_stays : (f setting : ℕ) (s : State) (p buf : List ℕ) (n : Refusal) → read_answer f setting s p buf ≡ Err n → read_left f setting s p buf ≡ buf
refused_stays f setting s p buf n e = go (read_answer f setting s p buf) e (keeps f setting s p buf)
  where
    go : (a : Result Reading Refusal) → a ≡ Err n → KeepsBy s buf a (read_left f setting s p buf) → read_left f setting s p buf ≡ buf
    go (Err m) h k = k
    go (Ok (More u r)) h k = let z : ◌≡◌ {A = ℕ} 0 1 = cc in absurd (omega arith)
    go (Ok (Line u r)) h k = let z : ◌≡◌ {A = ℕ} 0 1 = cc in absurd (omega arith)

-- after a line the reader is between lines
pub line_between : (f setting : ℕ) (s : State) (p buf : List ℕ) (t : ℕ) (s' : State) → read_answer f setting s p buf ≡ Ok (Line t s') → s'.in_line ≡ false
line_between f setting s p buf t s' e = go (read_answer f setting s p buf) e (keeps f setting s p buf)
  where
    go : (a : Result Reading Refusal) → a ≡ Ok (Line t s') → KeepsBy s buf a (read_left f setting s p buf) → s'.in_line ≡ false
    go (Err m) h k = let z : ◌≡◌ {A = ℕ} 0 1 = cc in absurd (omega arith)
    go (Ok (More u r)) h k = let z : ◌≡◌ {A = ℕ} 0 1 = cc in absurd (omega arith)
    go (Ok (Line u r)) h k = let y : s' ≡ r = cc in ap (λ (x : State). x.in_line) y ∙ k.0
