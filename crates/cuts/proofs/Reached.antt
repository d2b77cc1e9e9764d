-- The records that a reader comes to: each is possible, and with one of them the public call is the call on the bits.
-- Assumes nothing.
use mathlib.Core.Bool.{Bool, true, false, not, cond}
use mathlib.Core.List.{List, [], ◌∷◌}
use mathlib.Core.Path.{◌≡◌, refl, sym, ap, ap₂, ◌∙◌}
use Prim.Native.Nat.{ℕ, suc, ◌+◌, ◌*◌, ◌%◌, ◌^◌, ◌≤◌, ◌<◌, zero-le}
use native.Mathlib.Nat.{le_refl, mod-lt, zero-lt-suc}
use native.Mathlib.Numerals.{add-one}
use native.Mathlib.Omega.{arith}
use borrow.Author.Tests.{lt-ltb, le-ltb, le-leb, eq-eqb, ne_eqb, leb-false, ltb-true, eqb-false}
use lib.Dec.{leb, ltb, eqb}
use lib.ListN.{length}
use lib.Pow.{pow_pos}
use Rattle.std.specs.Prelude.{Ok}
use Rattle.reader_line.specs.declared.Reading.{Reading}
use Rattle.bits.specs.Bits.{digits}
use Rattle.refusals.specs.Refusals.{when, short_of, answered, refuses}
use Rattle.refusals.proofs.Words.{first_none, kept_none, when_false, within as inside-range}
use Rattle.formats.specs.Formats.{line_bytes, format_of, format_refusal}
use Rattle.formats.proofs.Which.{is_known}
use Rattle.formats.specs.declared.Format.{Format}
use Rattle.scramble.specs.Register.{next_register}
use Rattle.scramble.specs.Sync.{fifteen_ones}
use Rattle.scramble.proofs.Steps.{next_lt}
use Rattle.scramble.specs.Wire.{plain_bit}
use Rattle.reader_bits.specs.Call.{Call, call}
use Rattle.reader_bits.specs.Lines.{is_tail}
use Rattle.reader_bits.specs.Phase.{Phase, seeking, within, phase_next, Bench}
use Rattle.reader_bits.specs.Loops.{step_of, done_of}
use Rattle.reader.specs.Read.{call_of, served_answer, served_left, read_answer, read_left}
use Rattle.reader_line.specs.Answers.{call_answer, call_left}
use Rattle.reader_refusals.specs.Refusing.{largest_setting, setting_refusal, read_refusal}
use Rattle.reader_record.specs.Records.{counts_of, possible_of, state_of}
use Rattle.reader_record.specs.declared.State.{State}
use Rattle.cuts.proofs.Calls.{Gives, gives_call}
use Rattle.bits.proofs.Push.{push_lt}
use Rattle.scramble.proofs.Wire.{plain_lt}
use Rattle.cuts.proofs.Stands.{buffer_length, after_line}

-- numbers that fit; and with the unread bits
abbrev pub Fit : Phase → Type 0
Fit (seeking c w) = (c < 64) × (w < 2 ^ c)
Fit (within p r q) = (p < 354848) × (r < 2 ^ 15) × (q < 2 ^ (p % 8))

abbrev pub Good : Phase → ℕ → ℕ → Type 0
Good (seeking c w) n v = (c < 64) × (w < 2 ^ c) × (n ≤ 7) × (v < 2 ^ n)
Good (within p r q) n v = (p < 354848) × (r < 2 ^ 15) × (q < 2 ^ (p % 8)) × (n ≡ 0) × (v ≡ 0)

fit_good : (f : Phase) → Fit f → Good f 0 0
fit_good (seeking c w) h = (h.0, h.1, zero-le, le_refl 1)
fit_good (within p r q) h = (h.0, h.1, h.2, refl, refl)

good_fit : (f : Phase) (n v : ℕ) → Good f n v → Fit f
good_fit (seeking c w) n v h = (h.0, h.1)
good_fit (within p r q) n v h = (h.0, h.1, h.2)

good_left : (f : Phase) (n v : ℕ) → Good f n v → n ≤ 8
good_left (seeking c w) n v h = omega (arith, h.2)
good_left (within p r q) n v h = omega (arith, h.3)

pub fresh_good : Good (seeking 0 0) 0 0
fresh_good = (zero-lt-suc 63, le_refl 1, zero-le, le_refl 1)

pub fit_next : (setting : ℕ) (f : Phase) (b : ℕ) → b < 2 → Fit f → Fit (phase_next 64 (is_tail setting) line_bytes f b)
unfolding phase_next
fit_next setting (seeking c w) b k h = go (ltb (suc c) 64) refl (is_tail setting (digits 64 (w * 2 + b)))
  where
    go : (x : Bool) → ltb (suc c) 64 ≡ x → (y : Bool)
        → Fit (cond x (seeking (suc c) (w * 2 + b)) (cond y (within 0 fifteen_ones 0) (seeking c ((w * 2 + b) % 2 ^ c))))
    go true e y = (ltb-true (suc c) 64 e, rw add-one at (push_lt c w b h.1 k))
    go false e true = (omega arith, omega arith, le_refl 1)
    go false e false = (h.0, mod-lt (w * 2 + b) (pow_pos c))
fit_next setting (within p r q) b k h = go (leb 354848 (suc p)) refl (eqb (p % 8) 7) refl
  where
    x : ℕ
    x = plain_bit p r b

    go : (s : Bool) → leb 354848 (suc p) ≡ s → (y : Bool) → eqb (p % 8) 7 ≡ y
        → Fit (cond s (seeking 0 0) (within (suc p) (next_register r) (cond y 0 (q * 2 + x))))
    go true e y g = (omega arith, le_refl 1)
    go false e true g = (leb-false 354848 (suc p) e, next_lt r, pow_pos (suc p % 8))
    go false e false g =
        let d = eqb-false (p % 8) 7 g in
        let d2 : p % 8 < 7 = omega (arith, mod-lt p (zero-lt-suc 7)) in
        let z : suc p % 8 ≡ p % 8 + 1 = omega arith in
        (leb-false 354848 (suc p) e, next_lt r, rw z (push_lt (p % 8) q x h.2 (plain_lt p r b)))

-- ---- what a call leaves, the next can be given

abbrev pub Inside : Bench → Type 0
Inside s = Fit s.0 × (44356 ≤ length s.1)

abbrev pub Left : Bench → ℕ → ℕ → Type 0
Left s n v = Good s.0 n v × (44356 ≤ length s.1)

room_next : (setting : ℕ) (s : Bench) (b : ℕ) → 44356 ≤ length s.1 → 44356 ≤ length (step_of setting s b).1
room_next setting s b h = rw (buffer_length s.0 s.1 b) h

pub inside_on : (setting : ℕ) (s : Bench) (b : ℕ) → b < 2 → done_of s b ≡ false → Inside s → Inside (step_of setting s b)
inside_on setting s b h e i = (fit_next setting s.0 b h i.0, room_next setting s b i.1)

pub inside_rest : (s : Bench) → Inside s → Left s 0 0
inside_rest s i = (fit_good s.0 i.0, i.1)

pub inside_stop : (setting : ℕ) (s : Bench) (b : ℕ) → b < 2 → done_of s b ≡ true → Inside s → (n v : ℕ) → n ≤ 7 → v < 2 ^ n → Left (step_of setting s b) n v
inside_stop setting s b h e i n v l w = (go (phase_next 64 (is_tail setting) line_bytes s.0 b) (after_line 64 (is_tail setting) line_bytes s.0 b e), room_next setting s b i.1)
  where
    go : (g : Phase) → g ≡ seeking 0 0 → Good g n v
    go g k = rw k (zero-lt-suc 63, le_refl 1, l, w)

abbrev pub LeftBy : ℕ → Call Bench → Type 0
LeftBy setting c = Gives (step_of setting) done_of Inside Left Left (inside_on setting) inside_rest (inside_stop setting) c

pub left_call : (setting : ℕ) (p : List ℕ) (g : Phase) (buf : List ℕ) (n v : ℕ) → Good g n v → 44356 ≤ length buf → LeftBy setting (call (step_of setting) done_of (g, buf) n v p)
left_call setting p g buf n v h m =
    gives_call (step_of setting) done_of Inside Left Left (inside_on setting) inside_rest (inside_stop setting) p (g, buf) n v (good_left g n v h) (good_fit g n v h, m) (h, m)

-- ---- such a record is not refused

pub good_possible : (g : Phase) (n v : ℕ) → Good g n v → possible_of (state_of g n v) ≡ true
unfolding possible_of counts_of
good_possible (seeking c w) n v h =
    rw (le-leb c 63 (omega (arith, h.0)), le-leb n 7 h.2, lt-ltb w (2 ^ c) h.1, lt-ltb v (2 ^ n) h.3)
good_possible (within p r q) n v h =
    rw (le-leb p 354847 (omega (arith, h.0)), le-leb r 32767 (omega (arith, h.1)), eq-eqb (p % 8) (p % 8) refl, lt-ltb q (2 ^ (p % 8)) h.2)

-- the public call is the call on the bits
same_call : (setting : ℕ) (g : Phase) (n v : ℕ) (p buf : List ℕ) → Good g n v → call_of setting (state_of g n v) p buf ≡ call (step_of setting) done_of (g, buf) n v p
unfolding call_of
same_call setting (seeking c w) n v p buf h = refl
same_call setting (within pl r q) n v p buf h = ap₂ (λ (x y : ℕ). call (step_of setting) done_of (within pl r q, buf) x y p) (sym h.3) (sym h.4)

served_answers : (setting : ℕ) (g : Phase) (n v : ℕ) (p buf : List ℕ) → Good g n v → served_answer setting (state_of g n v) p buf ≡ call_answer (call (step_of setting) done_of (g, buf) n v p)
unfolding served_answer
served_answers setting g n v [] buf h = refl
served_answers setting g n v (y ∷ ys) buf h = rw (ne_eqb (suc (length ys)) 0 (omega arith)) (ap call_answer (same_call setting g n v (y ∷ ys) buf h))

served_buffers : (setting : ℕ) (g : Phase) (n v : ℕ) (p buf : List ℕ) → Good g n v → served_left setting (state_of g n v) p buf ≡ call_left (call (step_of setting) done_of (g, buf) n v p)
unfolding served_left
served_buffers setting g n v [] buf h = refl
served_buffers setting g n v (y ∷ ys) buf h = rw (ne_eqb (suc (length ys)) 0 (omega arith)) (ap call_left (same_call setting g n v (y ∷ ys) buf h))

module _ (f : ℕ) (k : Format) (ok : format_of f ≡ Ok k) (setting : ℕ) (small : setting ≤ largest_setting) where
  not_refused : (s : State) (given : ℕ) → possible_of s ≡ true → 44356 ≤ given → read_refusal f setting s given ≡ 0
  unfolding read_refusal short_of
  not_refused s given h m =
      first_none (format_refusal f) _ (is_known f k ok)
      ∙ first_none (setting_refusal setting) _ (inside-range 0 largest_setting setting 13 zero-le small)
      ∙ first_none (when (not (possible_of s)) 12) _ (when_false (not (possible_of s)) 12 (ap not h))
      ∙ when_false (ltb given line_bytes) 2 (le-ltb given line_bytes m)

  pub answers : (g : Phase) (n v : ℕ) (p buf : List ℕ) → Good g n v → 44356 ≤ length buf
      → read_answer f setting (state_of g n v) p buf ≡ Ok (call_answer (call (step_of setting) done_of (g, buf) n v p))
  unfolding read_answer answered
  answers g n v p buf h m =
      ap₂ (λ (r : ℕ) (x : Reading). answered refuses r (Ok x)) (not_refused (state_of g n v) (length buf) (good_possible g n v h) m) (served_answers setting g n v p buf h)

  pub buffers : (g : Phase) (n v : ℕ) (p buf : List ℕ) → Good g n v → 44356 ≤ length buf
      → read_left f setting (state_of g n v) p buf ≡ call_left (call (step_of setting) done_of (g, buf) n v p)
  unfolding read_left
  buffers g n v p buf h m =
      kept_none _ buf _ (not_refused (state_of g n v) (length buf) (good_possible g n v h) m) ∙ served_buffers setting g n v p buf h
