-- DEMAND 3, of what the public call promises: called as the paper says, it hands out the lines of the plain definition.
-- Assumes nothing.
use mathlib.Core.List.{List, ◌∷◌}
use mathlib.Core.Logic.{◌↔◌}
use mathlib.Core.Path.{◌≡◌, refl, sym, ap, ◌∙◌, subst}
use Prim.Native.Nat.{ℕ, zero, suc, ◌≤◌, ◌<◌}
use native.Mathlib.Nat.{zero-lt-suc}
use native.Mathlib.Omega.{arith}
use lib.ListN.{length, take, drop}
use Rattle.std.specs.Prelude.{Result, Ok}
use Rattle.refusals.specs.declared.Refusal.{Refusal}
use Rattle.reader_line.specs.declared.Reading.{Reading}
use Rattle.bits.specs.Bits.{in_arow, bits_of}
use Rattle.formats.specs.Formats.{line_bytes, format_of}
use Rattle.formats.specs.declared.Format.{Format}
use Rattle.reader_bits.specs.Call.{Call, more, whole, call}
use Rattle.cuts.specs.Driven as driven
use Rattle.cuts.specs.Driven.{lent_for, one_buffer, line_in, Driven}
use Rattle.reader_bits.specs.Lines.{is_tail, lines, recorded}
use Rattle.reader_bits.specs.Phase.{Phase, seeking, within, Bench}
use Rattle.reader_bits.specs.Loops.{step_of, done_of}
use Rattle.reader.specs.Read.{read_answer, read_left}
use Rattle.reader_line.specs.Answers.{call_answer, call_left}
use Rattle.reader_refusals.specs.Refusing.{largest_setting}
use Rattle.reader_record.specs.Records.{fresh_state, state_of}
use Rattle.reader_record.specs.declared.State.{State}
use Rattle.reader_line.specs.declared.Reading.TheVariants.{More, Line}
use Rattle.cuts.proofs.Cuts as cuts
use Rattle.cuts.proofs.Reached.{Good, LeftBy, fresh_good, left_call, answers, buffers}
use Rattle.cuts.proofs.Simulates as simulates
use Rattle.cuts.proofs.Simulates.{lent_to, swap, room_lent, reads_lines}

pub some_window : zero < 64
some_window = zero-lt-suc 63

pub some_bytes : zero < line_bytes
some_bytes = zero-lt-suc 44355

lent_same : (lend : ℕ → List ℕ → List ℕ) (k : ℕ) (g : Phase) (n v : ℕ) (buf : List ℕ) → lent_for lend k (state_of g n v) buf ≡ lent_to lend k g buf
lent_same lend k (seeking c w) n v buf = refl
lent_same lend k (within p r q) n v buf = refl

module _ (f : ℕ) (format : Format) (ok : format_of f ≡ Ok format) (setting : ℕ) (small : setting ≤ largest_setting)
    (lend : ℕ → List ℕ → List ℕ) (long : (k : ℕ) (buf : List ℕ) → 44356 ≤ length buf → 44356 ≤ length (lend k buf)) where
  abbrev Reads : ℕ → Bench → ℕ → ℕ → List (List ℕ) → List (List ℕ) → Type 0
  Reads k s n v ps ls = cuts.Reads (step_of setting) done_of (simulates.line_in line_bytes) (swap lend) k s n v ps ls

  pub room : (k : ℕ) (g : Phase) (buf : List ℕ) → 44356 ≤ length buf → 44356 ≤ length (lent_to lend k g buf)
  room k g buf m = room_lent 64 (is_tail setting) line_bytes some_window some_bytes lend long k g buf m

  -- the public call with the buffer that is lent to it
  pub answer_lent : (k : ℕ) (g : Phase) (n v : ℕ) (p buf : List ℕ) → Good g n v → 44356 ≤ length buf
      → read_answer f setting (state_of g n v) p (lent_for lend k (state_of g n v) buf) ≡ Ok (call_answer (call (step_of setting) done_of (g, lent_to lend k g buf) n v p))
  answer_lent k g n v p buf h m =
      ap (λ (x : List ℕ). read_answer f setting (state_of g n v) p x) (lent_same lend k g n v buf)
      ∙ answers f format ok setting small g n v p (lent_to lend k g buf) h (room k g buf m)

  pub buffer_lent : (k : ℕ) (g : Phase) (n v : ℕ) (p buf : List ℕ) → Good g n v → 44356 ≤ length buf
      → read_left f setting (state_of g n v) p (lent_for lend k (state_of g n v) buf) ≡ call_left (call (step_of setting) done_of (g, lent_to lend k g buf) n v p)
  buffer_lent k g n v p buf h m =
      ap (λ (x : List ℕ). read_left f setting (state_of g n v) p x) (lent_same lend k g n v buf)
      ∙ buffers f format ok setting small g n v p (lent_to lend k g buf) h (room k g buf m)

  from_reads : {k : ℕ} {s : Bench} {n v : ℕ} {ps ls : List (List ℕ)} → Reads k s n v ps ls → Good s.0 n v → 44356 ≤ length s.1
      → Driven f setting lend k (state_of s.0 n v) s.1 ps ls
  from_reads cuts.Reads.end g m = driven.Driven.end
  from_reads (cuts.Reads.used r) g m = driven.Driven.used (from_reads r g m)
  from_reads {k} {s} {n} {v} (cuts.Reads.on {p = p} {ps = ps} {ls = ls} {t = t} {s' = s'} {n' = n'} {v' = v'} e r) g m =
      let l : LeftBy setting (more t s' n' v') = subst (LeftBy setting) e (left_call setting p s.0 (lent_to lend k s.0 s.1) n v g (room k s.0 s.1 m)) in
      driven.Driven.on (answer_lent k s.0 n v p s.1 g m ∙ ap (λ (c : Call Bench). Ok (call_answer c)) e)
      (subst (λ (x : List ℕ). Driven f setting lend (suc k) (state_of s'.0 n' v') x (drop t p ∷ ps) ls) (sym (buffer_lent k s.0 n v p s.1 g m ∙ ap call_left e))
      (from_reads r l.0 l.1))
  from_reads {k} {s} {n} {v} (cuts.Reads.got {p = p} {ps = ps} {ls = ls} {t = t} {s' = s'} {n' = n'} {v' = v'} e r) g m =
      let l : LeftBy setting (whole t s' n' v') = subst (LeftBy setting) e (left_call setting p s.0 (lent_to lend k s.0 s.1) n v g (room k s.0 s.1 m)) in
      let st : State = state_of s.0 n v in
      let q : s'.1 ≡ read_left f setting st p (lent_for lend k st s.1) = sym (buffer_lent k s.0 n v p s.1 g m ∙ ap call_left e) in
      let a : read_answer f setting st p (lent_for lend k st s.1) ≡ Ok (Line t (state_of s'.0 n' v')) = answer_lent k s.0 n v p s.1 g m ∙ ap (λ (c : Call Bench). Ok (call_answer c)) e in
      subst (λ (x : List ℕ). Driven f setting lend k st s.1 (p ∷ ps) (x ∷ ls)) (line_at q)
      (driven.Driven.got a (subst (λ (x : List ℕ). Driven f setting lend (suc k) (state_of s'.0 n' v') x (drop t p ∷ ps) ls) q (from_reads r l.0 l.1)))
    where
      line_at : {x y : List ℕ} → x ≡ y → line_in y ≡ bits_of (take line_bytes x)
      line_at q = unfold line_in in ap (λ (z : List ℕ). bits_of (take line_bytes z)) (sym q)

  to_reads : {k : ℕ} {s : State} {buf : List ℕ} {ps ls : List (List ℕ)} → Driven f setting lend k s buf ps ls
      → (g : Phase) (n v : ℕ) → s ≡ state_of g n v → Good g n v → 44356 ≤ length buf → Reads k (g, buf) n v ps ls
  to_reads driven.Driven.end g n v i h m = cuts.Reads.end
  to_reads (driven.Driven.used r) g n v i h m = cuts.Reads.used (to_reads r g n v i h m)
  to_reads {k} {s} {buf} (driven.Driven.on {p = p} {ps = ps} {ls = ls} {t = t} {s' = s'} e r) g n v i h m =
      go (call (step_of setting) done_of (g, lent_to lend k g buf) n v p) refl (left_call setting p g (lent_to lend k g buf) n v h (room k g buf m))
      (sym (answer_lent k g n v p buf h m) ∙ ap (λ (x : State). read_answer f setting x p (lent_for lend k x buf)) (sym i) ∙ e)
      (ap (λ (x : State). read_left f setting x p (lent_for lend k x buf)) i ∙ buffer_lent k g n v p buf h m)
      (λ g' n' v' i' h' m'. to_reads r g' n' v' i' h' m')
    where
      after : List ℕ
      after = read_left f setting s p (lent_for lend k s buf)

      go : (c : Call Bench) → call (step_of setting) done_of (g, lent_to lend k g buf) n v p ≡ c → LeftBy setting c → ◌≡◌ {A = Result Reading Refusal} (Ok (call_answer c)) (Ok (More t s')) → after ≡ call_left c
          → ((g' : Phase) (n' v' : ℕ) → s' ≡ state_of g' n' v' → Good g' n' v' → 44356 ≤ length after → Reads (suc k) (g', after) n' v' (drop t p ∷ ps) ls)
          → Reads k (g, buf) n v (p ∷ ps) ls
      go (more t' b n' v') d q a w j =
          let z : t ≡ t' = cc in
          let st : s' ≡ state_of b.0 n' v' = cc in
          cuts.Reads.on d (rw z at (subst (λ (x : List ℕ). Reads (suc k) (b.0, x) n' v' (drop t p ∷ ps) ls) w (j b.0 n' v' st q.0 (rw w q.1))))
      go (whole t' b n' v') d q a w j = let z : ◌≡◌ {A = ℕ} 0 1 = cc in absurd (omega arith)
  to_reads {k} {s} {buf} (driven.Driven.got {p = p} {ps = ps} {ls = ls} {t = t} {s' = s'} e r) g n v i h m =
      go (call (step_of setting) done_of (g, lent_to lend k g buf) n v p) refl (left_call setting p g (lent_to lend k g buf) n v h (room k g buf m))
      (sym (answer_lent k g n v p buf h m) ∙ ap (λ (x : State). read_answer f setting x p (lent_for lend k x buf)) (sym i) ∙ e)
      (ap (λ (x : State). read_left f setting x p (lent_for lend k x buf)) i ∙ buffer_lent k g n v p buf h m)
      (λ g' n' v' i' h' m'. to_reads r g' n' v' i' h' m')
    where
      after : List ℕ
      after = read_left f setting s p (lent_for lend k s buf)

      line_at : (b : List ℕ) → after ≡ b → bits_of (take line_bytes b) ≡ line_in after
      line_at b q = unfold line_in in ap (λ (z : List ℕ). bits_of (take line_bytes z)) (sym q)

      go : (c : Call Bench) → call (step_of setting) done_of (g, lent_to lend k g buf) n v p ≡ c → LeftBy setting c → ◌≡◌ {A = Result Reading Refusal} (Ok (call_answer c)) (Ok (Line t s')) → after ≡ call_left c
          → ((g' : Phase) (n' v' : ℕ) → s' ≡ state_of g' n' v' → Good g' n' v' → 44356 ≤ length after → Reads (suc k) (g', after) n' v' (drop t p ∷ ps) ls)
          → Reads k (g, buf) n v (p ∷ ps) (line_in after ∷ ls)
      go (more t' b n' v') d q a w j = let z : ◌≡◌ {A = ℕ} 0 1 = cc in absurd (omega arith)
      go (whole t' b n' v') d q a w j =
          let z : t ≡ t' = cc in
          let st : s' ≡ state_of b.0 n' v' = cc in
          subst (λ (x : List ℕ). Reads k (g, buf) n v (p ∷ ps) (x ∷ ls)) (line_at b.1 w)
          (cuts.Reads.got d (rw z at (subst (λ (x : List ℕ). Reads (suc k) (b.0, x) n' v' (drop t p ∷ ps) ls) w (j b.0 n' v' st q.0 (rw w q.1)))))

  -- DEMAND 3. A fresh reader on one format at one setting and a full-size buffer, exchanged between lines for any other full-size one as the
  -- caller likes; each call given the record that the last one left, each unread rest offered again. However the recording
  -- is cut into pieces, the lines handed out are exactly those of the plain definition in the uncut recording, in that
  -- order, an unfinished last one never
  pub demand_3 : (buf : List ℕ) → 44356 ≤ length buf → (ps ls : List (List ℕ)) → Driven f setting lend 0 fresh_state buf ps ls ↔ (ls ≡ recorded setting (in_arow ps))
  unfolding recorded lines
  demand_3 buf m ps ls =
      let i = reads_lines 64 (is_tail setting) line_bytes some_window some_bytes lend long buf m ps ls in (
        λ d. i.0 (to_reads d (seeking 0 0) 0 0 refl fresh_good m),
        λ e. from_reads (i.1 e) fresh_good m,
      )

  -- THE CALLS END: for every cut there is such a run, to the end of the last piece
  pub driven_ends : (buf : List ℕ) → 44356 ≤ length buf → (ps : List (List ℕ)) → Driven f setting lend 0 fresh_state buf ps (recorded setting (in_arow ps))
  driven_ends buf m ps = (demand_3 buf m ps (recorded setting (in_arow ps))).1 refl

-- the same with one buffer in all calls
pub demand_3_one : (f : ℕ) (format : Format) → format_of f ≡ Ok format → (setting : ℕ) → setting ≤ largest_setting → (buf : List ℕ) → 44356 ≤ length buf → (ps ls : List (List ℕ))
    → Driven f setting one_buffer 0 fresh_state buf ps ls ↔ (ls ≡ recorded setting (in_arow ps))
demand_3_one f format ok setting small buf m ps ls = demand_3 f format ok setting small one_buffer (λ k b h. h) buf m ps ls

-- and with another buffer for each call that finds the reader between lines
pub demand_3_others : (f : ℕ) (format : Format) → format_of f ≡ Ok format → (setting : ℕ) → setting ≤ largest_setting → (bufs : ℕ → List ℕ) → ((k : ℕ) → 44356 ≤ length (bufs k))
    → (buf : List ℕ) → 44356 ≤ length buf → (ps ls : List (List ℕ))
    → Driven f setting (λ k b. bufs k) 0 fresh_state buf ps ls ↔ (ls ≡ recorded setting (in_arow ps))
demand_3_others f format ok setting small bufs h buf m ps ls = demand_3 f format ok setting small (λ k b. bufs k) (λ k b l. h k) buf m ps ls
