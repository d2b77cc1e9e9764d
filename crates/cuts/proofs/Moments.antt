-- D. AT EVERY MOMENT the lines handed out are the lines of the bits read so far, all of the bytes taken but the unread
-- ones: the bytes taken are the advance in the recording. A line is handed out right at its last bit. Assumes nothing.
use mathlib.Core.List.{List, [], ◌∷◌, ◌++◌, append_assoc, append-nil}
use mathlib.Core.Path.{◌≡◌, refl, sym, ap, ap₂, ◌∙◌, subst}
use Prim.Native.Nat.{ℕ, ◌-◌, ◌*◌, ◌≤◌}
use native.Mathlib.Nat.{zero-lt-suc}
use native.Mathlib.Omega.{arith}
use lib.ListN.{length, take, drop, length-append, take-append-drop}
use lib.Seq.{take_at}
use Rattle.std.specs.Prelude.{Result, Ok}
use Rattle.refusals.specs.declared.Refusal.{Refusal}
use Rattle.reader_line.specs.declared.Reading.{Reading}
use Rattle.bits.specs.Bits.{digits, bits_of, Below}
use Rattle.bits.proofs.Below.{below_append, below_take, below_head, below_rest}
use Rattle.bits.proofs.Bytes.{bits_append, bits_below, length_bits, no_bits}
use Rattle.bits.proofs.Digits.{length_digits, digits_below, no_digits}
use Rattle.formats.specs.Formats.{information_bits, line_bytes, format_of}
use Rattle.formats.specs.declared.Format.{Format}
use Rattle.wire.specs.Parts.{line_of}
use Rattle.reader_bits.specs.Call.{Call, more, whole, call}
use Rattle.cuts.specs.Driven as driven
use Rattle.cuts.specs.Driven.{lent_for, line_in, Moment, bits_read}
use Rattle.reader_bits.specs.Lines.{is_tail, lines, recorded}
use Rattle.reader_bits.specs.Phase.{Phase, seeking, within, Bench}
use Rattle.reader_bits.specs.Loops.{step_of, done_of}
use Rattle.reader.specs.Read.{read_answer, read_left}
use Rattle.reader_line.specs.Answers.{call_answer, call_left}
use Rattle.reader_refusals.specs.Refusing.{largest_setting}
use Rattle.reader_record.specs.Records.{state_of}
use Rattle.reader_record.specs.declared.State.{State}
use Rattle.reader_line.specs.declared.Reading.TheVariants.{More, Line}
use Rattle.cuts.proofs.Auto as auto
use Rattle.cuts.proofs.Auto.{Auto, seek}
use Rattle.cuts.proofs.Calls.{outs, after}
use Rattle.cuts.proofs.Demand.{some_window, some_bytes, room, answer_lent, buffer_lent}
use Rattle.cuts.proofs.Keeps.{refused_stays}
use Rattle.cuts.proofs.Onward.{OnwardBy, onward_call}
use Rattle.cuts.proofs.Reached.{Good, LeftBy, fresh_good, left_call}
use Rattle.cuts.proofs.Simulates as simulates
use Rattle.cuts.proofs.Simulates.{lent_to, StandsFor, outs_found, stands_lent, seeking_quiet}
use Rattle.cuts.proofs.Stands.{buffer_length, fresh_search, stands_next}

-- ---- lists

append_cancel : (xs ys zs : List ℕ) → xs ++ zs ≡ ys ++ zs → xs ≡ ys
append_cancel xs ys zs e =
    let a = length-append xs zs in
    let b = length-append ys zs in
    let c = ap length e in
    let l : length ys ≡ length xs = omega arith in
    sym (take_at xs zs (length xs) refl) ∙ ap (take (length xs)) e ∙ take_at ys zs (length xs) l

-- the bytes that a call takes, as bits: those that it read, with those unread before and after
taken_bits : (n v : ℕ) (p ys : List ℕ) (t n' v' : ℕ) → digits n v ++ bits_of p ≡ ys ++ (digits n' v' ++ bits_of (drop t p))
    → digits n v ++ bits_of (take t p) ≡ ys ++ digits n' v'
taken_bits n v p ys t n' v' e =
    append_cancel (digits n v ++ bits_of (take t p)) (ys ++ digits n' v') (bits_of (drop t p))
    (append_assoc (digits n v) (bits_of (take t p)) (bits_of (drop t p))
    ∙ ap (λ (l : List ℕ). digits n v ++ l) (sym (bits_append (take t p) (drop t p)) ∙ ap bits_of (take-append-drop t p))
    ∙ e
    ∙ sym (append_assoc ys (digits n' v') (bits_of (drop t p))))

split_next : (bytes p xs ys : List ℕ) (t n v n' v' : ℕ) → bits_of bytes ≡ xs ++ digits n v
    → digits n v ++ bits_of p ≡ ys ++ (digits n' v' ++ bits_of (drop t p))
    → bits_of (bytes ++ take t p) ≡ (xs ++ ys) ++ digits n' v'
split_next bytes p xs ys t n v n' v' e h =
    bits_append bytes (take t p)
    ∙ ap (λ (l : List ℕ). l ++ bits_of (take t p)) e
    ∙ append_assoc xs (digits n v) (bits_of (take t p))
    ∙ ap (λ (l : List ℕ). xs ++ l) (taken_bits n v p ys t n' v' h)
    ∙ sym (append_assoc xs ys (digits n' v'))

-- bits read are bits
read_below : (n v : ℕ) (p ys zs : List ℕ) → digits n v ++ bits_of p ≡ ys ++ zs → Below 2 ys
read_below n v p ys zs e =
    subst (λ (l : List ℕ). Below 2 l) (take_at ys zs (length ys) refl)
    (below_take 2 (length ys) (ys ++ zs) (subst (λ (l : List ℕ). Below 2 l) e (below_append 2 (digits n v) (bits_of p) (digits_below n v) (bits_below p))))

left_same : (g : Phase) (n v : ℕ) → Good g n v → (state_of g n v).unread_count ≡ n
left_same (seeking c w) n v h = refl
left_same (within p r q) n v h = sym h.3

-- ---- the reader of document 01 at a setting, against its automaton

module _ (setting : ℕ) where
  abbrev found : Auto → List ℕ → List (List ℕ)
  found q bs = auto.found 64 (is_tail setting) information_bits line_of q bs

  abbrev run_a : Auto → List ℕ → Auto
  run_a q bs = auto.run_a 64 (is_tail setting) information_bits line_of q bs

  abbrev StandsNow : Bench → Auto → Type 0
  StandsNow s q = StandsFor 64 (is_tail setting) line_bytes some_window some_bytes s q

  abbrev outs_now : Bench → List ℕ → List (List ℕ)
  outs_now s bs = outs (step_of setting) done_of (simulates.line_in line_bytes) s bs

  abbrev after_now : Bench → List ℕ → Bench
  after_now s bs = after (step_of setting) done_of (simulates.line_in line_bytes) s bs

  run-append : (xs ys : List ℕ) (q : Auto) → run_a q (xs ++ ys) ≡ run_a (run_a q xs) ys
  run-append [] ys q = refl
  run-append (x ∷ xs) ys q = run-append xs ys (auto.step_a 64 (is_tail setting) information_bits line_of q x)

  stands_after : (bs : List ℕ) (s : Bench) (q : Auto) → Below 2 bs → 44356 ≤ length s.1 → StandsNow s q → StandsNow (after_now s bs) (run_a q bs)
  stands_after [] s q i m h = h
  stands_after (b ∷ bs) s q i m h =
      stands_after bs (step_of setting s b) (auto.step_a 64 (is_tail setting) information_bits line_of q b) (below_rest 2 b bs i) (rw (buffer_length s.0 s.1 b) m)
      (stands_next 64 (is_tail setting) line_bytes some_window some_bytes s.0 s.1 q b (below_head 2 b bs i) m h)

  -- ---- what holds at a moment

  record Holds (s : State) (buf bytes : List ℕ) (ls : List (List ℕ)) : Type 0 where
    phase : Phase
    left : ℕ
    unread : ℕ
    same : s ≡ state_of phase left unread
    good : Good phase left unread
    long : 44356 ≤ length buf
    xs : List ℕ
    split : bits_of bytes ≡ xs ++ digits left unread
    stands : StandsNow (phase, buf) (run_a (seek []) xs)
    lines_so : ls ≡ found (seek []) xs

  -- unread bits complete nothing: between lines they are too few, in a line there are none
  quiet : (g : Phase) (buf : List ℕ) (n v : ℕ) → Good g n v → outs_now (g, buf) (digits n v) ≡ []
  quiet (seeking c w) buf n v h = seeking_quiet 64 (is_tail setting) line_bytes some_window some_bytes c w buf n v h.2
  quiet (within p r q) buf n v h = rw (h.3, no_digits v)

module _ (f : ℕ) (format : Format) (ok : format_of f ≡ Ok format) (setting : ℕ) (small : setting ≤ largest_setting)
    (lend : ℕ → List ℕ → List ℕ) (long : (k : ℕ) (buf : List ℕ) → 44356 ≤ length buf → 44356 ≤ length (lend k buf)) where
  -- from a moment over the bits ys
  go_on : (s : State) (buf bytes : List ℕ) (ls : List (List ℕ)) (h : Holds setting s buf bytes ls) (k : ℕ) (p ys : List ℕ) (t n' v' : ℕ) (b : Bench) (s' : State) (after' : List ℕ) (o : List (List ℕ))
      → digits h.left h.unread ++ bits_of p ≡ ys ++ (digits n' v' ++ bits_of (drop t p))
      → b ≡ after_now setting (h.phase, lent_to lend k h.phase buf) ys
      → outs_now setting (h.phase, lent_to lend k h.phase buf) ys ≡ o
      → s' ≡ state_of b.0 n' v' → Good b.0 n' v' → 44356 ≤ length b.1 → after' ≡ b.1
      → Holds setting s' after' (bytes ++ take t p) (ls ++ o)
  go_on s buf bytes ls h k p ys t n' v' b s' after' o e g q st gd m w =
      let r = room f format ok setting small lend long k h.phase buf h.long in
      let lent : StandsNow setting (h.phase, lent_to lend k h.phase buf) (run_a setting (seek []) h.xs) =
      stands_lent 64 (is_tail setting) line_bytes some_window some_bytes lend long k h.phase buf (run_a setting (seek []) h.xs) h.stands in
      let below = read_below h.left h.unread p ys (digits n' v' ++ bits_of (drop t p)) e in
      let moved : StandsNow setting b (run_a setting (seek []) (h.xs ++ ys)) =
      rw (g, run-append setting h.xs ys (seek [])) (stands_after setting ys (h.phase, lent_to lend k h.phase buf) (run_a setting (seek []) h.xs) below r lent) in
      record {
        phase = b.0;
        left = n';
        unread = v';
        same = st;
        good = gd;
        long = rw w m;
        xs = h.xs ++ ys;
        split = split_next bytes p h.xs ys t h.left h.unread n' v' h.split e;
        stands = subst (λ (x : List ℕ). StandsNow setting (b.0, x) (run_a setting (seek []) (h.xs ++ ys))) (sym w) moved;
        lines_so = ap₂ (λ (x y : List (List ℕ)). x ++ y) h.lines_so
            (sym q ∙ outs_found 64 (is_tail setting) line_bytes some_window some_bytes ys h.phase (lent_to lend k h.phase buf) (run_a setting (seek []) h.xs) below r lent)
            ∙ sym (auto.found_append 64 (is_tail setting) information_bits line_of (seek []) h.xs ys);
      }

  abbrev lent_now : ℕ → Phase → List ℕ → Bench
  lent_now k g buf = (g, lent_to lend k g buf)

  -- the call of a moment, on the bits
  module _ (s : State) (buf bytes : List ℕ) (ls : List (List ℕ)) (h : Holds setting s buf bytes ls) (k : ℕ) (p : List ℕ) where
    abbrev c : Call Bench
    c = call (step_of setting) done_of (lent_now k h.phase buf) h.left h.unread p

    answer_at : (a : Reading) → read_answer f setting s p (lent_for lend k s buf) ≡ Ok a → call_answer c ≡ a
    answer_at a e =
        let same : ◌≡◌ {A = Result Reading Refusal} (Ok (call_answer c)) (Ok a) =
        sym (answer_lent f format ok setting small lend long k h.phase h.left h.unread p buf h.good h.long)
        ∙ ap (λ (x : State). read_answer f setting x p (lent_for lend k x buf)) (sym h.same)
        ∙ e in
        cc

    buffer_at : read_left f setting s p (lent_for lend k s buf) ≡ call_left c
    buffer_at =
        ap (λ (x : State). read_left f setting x p (lent_for lend k x buf)) h.same
        ∙ buffer_lent f format ok setting small lend long k h.phase h.left h.unread p buf h.good h.long

    left_at : LeftBy setting c
    left_at = left_call setting p h.phase (lent_to lend k h.phase buf) h.left h.unread h.good (room f format ok setting small lend long k h.phase buf h.long)

    onward_at : OnwardBy (step_of setting) done_of (simulates.line_in line_bytes) (lent_now k h.phase buf) (digits h.left h.unread ++ bits_of p) p c
    onward_at = onward_call (step_of setting) done_of (simulates.line_in line_bytes) (lent_now k h.phase buf) h.left h.unread p

    holds_on : (t : ℕ) (s' : State) → read_answer f setting s p (lent_for lend k s buf) ≡ Ok (More t s')
        → Holds setting s' (read_left f setting s p (lent_for lend k s buf)) (bytes ++ take t p) ls
    holds_on t s' e = go c left_at onward_at (answer_at (More t s') e) buffer_at
      where
        go : (c : Call Bench) → LeftBy setting c → OnwardBy (step_of setting) done_of (simulates.line_in line_bytes) (lent_now k h.phase buf) (digits h.left h.unread ++ bits_of p) p c
            → call_answer c ≡ More t s' → read_left f setting s p (lent_for lend k s buf) ≡ call_left c
            → Holds setting s' (read_left f setting s p (lent_for lend k s buf)) (bytes ++ take t p) ls
        go (more t' b n' v') l o a w =
            let z : t' ≡ t = cc in
            let st : s' ≡ state_of b.0 n' v' = cc in
            subst (λ (x : List (List ℕ)). Holds setting s' (read_left f setting s p (lent_for lend k s buf)) (bytes ++ take t p) x) (append-nil ls)
            (go_on s buf bytes ls h k p o.bits t n' v' b s' (read_left f setting s p (lent_for lend k s buf)) []
            (rw z at o.split) o.goes o.quiet st l.0 l.1 w)
        go (whole t' b n' v') l o a w = let z : ◌≡◌ {A = ℕ} 0 1 = cc in absurd (omega arith)

    holds_got : (t : ℕ) (s' : State) → read_answer f setting s p (lent_for lend k s buf) ≡ Ok (Line t s')
        → Holds setting s' (read_left f setting s p (lent_for lend k s buf)) (bytes ++ take t p) (ls ++ (line_in (read_left f setting s p (lent_for lend k s buf)) ∷ []))
    unfolding line_in
    holds_got t s' e = go c left_at onward_at (answer_at (Line t s') e) buffer_at
      where
        go : (c : Call Bench) → LeftBy setting c → OnwardBy (step_of setting) done_of (simulates.line_in line_bytes) (lent_now k h.phase buf) (digits h.left h.unread ++ bits_of p) p c
            → call_answer c ≡ Line t s' → read_left f setting s p (lent_for lend k s buf) ≡ call_left c
            → Holds setting s' (read_left f setting s p (lent_for lend k s buf)) (bytes ++ take t p) (ls ++ (bits_of (take line_bytes (read_left f setting s p (lent_for lend k s buf))) ∷ []))
        go (more t' b n' v') l o a w = let z : ◌≡◌ {A = ℕ} 0 1 = cc in absurd (omega arith)
        go (whole t' b n' v') l o a w =
            let z : t' ≡ t = cc in
            let st : s' ≡ state_of b.0 n' v' = cc in
            go_on s buf bytes ls h k p (o.bits ++ (o.last ∷ [])) t n' v' b s' (read_left f setting s p (lent_for lend k s buf))
            (bits_of (take line_bytes (read_left f setting s p (lent_for lend k s buf))) ∷ [])
            (rw z at o.split) o.goes (o.brings ∙ ap (λ (x : List ℕ). bits_of (take line_bytes x) ∷ []) (sym w)) st l.0 l.1 w

    -- without its last bit the line is not there yet
    before_last : (t : ℕ) (s' : State) → read_answer f setting s p (lent_for lend k s buf) ≡ Ok (Line t s')
        → lines setting (take (8 * length (bytes ++ take t p) - s'.unread_count - 1) (bits_of (bytes ++ take t p))) ≡ ls
    unfolding lines
    before_last t s' e = go c left_at onward_at (answer_at (Line t s') e)
      where
        start : Bench
        start = lent_now k h.phase buf

        go : (c : Call Bench) → LeftBy setting c → OnwardBy (step_of setting) done_of (simulates.line_in line_bytes) (lent_now k h.phase buf) (digits h.left h.unread ++ bits_of p) p c
            → call_answer c ≡ Line t s'
            → lines setting (take (8 * length (bytes ++ take t p) - s'.unread_count - 1) (bits_of (bytes ++ take t p))) ≡ ls
        go (more t' b n' v') l o a = let z : ◌≡◌ {A = ℕ} 0 1 = cc in absurd (omega arith)
        go (whole t' b n' v') l o a =
            let z : t' ≡ t = cc in
            let st : s' ≡ state_of b.0 n' v' = cc in
            let u : s'.unread_count ≡ n' = ap (λ (x : State). x.unread_count) st ∙ left_same b.0 n' v' l.0 in
            let ys : List ℕ = h.xs ++ o.bits in
            let r = room f format ok setting small lend long k h.phase buf h.long in
            let lent : StandsNow setting start (run_a setting (seek []) h.xs) =
            stands_lent 64 (is_tail setting) line_bytes some_window some_bytes lend long k h.phase buf (run_a setting (seek []) h.xs) h.stands in
            let cut : digits h.left h.unread ++ bits_of p ≡ (o.bits ++ (o.last ∷ [])) ++ (digits n' v' ++ bits_of (drop t p)) = rw z at o.split in
            let below = read_below h.left h.unread p o.bits ((o.last ∷ []) ++ (digits n' v' ++ bits_of (drop t p)))
            (cut ∙ append_assoc o.bits (o.last ∷ []) (digits n' v' ++ bits_of (drop t p))) in
            let all : bits_of (bytes ++ take t p) ≡ ys ++ (o.last ∷ digits n' v') =
            split_next bytes p h.xs (o.bits ++ (o.last ∷ [])) t h.left h.unread n' v' h.split cut
            ∙ ap (λ (x : List ℕ). x ++ digits n' v') (sym (append_assoc h.xs o.bits (o.last ∷ [])))
            ∙ append_assoc ys (o.last ∷ []) (digits n' v') in
            let m : length ys ≡ 8 * length (bytes ++ take t p) - s'.unread_count - 1 =
            omega (arith, length_bits (bytes ++ take t p), ap length all, length-append ys (o.last ∷ digits n' v'), length_digits n' v') in
            ap (λ (x : List ℕ). lines setting (take (8 * length (bytes ++ take t p) - s'.unread_count - 1) x)) all
            ∙ ap (lines setting) (take_at ys (o.last ∷ digits n' v') (8 * length (bytes ++ take t p) - s'.unread_count - 1) m)
            ∙ sym (auto.found_is 64 (is_tail setting) information_bits line_of some_window (zero-lt-suc 354847) ys)
            ∙ auto.found_append 64 (is_tail setting) information_bits line_of (seek []) h.xs o.bits
            ∙ ap₂ (λ (x y : List (List ℕ)). x ++ y) (sym h.lines_so)
            (sym (outs_found 64 (is_tail setting) line_bytes some_window some_bytes o.bits h.phase (lent_to lend k h.phase buf) (run_a setting (seek []) h.xs) below r lent) ∙ o.quiet)
            ∙ append-nil ls

  holds : {first : List ℕ} → 44356 ≤ length first → {k : ℕ} {s : State} {buf bytes : List ℕ} {ls : List (List ℕ)}
      → Moment f setting lend first k s buf bytes ls → Holds setting s buf bytes ls
  holds {first} m driven.Moment.start =
      record {
        phase = seeking 0 0;
        left = 0;
        unread = 0;
        same = refl;
        good = fresh_good;
        long = m;
        xs = [];
        split = no_bits ∙ sym (no_digits 0);
        stands = fresh_search 64 (is_tail setting) line_bytes some_window some_bytes first;
        lines_so = refl;
      }
  holds m (driven.Moment.on {k = k} {s = s} {buf = buf} {bytes = bytes} {ls = ls} {t = t} {s' = s'} p d e) = holds_on s buf bytes ls (holds m d) k p t s' e
  holds m (driven.Moment.got {k = k} {s = s} {buf = buf} {bytes = bytes} {ls = ls} {t = t} {s' = s'} p d e) = holds_got s buf bytes ls (holds m d) k p t s' e
  holds m (driven.Moment.refused {s = s} {buf = buf} {bytes = bytes} {ls = ls} {e = n} g a r p d e) =
      subst (λ (x : List ℕ). Holds setting s x bytes ls) (sym (refused_stays g a r p buf n e)) (holds m d)

  bits_at : (s : State) (buf bytes : List ℕ) (ls : List (List ℕ)) (h : Holds setting s buf bytes ls) → bits_read s bytes ≡ h.xs
  unfolding bits_read
  bits_at s buf bytes ls h =
      let u : s.unread_count ≡ h.left = ap (λ (x : State). x.unread_count) h.same ∙ left_same h.phase h.left h.unread h.good in
      let l : length h.xs ≡ 8 * length bytes - s.unread_count =
      omega (arith, length_bits bytes, ap length h.split, length-append h.xs (digits h.left h.unread), length_digits h.left h.unread) in
      ap (take (8 * length bytes - s.unread_count)) h.split ∙ take_at h.xs (digits h.left h.unread) (8 * length bytes - s.unread_count) l

  -- the buffer is a full_size one
  pub full_size : (first : List ℕ) → 44356 ≤ length first → {k : ℕ} {s : State} {buf bytes : List ℕ} {ls : List (List ℕ)} → Moment f setting lend first k s buf bytes ls → 44356 ≤ length buf
  full_size first m d = (holds m d).long

  -- AT EVERY MOMENT: the lines handed out are the lines of the bits read so far
  pub at_every_moment : (first : List ℕ) → 44356 ≤ length first → {k : ℕ} {s : State} {buf bytes : List ℕ} {ls : List (List ℕ)}
      → Moment f setting lend first k s buf bytes ls → ls ≡ lines setting (bits_read s bytes)
  unfolding lines
  at_every_moment first m {s = s} {buf = buf} {bytes = bytes} {ls = ls} d =
      let h = holds m d in
      h.lines_so
      ∙ auto.found_is 64 (is_tail setting) information_bits line_of some_window (zero-lt-suc 354847) h.xs
      ∙ ap (lines setting) (sym (bits_at s buf bytes ls h))

  -- and so those of the bytes taken so far: up to seven bits that are not read yet complete no line
  pub of_the_bytes : (first : List ℕ) → 44356 ≤ length first → {k : ℕ} {s : State} {buf bytes : List ℕ} {ls : List (List ℕ)}
      → Moment f setting lend first k s buf bytes ls → ls ≡ recorded setting bytes
  unfolding recorded lines
  of_the_bytes first m {s = s} {buf = buf} {bytes = bytes} {ls = ls} d =
      let h = holds m d in
      let unread : List ℕ = digits h.left h.unread in
      let none : found setting (run_a setting (seek []) h.xs) unread ≡ [] =
      sym (outs_found 64 (is_tail setting) line_bytes some_window some_bytes unread h.phase buf (run_a setting (seek []) h.xs) (digits_below h.left h.unread) h.long h.stands)
      ∙ quiet setting h.phase buf h.left h.unread h.good in
      sym (append-nil ls)
      ∙ ap₂ (λ (x y : List (List ℕ)). x ++ y) h.lines_so (sym none)
      ∙ sym (auto.found_append 64 (is_tail setting) information_bits line_of (seek []) h.xs unread)
      ∙ auto.found_is 64 (is_tail setting) information_bits line_of some_window (zero-lt-suc 354847) (h.xs ++ unread)
      ∙ ap (lines setting) (sym h.split)

  -- and a line is handed out right at its last bit: of the bits read without that one, it is no line yet
  pub at_its_last_bit : (first : List ℕ) → 44356 ≤ length first → {k : ℕ} {s : State} {buf bytes : List ℕ} {ls : List (List ℕ)}
      → Moment f setting lend first k s buf bytes ls → (p : List ℕ) (t : ℕ) (s' : State) → read_answer f setting s p (lent_for lend k s buf) ≡ Ok (Line t s')
      → lines setting (take (8 * length (bytes ++ take t p) - s'.unread_count - 1) (bits_of (bytes ++ take t p))) ≡ ls
  at_its_last_bit first m {k = k} {s = s} {buf = buf} {bytes = bytes} {ls = ls} d p t s' e = before_last s buf bytes ls (holds m d) k p t s' e
