-- NO CALL LEADS OUT: two possible reports within the limit make a possible one, and so does a possible report with one line more. Two
-- reports together: in either order, and three in any grouping. Assumes nothing.
use mathlib.Core.Path.{◌≡◌, refl, sym, ap, subst, ◌∙◌}
use mathlib.Core.Bool.{Bool, true, false, not}
use mathlib.Core.Logic.{◌↔◌}
use mathlib.Core.List.{List, [], ◌∷◌}
use Prim.Native.Nat.{ℕ, zero, suc, ◌+◌, ◌≤◌}
use native.Mathlib.Nat.{add_comm}
use native.Mathlib.Omega.{arith}
use lib.Dec.{ltb}
use lib.ListN.{length}
use Rattle.std.specs.Prelude.{Ok}
use Rattle.refusals.specs.Refusals.{first, when, kept}
use Rattle.refusals.proofs.Answered.{answered_value}
use Rattle.refusals.proofs.Words.{first_none}
use Rattle.formats.specs.Formats.{check_start}
use Rattle.bits.specs.Bits.{bits_of}
use Rattle.bits.proofs.Bytes.{bits_below}
use Rattle.report_record.specs.declared.Tally.{Tally}
use Rattle.report_record.specs.declared.Channel.{Channel}
use Rattle.report_record.specs.declared.Report.{Report}
use Rattle.report_record.specs.Report.{tally_at, channel_at, add_tally, add_channel, added, report_by, report_of, Plain}
use Rattle.report_record.specs.Possible.{most_lines, possible_report, record_refusal}
use Rattle.report_record.proofs.Possible.{TallyFits, ChannelFits, Possible, possible_means, possible_made, record_passes}
use Rattle.report_line.proofs.Passing.{report_possible}
use Rattle.report.specs.Calls.{full_refusal, with_line_refusal, with_line_answer, together_refusal, together_answer, report_after}
use Rattle.report.proofs.Answers.{full_within, together_served, line_served}
use Rattle.passes.proofs.OfLines.{answered_done}
use Rattle.passes.proofs.Laws.{added_tally, added_channel, added_lines, added_comm, added_assoc, report_lines}

-- 12 in the paper's words
pub possible_exactly : (r : Report) → (possible_report r ≡ true) ↔ Possible r
possible_exactly r = (possible_means r, possible_made r)

-- ---- adding keeps a record possible

tally_adds : (n m : ℕ) (x y : Tally) → TallyFits n x → TallyFits m y → TallyFits (n + m) (add_tally x y)
tally_adds n m x y p q =
    let a = p.adds in
    let b = q.adds in
    let c = p.filler in
    let d = q.filler in
    record { adds = omega arith; filler = omega arith }

channel_adds : (n m : ℕ) (x y : Channel) → ChannelFits n x → ChannelFits m y → ChannelFits (n + m) (add_channel x y)
channel_adds n m x y p q =
    let a = p.count in
    let b = q.count in
    let c = p.sum in
    let d = q.sum in
    record { count = omega arith; sum = omega arith }

pub added_possible : (a b : Report) → Possible a → Possible b → a.lines + b.lines ≤ most_lines → Possible (added a b)
added_possible a b p q h =
    let e : a.lines + b.lines ≡ (added a b).lines = sym (added_lines a b) in
    record {
      most = subst (λ (n : ℕ). n ≤ most_lines) e h;
      tally = λ i l. subst (λ (n : ℕ). TallyFits n (tally_at (added a b) i)) e
          (subst (λ (t : Tally). TallyFits (a.lines + b.lines) t) (sym (added_tally a b i l)) (tally_adds a.lines b.lines (tally_at a i) (tally_at b i) (p.tally i l) (q.tally i l)));
      channel = λ i l. subst (λ (n : ℕ). ChannelFits n (channel_at (added a b) i)) e
          (subst (λ (c : Channel). ChannelFits (a.lines + b.lines) c) (sym (added_channel a b i l)) (channel_adds a.lines b.lines (channel_at a i) (channel_at b i) (p.channel i l) (q.channel i l)));
    }

-- ---- and so no call leads out

given_back : (k : ℕ) (was becomes : Report) → Possible was → (k ≡ 0 → Possible becomes) → Possible (kept k was becomes)
unfolding kept
given_back zero was becomes p f = f refl
given_back (suc k) was becomes p f = p

pub together_stays : (a b : Report) → Possible a → Possible (report_after a (together_answer a b))
unfolding together_answer
together_stays a b p =
    rw (answered_value (together_refusal a b) a (added a b))
    (given_back (together_refusal a b) a (added a b) p
    (λ e. let s = together_served a b e in added_possible a b p (possible_means b s.two) s.room))

pub with_line_stays : (f : ℕ) (r : Report) (line : List ℕ) → Possible r → Possible (report_after r (with_line_answer f r line))
unfolding with_line_answer report_of Plain
with_line_stays f r line p =
    rw (answered_value (with_line_refusal f r (length line)) r (added r (report_by (check_start f) (bits_of line ∷ []))))
    (given_back (with_line_refusal f r (length line)) r (added r (report_by (check_start f) (bits_of line ∷ []))) p
    (λ e. let s = line_served f r (length line) e in
    added_possible r (report_by (check_start f) (bits_of line ∷ [])) p (report_possible (check_start f) (bits_of line ∷ []) (bits_below line, tt) (omega arith))
    (subst (λ (n : ℕ). r.lines + n ≤ most_lines) (sym (report_lines (check_start f) (bits_of line ∷ []))) s.room)))

-- ---- the order does not matter, refused or not

two_first : (s t : Bool) (k : ℕ) → first (first (when s 12) (when t 12)) k ≡ first (first (when t 12) (when s 12)) k
unfolding first when
two_first true true k = refl
two_first true false k = refl
two_first false true k = refl
two_first false false k = refl

pub together_number_comm : (a b : Report) → together_refusal a b ≡ together_refusal b a
unfolding together_refusal record_refusal full_refusal
together_number_comm a b =
    two_first (not (possible_report a)) (not (possible_report b)) (when (ltb most_lines (a.lines + b.lines)) 15)
    ∙ ap (λ (n : ℕ). first (first (when (not (possible_report b)) 12) (when (not (possible_report a)) 12)) (when (ltb most_lines n) 15)) (add_comm a.lines b.lines)

pub together_comm : (a b : Report) → together_refusal a b ≡ 0 → together_answer a b ≡ together_answer b a
unfolding together_answer
together_comm a b e =
    answered_done (together_refusal a b) (added a b) e
    ∙ ap Ok (added_comm a b)
    ∙ sym (answered_done (together_refusal b a) (added b a) (sym (together_number_comm a b) ∙ e))

-- ---- three passes: where (a b) c is served so is a (b c), with the same report

pub together_served_if : (a b : Report) → possible_report a ≡ true → possible_report b ≡ true → a.lines + b.lines ≤ most_lines → together_refusal a b ≡ 0
unfolding together_refusal
together_served_if a b p q h =
    first_none (first (record_refusal a) (record_refusal b)) (full_refusal a.lines b.lines) (first_none (record_refusal a) (record_refusal b) (record_passes a p) ∙ record_passes b q)
    ∙ sym (full_within a.lines b.lines h)

pub record Three (a b c : Report) : Type 0 where
  pub later : together_refusal b c ≡ 0
  pub whole : together_refusal a (added b c) ≡ 0
  pub same : together_answer (added a b) c ≡ together_answer a (added b c)

pub together_assoc : (a b c : Report) → together_refusal a b ≡ 0 → together_refusal (added a b) c ≡ 0 → Three a b c
unfolding together_answer
together_assoc a b c e d =
    let s = together_served a b e in
    let t = together_served (added a b) c d in
    let room : a.lines + b.lines + c.lines ≤ most_lines = subst (λ (n : ℕ). n + c.lines ≤ most_lines) (added_lines a b) t.room in
    let few : b.lines + c.lines ≤ most_lines = omega arith in
    let more : a.lines + (added b c).lines ≤ most_lines = subst (λ (n : ℕ). a.lines + n ≤ most_lines) (sym (added_lines b c)) (omega arith) in
    let bc = added_possible b c (possible_means b s.two) (possible_means c t.two) few in
    let w = together_served_if a (added b c) s.one (possible_made (added b c) bc) more in
    record {
      later = together_served_if b c s.two t.two few;
      whole = w;
      same = answered_done (together_refusal (added a b) c) (added (added a b) c) d
          ∙ ap Ok (added_assoc a b c)
          ∙ sym (answered_done (together_refusal a (added b c)) (added a (added b c)) w);
    }
