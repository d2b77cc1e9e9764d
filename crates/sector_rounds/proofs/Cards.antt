-- NO SECTOR IS ACCEPTED FROM TWO START VALUES: what is not refused with 5 from the one is refused with 5 from the other. So a line of
-- one card, read in a format of the other, shows twelve 5s. Assumes nothing.
use mathlib.Core.List.{List, []}
use mathlib.Core.Path.{◌≡◌, sym, ap, ◌∙◌}
use Prim.Native.Nat.{ℕ, ◌+◌, ◌-◌, ◌%◌, ◌^◌, ◌≤◌, ◌<◌}
use native.Mathlib.Nat.{mod-eq_of_lt}
use native.Mathlib.Omega.{arith}
use lib.ListN.{length, get_or, replicate, length-replicate, get_or-replicate}
use lib.Seq.{ext_get_or}
use Rattle.std.specs.Prelude.{Result, Ok}
use Rattle.refusals.specs.declared.Refusal.{Refusal}
use Rattle.refusals.specs.Refusals.{answer_value}
use Rattle.refusals.proofs.Words.{first_none, none_first, none_second}
use Rattle.formats.specs.Formats.{line_bytes, format_refusal, check_start}
use Rattle.formats.proofs.Which.{start_lt}
use Rattle.bits.specs.Bits.{bits_of, stretch, Below}
use Rattle.bits.proofs.Below.{below_take, below_drop}
use Rattle.bits.proofs.Bytes.{length_bits, bits_below}
use Rattle.bits.proofs.Stretches.{stretch_length}
use Rattle.division.proofs.Starts.{only_start}
use Rattle.sector_table.specs.declared.layout.Layout.{Layout}
use Rattle.sector_table.specs.Asked.{line_refusal}
use Rattle.sector_table.specs.Layout.{layout_of, covered_bits, Sound}
use Rattle.sector_check.specs.Sector.{covered_of, answer_of, answers_of}
use Rattle.sectors.specs.Calls.{accepted_answer, answers_refusal, answers_answer}
use Rattle.sector_table.proofs.Admitted.{Admitted, admitted, admits}
use Rattle.sector_check.proofs.Answers.{answer_five, answer_past}
use Rattle.sector_check.proofs.Each.{length_answers}
use Rattle.sectors.proofs.AtOnce.{refused_alike, answers_given, at_once}
use Rattle.sector_table.proofs.Table.{sound}

-- ---- a sector

-- over any bits that the check covers
pub other_start : (s t : ℕ) → (s % 2 ^ 16 ≡ t % 2 ^ 16 → ⊥) → (l : Layout) (b : List ℕ) → 16 ≤ length (covered_of l b) → Below 2 (covered_of l b)
    → (answer_of s l b ≡ 5 → ⊥) → answer_of t l b ≡ 5
other_start s t differ l b long bits past =
    sym (answer_five t l b (λ none. differ (only_start s t (covered_of l b) long bits (answer_past s l b past ∙ sym none))))

covered_length : (n : ℕ) (line : List ℕ) → 1 ≤ n → n ≤ 12 → line_bytes ≤ length line → length (covered_of (layout_of n) (bits_of line)) ≡ covered_bits (layout_of n)
unfolding covered_of
covered_length n line low high full =
    let s : Sound (layout_of n) = sound n low high in
    stretch_length (bits_of line) (layout_of n).start (covered_bits (layout_of n)) (rw length_bits (omega (arith, s.whole, s.inside, full)))

covered_below : (l : Layout) (line : List ℕ) → Below 2 (covered_of l (bits_of line))
unfolding covered_of stretch
covered_below l line = below_take 2 (covered_bits l) _ (below_drop 2 l.start (bits_of line) (bits_below line))

-- ---- the calls

module _ (f g : ℕ) (known : format_refusal g ≡ 0) (differ : check_start f ≡ check_start g → ⊥) where
  apart : check_start f % 2 ^ 16 ≡ check_start g % 2 ^ 16 → ⊥
  apart e = differ (sym (mod-eq_of_lt (start_lt f)) ∙ e ∙ mod-eq_of_lt (start_lt g))

  -- ACCEPTED IN ONE FORMAT, 5 IN THE OTHER
  pub other_card : (n : ℕ) (line : List ℕ) → accepted_answer f line n ≡ 0 → accepted_answer g line n ≡ 5
  unfolding accepted_answer
  other_card n line e =
      let own : ℕ = answer_of (check_start f) (layout_of n) (bits_of line) in
      let a : Admitted 1 12 n (length line) = admitted f 1 12 n (length line) (none_first (line_refusal f 1 12 n (length line)) own e) in
      let good : own ≡ 0 = none_second (line_refusal f 1 12 n (length line)) own e in
      let long : 16 ≤ length (covered_of (layout_of n) (bits_of line)) = omega (arith, covered_length n line a.low a.high a.long) in
      first_none (line_refusal g 1 12 n (length line)) _ (admits g 1 12 n (length line) known a.low a.high a.long)
      ∙ other_start (check_start f) (check_start g) apart (layout_of n) (bits_of line) long (covered_below (layout_of n) line)
      (λ five. let z : ◌≡◌ {A = ℕ} 0 5 = sym good ∙ five in let w : ⊥ = omega arith in w)

  -- so it is never accepted in both
  pub never_both : (n : ℕ) (line : List ℕ) → accepted_answer f line n ≡ 0 → accepted_answer g line n ≡ 0 → ⊥
  never_both n line e h = let z : ◌≡◌ {A = ℕ} 0 5 = sym h ∙ other_card n line e in let w : ⊥ = omega arith in w

  -- TWELVE FIVES: a line of which all sectors are accepted in the one format
  pub twelve_fives : (line : List ℕ) → ((n : ℕ) → 1 ≤ n → n ≤ 12 → accepted_answer f line n ≡ 0) → answers_answer g line ≡ Ok (replicate 12 5)
  unfolding accepted_answer
  twelve_fives line all =
      let xs : List ℕ = answers_of (check_start g) (bits_of line) in
      let a : Admitted 1 12 1 (length line) = admitted f 1 12 1 (length line) (none_first (line_refusal f 1 12 1 (length line)) _ (all 1 (omega arith) (omega arith))) in
      let served : answers_refusal g (length line) ≡ 0 = refused_alike g 1 (length line) (omega arith) (omega arith) ∙ admits g 1 12 1 (length line) known (omega arith) (omega arith) a.long in
      let given : answers_answer g line ≡ Ok xs = answers_given g line served in
      let many : length xs ≡ 12 = length_answers (check_start g) (bits_of line) in
      given
      ∙ ap Ok
      (ext_get_or 0 xs (replicate 12 5) (many ∙ sym (length-replicate {A = ℕ} 12 5))
      (λ i h. let below : i < 12 = omega (arith, many) in ap (λ (r : Result (List ℕ) Refusal). get_or (answer_value [] r) i 0) (sym given) ∙ each line all served i below ∙ sym (get_or-replicate 12 i 5 0 below)))
    where
      each : (line : List ℕ) → ((n : ℕ) → 1 ≤ n → n ≤ 12 → accepted_answer f line n ≡ 0) → answers_refusal g (length line) ≡ 0 → (i : ℕ) → i < 12 → get_or (answer_value [] (answers_answer g line)) i 0 ≡ 5
      each line all served i h =
          let place : i ≡ i + 1 - 1 = omega arith in
          let low : 1 ≤ i + 1 = omega arith in
          let high : i + 1 ≤ 12 = omega arith in
          ap (λ (k : ℕ). get_or (answer_value [] (answers_answer g line)) k 0) place ∙ at_once g (i + 1) line low high served ∙ other_card (i + 1) line (all (i + 1) low high)
