-- The sub-commutation bytes: 193 and 195 are 0, 194 is the segment 0 to 24, 196 the repeat 0 to 7. Assumes nothing.
use Rattle.std.specs.Prelude.{ℕ, not, ◌||◌, List, eqb, ltb, Result, Ok}
use Rattle.refusals.specs.declared.Refusal.{Refusal}
use Rattle.refusals.specs.Refusals.{first, when, answered, refuses, Answers}
use Rattle.document.specs.declared.segments.SubCommutation.{SubCommutation}
use Rattle.document.specs.Place.{doc_refusal}
use Rattle.sector_table.specs.Place.{doc_byte}

-- what the bytes of a line say; a refusal has 0 for both
abbrev pub sub_commutation_in : List ℕ → SubCommutation
sub_commutation_in line = record { segment = doc_byte line 194; repeat = doc_byte line 196 }

abbrev pub no_sub_commutation : SubCommutation
no_sub_commutation = record { segment = 0; repeat = 0 }

-- 7
unfoldable pub segment_refusal : ℕ → ℕ → ℕ → ℕ → ℕ
segment_refusal before segment between repeat = when (not (eqb before 0) || (ltb 24 segment || (not (eqb between 0) || ltb 7 repeat))) 7

-- 1, 2, 5, 6, 7
unfoldable pub sub_commutation_refusal : ℕ → List ℕ → ℕ
sub_commutation_refusal f line = first (doc_refusal f line) (segment_refusal (doc_byte line 193) (doc_byte line 194) (doc_byte line 195) (doc_byte line 196))

-- THE CONTRACT of `sub_commutation`: the number, and segment and repeat
abbrev pub SubCommutationOk : ℕ → List ℕ → Result SubCommutation Refusal → Type 0
SubCommutationOk f line r = Answers (sub_commutation_refusal f line) no_sub_commutation (sub_commutation_in line) r

unfoldable pub sub_commutation_answer : ℕ → List ℕ → Result SubCommutation Refusal
sub_commutation_answer f line = answered refuses (sub_commutation_refusal f line) (Ok (sub_commutation_in line))
