-- Each answer is settled by what the paper reads in it: the number of its refusal, and its values; a mode and a mirror by name and
-- byte. Assumes nothing.
use mathlib.Core.List.{List, [], ◌∷◌}
use mathlib.Core.Path.{◌≡◌, refl, sym, ap, ◌∙◌}
use Prim.Native.Nat.{ℕ, zero, suc}
use lib.ListN.{get_or}
use Rattle.std.specs.Prelude.{Result}
use Rattle.refusals.specs.declared.Refusal.{Refusal}
use Rattle.refusals.specs.Refusals.{kept}
use Rattle.refusals.proofs.Numbers.{answers_is}
use Rattle.document.specs.declared.modes.ScanMode.{ScanMode}
use Rattle.document.specs.declared.modes.ScanMode.TheVariants as mode
use Rattle.document.specs.declared.modes.Mirror.{Mirror}
use Rattle.document.specs.declared.modes.Mirror.TheVariants as mirror
use Rattle.document.specs.declared.segments.SubCommutation.{SubCommutation}
use Rattle.sector_table.specs.Place.{doc_byte}
use Rattle.document.specs.Modes.{mode_name, mode_byte, no_mode, ScanModeOk, scan_mode_answer, mirror_name, mirror_byte, no_mirror, ScannerSelectOk, scanner_select_answer}
use Rattle.document.specs.Segments.{SubCommutationOk, sub_commutation_answer}
use Rattle.document.proofs.Named.{mode_byte_is, mirror_byte_is}

-- ---- name and byte

-- a mode, and a mirror, is recovered from its name and its byte
mode_by : ℕ × ℕ → ScanMode
mode_by (n, b) = get_or (mode.Unnamed b ∷ mode.Full ∷ mode.Limited ∷ mode.Single ∷ []) n (mode.Unnamed b)

mode_back : (m : ScanMode) → mode_by (mode_name m, mode_byte m) ≡ m
unfolding mode_by
mode_back mode.Full = refl
mode_back mode.Limited = refl
mode_back mode.Single = refl
mode_back (mode.Unnamed b) = refl

mirror_by : ℕ × ℕ → Mirror
mirror_by (n, b) = get_or (mirror.Unnamed b ∷ mirror.OneA ∷ mirror.OneB ∷ mirror.TwoA ∷ mirror.TwoB ∷ []) n (mirror.Unnamed b)

mirror_back : (m : Mirror) → mirror_by (mirror_name m, mirror_byte m) ≡ m
unfolding mirror_by
mirror_back mirror.OneA = refl
mirror_back mirror.OneB = refl
mirror_back mirror.TwoA = refl
mirror_back mirror.TwoB = refl
mirror_back (mirror.Unnamed b) = refl

-- so that what stands once a call has answered is known by both
module _ {M : Type 0} (name byte : M → ℕ) (by : ℕ × ℕ → M) (back : (m : M) → by (name m, byte m) ≡ m) where
  abbrev both : M → ℕ × ℕ
  both m = (name m, byte m)

  heard : (k : ℕ) (none m x : M) (b : ℕ) → byte m ≡ b → both x ≡ kept k (both none) (name m, b) → x ≡ kept k none m
  unfolding kept
  heard zero none m x b own e = sym (back x) ∙ ap by (e ∙ ap (λ (c : ℕ). (name m, c)) (sym own)) ∙ back m
  heard (suc k) none m x b own e = sym (back x) ∙ ap by e ∙ back none

-- ---- the calls

module _ (f : ℕ) (line : List ℕ) where
  pub scan_mode_is : (r : Result ScanMode Refusal) → ScanModeOk f line r → r ≡ scan_mode_answer f line
  unfolding scan_mode_answer
  scan_mode_is r s = answers_is _ no_mode _ r (s.0, heard mode_name mode_byte mode_by mode_back _ _ _ _ _ (mode_byte_is (doc_byte line 3)) s.1)

  pub scanner_select_is : (r : Result Mirror Refusal) → ScannerSelectOk f line r → r ≡ scanner_select_answer f line
  unfolding scanner_select_answer
  scanner_select_is r s = answers_is _ no_mirror _ r (s.0, heard mirror_name mirror_byte mirror_by mirror_back _ _ _ _ _ (mirror_byte_is (doc_byte line 67)) s.1)

  pub sub_commutation_is : (r : Result SubCommutation Refusal) → SubCommutationOk f line r → r ≡ sub_commutation_answer f line
  unfolding sub_commutation_answer
  sub_commutation_is r = answers_is _ _ _ r
