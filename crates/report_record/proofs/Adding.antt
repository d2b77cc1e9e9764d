-- Sums and channels over lists one after the other. Assumes nothing.
use mathlib.Core.Path.{◌≡◌, refl, sym, ap, ap₂, ◌∙◌}
use mathlib.Core.List.{List, [], ◌∷◌, ◌++◌, map, append_assoc, append-nil}
use Prim.Native.Nat.{ℕ, ◌+◌}
use native.Mathlib.Nat.{add_assoc}
use native.Mathlib.Omega.{arith}
use lib.ListN.{length-append}
use Rattle.bits.specs.Bits.{in_arow}
use Rattle.std.specs.Prelude.{Option}
use Rattle.report_record.specs.declared.Range.{Range}
use Rattle.report_record.specs.declared.Tally.{Tally}
use Rattle.report_record.specs.declared.Channel.{Channel}
use Rattle.report_record.specs.Sums.{total_of}
use Rattle.report_record.specs.Report.{range_of, channel_of, add_channel, no_channel}
use Rattle.report_record.proofs.Ranges.{range_append}

pub total_append : {A : Type 0} (m : A → ℕ) (xs ys : List A) → total_of m (xs ++ ys) ≡ total_of m xs + total_of m ys
unfolding total_of
total_append m [] ys = omega arith
total_append m (x ∷ xs) ys = ap (λ (n : ℕ). m x + n) (total_append m xs ys) ∙ sym (add_assoc (m x) (total_of m xs) (total_of m ys))

pub row_append : {A : Type 0} (g : A → List ℕ) (xs ys : List A) → in_arow (map g (xs ++ ys)) ≡ in_arow (map g xs) ++ in_arow (map g ys)
row_append g [] ys = refl
row_append g (x ∷ xs) ys =
    ap (λ (l : List ℕ). g x ++ l) (row_append g xs ys) ∙ sym (append_assoc (g x) (in_arow (map g xs)) (in_arow (map g ys)))

-- of one element
pub row_one : {A : Type 0} (g : A → List ℕ) (x : A) → in_arow (map g (x ∷ [])) ≡ g x
row_one g x = append-nil (g x)

pub channel_same : {n m s t : ℕ} {a b : Option Range} → n ≡ m → s ≡ t → a ≡ b
    → ◌≡◌ {A = Channel} (record { count = n; sum = s; range = a }) (record { count = m; sum = t; range = b })
channel_same {n} {m} {s} {t} {a} {b} e d r =
    ap₂ (λ (x y : ℕ). record { count = x; sum = y; range = a }) e d ∙ ap (λ (z : Option Range). record { count = m; sum = t; range = z }) r

pub channel_append : (xs ys : List ℕ) → channel_of (xs ++ ys) ≡ add_channel (channel_of xs) (channel_of ys)
unfolding channel_of
channel_append xs ys = channel_same (length-append xs ys) (total_append (λ (x : ℕ). x) xs ys) (range_append xs ys)

pub channel_none : channel_of [] ≡ no_channel
unfolding channel_of total_of range_of
channel_none = refl

pub tally_same : {a b c d p q r s : ℕ} → a ≡ p → b ≡ q → c ≡ r → d ≡ s
    → ◌≡◌ {A = Tally} (record { accepted = a; remainder = b; id = c; filler = d }) (record { accepted = p; remainder = q; id = r; filler = s })
tally_same {a} {b} {c} {d} {p} {q} {r} {s} e f g h =
    ap₂ (λ (x y : ℕ). record { accepted = x; remainder = y; id = c; filler = d }) e f
    ∙ ap₂ (λ (x y : ℕ). record { accepted = p; remainder = q; id = x; filler = y }) g h
