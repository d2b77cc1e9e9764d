-- ONE LONGITUDE FOR EACH MERIDIAN: `west_above180` of degrees east, up to a turn and a half, is the one number of degrees that is on
-- the same meridian and a longitude. Assumes nothing.
use mathlib.Core.Path.{◌≡◌, sym, ap, subst, ◌∙◌}
use Prim.Native.Nat.{ℕ, suc, ◌+◌, ◌*◌, ◌-◌, ◌≤◌, ◌<◌}
use native.Mathlib.Omega.{arith}
use lib.Dec.{leb→le, le→leb, ltb→lt, lt→ltb}
use lib.IntN.{ℤ, pos, negsuc, ◌+ℤ◌, ◌-ℤ◌, ◌*ℤ◌}
use Rattle.numbers.proofs.Differences.{either, minus_more, minus_less}
use Rattle.degrees.specs.Degrees.{west_above180}
use Rattle.degrees.proofs.Degrees.{stays_east, turns_west}
use Rattle.meridians.specs.Meridians.{SameMeridian, Longitude}

-- ---- longitudes, in numbers

east_most : (n : ℕ) → Longitude (pos n) → n ≤ 180
east_most n l = leb→le n 180 l.most.le

west_most : (n : ℕ) → Longitude (negsuc n) → n < 179
west_most n l = ltb→lt n 179 l.above.lt

to_east : (n : ℕ) → n ≤ 180 → Longitude (pos n)
to_east n h = record { above = record { lt = tt }; most = record { le = le→leb n 180 h } }

to_west : (n : ℕ) → n < 179 → Longitude (negsuc n)
to_west n h = record { above = record { lt = lt→ltb n 179 h }; most = record { le = tt } }

-- ---- above 180 west, at most at 180 east, and on the same meridian

pub within : (d : ℕ) → d ≤ 540 → Longitude (west_above180 d)
within d h = either 180 d (λ (above : 180 < d). subst Longitude (sym (turns_west d above)) (by above)) (λ (most : d ≤ 180). subst Longitude (sym (stays_east d most)) (to_east d most))
  where
    by : 180 < d → Longitude (pos d -ℤ pos 360)
    by above = either d 360 (λ (less : d < 360). subst Longitude (sym (minus_less d 360 less)) (to_west (360 - suc d) (omega arith))) (λ (more : 360 ≤ d). subst Longitude (sym (minus_more d 360 more)) (to_east (d - 360) (omega arith)))

pub congruent : (d : ℕ) → SameMeridian (west_above180 d) (pos d)
congruent d = either 180 d (λ (above : 180 < d). record { turns = negsuc 0; apart = turns_west d above }) (λ (most : d ≤ 180). record { turns = pos 0; apart = stays_east d most ∙ ap pos (omega arith) })

-- AND NO OTHER NUMBER IS BOTH
pub the_one : (d : ℕ) (z : ℤ) → d ≤ 540 → Longitude z → SameMeridian z (pos d) → z ≡ west_above180 d
the_one d z h l same = by same.turns same.apart
  where
    onward : (n : ℕ) → Longitude (pos (d + 360 * n)) → pos (d + 360 * n) ≡ west_above180 d
    onward n given =
        let most : d + 360 * n ≤ 180 = east_most (d + 360 * n) given in
        let same : d + 360 * n ≡ d = omega arith in
        ap pos same ∙ sym (stays_east d (omega arith))

    -- one turn, and west
    one : (n : ℕ) → 180 < d → 360 * suc n ≡ 360 → pos d -ℤ pos (360 * suc n) ≡ west_above180 d
    one n above e = ap (λ (k : ℕ). pos d -ℤ pos k) e ∙ sym (turns_west d above)

    back : (n : ℕ) → Longitude (pos d -ℤ pos (360 * suc n)) → pos d -ℤ pos (360 * suc n) ≡ west_above180 d
    back n given = either d (360 * suc n) less (λ (more : 360 * suc n ≤ d). one n (omega arith) (omega arith))
      where
        less : d < 360 * suc n → pos d -ℤ pos (360 * suc n) ≡ west_above180 d
        less lt =
            let near : 360 * suc n - suc d < 179 = west_most (360 * suc n - suc d) (subst Longitude (minus_less d (360 * suc n) lt) given) in
            one n (omega arith) (omega arith)

    by : (k : ℤ) → z ≡ pos d +ℤ pos 360 *ℤ k → z ≡ west_above180 d
    by (pos n) e = e ∙ onward n (subst Longitude e l)
    by (negsuc n) e = e ∙ back n (subst Longitude e l)

-- ---- different degrees within a turn are different longitudes

-- degrees east, counted on past 180
counted : ℤ → ℕ
counted (pos n) = n
counted (negsuc n) = 359 - n

counted_back : (d : ℕ) → d < 360 → counted (west_above180 d) ≡ d
unfolding counted
counted_back d h = either 180 d (λ (above : 180 < d). ap counted (turns_west d above ∙ minus_less d 360 h) ∙ west above) (λ (most : d ≤ 180). ap counted (stays_east d most))
  where
    west : 180 < d → 359 - (360 - suc d) ≡ d
    west above = omega arith

pub different : (d e : ℕ) → d < 360 → e < 360 → west_above180 d ≡ west_above180 e → d ≡ e
different d e hd he same = sym (counted_back d hd) ∙ ap counted same ∙ counted_back e he
