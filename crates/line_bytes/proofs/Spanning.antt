-- Whole bytes of a line, one behind the other, copied and then made plain where they stand. Assumes nothing.
use mathlib.Core.List.{List, ◌++◌}
use mathlib.Core.Path.{◌≡◌, refl, sym, ap, ap₂, ◌∙◌}
use Prim.Native.Nat.{ℕ, zero, suc, ◌+◌, ◌-◌, ◌*◌, ◌/◌, ◌%◌, ◌^◌, ◌≤◌, ◌<◌}
use native.Mathlib.Nat.{le_refl, add-zero}
use native.Mathlib.Numerals.{add-one}
use native.Mathlib.Omega.{arith}
use lib.Dec.{lit≤}
use lib.ListN.{length, get_or, take, drop, set, length-set, length-drop, take-append-drop}
use lib.Pow.{pow_pos}
use lib.Seq.{get_or-drop, take-add, paste, paste-zero}
use Rattle.bits.specs.Bits.{digits, Below}
use Rattle.bits.proofs.Below.{below_at}
use Rattle.bits.proofs.Writes.{paste_turn}
use Rattle.scramble.specs.Register.{register_after}
use Rattle.scramble.specs.Wire.{wire_of}
use Rattle.wire.proofs.Rule.{after_add, after_lt}
use Rattle.runs.specs.Mixed.{Mixed}
use Rattle.runs.proofs.Puts.{mixed_at, mixed_front, mixed_back}
use Rattle.reader_bits.specs.Loops.{going}
use Rattle.reader_bits.specs.Phase.{within}
use Rattle.line_bytes.specs.Spans.{FillIn, across, byte_before, Copied, Whole, SpanOk}
use Rattle.line_bytes.proofs.Eight.{line_byte}

record Goes (p : List ℕ) (t n v place r : ℕ) (buf : List ℕ) (i v' r' : ℕ) (buf' : List ℕ) : Type 0 where
  pub fifteen : r' < 2 ^ 15
  pub long : length buf' ≡ length buf
  pub same : (setting : ℕ) → going setting p t (within place r 0) buf n v ≡ going setting p (t + i) (within (place + i * 8) r' 0) buf' n v'

goes_none : {p : List ℕ} {t n v place r : ℕ} {buf : List ℕ} → r < 2 ^ 15 → Goes p t n v place r buf 0 v r buf
goes_none {p} {t} {n} {v} {place} {r} {buf} h =
    record {
      fifteen = h;
      long = refl;
      same = λ setting. ap₂ (λ (a b : ℕ). going setting p a (within b r 0) buf n v) (sym (add-zero t)) (sym (add-zero place));
    }

goes_byte : {p : List ℕ} {t n v place r : ℕ} {buf : List ℕ} {i v' r' : ℕ} {buf' : List ℕ} (w r'' : ℕ) → Goes p t n v place r buf i v' r' buf'
    → n ≤ 7 → t + i < length p → place % 8 ≡ 0 → place + i * 8 + 8 < 354848 → get_or p (t + i) 0 < 2 ^ 8 → w < 2 ^ 8
    → digits 8 w ≡ wire_of (place + i * 8) r' (digits 8 (across n v' (get_or p (t + i) 0))) → r'' ≡ register_after 8 r'
    → Goes p t n v place r buf (i + 1) (get_or p (t + i) 0) r'' (set buf' (place / 8 + i) w)
goes_byte {p} {t} {n} {v} {place} {r} {buf} {i} {v'} {r'} {buf'} w r'' g left inside aligned more byte small plain er =
    let at : (place + i * 8) / 8 ≡ place / 8 + i = omega arith in
    let next : place + i * 8 + 8 ≡ place + (i + 1) * 8 = omega arith in
    let further : suc (t + i) ≡ t + (i + 1) = omega arith in
    let y : ℕ = get_or p (t + i) 0 in
    record {
      fifteen = rw er (after_lt 8 r' g.fifteen);
      long = length-set buf' (place / 8 + i) w ∙ g.long;
      same = λ setting.
          g.same setting
          ∙ line_byte setting p (t + i) buf' (place + i * 8) r' n v' w inside (omega arith) more byte small plain left
          ∙ ap₂ (λ (a b : ℕ). going setting p a (within (place + i * 8 + 8) b 0) (set buf' ((place + i * 8) / 8) w) n y) further (sym er)
          ∙ ap₂ (λ (a b : ℕ). going setting p (t + (i + 1)) (within a r'' 0) (set buf' b w) n y) next at;
    }

module _ (p : List ℕ) (t n v place r : ℕ) (buf ws : List ℕ) (k : ℕ) (left : n ≤ 7) (aligned : place % 8 ≡ 0) (inside : t + k ≤ length p) (more : place + k * 8 < 354848)
    (room : place / 8 + k ≤ length buf) (long : k ≤ length ws) (fifteen : r < 2 ^ 15) (bytes : (i : ℕ) → get_or p i 0 < 2 ^ 8) (small : (i : ℕ) → get_or ws i 0 < 2 ^ 8)
    (plain : (i : ℕ) → i < k → digits 8 (get_or ws i 0) ≡ wire_of (place + i * 8) (register_after (i * 8) r) (digits 8 (across n (byte_before p t v i) (get_or p (t + i) 0)))) where
  goes_all : (i : ℕ) → i ≤ k → Goes p t n v place r buf i (byte_before p t v i) (register_after (i * 8) r) (paste buf (place / 8) ws i)
  unfolding byte_before register_after
  goes_all zero h = rw (← paste-zero buf (place / 8) ws) (goes_none fifteen)
  goes_all (suc i) h =
      let one : i + 1 ≡ suc i = add-one i in
      let eight : suc i * 8 ≡ i * 8 + 8 = omega arith in
      let next : register_after (suc i * 8) r ≡ register_after 8 (register_after (i * 8) r) = ap (λ (m : ℕ). register_after m r) eight ∙ after_add (i * 8) 8 r in
      let turn : set (paste buf (place / 8) ws i) (place / 8 + i) (get_or ws i 0) ≡ paste buf (place / 8) ws (i + 1) = paste_turn buf (place / 8) ws i (get_or ws i 0) (omega arith) (omega arith) refl in
      let step = goes_byte (get_or ws i 0) (register_after (suc i * 8) r) (goes_all i (omega arith)) left (omega arith) aligned (omega arith) (bytes (t + i)) (small i) (plain i h) next in
      rw (turn, one) at step

pub span_none : {p : List ℕ} {t n v place r : ℕ} {buf : List ℕ} → FillIn p t n place r 0 buf
    → SpanOk p t n v place r buf buf (record { taken = t; byte = v; place = place; register = r })
span_none o = record { ok = o; onward = le_refl _; aligned = refl; long = refl; same = λ setting q h. refl }

span_done : {p : List ℕ} {t n v place r : ℕ} {buf : List ℕ} {i v' r' : ℕ} {buf' : List ℕ} → FillIn p t n place r 0 buf → Goes p t n v place r buf i v' r' buf'
    → t + i ≤ length p → place % 8 ≡ 0 → place + i * 8 < 354848
    → SpanOk p t n v place r buf buf' (record { taken = t + i; byte = v'; place = place + i * 8; register = r' })
span_done {p} {t} {n} {v} {place} {r} {buf} {i} {v'} {r'} {buf'} o g fits aligned inside =
    record {
      ok = record { taken = fits; left = o.left; inside = inside; fifteen = g.fifteen; small = pow_pos ((place + i * 8) % 8); room = rw g.long o.room };
      onward = omega arith;
      aligned = omega arith;
      long = g.long;
      same = λ setting q h. let z : q ≡ 0 = only_zero q (rw aligned at h) in ap (λ (x : ℕ). going setting p t (within place r x) buf n v) z ∙ g.same setting ∙ ap (λ (x : ℕ). going setting p (t + i) (within (place + i * 8) r' x) buf' n v') (sym z);
    }
  where
    only_zero : (q : ℕ) → q < 1 → q ≡ 0
    only_zero q h = omega arith

-- the last byte of the piece that was read
last_read : (p : List ℕ) (t v k b : ℕ) → zero < k → b ≡ get_or p (t + k - 1) 0 → b ≡ byte_before p t v k
unfolding byte_before
last_read p t v zero b h e = absurd (omega arith)
last_read p t v (suc k) b h e = let g : t + suc k - 1 ≡ t + k = omega arith in e ∙ ap (λ (j : ℕ). get_or p j 0) g

-- the bytes copied, and then put through the key
pub span_mixed : {p : List ℕ} {t n v place r : ℕ} {buf buf₁ buf₂ : List ℕ} {k b r' : ℕ} → FillIn p t n place r 0 buf → zero < k → Whole (length p - t) n place k
    → Below 256 p → Below 256 buf₁ → Below 256 buf₂ → Copied p t n v k (place / 8) buf buf₁ → Mixed buf₁ buf₂ (place / 8) k place r r' → length buf₁ ≡ length buf
    → b ≡ get_or p (t + k - 1) 0
    → SpanOk p t n v place r buf buf₂ (record { taken = t + k; byte = b; place = place + k * 8; register = r' })
span_mixed {p} {t} {n} {v} {place} {r} {buf} {buf₁} {buf₂} {k} {b} {r'} o some w bp b₁ b₂ c m l₁ eb =
    let q : ℕ = place / 8 in
    let aligned : place % 8 ≡ 0 = w.aligned some in
    let inside : t + k ≤ length p = omega (arith, o.taken, w.inside) in
    let more = w.more in
    let l₂ = m.long in
    let fits : q + k ≤ length buf₁ = omega (arith, o.room) in
    let ws : List ℕ = drop q buf₂ in
    let at : (i : ℕ) → get_or ws i 0 ≡ get_or buf₂ (q + i) 0 = λ i. get_or-drop q buf₂ i 0 in
    let plain : (i : ℕ) → i < k → digits 8 (get_or ws i 0) ≡ wire_of (place + i * 8) (register_after (i * 8) r) (digits 8 (across n (byte_before p t v i) (get_or p (t + i) 0))) =
    λ i h. ap (digits 8) (at i) ∙ mixed_at buf₁ buf₂ q k place r fits l₂ m.put i h ∙ ap (λ (x : ℕ). wire_of (place + i * 8) (register_after (i * 8) r) (digits 8 x)) (c.each i h) in
    let bytes : (i : ℕ) → get_or p i 0 < 2 ^ 8 = below_at 256 p (lit≤ tt) bp in
    let small : (i : ℕ) → get_or ws i 0 < 2 ^ 8 = λ i. rw (at i) (below_at 256 buf₂ (lit≤ tt) b₂ (q + i)) in
    let long : k ≤ length ws = rw (length-drop q buf₂) (omega arith) in
    let all : paste buf q ws k ≡ buf₂ =
    ap₂ (λ (x y : List ℕ). x ++ take k ws ++ y) (sym (mixed_front buf₁ buf₂ q k place r fits l₂ m.put b₁ b₂ ∙ c.front)) (sym (mixed_back buf₁ buf₂ q k place r fits l₂ m.put b₁ b₂ ∙ c.back))
    ∙ ap (λ (x : List ℕ). x ++ drop (q + k) buf₂) (sym (take-add q k buf₂))
    ∙ take-append-drop (q + k) buf₂ in
    let goes = goes_all p t n v place r buf ws k (w.left some) aligned inside more (omega (arith, o.room)) long o.fifteen bytes small plain k (le_refl k) in
    span_done o (rw (all, ← last_read p t v k b some eb, ← m.after) at goes) inside aligned more

-- ---- how many can go at once

pub whole_none : (bytes n place : ℕ) → place < 354848 → Whole bytes n place 0
whole_none bytes n place h = record { inside = omega arith; more = omega arith; aligned = λ l. absurd (omega arith); left = λ l. absurd (omega arith) }

pub whole_some : (bytes n place k : ℕ) → k ≤ bytes → k ≤ (354848 - 1 - place) / 8 → place < 354848 → place % 8 ≡ 0 → n ≤ 7 → Whole bytes n place k
whole_some bytes n place k h l p a n7 = record { inside = h; more = omega arith; aligned = λ s. a; left = λ s. n7 }
