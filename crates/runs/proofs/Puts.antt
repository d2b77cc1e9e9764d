-- Bytes of a slice put on the wire: a byte as eight bits of the slice, a write behind a write, and a run of bytes one longer, or
-- behind another; and what such a run is, byte by byte. Assumes nothing.
use mathlib.Core.Path.{◌≡◌, refl, sym, ap, ap₂, ◌∙◌}
use mathlib.Core.List.{List, [], ◌∷◌, ◌++◌, append_assoc, append-nil}
use Prim.Native.Nat.{ℕ, suc, ◌+◌, ◌-◌, ◌*◌, ◌≤◌, ◌<◌}
use native.Mathlib.Nat.{add-zero}
use native.Mathlib.Omega.{arith}
use lib.ListN.{length, get_or, take, drop, set, length-append, length-set, length-drop, take-append-drop}
use lib.Seq.{set_split, take_at, drop_at, drop-cons, length-take-le}
use Rattle.bits.specs.Bits.{digits, bits_of, part, stretch, Below}
use Rattle.bits.proofs.Below.{below_take, below_drop}
use Rattle.bits.proofs.Fields.{packed_inj}
use Rattle.bits.proofs.Bytes.{length_bits, bits_append, bits_cons, bits_take, bits_drop, length_part, part_append, part_put}
use Rattle.bits.proofs.Digits.{length_digits}
use Rattle.bits.proofs.Writes.{write_more}
use Rattle.scramble.specs.Register.{register_after}
use Rattle.scramble.specs.Wire.{complemented, scrambled, wire_of}
use Rattle.scramble.proofs.Wire.{length_wire}
use Rattle.wire.proofs.Rule.{after_add}
use Rattle.wire.proofs.Wire.{wire_append}
use Rattle.runs.specs.Mixed.{Put, Mixed}

-- ---- a byte of a slice

pub byte_part : (s : List ℕ) (q : ℕ) → q < length s → part s (q * 8) 8 ≡ digits 8 (get_or s q 0)
unfolding part stretch
byte_part s q h =
    ap (take 8) (bits_drop s q ∙ ap bits_of (drop-cons s q 0 h) ∙ bits_cons (get_or s q 0) (drop (suc q) s))
    ∙ take_at (digits 8 (get_or s q 0)) (bits_of (drop (suc q) s)) 8 (length_digits 8 (get_or s q 0))

-- a byte written: its eight bits, and every other kept
pub byte_put : (s : List ℕ) (q y : ℕ) → q < length s → bits_of (set s q y) ≡ take (q * 8) (bits_of s) ++ digits 8 y ++ drop (q * 8 + 8) (bits_of s)
byte_put s q y h =
    let e : q * 8 + 8 ≡ suc q * 8 = omega arith in
    ap bits_of (set_split s q y h)
    ∙ bits_append (take q s) (y ∷ drop (suc q) s)
    ∙ ap (λ (l : List ℕ). bits_of (take q s) ++ l) (bits_cons y (drop (suc q) s))
    ∙ sym (append_assoc (bits_of (take q s)) (digits 8 y) (bits_of (drop (suc q) s)))
    ∙ ap₂ (λ (a b : List ℕ). a ++ digits 8 y ++ b) (sym (bits_take s q)) (sym (bits_drop s (suc q)) ∙ ap (λ (n : ℕ). drop n (bits_of s)) (sym e))

-- ---- a write behind a write

pub put_none : (s : List ℕ) (from : ℕ) (t : List ℕ) → t ≡ [] → Put s s from 0 t
put_none s from t e =
    sym (ap₂ (λ (l : List ℕ) (n : ℕ). take from (bits_of s) ++ l ++ drop n (bits_of s)) e (add-zero from)
    ∙ ap (λ (l : List ℕ). l ++ drop from (bits_of s)) (append-nil (take from (bits_of s)))
    ∙ take-append-drop from (bits_of s))

module _ (s s' s'' : List ℕ) (from k m : ℕ) (fits : from + k + m ≤ 8 * length s) where
  inside : from + k + m ≤ length (bits_of s)
  inside = rw length_bits fits

  pub put_two : (t u : List ℕ) → length t ≡ k → Put s s' from k t → Put s' s'' (from + k) m u → Put s s'' from (k + m) (t ++ u)
  put_two t u l e f =
      f
      ∙ ap (λ (b : List ℕ). take (from + k) b ++ u ++ drop (from + k + m) b) e
      ∙ write_more (bits_of s) from t u k m l inside

  -- what lies behind the first write is still what it was
  pub part_behind : (t : List ℕ) → length t ≡ k → Put s s' from k t → part s' (from + k) m ≡ part s (from + k) m
  unfolding part stretch
  part_behind t l e =
      let front : length (take from (bits_of s) ++ t) ≡ from + k =
      omega (arith, length-append (take from (bits_of s)) t, length-take-le from (bits_of s) (omega (arith, inside))) in
      ap (λ (b : List ℕ). take m (drop (from + k) b)) e
      ∙ ap (take m) (drop_at (take from (bits_of s) ++ t) (drop (from + k) (bits_of s)) (from + k) front)

  -- TWO RUNS, one behind the other, are one
  pub mix_two : (place r r' : ℕ) → r' ≡ register_after k r → Put s s' from k (wire_of place r (part s from k))
      → Put s' s'' (from + k) m (wire_of (place + k) r' (part s' (from + k) m)) → Put s s'' from (k + m) (wire_of place r (part s from (k + m)))
  mix_two place r r' er e f =
      let l : length (part s from k) ≡ k = length_part s from k (omega arith) in
      let long : length (wire_of place r (part s from k)) ≡ k = length_wire place r (part s from k) ∙ l in
      let behind : part s' (from + k) m ≡ part s (from + k) m = part_behind (wire_of place r (part s from k)) long e in
      let joined : wire_of place r (part s from (k + m)) ≡ wire_of place r (part s from k) ++ wire_of (place + k) r' (part s' (from + k) m) =
      ap (wire_of place r) (part_append s from k m)
      ∙ wire_append place r (part s from k) (part s (from + k) m)
      ∙ ap (λ (n : ℕ). wire_of place r (part s from k) ++ wire_of (place + n) (register_after n r) (part s (from + k) m)) l
      ∙ ap₂ (λ (x : ℕ) (b : List ℕ). wire_of place r (part s from k) ++ wire_of (place + k) x b) (sym er) (sym behind) in
      put_two _ _ long e f
      ∙ ap (λ (t : List ℕ). take from (bits_of s) ++ t ++ drop (from + (k + m)) (bits_of s)) (sym joined)

-- ---- THE TURN of the loop over whole bytes

pub mixed_none : (s : List ℕ) (first place r : ℕ) → Mixed s s first 0 place r r
unfolding wire_of complemented scrambled register_after part stretch
mixed_none s first place r = record { long = refl; put = put_none s (first * 8) _ refl; after = refl }

pub mixed_byte : {s s' : List ℕ} {first i place r r' : ℕ} (y r'' : ℕ) → Mixed s s' first i place r r' → first + i < length s
    → digits 8 y ≡ wire_of (place + i * 8) r' (digits 8 (get_or s' (first + i) 0)) → r'' ≡ register_after 8 r'
    → Mixed s (set s' (first + i) y) first (i + 1) place r r''
mixed_byte {s} {s'} {first} {i} {place} {r} {r'} y r'' m h ey er =
    let q : ℕ = first + i in
    let at : q * 8 ≡ first * 8 + i * 8 = omega arith in
    let next : (i + 1) * 8 ≡ i * 8 + 8 = omega arith in
    let here : q < length s' = omega (arith, m.long) in
    let put' : Put s' (set s' q y) (first * 8 + i * 8) 8 (wire_of (place + i * 8) r' (part s' (first * 8 + i * 8) 8)) =
    rw at at (byte_put s' q y here ∙ ap (λ (l : List ℕ). take (q * 8) (bits_of s') ++ l ++ drop (q * 8 + 8) (bits_of s')) (ey ∙ ap (wire_of (place + i * 8) r') (sym (byte_part s' q here)))) in
    record {
      long = length-set s' q y ∙ m.long;
      put = rw next (mix_two s s' (set s' q y) (first * 8) (i * 8) 8 (omega arith) place r r' m.after m.put put');
      after = er ∙ ap (register_after 8) m.after ∙ sym (after_add (i * 8) 8 r) ∙ ap (λ (k : ℕ). register_after k r) (sym next);
    }

-- a run behind a run
pub mixed_two : {s s₁ s₂ : List ℕ} {first m n place r a o : ℕ} → first + m + n ≤ length s → Mixed s s₁ first m place r a → Mixed s₁ s₂ (first + m) n (place + m * 8) a o
    → Mixed s s₂ first (m + n) place r o
mixed_two {s} {s₁} {s₂} {first} {m} {n} {place} {r} {a} {o} fits e f =
    let at : (first + m) * 8 ≡ first * 8 + m * 8 = omega arith in
    let all : m * 8 + n * 8 ≡ (m + n) * 8 = omega arith in
    record {
      long = f.long ∙ e.long;
      put = rw all at (mix_two s s₁ s₂ (first * 8) (m * 8) (n * 8) (omega arith) place r a e.after e.put (rw at at f.put));
      after = f.after ∙ ap (register_after (n * 8)) e.after ∙ sym (after_add (m * 8) (n * 8) r) ∙ ap (λ (k : ℕ). register_after k r) all;
    }

-- ---- what bytes on the wire are, byte by byte

-- lists cut at one place
front_same : (n : ℕ) (xs ys xs' ys' : List ℕ) → length xs ≡ n → length xs' ≡ n → xs ++ ys ≡ xs' ++ ys' → xs ≡ xs'
front_same n xs ys xs' ys' l l' e = sym (take_at xs ys n l) ∙ ap (take n) e ∙ take_at xs' ys' n l'

back_same : (n : ℕ) (xs ys xs' ys' : List ℕ) → length xs ≡ n → length xs' ≡ n → xs ++ ys ≡ xs' ++ ys' → ys ≡ ys'
back_same n xs ys xs' ys' l l' e = sym (drop_at xs ys n l) ∙ ap (drop n) e ∙ drop_at xs' ys' n l'

module _ (s s' : List ℕ) (q k place r : ℕ) (fits : q + k ≤ length s) (long : length s' ≡ length s) (put : Put s s' (q * 8) (k * 8) (wire_of place r (part s (q * 8) (k * 8)))) where
  all_long : length (wire_of place r (part s (q * 8) (k * 8))) ≡ k * 8
  all_long = length_wire place r (part s (q * 8) (k * 8)) ∙ length_part s (q * 8) (k * 8) (omega arith)

  -- a byte of them
  pub mixed_at : (i : ℕ) → i < k → digits 8 (get_or s' (q + i) 0) ≡ wire_of (place + i * 8) (register_after (i * 8) r) (digits 8 (get_or s (q + i) 0))
  mixed_at i h =
      let rest : ℕ = (k - i - 1) * 8 in
      let cut : k * 8 ≡ i * 8 + (8 + rest) = omega arith in
      let at : q * 8 + i * 8 ≡ (q + i) * 8 = omega arith in
      let split : (t : List ℕ) → part t (q * 8) (k * 8) ≡ part t (q * 8) (i * 8) ++ (part t (q * 8 + i * 8) 8 ++ part t (q * 8 + i * 8 + 8) rest) =
      λ t. ap (part t (q * 8)) cut ∙ part_append t (q * 8) (i * 8) (8 + rest) ∙ ap (λ (l : List ℕ). part t (q * 8) (i * 8) ++ l) (part_append t (q * 8 + i * 8) 8 rest) in
      let a : List ℕ = part s (q * 8) (i * 8) in
      let b : List ℕ = part s (q * 8 + i * 8) 8 in
      let c : List ℕ = part s (q * 8 + i * 8 + 8) rest in
      let la : length a ≡ i * 8 = length_part s (q * 8) (i * 8) (omega arith) in
      let lb : length b ≡ 8 = length_part s (q * 8 + i * 8) 8 (omega arith) in
      let r' : ℕ = register_after (i * 8) r in
      let wires : wire_of place r (part s (q * 8) (k * 8)) ≡ wire_of place r a ++ (wire_of (place + i * 8) r' b ++ wire_of (place + i * 8 + length b) (register_after (length b) r') c) =
      ap (wire_of place r) (split s)
      ∙ wire_append place r a (b ++ c)
      ∙ ap (λ (n : ℕ). wire_of place r a ++ wire_of (place + n) (register_after n r) (b ++ c)) la
      ∙ ap (λ (l : List ℕ). wire_of place r a ++ l) (wire_append (place + i * 8) r' b c) in
      let same = sym (split s') ∙ part_put s s' (q * 8) (k * 8) _ (omega arith) all_long put ∙ wires in
      let x : List ℕ = wire_of (place + i * 8) r' b in
      let y : List ℕ = wire_of (place + i * 8 + length b) (register_after (length b) r') c in
      let a' : List ℕ = part s' (q * 8) (i * 8) in
      let b' : List ℕ = part s' (q * 8 + i * 8) 8 in
      let c' : List ℕ = part s' (q * 8 + i * 8 + 8) rest in
      let back : b' ++ c' ≡ x ++ y = back_same (i * 8) a' (b' ++ c') (wire_of place r a) (x ++ y) (length_part s' (q * 8) (i * 8) (omega arith)) (length_wire place r a ∙ la) same in
      let here : b' ≡ x = front_same 8 b' c' x y (length_part s' (q * 8 + i * 8) 8 (omega arith)) (length_wire (place + i * 8) r' b ∙ lb) back in
      sym (ap (λ (n : ℕ). part s' n 8) at ∙ byte_part s' (q + i) (omega arith))
      ∙ here
      ∙ ap (wire_of (place + i * 8) r') (ap (λ (n : ℕ). part s n 8) at ∙ byte_part s (q + i) (omega arith))

  -- what lies before and behind them is kept
  pub mixed_front : Below 256 s → Below 256 s' → take q s' ≡ take q s
  unfolding bits_of
  mixed_front b b' =
      let inside : q * 8 ≤ length (bits_of s) = rw length_bits (omega arith) in
      let front : length (take (q * 8) (bits_of s)) ≡ q * 8 = length-take-le (q * 8) (bits_of s) inside in
      let w : List ℕ = wire_of place r (part s (q * 8) (k * 8)) in
      packed_inj 8 (take q s') (take q s) (length-take-le q s' (omega arith) ∙ sym (length-take-le q s (omega arith))) (below_take 256 q s' b') (below_take 256 q s b)
      (sym (bits_take s' q)
      ∙ ap (take (q * 8)) (put ∙ append_assoc (take (q * 8) (bits_of s)) w (drop (q * 8 + k * 8) (bits_of s)))
      ∙ take_at (take (q * 8) (bits_of s)) (w ++ drop (q * 8 + k * 8) (bits_of s)) (q * 8) front
      ∙ bits_take s q)

  pub mixed_back : Below 256 s → Below 256 s' → drop (q + k) s' ≡ drop (q + k) s
  unfolding bits_of
  mixed_back b b' =
      let at : (q + k) * 8 ≡ q * 8 + k * 8 = omega arith in
      let inside : q * 8 ≤ length (bits_of s) = rw length_bits (omega arith) in
      let w : List ℕ = wire_of place r (part s (q * 8) (k * 8)) in
      let front : length (take (q * 8) (bits_of s) ++ w) ≡ q * 8 + k * 8 =
      length-append (take (q * 8) (bits_of s)) w ∙ ap₂ (λ (m n : ℕ). m + n) (length-take-le (q * 8) (bits_of s) inside) all_long in
      packed_inj 8 (drop (q + k) s') (drop (q + k) s) (length-drop (q + k) s' ∙ ap (λ (n : ℕ). n - (q + k)) long ∙ sym (length-drop (q + k) s)) (below_drop 256 (q + k) s' b') (below_drop 256 (q + k) s b)
      (sym (bits_drop s' (q + k))
      ∙ ap₂ drop at put
      ∙ drop_at (take (q * 8) (bits_of s) ++ w) (drop (q * 8 + k * 8) (bits_of s)) (q * 8 + k * 8) front
      ∙ ap (λ (n : ℕ). drop n (bits_of s)) (sym at)
      ∙ bits_drop s (q + k))
