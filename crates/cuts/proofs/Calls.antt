-- One call of a machine that goes bit by bit: what holds of all that it can give, the bytes that it takes, and what it
-- completes against the bits in a row. Over any machine. Assumes nothing.
use mathlib.Core.Bool.{Bool, true, false, cond}
use mathlib.Core.List.{List, [], ◌∷◌, ◌++◌, append_assoc}
use mathlib.Core.Path.{◌≡◌, refl, sym, ap, ◌∙◌}
use Prim.Native.Nat.{ℕ, zero, suc, ◌+◌, ◌%◌, ◌^◌, ◌≤◌, ◌<◌}
use native.Mathlib.Nat.{le_refl, mod-lt}
use native.Mathlib.Numerals.{add-one}
use native.Mathlib.Omega.{arith}
use lib.ListN.{length, drop}
use lib.Pow.{pow_pos}
use lib.Seq.{drop-drop}
use Rattle.bits.specs.Bits.{digits, bits_of}
use Rattle.bits.proofs.Bytes.{bits_cons}
use Rattle.bits.proofs.Digits.{digits_low, no_digits}
use Rattle.reader_bits.specs.Call.{bit_of, Call, more, whole, bits_then, bytes_from, call}
use Rattle.reader_bits.proofs.Resume.{bit_lt}

-- what a call took
abbrev pub taken_of : {S : Type 0} → Call S → ℕ
taken_of (more t s n v) = t
taken_of (whole t s n v) = t

module _ {S : Type 0} (step : S → ℕ → S) (done : S → ℕ → Bool) where
  -- ---- what holds of all that a call can give: P of the states inside it, Q of the state and unread bits that it leaves
  -- with the piece used up, R of those where something is complete

  module _ (P : S → Type 0) (Q R : S → ℕ → ℕ → Type 0)
      (on : (s : S) (b : ℕ) → b < 2 → done s b ≡ false → P s → P (step s b))
      (rest : (s : S) → P s → Q s 0 0)
      (stop : (s : S) (b : ℕ) → b < 2 → done s b ≡ true → P s → (n v : ℕ) → n ≤ 7 → v < 2 ^ n → R (step s b) n v) where
    abbrev pub Gives : Call S → Type 0
    Gives (more t s n v) = Q s n v
    Gives (whole t s n v) = R s n v

    gives_bits : (k : S → Call S) (t : ℕ) → ((s : S) → P s → Gives (k s)) → (n v : ℕ) → n ≤ 8 → (s : S) → P s → Gives (bits_then step done k t s n v)
    unfolding bits_then
    gives_bits k t h zero v l s p = h s p
    gives_bits k t h (suc n) v l s p = go (done s (bit_of n v)) refl (λ p'. gives_bits k t h n v (omega arith) (step s (bit_of n v)) p')
      where
        go : (d : Bool) → done s (bit_of n v) ≡ d → (P (step s (bit_of n v)) → Gives (bits_then step done k t (step s (bit_of n v)) n v))
            → Gives (cond d (whole t (step s (bit_of n v)) n (v % 2 ^ n)) (bits_then step done k t (step s (bit_of n v)) n v))
        go true e i = stop s (bit_of n v) (bit_lt n v) e p n (v % 2 ^ n) (omega arith) (mod-lt v (pow_pos n))
        go false e i = i (on s (bit_of n v) (bit_lt n v) e p)

    gives_bytes : (ys : List ℕ) (t : ℕ) (s : S) → P s → Gives (bytes_from step done ys t s)
    gives_bytes [] t s p = rest s p
    gives_bytes (y ∷ ys) t s p =
        gives_bits (λ s'. bytes_from step done ys (suc t) s') (suc t) (λ s' p'. gives_bytes ys (suc t) s' p') 8 y (le_refl 8) s p

    pub gives_call : (p : List ℕ) (s : S) (n v : ℕ) → n ≤ 8 → P s → Q s n v → Gives (call step done s n v p)
    gives_call [] s n v l h q = q
    gives_call (y ∷ ys) s n v l h q =
        gives_bits (λ s'. bytes_from step done (y ∷ ys) 0 s') 0 (λ s' p'. gives_bytes (y ∷ ys) 0 s' p') n v l s h

  -- ---- the bytes taken

  taken_bits : (m e : ℕ) (k : S → Call S) (t : ℕ) → (m ≤ t) × (t ≤ e) → ((s : S) → (m ≤ taken_of (k s)) × (taken_of (k s) ≤ e))
      → (n v : ℕ) (s : S) → (m ≤ taken_of (bits_then step done k t s n v)) × (taken_of (bits_then step done k t s n v) ≤ e)
  unfolding bits_then
  taken_bits m e k t l h zero v s = h s
  taken_bits m e k t l h (suc n) v s = go (done s (bit_of n v)) (taken_bits m e k t l h n v (step s (bit_of n v)))
    where
      go : (d : Bool) → (m ≤ taken_of (bits_then step done k t (step s (bit_of n v)) n v)) × (taken_of (bits_then step done k t (step s (bit_of n v)) n v) ≤ e)
          → (m ≤ taken_of (cond d (whole t (step s (bit_of n v)) n (v % 2 ^ n)) (bits_then step done k t (step s (bit_of n v)) n v)))
          × (taken_of (cond d (whole t (step s (bit_of n v)) n (v % 2 ^ n)) (bits_then step done k t (step s (bit_of n v)) n v)) ≤ e)
      go true i = l
      go false i = i

  taken_bytes : (m e : ℕ) (ys : List ℕ) (t : ℕ) → m ≤ t → t + length ys ≤ e → (s : S)
      → (m ≤ taken_of (bytes_from step done ys t s)) × (taken_of (bytes_from step done ys t s) ≤ e)
  taken_bytes m e [] t h k s = (h, omega arith)
  taken_bytes m e (y ∷ ys) t h k s =
      taken_bits m e (λ s'. bytes_from step done ys (suc t) s') (suc t) (omega arith, omega arith)
      (λ s'. taken_bytes m e ys (suc t) (omega arith) (omega arith) s') 8 y s

  -- no more than the piece has
  pub taken_most : (s : S) (n v : ℕ) (p : List ℕ) → taken_of (call step done s n v p) ≤ length p
  taken_most s n v [] = le_refl 0
  taken_most s n v (y ∷ ys) =
      (taken_bits 0 (suc (length ys)) (λ s'. bytes_from step done (y ∷ ys) 0 s') 0 (omega arith, omega arith)
      (λ s'. taken_bytes 0 (suc (length ys)) (y ∷ ys) 0 (omega arith) (omega arith) s') n v s).1

  module _ {O : Type 0} (out : S → O) where
    -- what the bits in a row complete, and the state after them
    abbrev pub outs : S → List ℕ → List O
    outs s [] = []
    outs s (b ∷ bs) = cond (done s b) (out (step s b) ∷ outs (step s b) bs) (outs (step s b) bs)

    abbrev pub after : S → List ℕ → S
    after s [] = s
    after s (b ∷ bs) = after (step s b) bs

    -- unread bits that complete nothing
    abbrev pub Quiet : S → ℕ → ℕ → Type 0
    Quiet s n v = outs s (digits n v) ≡ []

    quiet_on : (k : S → Call S) (t n v : ℕ) (s : S) → Quiet s n v → bits_then step done k t s n v ≡ k (after s (digits n v))
    unfolding bits_then digits
    quiet_on k t zero v s q = refl
    quiet_on k t (suc n) v s q = go (done s (bit_of n v)) q (quiet_on k t n v (step s (bit_of n v)))
      where
        go : (d : Bool) → cond d (out (step s (bit_of n v)) ∷ outs (step s (bit_of n v)) (digits n v)) (outs (step s (bit_of n v)) (digits n v)) ≡ []
            → (outs (step s (bit_of n v)) (digits n v) ≡ [] → bits_then step done k t (step s (bit_of n v)) n v ≡ k (after (step s (bit_of n v)) (digits n v)))
            → cond d (whole t (step s (bit_of n v)) n (v % 2 ^ n)) (bits_then step done k t (step s (bit_of n v)) n v) ≡ k (after (step s (bit_of n v)) (digits n v))
        go true e i = let z : ◌≡◌ {A = ℕ} 0 1 = cc in absurd (omega arith)
        go false e i = i e

    -- at least one byte of a piece that has any
    pub taken_least : (s : S) (n v y : ℕ) (ys : List ℕ) → Quiet s n v → 1 ≤ taken_of (call step done s n v (y ∷ ys))
    taken_least s n v y ys q =
        rw (quiet_on (λ s'. bytes_from step done (y ∷ ys) 0 s') 0 n v s q)
        (taken_bits 1 (suc (length ys)) (λ s'. bytes_from step done ys 1 s') 1 (omega arith, omega arith)
        (λ s'. taken_bytes 1 (suc (length ys)) ys 1 (le_refl 1) (omega arith) s') 8 y (after s (digits n v))).0

    -- ---- one call, against the bits in a row

    -- what a call completed, and then what its state completes in the unread bits, the rest of the piece and more bits
    abbrev pub stream : List ℕ → List ℕ → Call S → List O
    stream p r (more t s n v) = outs s (digits n v ++ (bits_of (drop t p) ++ r))
    stream p r (whole t s n v) = out s ∷ outs s (digits n v ++ (bits_of (drop t p) ++ r))

    stream_bits : (p r : List ℕ) (k : S → Call S) (t : ℕ) (ys : List ℕ) → drop t p ≡ ys
        → ((s : S) → stream p r (k s) ≡ outs s (bits_of ys ++ r))
        → (n v : ℕ) (s : S) → stream p r (bits_then step done k t s n v) ≡ outs s (digits n v ++ (bits_of ys ++ r))
    unfolding digits bits_then
    stream_bits p r k t ys e h zero v s = h s
    stream_bits p r k t ys e h (suc n) v s = go (done s (bit_of n v)) (stream_bits p r k t ys e h n v (step s (bit_of n v)))
      where
        go : (d : Bool) → stream p r (bits_then step done k t (step s (bit_of n v)) n v) ≡ outs (step s (bit_of n v)) (digits n v ++ (bits_of ys ++ r))
            → stream p r (cond d (whole t (step s (bit_of n v)) n (v % 2 ^ n)) (bits_then step done k t (step s (bit_of n v)) n v))
            ≡ cond d (out (step s (bit_of n v)) ∷ outs (step s (bit_of n v)) (digits n v ++ (bits_of ys ++ r))) (outs (step s (bit_of n v)) (digits n v ++ (bits_of ys ++ r)))
        go true i = rw (← digits_low n v, e)
        go false i = i

    pub drop_next : (t : ℕ) (p : List ℕ) (y : ℕ) (ys : List ℕ) → drop t p ≡ y ∷ ys → drop (suc t) p ≡ ys
    drop_next t p y ys e = ap (λ (k : ℕ). drop k p) (sym (add-one t)) ∙ sym (drop-drop 1 t p) ∙ ap (drop 1) e

    stream_bytes : (p r ys : List ℕ) (t : ℕ) → drop t p ≡ ys → (s : S) → stream p r (bytes_from step done ys t s) ≡ outs s (bits_of ys ++ r)
    stream_bytes p r [] t e s = rw (e, no_digits 0)
    stream_bytes p r (y ∷ ys) t e s =
        stream_bits p r (λ s'. bytes_from step done ys (suc t) s') (suc t) ys (drop_next t p y ys e)
        (λ s'. stream_bytes p r ys (suc t) (drop_next t p y ys e) s') 8 y s
        ∙ ap (λ (l : List ℕ). outs s l) (sym (append_assoc (digits 8 y) (bits_of ys) r) ∙ ap (λ (l : List ℕ). l ++ r) (sym (bits_cons y ys)))

    pub stream_call : (s : S) (n v : ℕ) (p r : List ℕ) → stream p r (call step done s n v p) ≡ outs s (digits n v ++ (bits_of p ++ r))
    stream_call s n v [] r = refl
    stream_call s n v (y ∷ ys) r =
        stream_bits (y ∷ ys) r (λ s'. bytes_from step done (y ∷ ys) 0 s') 0 (y ∷ ys) refl
        (λ s'. stream_bytes (y ∷ ys) r (y ∷ ys) 0 refl s') n v s
