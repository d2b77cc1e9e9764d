-- A call goes onward over the bits: those that stood to be read before it are those that it read and those that stand to be
-- read after it; and where something is complete, the last bit read completed it. Over any machine. Assumes nothing.
use mathlib.Core.Bool.{Bool, true, false, cond}
use mathlib.Core.List.{List, [], ◌∷◌, ◌++◌}
use mathlib.Core.Path.{◌≡◌, refl, ap}
use Prim.Native.Nat.{ℕ, zero, suc, ◌%◌, ◌^◌}
use lib.ListN.{drop}
use Rattle.bits.specs.Bits.{digits, bits_of}
use Rattle.bits.proofs.Bytes.{bits_cons}
use Rattle.bits.proofs.Digits.{digits_low, no_digits}
use Rattle.reader_bits.specs.Call.{bit_of, Call, more, whole, bits_then, bytes_from, call}
use Rattle.cuts.proofs.Calls.{outs, after, drop_next}

module _ {S O : Type 0} (step : S → ℕ → S) (done : S → ℕ → Bool) (out : S → O) where
  -- the piece used up: the bits read complete nothing
  pub record Onward (s : S) (stood p : List ℕ) (t : ℕ) (s' : S) (n v : ℕ) : Type 0 where
    pub bits : List ℕ
    pub split : stood ≡ bits ++ (digits n v ++ bits_of (drop t p))
    pub goes : s' ≡ after step done out s bits
    pub quiet : outs step done out s bits ≡ []

  -- something complete: by the last bit read, and by none before it
  pub record Completes (s : S) (stood p : List ℕ) (t : ℕ) (s' : S) (n v : ℕ) : Type 0 where
    pub bits : List ℕ
    pub last : ℕ
    pub split : stood ≡ (bits ++ (last ∷ [])) ++ (digits n v ++ bits_of (drop t p))
    pub goes : s' ≡ after step done out s (bits ++ (last ∷ []))
    pub quiet : outs step done out s bits ≡ []
    pub brings : outs step done out s (bits ++ (last ∷ [])) ≡ out s' ∷ []

  abbrev pub OnwardBy : S → List ℕ → List ℕ → Call S → Type 0
  OnwardBy s stood p (more t s' n v) = Onward s stood p t s' n v
  OnwardBy s stood p (whole t s' n v) = Completes s stood p t s' n v

  -- one bit that completes nothing
  onward_bit : (s : S) (b : ℕ) (stood p : List ℕ) (c : Call S) → done s b ≡ false → OnwardBy (step s b) stood p c → OnwardBy s (b ∷ stood) p c
  onward_bit s b stood p (more t s' n v) e h =
      record {
        bits = b ∷ h.bits;
        split = ap (λ (l : List ℕ). b ∷ l) h.split;
        goes = h.goes;
        quiet = rw e h.quiet;
      }
  onward_bit s b stood p (whole t s' n v) e h =
      record {
        bits = b ∷ h.bits;
        last = h.last;
        split = ap (λ (l : List ℕ). b ∷ l) h.split;
        goes = h.goes;
        quiet = rw e h.quiet;
        brings = rw e h.brings;
      }

  onward_bits : (p : List ℕ) (k : S → Call S) (t : ℕ) (ys : List ℕ) → drop t p ≡ ys
      → ((s : S) → OnwardBy s (bits_of ys) p (k s))
      → (n v : ℕ) (s : S) → OnwardBy s (digits n v ++ bits_of ys) p (bits_then step done k t s n v)
  unfolding digits bits_then
  onward_bits p k t ys e h zero v s = h s
  onward_bits p k t ys e h (suc n) v s = go (done s (bit_of n v)) refl (onward_bits p k t ys e h n v (step s (bit_of n v)))
    where
      b : ℕ
      b = bit_of n v

      rest : digits n v ++ bits_of ys ≡ digits n (v % 2 ^ n) ++ bits_of (drop t p)
      rest = rw (← digits_low n v, e)

      go : (d : Bool) → done s b ≡ d → OnwardBy (step s b) (digits n v ++ bits_of ys) p (bits_then step done k t (step s b) n v)
          → OnwardBy s (b ∷ (digits n v ++ bits_of ys)) p (cond d (whole t (step s b) n (v % 2 ^ n)) (bits_then step done k t (step s b) n v))
      go true q i = record { bits = []; last = b; split = ap (λ (l : List ℕ). b ∷ l) rest; goes = refl; quiet = refl; brings = rw q }
      go false q i = onward_bit s b (digits n v ++ bits_of ys) p (bits_then step done k t (step s b) n v) q i

  onward_bytes : (p ys : List ℕ) (t : ℕ) → drop t p ≡ ys → (s : S) → OnwardBy s (bits_of ys) p (bytes_from step done ys t s)
  onward_bytes p [] t e s = record { bits = []; split = rw (no_digits 0, e); goes = refl; quiet = refl }
  onward_bytes p (y ∷ ys) t e s =
      rw bits_cons
      (onward_bits p (λ s'. bytes_from step done ys (suc t) s') (suc t) ys (drop_next step done out t p y ys e)
      (λ s'. onward_bytes p ys (suc t) (drop_next step done out t p y ys e) s') 8 y s)

  pub onward_call : (s : S) (n v : ℕ) (p : List ℕ) → OnwardBy s (digits n v ++ bits_of p) p (call step done s n v p)
  onward_call s n v [] = record { bits = []; split = refl; goes = refl; quiet = refl }
  onward_call s n v (y ∷ ys) =
      onward_bits (y ∷ ys) (λ s'. bytes_from step done (y ∷ ys) 0 s') 0 (y ∷ ys) refl
      (λ s'. onward_bytes (y ∷ ys) (y ∷ ys) 0 refl s') n v s
