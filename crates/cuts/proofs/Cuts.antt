-- A machine driven over pieces of bytes: the caller offers a piece and each unread rest of it until it is used up, then
-- the next. Before call k it may exchange the state by `swap k`, where this changes nothing that bits bring.
-- B: however the bytes are cut, what is handed out is what the bits in a row complete. Over any machine. Assumes nothing.
use mathlib.Core.Bool.{Bool, true, false}
use mathlib.Core.List.{List, [], ◌∷◌, ◌++◌, append-nil}
use mathlib.Core.Logic.{◌↔◌}
use mathlib.Core.Path.{◌≡◌, refl, sym, ap, ◌∙◌, subst}
use Prim.Native.Nat.{ℕ, zero, suc, ◌^◌, ◌≤◌, ◌<◌, zero-le}
use native.Mathlib.Nat.{le_refl, not-suc-le-zero}
use native.Mathlib.Omega.{arith}
use lib.ListN.{length, drop, length-drop}
use Rattle.bits.specs.Bits.{in_arow, digits, bits_of, Below}
use Rattle.bits.proofs.Bytes.{bits_append, no_bits}
use Rattle.bits.proofs.Digits.{digits_below, no_digits}
use Rattle.bits.proofs.Below.{below_append}
use Rattle.bits.proofs.Bytes.{bits_below}
use Rattle.reader_bits.specs.Call.{Call, more, whole, call}
use Rattle.cuts.proofs.Calls.{taken_of, Gives, gives_call, taken_least, outs, Quiet, stream, stream_call}

module _ {S O : Type 0} (step : S → ℕ → S) (done : S → ℕ → Bool) (out : S → O) (swap : ℕ → S → S) where
  -- the calls from the k-th on, the pieces offered, what is handed out
  pub data Reads : ℕ → S → ℕ → ℕ → List (List ℕ) → List O → Type 0 where
    end : {k : ℕ} {s : S} {n v : ℕ} → Reads k s n v [] []
    used : {k : ℕ} {s : S} {n v : ℕ} {ps : List (List ℕ)} {ls : List O} → Reads k s n v ps ls → Reads k s n v ([] ∷ ps) ls
    on : {k : ℕ} {s : S} {n v : ℕ} {p : List ℕ} {ps : List (List ℕ)} {ls : List O} {t : ℕ} {s' : S} {n' v' : ℕ}
        → call step done (swap k s) n v p ≡ more t s' n' v' → Reads (suc k) s' n' v' (drop t p ∷ ps) ls → Reads k s n v (p ∷ ps) ls
    got : {k : ℕ} {s : S} {n v : ℕ} {p : List ℕ} {ps : List (List ℕ)} {ls : List O} {t : ℕ} {s' : S} {n' v' : ℕ}
        → call step done (swap k s) n v p ≡ whole t s' n' v' → Reads (suc k) s' n' v' (drop t p ∷ ps) ls → Reads k s n v (p ∷ ps) (out s' ∷ ls)

  module _ (Ok : S → Type 0)
      (ok_step : (s : S) (b : ℕ) → b < 2 → Ok s → Ok (step s b))
      (ok_swap : (k : ℕ) (s : S) → Ok s → Ok (swap k s))
      (swap_same : (k : ℕ) (s : S) → Ok s → (bs : List ℕ) → Below 2 bs → outs step done out (swap k s) bs ≡ outs step done out s bs)
      (calm : (s : S) (b : ℕ) → done s b ≡ true → (n v : ℕ) → n ≤ 7 → Quiet step done out (step s b) n v) where
    -- between calls: at most seven unread bits, and they complete nothing
    abbrev pub Rests : S → ℕ → ℕ → Type 0
    Rests s n v = Ok s × (n ≤ 7) × Quiet step done out s n v

    rests_none : (s : S) → Ok s → Rests s 0 0
    rests_none s o = (o, zero-le, rw (no_digits 0))

    rests_on : (s : S) (b : ℕ) → b < 2 → done s b ≡ false → Ok s → Ok (step s b)
    rests_on s b h e o = ok_step s b h o

    rests_stop : (s : S) (b : ℕ) → b < 2 → done s b ≡ true → Ok s → (n v : ℕ) → n ≤ 7 → v < 2 ^ n → Rests (step s b) n v
    rests_stop s b h e o n v l w = (ok_step s b h o, l, calm s b e n v l)

    rests_swap : (k : ℕ) (s : S) (n v : ℕ) → Rests s n v → Rests (swap k s) n v
    rests_swap k s n v r = (ok_swap k s r.0, r.1, swap_same k s r.0 (digits n v) (digits_below n v) ∙ r.2)

    abbrev RestsCall : Call S → Type 0
    RestsCall c = Gives step done Ok Rests Rests rests_on rests_none rests_stop c

    -- what a call that gives c leaves
    abbrev Leaves : S → ℕ → ℕ → List ℕ → List ℕ → Call S → Type 0
    Leaves s n v p rest c = RestsCall c × (stream step done out p (bits_of rest) c ≡ outs step done out s (digits n v ++ bits_of (p ++ rest)))

    leaves : (k : ℕ) (s : S) (n v : ℕ) (p rest : List ℕ) (c : Call S) → call step done (swap k s) n v p ≡ c → Rests s n v → Leaves s n v p rest c
    leaves k s n v p rest c e r =
        let w = rests_swap k s n v r in
        let l : n ≤ 8 = omega (arith, r.1) in
        subst (λ (x : Call S). Leaves s n v p rest x) e (
          gives_call step done Ok Rests Rests rests_on rests_none rests_stop p (swap k s) n v l w.0 w,
          stream_call step done out (swap k s) n v p (bits_of rest)
              ∙ ap (λ (x : List ℕ). outs step done out (swap k s) (digits n v ++ x)) (sym (bits_append p rest))
              ∙ swap_same k s r.0 (digits n v ++ bits_of (p ++ rest)) (below_append 2 (digits n v) (bits_of (p ++ rest)) (digits_below n v) (bits_below (p ++ rest))),
        )

    -- B. However the bytes are cut, what is handed out is what the bits in a row complete
    pub reads_outs : {k : ℕ} {s : S} {n v : ℕ} {ps : List (List ℕ)} {ls : List O} → Reads k s n v ps ls → Rests s n v
        → ls ≡ outs step done out s (digits n v ++ bits_of (in_arow ps))
    reads_outs {s = s} {n = n} {v = v} end r = sym (ap (λ (x : List ℕ). outs step done out s (digits n v ++ x)) no_bits ∙ ap (λ (x : List ℕ). outs step done out s x) (append-nil (digits n v)) ∙ r.2)
    reads_outs (used d) r = reads_outs d r
    reads_outs {k} {s} {n} {v} (on {p = p} {ps = ps} {t = t} {s' = s'} {n' = n'} {v' = v'} e d) r =
        let h : Leaves s n v p (in_arow ps) (more t s' n' v') = leaves k s n v p (in_arow ps) (more t s' n' v') e r in
        reads_outs d h.0 ∙ ap (λ (x : List ℕ). outs step done out s' (digits n' v' ++ x)) (bits_append (drop t p) (in_arow ps)) ∙ h.1
    reads_outs {k} {s} {n} {v} (got {p = p} {ps = ps} {t = t} {s' = s'} {n' = n'} {v' = v'} e d) r =
        let h : Leaves s n v p (in_arow ps) (whole t s' n' v') = leaves k s n v p (in_arow ps) (whole t s' n' v') e r in
        ap (λ (x : List O). out s' ∷ x)
        (reads_outs d h.0 ∙ ap (λ (x : List ℕ). outs step done out s' (digits n' v' ++ x)) (bits_append (drop t p) (in_arow ps)))
        ∙ h.1

    -- there is such a run of calls for every cut: each takes a byte
    abbrev Some : ℕ → S → ℕ → ℕ → List (List ℕ) → Type 0
    Some k s n v ps = (ls : List O) × Reads k s n v ps ls

    abbrev All : List (List ℕ) → Type 0
    All ps = (k : ℕ) (s : S) (n v : ℕ) → Rests s n v → Some k s n v ps

    some_piece : (m : ℕ) (p : List ℕ) (ps : List (List ℕ)) → length p ≤ m → All ps → All (p ∷ ps)
    some_piece zero [] ps h a k s n v r = let d = a k s n v r in (d.0, used d.1)
    some_piece (suc m) [] ps h a k s n v r = let d = a k s n v r in (d.0, used d.1)
    some_piece zero (y ∷ ys) ps h a k s n v r = absurd (not-suc-le-zero h)
    some_piece (suc m) (y ∷ ys) ps h a k s n v r =
        go (call step done (swap k s) n v (y ∷ ys)) refl
        (taken_least step done out (swap k s) n v y ys (rests_swap k s n v r).2)
        (λ t d. some_piece m (drop t (y ∷ ys)) ps d a)
      where
        go : (c : Call S) → call step done (swap k s) n v (y ∷ ys) ≡ c → 1 ≤ taken_of c
            → ((t : ℕ) → length (drop t (y ∷ ys)) ≤ m → All (drop t (y ∷ ys) ∷ ps)) → Some k s n v ((y ∷ ys) ∷ ps)
        go (more t s' n' v') e c i =
            let d = length-drop t (y ∷ ys) in
            let j = i t (omega arith) (suc k) s' n' v' (leaves k s n v (y ∷ ys) [] (more t s' n' v') e r).0 in
            (j.0, on e j.1)
        go (whole t s' n' v') e c i =
            let d = length-drop t (y ∷ ys) in
            let j = i t (omega arith) (suc k) s' n' v' (leaves k s n v (y ∷ ys) [] (whole t s' n' v') e r).0 in
            (out s' ∷ j.0, got e j.1)

    pub reads_some : (ps : List (List ℕ)) → All ps
    reads_some [] k s n v r = ([], end)
    reads_some (p ∷ ps) k s n v r = some_piece (length p) p ps (le_refl (length p)) (reads_some ps) k s n v r

    -- exactly that
    pub reads_iff : (k : ℕ) (s : S) (n v : ℕ) → Rests s n v → (ps : List (List ℕ)) (ls : List O)
        → Reads k s n v ps ls ↔ (ls ≡ outs step done out s (digits n v ++ bits_of (in_arow ps)))
    reads_iff k s n v r ps ls = (
      λ d. reads_outs d r,
      λ e. let d = reads_some ps k s n v r in subst (λ (x : List O). Reads k s n v ps x) (reads_outs d.1 r ∙ sym e) d.1,
    )
