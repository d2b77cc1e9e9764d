-- The first window that is a tail: where it stands, and the lines of the plain definition without their count.
-- Over any length of a window and any test. Assumes nothing.
use mathlib.Core.Bool.{Bool, true, false, cond, false≢true}
use mathlib.Core.List.{List, [], ◌∷◌, ◌++◌}
use mathlib.Core.Option.{Option, none, some}
use mathlib.Core.Path.{◌≡◌, refl, sym, ap, ◌∙◌}
use Prim.Native.Nat.{ℕ, zero, suc, ◌+◌, ◌≤◌, ◌<◌}
use native.Mathlib.Nat.{le_refl, not-suc-le-zero, le_of_suc-le-suc, zero-add, suc-add}
use native.Mathlib.Omega.{arith}
use borrow.Author.Tests.{le-leb, lt-leb}
use lib.ListN.{length, drop, length-drop, length-append}
use lib.Seq.{take_all, take_at, drop_at}
use Rattle.reader_bits.specs.Lines.{opens, after_tail, line_then, lines_up_to, lines_of}

module _ (W : ℕ) (test : List ℕ → Bool) where
  -- fewer bits than a window has: no window
  pub opens_short : (w : List ℕ) → length w < W → opens W test w ≡ false
  opens_short w h = rw (lt-leb W (length w) h)

  -- a window's own bits
  pub opens_own : (w bs : List ℕ) → length w ≡ W → opens W test (w ++ bs) ≡ test w
  opens_own w bs l =
      let a = length-append w bs in
      rw (le-leb W (length (w ++ bs)) (omega arith), take_at w bs W l)

  pub opens_window : (w : List ℕ) → length w ≡ W → opens W test w ≡ test w
  opens_window w l = rw (le-leb W (length w) (omega arith), take_all W w (omega arith))

  pub after_short : (w : List ℕ) → length w < W → after_tail W test w ≡ none
  after_short [] h = refl
  after_short (b ∷ bs) h = rw (opens_short (b ∷ bs) h) (after_short bs (omega arith))

  -- the first window is a tail
  pub after_hit : (w bs : List ℕ) → zero < W → length w ≡ W → test w ≡ true → after_tail W test (w ++ bs) ≡ some bs
  after_hit [] bs p l e = absurd (let z : ⊥ = omega arith in z)
  after_hit (c ∷ w) bs p l e = rw (opens_own (c ∷ w) bs l, e) (ap some (drop_at (c ∷ w) bs W l))

  -- the first window is none
  pub after_miss : (c : ℕ) (w bs : List ℕ) → length (c ∷ w) ≡ W → test (c ∷ w) ≡ false
      → after_tail W test ((c ∷ w) ++ bs) ≡ after_tail W test (w ++ bs)
  after_miss c w bs l e = rw (opens_own (c ∷ w) bs l, e)

  -- a window has bits, so what stands after it is shorter
  pub after_less : zero < W → (bs rest : List ℕ) → after_tail W test bs ≡ some rest → length rest < length bs
  after_less p [] rest e = let z : ◌≡◌ {A = ℕ} 0 1 = cc in omega arith
  after_less p (b ∷ bs) rest e = go (opens W test (b ∷ bs)) e (after_less p bs rest)
    where
      go : (t : Bool) → cond t (some (drop W (b ∷ bs))) (after_tail W test bs) ≡ some rest
          → (after_tail W test bs ≡ some rest → length rest < length bs) → length rest < suc (length bs)
      go true h r =
          let k : drop W (b ∷ bs) ≡ rest = cc in
          let l = length-drop W (b ∷ bs) in
          let m = ap length k in
          omega arith
      go false h r = let k = r h in omega arith

  module _ (N : ℕ) (plain : List ℕ → List ℕ) where
    line_then_cong : (f g : List ℕ → List (List ℕ)) (o : Option (List ℕ))
        → ((rest : List ℕ) → o ≡ some rest → f (drop N rest) ≡ g (drop N rest))
        → line_then N plain f o ≡ line_then N plain g o
    line_then_cong f g none h = refl
    line_then_cong f g (some rest) h = rw (h rest refl)

    module _ (p : zero < W) where
      -- as many as there are bits are enough
      enough : (n m : ℕ) (bs : List ℕ) → length bs ≤ n → length bs ≤ m → lines_up_to W test N plain n bs ≡ lines_up_to W test N plain m bs
      unfolding lines_up_to
      enough zero zero bs h k = refl
      enough zero (suc m) [] h k = refl
      enough zero (suc m) (b ∷ bs) h k = absurd (not-suc-le-zero h)
      enough (suc n) zero [] h k = refl
      enough (suc n) zero (b ∷ bs) h k = absurd (not-suc-le-zero k)
      enough (suc n) (suc m) bs h k =
          line_then_cong (λ rest. lines_up_to W test N plain n rest) (λ rest. lines_up_to W test N plain m rest) (after_tail W test bs)
          (λ rest e. let l = after_less p bs rest e in
          let d = length-drop N rest in
          enough n m (drop N rest) (omega arith) (omega arith))

      -- THE DEFINITION WITHOUT ITS COUNT: the first tail, the line after it, and then the lines of what stands after that
      pub lines_of_eq : (bs : List ℕ) → lines_of W test N plain bs ≡ line_then N plain (λ rest. lines_of W test N plain rest) (after_tail W test bs)
      unfolding lines_of lines_up_to
      lines_of_eq [] = refl
      lines_of_eq (b ∷ bs) =
          line_then_cong (λ rest. lines_up_to W test N plain (length bs) rest) (λ rest. lines_of W test N plain rest) (after_tail W test (b ∷ bs))
          (λ rest e. let l = after_less p (b ∷ bs) rest e in
          let d = length-drop N rest in
          enough (length bs) (length (drop N rest)) (drop N rest) (omega arith) (le_refl _))

-- ---- in the paper's words: the first place where a window is a tail, and what stands after it

module _ (W : ℕ) (test : List ℕ → Bool) where
  abbrev pub TailAt : List ℕ → ℕ → Type 0
  TailAt bs k = opens W test (drop k bs) ≡ true

  pub record First (bs rest : List ℕ) : Type 0 where
    pub place : ℕ
    pub here : TailAt bs place
    pub none_before : (j : ℕ) → j < place → TailAt bs j → ⊥
    pub then : rest ≡ drop (place + W) bs

  pub after_first : (bs rest : List ℕ) → after_tail W test bs ≡ some rest → First bs rest
  after_first [] rest e = let z : ◌≡◌ {A = ℕ} 0 1 = cc in absurd (omega arith)
  after_first (b ∷ bs) rest e = go (opens W test (b ∷ bs)) refl e (after_first bs rest)
    where
      go : (t : Bool) → opens W test (b ∷ bs) ≡ t → cond t (some (drop W (b ∷ bs))) (after_tail W test bs) ≡ some rest
          → (after_tail W test bs ≡ some rest → First bs rest) → First (b ∷ bs) rest
      go true q h r =
          let k : drop W (b ∷ bs) ≡ rest = cc in
          record {
            place = 0;
            here = q;
            none_before = λ j l w. not-suc-le-zero l;
            then = sym k ∙ ap (λ (x : ℕ). drop x (b ∷ bs)) (sym (zero-add W));
          }
      go false q h r =
          let f = r h in
          record {
            place = suc f.place;
            here = f.here;
            none_before = before f.place f.none_before q;
            then = f.then ∙ ap (λ (x : ℕ). drop x (b ∷ bs)) (sym (suc-add f.place W));
          }
        where
          before : (k : ℕ) → ((j : ℕ) → j < k → TailAt bs j → ⊥) → opens W test (b ∷ bs) ≡ false
              → (j : ℕ) → j < suc k → TailAt (b ∷ bs) j → ⊥
          before k n q' zero l w = false≢true (sym q' ∙ w)
          before k n q' (suc j) l w = n j (le_of_suc-le-suc l) w

  pub after_none : zero < W → (bs : List ℕ) → after_tail W test bs ≡ none → (k : ℕ) → TailAt bs k → ⊥
  after_none p [] e k w =
      let d = length-drop {A = ℕ} k [] in
      false≢true (sym (opens_short W test (drop k []) (omega arith)) ∙ w)
  after_none p (b ∷ bs) e k w = go (opens W test (b ∷ bs)) refl e (after_none p bs) k w
    where
      go : (t : Bool) → opens W test (b ∷ bs) ≡ t → cond t (some (drop W (b ∷ bs))) (after_tail W test bs) ≡ none
          → (after_tail W test bs ≡ none → (k : ℕ) → TailAt bs k → ⊥) → (k : ℕ) → TailAt (b ∷ bs) k → ⊥
      go true q h r k x = let z : ◌≡◌ {A = ℕ} 0 1 = cc in omega arith
      go false q h r zero x = false≢true (sym q ∙ x)
      go false q h r (suc k) x = r h k x
