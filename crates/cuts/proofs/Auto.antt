-- The same lines, found bit by bit: what is kept is the last bits of a search, or the bits of a line so far.
-- A: it finds the lines of the plain definition. C: later bits change no line that is whole. Over any length of a window,
-- any test, any line length and any rule that makes plain. Assumes nothing.
use mathlib.Core.Bool.{Bool, true, false, cond}
use mathlib.Core.List.{List, [], ◌∷◌, ◌++◌, append_assoc, append-nil}
use mathlib.Core.Option.{Option, some}
use mathlib.Core.Path.{◌≡◌, refl, sym, ap, ◌∙◌}
use Prim.Native.Nat.{ℕ, zero, suc, ◌≤◌, ◌<◌}
use native.Mathlib.Omega.{arith}
use borrow.Author.Tests.{leb-true, leb-false, ltb-true, ltb-false, le-leb, lt-leb}
use lib.Dec.{leb, ltb}
use lib.ListN.{length, take, drop, length-drop, length-append}
use lib.Seq.{take_at, drop_at}
use Rattle.reader_bits.specs.Lines.{opens, after_tail, line_then, lines_of}
use Rattle.cuts.proofs.Windows.{opens_short, opens_window, after_short, after_hit, after_miss, lines_of_eq}

pub data Auto : Type 0 where
  -- searching: the last bits since the start
  seek : List ℕ → Auto
  -- in a line: its bits so far, as they came
  line : List ℕ → Auto

pub snoc_length : (w : List ℕ) (b : ℕ) → length (w ++ (b ∷ [])) ≡ suc (length w)
snoc_length w b = length-append w (b ∷ []) ∙ omega arith

module _ (W : ℕ) (test : List ℕ → Bool) (N : ℕ) (plain : List ℕ → List ℕ) where
  -- the last bits, fewer than a window has
  abbrev pub keep : List ℕ → List ℕ
  keep w = cond (ltb (length w) W) w (drop 1 w)

  abbrev pub step_a : Auto → ℕ → Auto
  step_a (seek w) b = cond (opens W test (w ++ (b ∷ []))) (line []) (seek (keep (w ++ (b ∷ []))))
  step_a (line g) b = cond (leb N (suc (length g))) (seek []) (line (g ++ (b ∷ [])))

  -- does this bit end a line?
  abbrev pub ends_a : Auto → ℕ → Bool
  ends_a (seek w) b = false
  ends_a (line g) b = leb N (suc (length g))

  abbrev pub line_a : Auto → ℕ → List ℕ
  line_a (seek w) b = []
  line_a (line g) b = plain (g ++ (b ∷ []))

  -- the lines found
  abbrev pub found : Auto → List ℕ → List (List ℕ)
  found q [] = []
  found q (b ∷ bs) = cond (ends_a q b) (line_a q b ∷ found (step_a q b) bs) (found (step_a q b) bs)

  abbrev pub run_a : Auto → List ℕ → Auto
  run_a q [] = q
  run_a q (b ∷ bs) = run_a (step_a q b) bs

  -- a state that the reader can be in
  abbrev pub OkA : Auto → Type 0
  OkA (seek w) = length w < W
  OkA (line g) = length g < N

  -- what the plain definition has to go on with: the bits kept and those to come
  abbrev pub rest_a : Auto → List ℕ → Option (List ℕ)
  rest_a (seek w) bs = after_tail W test (w ++ bs)
  rest_a (line g) bs = some (g ++ bs)

  abbrev plainly : Option (List ℕ) → List (List ℕ)
  plainly o = line_then N plain (λ rest. lines_of W test N plain rest) o

  pub found_append : (q : Auto) (xs bs : List ℕ) → found q (xs ++ bs) ≡ found q xs ++ found (run_a q xs) bs
  found_append q [] bs = refl
  found_append q (a ∷ xs) bs = go (ends_a q a) (found_append (step_a q a) xs bs)
    where
      go : (t : Bool) → found (step_a q a) (xs ++ bs) ≡ found (step_a q a) xs ++ found (run_a (step_a q a) xs) bs
          → cond t (line_a q a ∷ found (step_a q a) (xs ++ bs)) (found (step_a q a) (xs ++ bs))
          ≡ cond t (line_a q a ∷ found (step_a q a) xs) (found (step_a q a) xs) ++ found (run_a (step_a q a) xs) bs
      go true r = rw r
      go false r = r

  module _ (pw : zero < W) (pn : zero < N) where
    -- a window of what was kept, whole or not
    hit : (w bs : List ℕ) → length w ≤ W → opens W test w ≡ true → after_tail W test (w ++ bs) ≡ some bs
    hit w bs h e = go (leb W (length w)) refl
      where
        go : (t : Bool) → leb W (length w) ≡ t → after_tail W test (w ++ bs) ≡ some bs
        go true l =
            let k = leb-true W (length w) l in
            let z : length w ≡ W = omega arith in
            after_hit W test w bs pw z (sym (opens_window W test w z) ∙ e)
        go false l = let k = opens_short W test w (leb-false W (length w) l) in let z : ◌≡◌ {A = ℕ} 0 1 = (let y : true ≡ false = sym e ∙ k in cc) in absurd (omega arith)

    -- a search goes on: nothing that the plain definition could still find is lost
    keep_after : (w bs : List ℕ) → length w ≤ W → opens W test w ≡ false → after_tail W test (w ++ bs) ≡ after_tail W test (keep w ++ bs)
    keep_after w bs h e = go (ltb (length w) W) refl w h e refl
      where
        go : (t : Bool) → ltb (length w) W ≡ t → (w' : List ℕ) → length w' ≤ W → opens W test w' ≡ false → w ≡ w'
            → after_tail W test (w' ++ bs) ≡ after_tail W test (cond t w' (drop 1 w') ++ bs)
        go true l w' k f p = refl
        go false l [] k f p = absurd (let m = ltb-false (length w) W l in let q = ap length p in omega arith)
        go false l (c ∷ w') k f p =
            let m = ltb-false (length w) W l in
            let q = ap length p in
            let z : length (c ∷ w') ≡ W = omega arith in
            after_miss W test c w' bs z (sym (opens_window W test (c ∷ w') z) ∙ f)

    keep_length : (w : List ℕ) → length w ≤ W → length (keep w) < W
    keep_length w h = go (ltb (length w) W) refl
      where
        go : (t : Bool) → ltb (length w) W ≡ t → length (cond t w (drop 1 w)) < W
        go true l = ltb-true (length w) W l
        go false l = let m = ltb-false (length w) W l in let d = length-drop 1 w in omega arith

    pub ok_step : (q : Auto) (b : ℕ) → OkA q → OkA (step_a q b)
    ok_step (seek w) b h = go (opens W test (w ++ (b ∷ [])))
      where
        go : (t : Bool) → OkA (cond t (line []) (seek (keep (w ++ (b ∷ [])))))
        go true = pn
        go false = keep_length (w ++ (b ∷ [])) (let l = snoc_length w b in omega arith)
    ok_step (line g) b h = go (leb N (suc (length g))) refl
      where
        go : (t : Bool) → leb N (suc (length g)) ≡ t → OkA (cond t (seek []) (line (g ++ (b ∷ []))))
        go true e = pw
        go false e = let l = snoc_length g b in let m = leb-false N (suc (length g)) e in omega arith

    -- A. Bit by bit the lines of the plain definition are found
    pub found_plain : (bs : List ℕ) (q : Auto) → OkA q → found q bs ≡ plainly (rest_a q bs)
    found_plain [] (seek w) h = rw (append-nil, after_short W test w h)
    found_plain [] (line g) h = rw (append-nil, lt-leb N (length g) h)
    found_plain (b ∷ bs) (seek w) h = go (opens W test (w ++ (b ∷ []))) refl (found_plain bs (step_a (seek w) b) (ok_step (seek w) b h))
      where
        go : (t : Bool) → opens W test (w ++ (b ∷ [])) ≡ t
            → found (cond t (line []) (seek (keep (w ++ (b ∷ []))))) bs ≡ plainly (rest_a (cond t (line []) (seek (keep (w ++ (b ∷ []))))) bs)
            → found (cond t (line []) (seek (keep (w ++ (b ∷ []))))) bs ≡ plainly (after_tail W test (w ++ (b ∷ bs)))
        go true e r =
            let l = snoc_length w b in
            r ∙ ap plainly (sym (hit (w ++ (b ∷ [])) bs (omega arith) e) ∙ ap (after_tail W test) (append_assoc w (b ∷ []) bs))
        go false e r =
            let l = snoc_length w b in
            r ∙ ap plainly (sym (keep_after (w ++ (b ∷ [])) bs (omega arith) e) ∙ ap (after_tail W test) (append_assoc w (b ∷ []) bs))
    found_plain (b ∷ bs) (line g) h = go (leb N (suc (length g))) refl (found_plain bs (step_a (line g) b) (ok_step (line g) b h))
      where
        after_line : (t : Bool) → Auto
        after_line t = cond t (seek []) (line (g ++ (b ∷ [])))

        whole : (l : List ℕ) → suc (length g) ≡ N → l ≡ (g ++ (b ∷ [])) ++ bs → found (seek []) bs ≡ plainly (after_tail W test bs)
            → ◌≡◌ {A = List (List ℕ)} (plain (g ++ (b ∷ [])) ∷ found (seek []) bs) (cond (leb N (length l)) (plain (take N l) ∷ lines_of W test N plain (drop N l)) [])
        whole l n p r =
            let k = snoc_length g b in
            let m = length-append (g ++ (b ∷ [])) bs in
            rw (p, le-leb N (length ((g ++ (b ∷ [])) ++ bs)) (omega arith), take_at (g ++ (b ∷ [])) bs N (k ∙ n), drop_at (g ++ (b ∷ [])) bs N (k ∙ n), lines_of_eq W test N plain pw bs, r)

        go : (t : Bool) → leb N (suc (length g)) ≡ t
            → found (after_line t) bs ≡ plainly (rest_a (after_line t) bs)
            → cond t (plain (g ++ (b ∷ [])) ∷ found (after_line t) bs) (found (after_line t) bs) ≡ plainly (some (g ++ (b ∷ bs)))
        go true e r = let m = leb-true N (suc (length g)) e in whole (g ++ (b ∷ bs)) (omega arith) (sym (append_assoc g (b ∷ []) bs)) r
        go false e r = r ∙ ap (λ (l : List ℕ). plainly (some l)) (append_assoc g (b ∷ []) bs)

    -- the lines that a fresh search finds are the lines
    pub found_is : (bs : List ℕ) → found (seek []) bs ≡ lines_of W test N plain bs
    found_is bs = found_plain bs (seek []) pw ∙ sym (lines_of_eq W test N plain pw bs)

    -- C. The lines of the first bits stand first among the lines of all, whatever bits follow
    pub lines_prefix : (xs bs : List ℕ) → lines_of W test N plain (xs ++ bs) ≡ lines_of W test N plain xs ++ found (run_a (seek []) xs) bs
    lines_prefix xs bs =
        sym (found_is (xs ++ bs)) ∙ found_append (seek []) xs bs ∙ ap (λ (l : List (List ℕ)). l ++ found (run_a (seek []) xs) bs) (found_is xs)

    pub lines_first : (xs bs : List ℕ) → take (length (lines_of W test N plain xs)) (lines_of W test N plain (xs ++ bs)) ≡ lines_of W test N plain xs
    lines_first xs bs = rw (lines_prefix xs bs) (take_at (lines_of W test N plain xs) (found (run_a (seek []) xs) bs) (length (lines_of W test N plain xs)) refl)
