-- A RUN OF WRITTEN LINES, found again: over any length W of a window, any test of a window, any line length N, and any
-- rules that put a line on the wire and make it plain. Before the first line stands something quiet, which with SYNC behind
-- it has no earlier window that is a tail; behind each line its dummy, which is quiet too. Assumes nothing.
use mathlib.Core.Bool.{Bool, true, false, cond, ◌&&◌}
use mathlib.Core.List.{List, [], ◌∷◌, ◌++◌, append_assoc}
use mathlib.Core.Option.{Option, none, some}
use mathlib.Core.Path.{◌≡◌, refl, ap, ap₂, ◌∙◌}
use Prim.Native.Nat.{ℕ, zero, suc, ◌+◌, ◌≤◌, ◌<◌}
use native.Mathlib.Nat.{zero-add}
use native.Mathlib.Omega.{arith}
use borrow.Author.Tests.{le-leb, lt-leb}
use lib.ListN.{length, take, drop, length-append}
use lib.Seq.{take_at, drop_at, take-append-le}
use Rattle.reader_bits.specs.Lines.{opens, after_tail, line_then, lines_of}
use Rattle.cuts.proofs.Windows.{after_hit, after_less, lines_of_eq}

module _ (W : ℕ) (test : List ℕ → Bool) (some_bits : zero < W) where
  -- p earlier windows that are no tail, and then one that is
  pub record Leads (p : ℕ) (s : List ℕ) : Type 0 where
    pub long : length s ≡ p + W
    pub none_before : (k : ℕ) → k < p → test (take W (drop k s)) ≡ false
    pub at_last : test (drop p s) ≡ true

  -- the search goes through what leads to a tail and stops behind it
  pub after_leads : (p : ℕ) (s rest : List ℕ) → Leads p s → after_tail W test (s ++ rest) ≡ some rest
  after_leads zero s rest l = after_hit W test s rest some_bits (l.long ∙ zero-add W) l.at_last
  after_leads (suc p) [] rest l = absurd (let h = l.long in let z : ⊥ = omega arith in z)
  after_leads (suc p) (c ∷ s) rest l =
      let h = l.long in
      let long : length s ≡ p + W = omega arith in
      let inside : W ≤ length (c ∷ s) = omega arith in
      let miss : opens W test (c ∷ (s ++ rest)) ≡ false =
      ap₂ (λ (x y : Bool). x && y) (le-leb W (length (c ∷ (s ++ rest))) (omega (arith, length-append s rest)))
      (ap test (take-append-le W (c ∷ s) rest inside) ∙ l.none_before 0 (omega arith)) in
      rw miss (after_leads p s rest (record { long = long; none_before = λ k lt. l.none_before (suc k) (omega arith); at_last = l.at_last }))

  module _ (N : ℕ) (plain : List ℕ → List ℕ) where
    abbrev found : List ℕ → List (List ℕ)
    found bits = lines_of W test N plain bits

    -- too few bits for a line
    pub found_none : (bits : List ℕ) → length bits < N → found bits ≡ []
    found_none bits h = lines_of_eq W test N plain some_bits bits ∙ go (after_tail W test bits) (after_less W test some_bits bits)
      where
        go : (o : Option (List ℕ)) → ((rest : List ℕ) → o ≡ some rest → length rest < length bits) → line_then N plain (λ rest. found rest) o ≡ []
        go none less = refl
        go (some rest) less = let k = less rest refl in rw (lt-leb N (length rest) (omega arith))

    -- a line behind what leads to it
    pub found_line : (p : ℕ) (s line rest : List ℕ) → Leads p s → length line ≡ N → found (s ++ (line ++ rest)) ≡ plain line ∷ found rest
    found_line p s line rest l long =
        lines_of_eq W test N plain some_bits (s ++ (line ++ rest))
        ∙ ap (line_then N plain (λ r. found r)) (after_leads p s (line ++ rest) l)
        ∙ ap₂ (λ (t : Bool) (x : List (List ℕ)). cond t x []) (le-leb N (length (line ++ rest)) (omega (arith, length-append line rest)))
        (ap₂ (λ (x y : List ℕ). plain x ∷ found y) (take_at line rest N long) (drop_at line rest N long))

    -- ---- a run

    module _ (sync dummy : List ℕ) (wire : List ℕ → List ℕ) where
      -- lines on the wire, one behind the other
      unfoldable pub run_of : List (List ℕ) → List ℕ
      run_of [] = []
      run_of (l ∷ ls) = (sync ++ wire l ++ dummy) ++ run_of ls

      -- each line has its length, and comes back
      unfoldable pub Back : List (List ℕ) → Type 0
      Back [] = Unit {0}
      Back (l ∷ ls) = (length (wire l) ≡ N) × (plain (wire l) ≡ l) × Back ls

      module _ (last : List ℕ) where
        regroup : (first l run : List ℕ) → first ++ (((sync ++ wire l ++ dummy) ++ run) ++ last) ≡ (first ++ sync) ++ (wire l ++ (dummy ++ (run ++ last)))
        regroup first l run = simp append_assoc

        -- the first line of a run
        run_line : (p : ℕ) (first l : List ℕ) (ls : List (List ℕ)) → Leads p (first ++ sync) → length (wire l) ≡ N → plain (wire l) ≡ l
            → found (first ++ (run_of (l ∷ ls) ++ last)) ≡ l ∷ found (dummy ++ (run_of ls ++ last))
        unfolding run_of
        run_line p first l ls lead long back =
            ap found (regroup first l (run_of ls))
            ∙ found_line p (first ++ sync) (wire l) (dummy ++ (run_of ls ++ last)) lead long
            ∙ ap (λ (x : List ℕ). x ∷ found (dummy ++ (run_of ls ++ last))) back

        module _ (q : ℕ) (next : Leads q (dummy ++ sync)) (none-behind : found (dummy ++ last) ≡ []) where
          run_behind : (ls : List (List ℕ)) → Back ls → found (dummy ++ (run_of ls ++ last)) ≡ ls
          unfolding run_of Back
          run_behind [] b = none-behind
          run_behind (l ∷ ls) b = run_line q dummy l ls next b.0 b.1 ∙ ap (λ (xs : List (List ℕ)). l ∷ xs) (run_behind ls b.2)

          -- THE RUN: `first` leads with SYNC to the first tail, the dummy to each later one, and behind the last line there is none
          pub run_found : (p : ℕ) (first l : List ℕ) (ls : List (List ℕ)) → Leads p (first ++ sync) → Back (l ∷ ls)
              → found (first ++ (run_of (l ∷ ls) ++ last)) ≡ l ∷ ls
          unfolding Back
          run_found p first l ls lead b = run_line p first l ls lead b.0 b.1 ∙ ap (λ (xs : List (List ℕ)). l ∷ xs) (run_behind ls b.2)
