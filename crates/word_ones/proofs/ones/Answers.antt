-- `word_ones::ones` meets its contract: it is the parallel count at the width 2 ^ 6. Assumes nothing.
use mathlib.Core.Path.{◌≡◌, ap, ◌∙◌}
use Prim.Native.Nat.{ℕ}
use native.Mathlib.Omega.{arith}
use Rattle.bits.specs.Bits.{digits, set_bits}
use Rattle.bits.specs.Parallel.{evens, paired, parallel}
use Rattle.bits.proofs.Digits.{length_digits, digits_below}
use Rattle.bits.proofs.Counts.{set_le}
use Rattle.bits.proofs.Parallel.{parallel_count}
use Rattle.word_ones.proofs.ones.Goals as goal

-- six times
six : (n a b c d e f : ℕ) → a ≡ paired 1 32 n → b ≡ paired 2 16 a → c ≡ paired 4 8 b → d ≡ paired 8 4 c → e ≡ paired 16 2 d → f ≡ paired 32 1 e
    → f ≡ parallel 6 1 n
unfolding parallel
six n a b c d e f ea eb ec ed ee ef =
    ef ∙ ap (paired 32 1) (ee ∙ ap (paired 16 2) (ed ∙ ap (paired 8 4) (ec ∙ ap (paired 4 8) (eb ∙ ap (paired 2 16) ea))))

-- the masks of the program are those of the definition, by computation
pub returns : goal.returns
unfolding evens paired
returns c =
    let n = c.args.word in
    let a = c.paired-twos in
    let b = c.paired-fours in
    let d = c.paired-eights in
    let e = c.paired-sixteens in
    let f = c.paired-halves in
    let g = c.paired in
    let twos : a.result ≡ paired 1 32 n = a.ensures in
    let fours : b.result ≡ paired 2 16 a.result = b.ensures in
    let eights : d.result ≡ paired 4 8 b.result = d.ensures in
    let sixteens : e.result ≡ paired 8 4 d.result = e.ensures in
    let halves : f.result ≡ paired 16 2 e.result = f.ensures in
    let all : g.result ≡ paired 32 1 f.result = g.ensures in
    let count : g.result ≡ set_bits (digits 64 n) =
    six n a.result b.result d.result e.result f.result g.result twos fours eights sixteens halves all
    ∙ parallel_count 6 n c.ranges.word.fits in
    (count, omega (arith, count, set_le (digits 64 n) (digits_below 64 n), length_digits 64 n))
