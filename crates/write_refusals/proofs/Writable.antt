-- What is known once a call that writes is not refused. Assumes nothing.
use mathlib.Core.Path.{◌≡◌, sym, subst}
use mathlib.Core.List.{List}
use Prim.Native.Nat.{ℕ, ◌^◌, ◌≤◌}
use native.Mathlib.Omega.{arith}
use lib.ListN.{length, take}
use Rattle.refusals.specs.Refusals.{first, short_of}
use Rattle.refusals.proofs.Words.{none_first, none_second, enough, Inside}
use Rattle.formats.specs.Formats.{line_bytes}
use Rattle.bits.specs.Bits.{Below}
use Rattle.sector_table.specs.declared.layout.Layout.{Layout}
use Rattle.sector_table.specs.Layout.{layout_of, bytes_of, Sound}
use Rattle.sector_table.specs.Asked.{asked_of}
use Rattle.sector_table.proofs.Table.{sound}
use Rattle.sector_table.proofs.Admitted.{served}
use Rattle.write_refusals.proofs.Overs.{none_over}
use Rattle.write_refusals.specs.Refusing.{over_of, input_short, put_data_answer, put_pixels_answer}

-- the number is served, the line stands in its buffer, and as many were given as are needed
pub record Writable (lo hi n len given needed : ℕ) : Type 0 where
  pub low : lo ≤ n
  pub high : n ≤ hi
  pub long : line_bytes ≤ len
  pub given_all : needed ≤ given

writable : (f lo hi n len given needed : ℕ) → asked_of f lo hi n ≡ 0 → input_short len given needed ≡ 0 → Writable lo hi n len given needed
unfolding input_short
writable f lo hi n len given needed ea ei =
    let number : Inside lo hi n = served f lo hi n ea in
    record {
      low = number.low;
      high = number.high;
      long = enough len line_bytes 2 (λ z. omega arith) (none_first (short_of len line_bytes 2) (short_of given needed 2) ei);
      given_all = enough given needed 2 (λ z. omega arith) (none_second (short_of len line_bytes 2) (short_of given needed 2) ei);
    }

pub data_writable : (f len n given : ℕ) → put_data_answer f len n given ≡ 0 → Writable 1 12 n len given (bytes_of (layout_of n))
unfolding put_data_answer
data_writable f len n given e =
    let asked : ℕ = asked_of f 1 12 n in
    let short : ℕ = input_short len given (bytes_of (layout_of n)) in
    writable f 1 12 n len given (bytes_of (layout_of n)) (none_first asked short e) (none_second asked short e)

module _ (lo hi f len n : ℕ) (ps : List ℕ) (e : put_pixels_answer lo hi f len n ps ≡ 0) where
  pub pixels_writable : Writable lo hi n len (length ps) (layout_of n).count
  unfolding put_pixels_answer
  pixels_writable =
      let asked : ℕ = asked_of f lo hi n in
      let over : ℕ = over_of (2 ^ (layout_of n).width) (take (layout_of n).count ps) in
      let short : ℕ = input_short len (length ps) (layout_of n).count in
      writable f lo hi n len (length ps) (layout_of n).count (none_first asked (first over short) e) (none_second over short (none_second asked (first over short) e))

  -- no pixel is over its width
  pub pixels_fit : Below (2 ^ (layout_of n).width) (take (layout_of n).count ps)
  unfolding put_pixels_answer
  pixels_fit =
      let asked : ℕ = asked_of f lo hi n in
      let over : ℕ = over_of (2 ^ (layout_of n).width) (take (layout_of n).count ps) in
      let short : ℕ = input_short len (length ps) (layout_of n).count in
      none_over (2 ^ (layout_of n).width) (take (layout_of n).count ps) (none_first over short (none_second asked (first over short) e))

-- ---- where the code has found the sector's row

module _ (n : ℕ) {l : Layout} (found : l ≡ layout_of n) where
  -- size is what must be given
  pub ready : (size : Layout → ℕ) {lo hi len given : ℕ} → 1 ≤ lo → hi ≤ 12 → Writable lo hi n len given (size (layout_of n)) → Sound l × (line_bytes ≤ len) × (size l ≤ given)
  ready size {len = len} {given = given} one top h =
      subst (λ (l : Layout). Sound l × (line_bytes ≤ len) × (size l ≤ given)) (sym found)
      (sound n (omega (arith, one, h.low)) (omega (arith, top, h.high)), h.long, h.given_all)
