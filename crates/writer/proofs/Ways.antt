-- What `write_line` answers behind a format that is known, and what it leaves. Assumes nothing.
use mathlib.Core.Path.{◌≡◌, sym, ap, ap₂, ◌∙◌, subst}
use mathlib.Core.List.{List, ◌++◌}
use Prim.Native.Nat.{ℕ, ◌+◌, ◌*◌, ◌≤◌}
use native.Mathlib.Omega.{arith}
use lib.ListN.{length, take, drop, replicate, length-append, length-replicate}
use lib.Seq.{length-take-le}
use Rattle.std.specs.Prelude.{Ok}
use Rattle.bits.specs.Bits.{bits_of, Below}
use Rattle.bits.proofs.Below.{below_append, below_drop}
use Rattle.bits.proofs.Bytes.{length_bits, bits_drop}
use Rattle.bits.proofs.Fields.{bytes_front}
use Rattle.refusals.specs.Refusals.{first, short_of}
use Rattle.refusals.proofs.Words.{enough}
use Rattle.refusals.proofs.Numbers.{passed_first}
use Rattle.refusals.proofs.Lent.{lent_ok}
use Rattle.formats.specs.Formats.{format_of, FormatOk, information_bits, line_bytes}
use Rattle.formats.specs.declared.Format.{Format}
use Rattle.formats.proofs.Settled.{format_is}
use Rattle.formats.proofs.Which.{parts}
use Rattle.scramble.specs.Sync.{SYNC, fifteen_ones}
use Rattle.scramble.specs.Register.{register_after}
use Rattle.scramble.specs.Wire.{wire_of}
use Rattle.scramble.proofs.Steps.{length_scrambling, scrambling_below}
use Rattle.scramble.proofs.Wire.{length_wire}
use Rattle.wire.proofs.Wire.{wire_below}
use Rattle.writer.specs.Wire.{on_wire, wire_bytes, write_line_refusal, WriteLineOk, write_line_left, CanPut}
use Rattle.writer.proofs.Laying.{on_wire_is}

-- ---- one line on the wire is a whole number of bytes

-- the dummy
abbrev zeros : ℕ → List ℕ
zeros n = wire_of information_bits (register_after information_bits fifteen_ones) (replicate n 0)

pub length_on_wire : (f : Format) (bits : List ℕ) → length (on_wire f bits) ≡ f.sync + length bits + f.dummy
unfolding SYNC
length_on_wire f bits =
    ap length (on_wire_is f bits)
    ∙ length-append (SYNC f.sync ++ wire_of 0 fifteen_ones bits) (zeros f.dummy)
    ∙ ap₂ (λ (x y : ℕ). x + y)
    (length-append (SYNC f.sync) (wire_of 0 fifteen_ones bits) ∙ ap₂ (λ (x y : ℕ). x + y) (length_scrambling f.sync _) (length_wire 0 fifteen_ones bits))
    (length_wire information_bits _ _ ∙ length-replicate f.dummy 0)

pub on_wire_below : (f : Format) (bits : List ℕ) → Below 2 (on_wire f bits)
unfolding SYNC
on_wire_below f bits =
    subst (Below 2) (sym (on_wire_is f bits))
    (below_append 2 (SYNC f.sync ++ wire_of 0 fifteen_ones bits) (zeros f.dummy)
    (below_append 2 (SYNC f.sync) (wire_of 0 fifteen_ones bits) (scrambling_below f.sync _) (wire_below 0 fifteen_ones bits))
    (wire_below information_bits _ _))

-- the bits of a line's bytes
pub line_bits : (line : List ℕ) → line_bytes ≤ length line → length (bits_of (take line_bytes line)) ≡ information_bits
line_bits line h = length_bits (take line_bytes line) ∙ ap (λ (n : ℕ). 8 * n) (length-take-le line_bytes line h)

pub wire_whole : (n : ℕ) (f : Format) (line : List ℕ) → format_of n ≡ Ok f → line_bytes ≤ length line
    → length (on_wire f (bits_of (take line_bytes line))) ≡ f.bytes * 8
wire_whole n f line e h =
    let p = parts n f e in
    length_on_wire f (bits_of (take line_bytes line))
    ∙ ap (λ (i : ℕ). f.sync + i + f.dummy) (line_bits line h)
    ∙ omega (arith, p.sync_whole, p.dummy_whole, p.all)

-- ---- what is answered behind a format that is known, and what is left

module _ (n : ℕ) (line out : List ℕ) (f : Format) (is : FormatOk n (Ok f)) where
  pub write_number : (e : ℕ) → e ≡ first (short_of (length line) line_bytes 2) (short_of (length out) f.bytes 3) → e ≡ write_line_refusal n (length line) (length out)
  unfolding write_line_refusal
  write_number e short =
      passed_first _ _ e is.0 (short ∙ ap (λ (g : Format). first (short_of (length line) line_bytes 2) (short_of (length out) g.bytes 3)) is.1)

  -- a whole line and room for it
  pub can_put : 0 ≡ short_of (length line) line_bytes 2 → 0 ≡ short_of (length out) f.bytes 3 → CanPut f line out
  can_put a b = record {
    number = n;
    known = sym (format_is n (Ok f) is);
    whole = enough (length line) line_bytes 2 (λ w. omega arith) (sym a);
    room = enough (length out) f.bytes 3 (λ w. omega arith) (sym b);
  }

  pub write_done : (after : List ℕ) → 0 ≡ short_of (length line) line_bytes 2 → 0 ≡ short_of (length out) f.bytes 3 → Below 256 out → Below 256 after
      → bits_of after ≡ on_wire f (bits_of (take line_bytes line)) ++ drop (f.bytes * 8) (bits_of out)
      → WriteLineOk n line out (Ok f.bytes) × (after ≡ write_line_left n line out)
  unfolding write_line_left wire_bytes can_put
  write_done after x y b b' w =
      let can = can_put x y in
      let bits : List ℕ = on_wire f (bits_of (take line_bytes line)) in
      let bytes : after ≡ wire_bytes f line ++ drop f.bytes out =
      bytes_front f.bytes after bits (drop f.bytes out) b' (below_drop 256 f.bytes out b) (wire_whole n f line can.known can.whole) (on_wire_below f _)
      (w ∙ ap (λ (l : List ℕ). bits ++ l) (bits_drop out f.bytes)) in
      lent_ok _ _ _ _ _ _ _ (write_number 0 (passed_first _ _ 0 x y)) (ap (λ (g : Format). g.bytes) is.1)
      (bytes ∙ ap (λ (g : Format). wire_bytes g line ++ drop g.bytes out) is.1)
