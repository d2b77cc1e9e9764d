-- ONE RUN OF SCRAMBLING BITS OVER THE WHOLE LINE: SYNC, information and dummy on the wire are zeros, the plain line and zeros,
-- the last two complemented, under one run of scrambling bits that begins before SYNC and never again. Assumes nothing.
use mathlib.Core.Path.{◌≡◌, sym, ap, ap₂, ◌∙◌}
use mathlib.Core.List.{List, ◌++◌, append_assoc}
use Prim.Native.Nat.{ℕ}
use native.Mathlib.Nat.{zero-add}
use lib.ListN.{length, replicate}
use Rattle.formats.specs.Formats.{information_bits}
use Rattle.formats.specs.declared.Format.{Format}
use Rattle.scramble.specs.Register.{register_after}
use Rattle.scramble.specs.Sync.{SYNC, register_before, fifteen_ones}
use Rattle.scramble.specs.Wire.{complemented, scrambled, wire_of}
use Rattle.wire.proofs.Wire.{wire_append}
use Rattle.fixed.proofs.OneRun.{one_run}
use Rattle.writer.specs.Wire.{on_wire}
use Rattle.writer.proofs.Laying.{on_wire_is}

-- information and dummy go on the wire as one
behind_sync : (f : Format) (bits : List ℕ) → length bits ≡ information_bits → on_wire f bits ≡ SYNC f.sync ++ wire_of 0 fifteen_ones (bits ++ replicate f.dummy 0)
behind_sync f bits long =
    let zeros : List ℕ = replicate f.dummy 0 in
    on_wire_is f bits
    ∙ append_assoc (SYNC f.sync) (wire_of 0 fifteen_ones bits) _
    ∙ ap (λ (l : List ℕ). SYNC f.sync ++ l)
    (ap₂ (λ (x y : ℕ). wire_of 0 fifteen_ones bits ++ wire_of x (register_after y fifteen_ones) zeros) (sym (zero-add (length bits) ∙ long)) (sym long)
    ∙ sym (wire_append 0 fifteen_ones bits zeros))

pub on_wire_run : (f : Format) (bits : List ℕ) → length bits ≡ information_bits
    → on_wire f bits ≡ scrambled (register_before f.sync fifteen_ones) (replicate f.sync 0 ++ complemented 0 (bits ++ replicate f.dummy 0))
unfolding wire_of
on_wire_run f bits long = behind_sync f bits long ∙ one_run f.sync (complemented 0 (bits ++ replicate f.dummy 0))
