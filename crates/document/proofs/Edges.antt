-- Both sides of each edge, computed. Assumes nothing.
use mathlib.Core.Path.{◌≡◌, refl}
use Rattle.refusals.specs.Refusals.{when}
use Rattle.document.specs.declared.modes.ScanMode.TheVariants as mode
use Rattle.document.specs.declared.modes.Mirror.TheVariants as mirror
use Rattle.document.specs.Segments.{segment_refusal}
use Rattle.document.specs.Modes.{mode_of, mirror_of}

-- segment 24 and repeat 7 are the last; 193 and 195 are 0
pub segments : (segment_refusal 0 24 0 7 ≡ 0) × (segment_refusal 0 25 0 7 ≡ 7) × (segment_refusal 0 24 0 8 ≡ 7) × (segment_refusal 1 0 0 0 ≡ 7) × (segment_refusal 0 0 1 0 ≡ 7)
unfolding segment_refusal when
segments = (refl, refl, refl, refl, refl)

-- each name, and the bytes beside it
pub modes : (mode_of 0x00 ≡ mode.Full)
    × (mode_of 0x01 ≡ mode.Unnamed 0x01)
    × (mode_of 0x0E ≡ mode.Unnamed 0x0E)
    × (mode_of 0x0F ≡ mode.Limited)
    × (mode_of 0x10 ≡ mode.Unnamed 0x10)
    × (mode_of 0xFE ≡ mode.Unnamed 0xFE)
    × (mode_of 0xFF ≡ mode.Single)
modes = (refl, refl, refl, refl, refl, refl, refl)

pub mirrors : (mirror_of 0x00 ≡ mirror.TwoA)
    × (mirror_of 0x01 ≡ mirror.Unnamed 0x01)
    × (mirror_of 0x0E ≡ mirror.Unnamed 0x0E)
    × (mirror_of 0x0F ≡ mirror.TwoB)
    × (mirror_of 0x10 ≡ mirror.Unnamed 0x10)
    × (mirror_of 0xEF ≡ mirror.Unnamed 0xEF)
    × (mirror_of 0xF0 ≡ mirror.OneB)
    × (mirror_of 0xF1 ≡ mirror.Unnamed 0xF1)
    × (mirror_of 0xFE ≡ mirror.Unnamed 0xFE)
    × (mirror_of 0xFF ≡ mirror.OneA)
mirrors = (refl, refl, refl, refl, refl, refl, refl, refl, refl, refl)
