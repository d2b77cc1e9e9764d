-- WHICH RECORDS ARE POSSIBLE: refusal 12. A record over the limit, with sector counts that do not add up, or a count or sum above
-- what its lines allow is not; nothing else makes one impossible. Assumes nothing.
use Rattle.std.specs.Prelude.{ℕ, ◌+◌, ◌*◌, Bool, not, ◌&&◌, eqb, leb}
use Rattle.refusals.specs.Refusals.{when}
use Rattle.report_record.specs.declared.Tally.{Tally}
use Rattle.report_record.specs.declared.Channel.{Channel}
use Rattle.report_record.specs.declared.Report.{Report}
use Rattle.report_record.specs.Sums.{all_of}
use Rattle.report_record.specs.Report.{tally_at, channel_at}

-- the limit
abbrev pub most_lines : ℕ
most_lines = 100000

-- a sector's counts add up to the lines, and its filler is not above what they allow: 2,048 bits each
unfoldable pub sound_tally : ℕ → Tally → Bool
sound_tally lines t = eqb (t.accepted + t.remainder + t.id) lines && leb t.filler (2048 * lines)

-- a channel's count and sum are not above what the lines allow: 2,291 pixels each, of at most 1,023
unfoldable pub sound_channel : ℕ → Channel → Bool
sound_channel lines c = leb c.count (2291 * lines) && leb c.sum (2343693 * lines)

unfoldable pub sectors_sound : Report → Bool
sectors_sound r = all_of (λ (i : ℕ). sound_tally r.lines (tally_at r i)) 12

unfoldable pub channels_sound : Report → Bool
channels_sound r = all_of (λ (i : ℕ). sound_channel r.lines (channel_at r i)) 4

unfoldable pub possible_report : Report → Bool
possible_report r = leb r.lines most_lines && (sectors_sound r && channels_sound r)

-- 12: the record is impossible
unfoldable pub record_refusal : Report → ℕ
record_refusal r = when (not (possible_report r)) 12
