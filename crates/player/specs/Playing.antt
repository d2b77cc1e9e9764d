-- The playing of a recording: how it begins. Assumes nothing.
use Rattle.std.specs.Prelude.{ℕ, None, Some}
use Rattle.reader_record.specs.Records.{fresh_state}
use Rattle.player.specs.declared.Player.{Player}
use Rattle.player.specs.declared.source.Source.{Source}

-- a recording before its first byte
abbrev pub started : Source → ℕ → ℕ → Player
started source format setting =
    record { source = Some source; format = format; setting = setting; state = fresh_state; rest = None }
