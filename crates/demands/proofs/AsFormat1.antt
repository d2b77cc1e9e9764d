-- FORMAT 3 IS FORMAT 1 BUT FOR THE CHECK: its answers where no sector is checked, call by call. Assumes nothing.
use mathlib.Core.Path.{refl}
use Rattle.refusals.specs.Refusals.{when}
use Rattle.formats.specs.Formats.{unknown, format_refusal, named_by}
use Rattle.sync.specs.Put.{put_sync_refusal, put_sync_answer, put_sync_left}
use Rattle.sector_table.specs.Asked.{asked_of, line_refusal}
use Rattle.sectors.specs.Calls.{filler_refusal, filler_answer}
use Rattle.reader.specs.Read.{read_answer, read_left}
use Rattle.reader_refusals.specs.Refusing.{read_refusal}
use Rattle.writer.specs.Wire.{on_wire, wire_bytes, write_line_refusal, write_line_answer, write_line_left}
use Rattle.blocks.specs.Blocks.{block_refusal}
use Rattle.entries.specs.Entries.{entry_refusal, revision_answer, mapping_answer, elements_answer}
use Rattle.degrees.specs.Degrees.{first_longitude}
use Rattle.grid_points.specs.Points.{grid_at}
use Rattle.calibration.specs.Tables.{level_refusal, level_answer, level_f64_answer}
use Rattle.demands.specs.Ones.{AsFormat1}

pub as_format_1 : AsFormat1
unfolding when unknown format_refusal named_by put_sync_refusal put_sync_answer put_sync_left asked_of line_refusal filler_refusal filler_answer read_refusal read_answer read_left on_wire wire_bytes write_line_refusal write_line_answer write_line_left block_refusal entry_refusal revision_answer first_longitude grid_at mapping_answer elements_answer level_refusal level_answer level_f64_answer
as_format_1 =
    record {
      put_sync = λ out. refl;
      put-sync-left = λ out. refl;
      write_line = λ line out. refl;
      write-line-left = λ line out. refl;
      read = λ k s piece line. refl;
      reader_left = λ k s piece line. refl;
      filler = λ line n. refl;
      revision = λ a n block. refl;
      mapping = λ m block i j. refl;
      elements = λ m block. refl;
      level = λ t a block c n. refl;
      level_f64 = λ t a block c n. refl;
    }
