-- The parts of a record, one by one, as the code makes them and tests them. Assumes nothing.
use mathlib.Core.Bool.{true}
use mathlib.Core.Path.{◌≡◌}
use Prim.Native.Nat.{ℕ, ◌+◌, ◌^◌, ◌<◌}
use native.Mathlib.Omega.{arith}
use Rattle.report_record.specs.declared.Report.{Report}
use Rattle.report_record.specs.Report.{tally_at, channel_at}
use Rattle.report_record.specs.Possible.{possible_report}
use Rattle.report_record.proofs.Possible.{possible_means, tally_room, channel_room}

pub lines_room : (a b : Report) → possible_report a ≡ true → possible_report b ≡ true → a.lines + b.lines < 2 ^ 64
lines_room a b p q = let x = possible_means a p in let y = possible_means b q in omega (arith, x.most, y.most)

pub tallies_room : (a b : Report) (i : ℕ) → possible_report a ≡ true → possible_report b ≡ true → i < 12 → let x = tally_at a i in let y = tally_at b i in
    (x.accepted + y.accepted < 2 ^ 64) × (x.remainder + y.remainder < 2 ^ 64) × (x.id + y.id < 2 ^ 64) × (x.filler + y.filler < 2 ^ 64)
tallies_room a b i p q h = tally_room a b (possible_means a p) (possible_means b q) i h

pub channels_room : (a b : Report) (i : ℕ) → possible_report a ≡ true → possible_report b ≡ true → i < 4 → let x = channel_at a i in let y = channel_at b i in
    (x.count + y.count < 2 ^ 64) × (x.sum + y.sum < 2 ^ 64)
channels_room a b i p q h = channel_room a b (possible_means a p) (possible_means b q) i h
