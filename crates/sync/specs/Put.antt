-- What the call that puts the SYNC of a format answers and leaves in its output. Assumes nothing.
use Rattle.std.specs.Prelude.{cond, List, ◌++◌, ℕ, ◌/◌, eqb, length, drop, Result, Ok}
use Rattle.bits.specs.Bits.{fields_of}
use Rattle.refusals.specs.declared.Refusal.{Refusal}
use Rattle.refusals.specs.Refusals.{first, short_of, answered, kept, refuses, Answers}
use Rattle.formats.specs.Formats.{format_refusal, named_by}
use Rattle.scramble.specs.Sync.{SYNC}

-- the register before the first bit of a SYNC of n bits, of the two lengths that the formats have: that the bits from it on are SYNC
-- is `sync_from` (`sync/proofs/Opening`)
unfoldable pub before_sync : ℕ → ℕ
before_sync n = cond (eqb n 10000) 0x339f 0x61df

-- 1 for the format, 3 for an output shorter than SYNC
unfoldable pub put_sync_refusal : ℕ → ℕ → ℕ
put_sync_refusal format given = first (format_refusal format) (short_of given ((named_by format).sync / 8) 3)

unfoldable pub put_sync_answer : ℕ → List ℕ → Result ℕ Refusal
put_sync_answer format out = answered refuses (put_sync_refusal format (length out)) (Ok ((named_by format).sync / 8))

-- THE CONTRACT of `put_sync`: the number, and the bytes that SYNC takes
abbrev pub PutSyncOk : ℕ → List ℕ → Result ℕ Refusal → Type 0
PutSyncOk format out r = Answers (put_sync_refusal format (length out)) 0 ((named_by format).sync / 8) r

-- SYNC at the front, and the bytes past it as they were
unfoldable pub put_sync_left : ℕ → List ℕ → List ℕ
put_sync_left format out =
    kept (put_sync_refusal format (length out)) out
    (fields_of 8 ((named_by format).sync / 8) (SYNC (named_by format).sync) ++ drop ((named_by format).sync / 8) out)
