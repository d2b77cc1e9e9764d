-- A CALL OF `read` CHANGES NO LENGTH of its buffer, for every input. Assumes nothing.
use mathlib.Core.Bool.{true, false}
use mathlib.Core.List.{List}
use mathlib.Core.Path.{◌≡◌, refl, ◌∙◌}
use Prim.Native.Nat.{ℕ, ◌^◌, ◌≤◌, ◌<◌}
use native.Mathlib.Omega.{arith}
use lib.ListN.{length}
use Rattle.std.specs.Prelude.{Result}
use Rattle.refusals.specs.declared.Refusal.{Refusal}
use Rattle.reader_line.specs.declared.Reading.{Reading}
use Rattle.reader_bits.specs.Call.{Call, more, whole}
use Rattle.reader_bits.specs.Phase.{Bench}
use Rattle.reader_bits.specs.Loops.{step_of, done_of}
use Rattle.reader.specs.Read.{call_of, read_left}
use Rattle.reader_line.specs.Answers.{call_left}
use Rattle.reader_record.specs.Records.{phase_of}
use Rattle.reader_record.specs.declared.State.{State}
use Rattle.reader_record.proofs.Checked.{facts}
use Rattle.cuts.proofs.Calls.{Gives, gives_call}
use Rattle.cuts.proofs.Cases.{read_cases}
use Rattle.cuts.proofs.Stands.{buffer_length}

module _ (setting size : ℕ) where
  abbrev Long : Bench → Type 0
  Long s = length s.1 ≡ size

  abbrev LongAt : Bench → ℕ → ℕ → Type 0
  LongAt s n v = length s.1 ≡ size

  long_on : (s : Bench) (b : ℕ) → b < 2 → done_of s b ≡ false → Long s → Long (step_of setting s b)
  long_on s b h e i = buffer_length s.0 s.1 b ∙ i

  long_rest : (s : Bench) → Long s → LongAt s 0 0
  long_rest s i = i

  long_stop : (s : Bench) (b : ℕ) → b < 2 → done_of s b ≡ true → Long s → (n v : ℕ) → n ≤ 7 → v < 2 ^ n → LongAt (step_of setting s b) n v
  long_stop s b h e i n v l w = buffer_length s.0 s.1 b ∙ i

  long_call : (c : Call Bench) → Gives (step_of setting) done_of Long LongAt LongAt long_on long_rest long_stop c → length (call_left c) ≡ size
  long_call (more t b n v) h = h
  long_call (whole t b n v) h = h

pub read_length : (f setting : ℕ) (s : State) (p buf : List ℕ) → length (read_left f setting s p buf) ≡ length buf
unfolding call_of
read_length f setting s p buf =
    read_cases f setting s p buf (λ (a : Result Reading Refusal) (b : List ℕ). length b ≡ length buf) (λ n. refl) (λ h e. refl)
    (λ h m l. long_call setting (length buf) (call_of setting s p buf)
    (gives_call (step_of setting) done_of (Long setting (length buf)) (LongAt setting (length buf)) (LongAt setting (length buf)) (long_on setting (length buf)) (long_rest setting (length buf)) (long_stop setting (length buf))
    p (phase_of s, buf) s.unread_count s.unread (let g = facts s h in omega (arith, g.seven)) refl refl))
