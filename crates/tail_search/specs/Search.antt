-- What the search promises: it leads a call on its way to where another goes on, or to its end. Assumes nothing.
use Rattle.std.specs.Prelude.{List, ◌≡◌, ℕ, ◌^◌, ◌≤◌, ◌<◌, length}
use Rattle.scramble.specs.Sync.{fifteen_ones}
use Rattle.reader_bits.specs.Call.{Call, more}
use Rattle.reader_bits.specs.Loops.{going}
use Rattle.reader_bits.specs.Phase.{seeking, within, Bench}
use Rattle.tail_search.specs.declared.Passed.{Passed}
use Rattle.tail_search.specs.declared.Sought.{Sought}
use Rattle.tail_search.specs.declared.Sought.TheVariants.{Found, Nothing}

-- whole bytes passed over: the call goes on behind them
pub record PassedOk (setting : ℕ) (p : List ℕ) (t v c w : ℕ) (f : Passed) : Type 0 where
  pub taken : f.taken ≤ length p
  pub onward : t ≤ f.taken
  pub small : f.search < 2 ^ c
  pub same : (buf : List ℕ) → going setting p t (seeking c w) buf 0 v ≡ going setting p f.taken (seeking c f.search) buf 0 f.byte

-- the search: at the tail the call goes on in a line; else all bytes are taken
abbrev pub sought_call : (setting : ℕ) → List ℕ → List ℕ → Sought → Call Bench
sought_call setting p buf (Found t n v) = going setting p t (within 0 fifteen_ones 0) buf n v
sought_call setting p buf (Nothing c w) = more (length p) (seeking c w, buf) 0 0

abbrev pub SoughtFits : List ℕ → Sought → Type 0
SoughtFits p (Found t n v) = (t ≤ length p) × (n ≤ 7)
SoughtFits p (Nothing c w) = Unit {0}

pub record SoughtOk (setting : ℕ) (p : List ℕ) (c w n v : ℕ) (f : Sought) : Type 0 where
  pub fits : SoughtFits p f
  pub same : (buf : List ℕ) → going setting p 0 (seeking c w) buf n v ≡ sought_call setting p buf f
