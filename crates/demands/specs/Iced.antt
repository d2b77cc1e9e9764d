-- THE ICED DISH, in definitions: a written run of lines as it was received, with wrong bits; and the smallest number of places in
-- which an earlier window of what is written differs from the tail. Assumes nothing.
use Rattle.std.specs.Prelude.{List, [], ◌∷◌, ◌++◌, ◌≡◌, ℕ, zero, suc, ◌+◌, ◌-◌, ◌≤◌, ◌<◌, length, take, drop}
use Rattle.bits.specs.Bits.{bits_of, apart}
use Rattle.formats.specs.Formats.{information_bits}
use Rattle.formats.specs.declared.Format.{Format}
use Rattle.scramble.specs.Sync.{SYNC, tail}
use Rattle.wire.specs.Parts.{information_of, dummy_of}
use Rattle.fixed.specs.Written.{first_searched, next_searched}

-- THE SMALLEST NUMBER of a format: no window that is searched before a true tail differs from the tail in fewer places, and one
-- differs in as many
pub record Smallest (f : Format) (number : ℕ) : Type 0 where
  pub before_first : (k : ℕ) → k + 64 < f.sync → number ≤ apart tail (take 64 (drop k (first_searched f)))
  pub before_next : (k : ℕ) → k + 64 < f.dummy + f.sync → number ≤ apart tail (take 64 (drop k (next_searched f)))
  pub place : ℕ
  pub before : place + 64 < f.sync
  pub met : apart tail (take 64 (drop place (first_searched f))) ≡ number

-- ---- wrong bits

-- THE TAIL IS STILL FOUND, AND NO OTHER PLACE at the setting k: the last 64 bits, the tail, have at most k wrong ones, and each earlier
-- window so few that it stays more than k places from the tail
pub record Leading (k : ℕ) (sent got : List ℕ) : Type 0 where
  pub long : length got ≡ length sent
  pub last : apart (drop (length sent - 64) sent) (drop (length sent - 64) got) ≤ k
  pub earlier : (j : ℕ) → j + 64 < length sent → apart (take 64 (drop j sent)) (take 64 (drop j got)) + k < apart tail (take 64 (drop j sent))

-- at most k wrong bits in the tail, and at most 8 - k in each earlier window
pub record Near (k : ℕ) (sent got : List ℕ) : Type 0 where
  pub long : length got ≡ length sent
  pub last : apart (drop (length sent - 64) sent) (drop (length sent - 64) got) ≤ k
  pub earlier : (j : ℕ) → j + 64 < length sent → apart (take 64 (drop j sent)) (take 64 (drop j got)) + k ≤ 8

-- at most k wrong bits in any 64 neighbouring bits
pub record Even (k : ℕ) (sent got : List ℕ) : Type 0 where
  pub long : length got ≡ length sent
  pub each : (j : ℕ) → j + 64 ≤ length sent → apart (take 64 (drop j sent)) (take 64 (drop j got)) ≤ k

-- at most k wrong bits, all of them in the tail
pub record InTail (k : ℕ) (sent got : List ℕ) : Type 0 where
  pub long : length got ≡ length sent
  pub before : take (length sent - 64) got ≡ take (length sent - 64) sent
  pub last : apart (drop (length sent - 64) sent) (drop (length sent - 64) got) ≤ k

-- ---- a recording as it was received

-- one line on the wire, any bits in the places of its three parts
pub record Received : Type 0 where
  pub sync : List ℕ
  pub information : List ℕ
  pub dummy : List ℕ

unfoldable pub received_of : List Received → List ℕ
received_of [] = []
received_of (r ∷ rs) = (r.sync ++ r.information ++ r.dummy) ++ received_of rs

-- a line as it is written
abbrev pub sent_of : Format → List ℕ → Received
sent_of f l = record { sync = SYNC f.sync; information = information_of (bits_of l); dummy = dummy_of information_bits f.dummy }

-- of each stretch that is searched, SYNC alone or a dummy with the SYNC behind it, `Wrong` says how what was got may differ from
-- what was sent; the information bits are any, as many as were sent. `sent` and `got` stand before the first SYNC
unfoldable pub Iced : (Wrong : (sent got : List ℕ) → Type 0) (f : Format) (sent got : List ℕ) → List Received → Type 0
Iced Wrong f sent got [] = length got ≡ length sent
Iced Wrong f sent got (r ∷ rs) =
    Wrong (sent ++ SYNC f.sync) (got ++ r.sync) × (length r.information ≡ information_bits) × Iced Wrong f (dummy_of information_bits f.dummy) r.dummy rs

-- any bits, cut at the places of n lines
unfoldable pub cut_of : Format → ℕ → List ℕ → List Received
cut_of f zero got = []
cut_of f (suc n) got =
    record {
      sync = take f.sync got;
      information = take information_bits (drop f.sync got);
      dummy = take f.dummy (drop information_bits (drop f.sync got));
    }
    ∷ cut_of f n (drop f.dummy (drop information_bits (drop f.sync got)))
