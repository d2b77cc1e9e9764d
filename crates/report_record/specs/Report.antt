-- THE PASS REPORT over a list of plain lines, each its bits: what the record is, and what two of them added are. `start` is the
-- start value of the check, which is all that a format has to say here. Assumes nothing.
use Rattle.std.specs.Prelude.{ℕ, suc, ◌+◌, ◌≤◌, ◌<◌, min, max, Bool, true, false, cond, ◌&&◌, ◌≡◌, ◌⊎◌, List, [], ◌∷◌, map, eqb, length, get_or, Option, Some, None}
use Rattle.bits.specs.Bits.{Below, in_arow}
use Rattle.refusals.specs.Refusals.{when}
use Rattle.formats.specs.Formats.{check_start}
use Rattle.sector_table.specs.Layout.{layout_of, upper_of, lower_of}
use Rattle.sector_check.specs.Sector.{answer_of, filler_of, pixels_of, joined_of}
use Rattle.report_record.specs.declared.Range.{Range}
use Rattle.report_record.specs.declared.Tally.{Tally}
use Rattle.report_record.specs.declared.Channel.{Channel}
use Rattle.report_record.specs.declared.Report.{Report}
use Rattle.report_record.specs.Sums.{total_of, row_of}

-- ---- a sector over all lines

-- how many lines give sector n the answer k: 0 accepted, 5 or 6
unfoldable pub lines_answering : ℕ → ℕ → ℕ → List (List ℕ) → ℕ
lines_answering start n k ls = total_of (λ (b : List ℕ). when (eqb (answer_of start (layout_of n) b) k) 1) ls

-- the filler bits of sector n that are set, in all lines, accepted or not
unfoldable pub filler_in : ℕ → List (List ℕ) → ℕ
filler_in n ls = total_of (filler_of (layout_of n)) ls

unfoldable pub tally_of : ℕ → ℕ → List (List ℕ) → Tally
tally_of start n ls =
    record { accepted = lines_answering start n 0 ls; remainder = lines_answering start n 5 ls; id = lines_answering start n 6 ls; filler = filler_in n ls }

-- ---- the ten-bit pixels of a channel over all lines

-- a list where a test passes
unfoldable pub given : Bool → List ℕ → List ℕ
given true xs = xs
given false xs = []

abbrev pub accepts : ℕ → ℕ → List ℕ → Bool
accepts start n b = eqb (answer_of start (layout_of n) b) 0

-- of one line: IR1-3 joined, where both sectors are accepted; IR4, where its sector is
unfoldable pub pair_pixels : ℕ → ℕ → List ℕ → List ℕ
pair_pixels start c b = given (accepts start (c + 1) b && accepts start (c + 8) b) (joined_of (pixels_of (upper_of c) b) (pixels_of (lower_of c) b))

unfoldable pub wide_pixels : ℕ → List ℕ → List ℕ
wide_pixels start b = given (accepts start 12 b) (pixels_of (layout_of 12) b)

unfoldable pub ir_pixels : ℕ → ℕ → List ℕ → List ℕ
ir_pixels start c b = cond (eqb c 4) (wide_pixels start b) (pair_pixels start c b)

-- of all lines, in a row
unfoldable pub pixels_in : ℕ → ℕ → List (List ℕ) → List ℕ
pixels_in start c ls = in_arow (map (ir_pixels start c) ls)

-- ---- the least and the largest

-- a number is among others
unfoldable pub Among : ℕ → List ℕ → Type 0
Among x [] = ⊥
Among x (y ∷ ys) = (x ≡ y) ⊎ Among x ys

-- ATTAINED BOUNDS: the least and the largest are among the numbers, and no number is below or above them
pub record Bounds (xs : List ℕ) (lo hi : ℕ) : Type 0 where
  pub least_in : Among lo xs
  pub largest_in : Among hi xs
  pub least : (x : ℕ) → Among x xs → lo ≤ x
  pub largest : (x : ℕ) → Among x xs → x ≤ hi

-- WHAT A RANGE SAYS OF NUMBERS: none, that there are none; else their attained bounds
unfoldable pub Says : List ℕ → Option Range → Type 0
Says xs None = xs ≡ []
Says xs (Some r) = Bounds xs r.least r.largest

-- two ranges as one: the lesser least, the greater largest
abbrev pub wider : Option Range → Option Range → Option Range
wider None b = b
wider (Some a) None = Some a
wider (Some a) (Some b) = Some (record { least = min a.least b.least; largest = max a.largest b.largest })

-- the one range that says it (`range_exactly`, in proofs/Ranges)
unfoldable pub range_of : List ℕ → Option Range
range_of [] = None
range_of (x ∷ xs) = wider (Some (record { least = x; largest = x })) (range_of xs)

-- count, sum, least and largest
unfoldable pub channel_of : List ℕ → Channel
channel_of xs = record { count = length xs; sum = total_of (λ (x : ℕ). x) xs; range = range_of xs }

-- ---- THE RECORD

unfoldable pub report_by : ℕ → List (List ℕ) → Report
report_by start ls =
    record {
      lines = length ls;
      sectors = row_of (λ (i : ℕ). tally_of start (suc i) ls) 12;
      channels = row_of (λ (i : ℕ). channel_of (pixels_in start (suc i) ls)) 4;
    }

-- of format f
unfoldable pub report_of : ℕ → List (List ℕ) → Report
report_of f ls = report_by (check_start f) ls

-- lines of bits
unfoldable pub Plain : List (List ℕ) → Type 0
Plain [] = Unit {0}
Plain (b ∷ bs) = Below 2 b × Plain bs

-- ---- TWO RECORDS ADDED

abbrev pub no_tally : Tally
no_tally = record { accepted = 0; remainder = 0; id = 0; filler = 0 }

abbrev pub no_channel : Channel
no_channel = record { count = 0; sum = 0; range = None }

-- sector i + 1, channel i + 1
abbrev pub tally_at : Report → ℕ → Tally
tally_at r i = get_or r.sectors i no_tally

abbrev pub channel_at : Report → ℕ → Channel
channel_at r i = get_or r.channels i no_channel

abbrev pub add_tally : Tally → Tally → Tally
add_tally a b =
    record { accepted = a.accepted + b.accepted; remainder = a.remainder + b.remainder; id = a.id + b.id; filler = a.filler + b.filler }

abbrev pub add_channel : Channel → Channel → Channel
add_channel a b = record { count = a.count + b.count; sum = a.sum + b.sum; range = wider a.range b.range }

-- each sector, each channel
unfoldable pub added : Report → Report → Report
added a b =
    record {
      lines = a.lines + b.lines;
      sectors = row_of (λ (i : ℕ). add_tally (tally_at a i) (tally_at b i)) 12;
      channels = row_of (λ (i : ℕ). add_channel (channel_at a i) (channel_at b i)) 4;
    }

-- of no lines
unfoldable pub empty_report : Report
empty_report = record { lines = 0; sectors = row_of (λ (i : ℕ). no_tally) 12; channels = row_of (λ (i : ℕ). no_channel) 4 }

-- ---- THE SAME, FIELD BY FIELD: a record is the report of some lines exactly when this holds (`is_report`, in `passes`)
pub record IsReport (start : ℕ) (ls : List (List ℕ)) (r : Report) : Type 0 where
  pub lines : r.lines ≡ length ls
  pub twelve : length r.sectors ≡ 12
  pub four : length r.channels ≡ 4
  pub accepted : (i : ℕ) → i < 12 → (tally_at r i).accepted ≡ lines_answering start (suc i) 0 ls
  pub remainder : (i : ℕ) → i < 12 → (tally_at r i).remainder ≡ lines_answering start (suc i) 5 ls
  pub id : (i : ℕ) → i < 12 → (tally_at r i).id ≡ lines_answering start (suc i) 6 ls
  pub filler : (i : ℕ) → i < 12 → (tally_at r i).filler ≡ filler_in (suc i) ls
  pub count : (i : ℕ) → i < 4 → (channel_at r i).count ≡ length (pixels_in start (suc i) ls)
  pub sum : (i : ℕ) → i < 4 → (channel_at r i).sum ≡ total_of (λ (x : ℕ). x) (pixels_in start (suc i) ls)
  pub range : (i : ℕ) → i < 4 → Says (pixels_in start (suc i) ls) (channel_at r i).range
