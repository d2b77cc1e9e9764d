-- What is known of a record that is possible. Assumes nothing.
use mathlib.Core.Path.{◌≡◌, refl, sym}
use mathlib.Core.Bool.{Bool, true, false, not, ◌&&◌}
use Prim.Native.Nat.{ℕ, ◌+◌, ◌*◌, ◌^◌, ◌≤◌, ◌<◌}
use native.Mathlib.Omega.{arith}
use lib.Dec.{eqb, leb}
use borrow.Author.Tests.{eqb-true, leb-true, not-false, eq-eqb, le-leb, lt-leb}
use Rattle.refusals.specs.Refusals.{when}
use Rattle.refusals.proofs.Words.{none_when}
use Rattle.report_record.specs.declared.Tally.{Tally}
use Rattle.report_record.specs.declared.Channel.{Channel}
use Rattle.report_record.specs.declared.Report.{Report}
use Rattle.report_record.specs.Sums.{all_of}
use Rattle.report_record.specs.Report.{tally_at, channel_at}
use Rattle.report_record.specs.Possible.{most_lines, sound_tally, sound_channel, sectors_sound, channels_sound, possible_report, record_refusal}
use Rattle.report_record.proofs.Rows.{and_both, and_left, and_right, and_fails_left, and_fails, all_at, all_made}

pub record TallyFits (lines : ℕ) (t : Tally) : Type 0 where
  pub adds : t.accepted + t.remainder + t.id ≡ lines
  pub filler : t.filler ≤ 2048 * lines

pub record ChannelFits (lines : ℕ) (c : Channel) : Type 0 where
  pub count : c.count ≤ 2291 * lines
  pub sum : c.sum ≤ 2343693 * lines

pub tally_fits : (lines : ℕ) (t : Tally) → sound_tally lines t ≡ true → TallyFits lines t
unfolding sound_tally
tally_fits lines t e =
    record {
      adds = eqb-true (t.accepted + t.remainder + t.id) lines (and_left (eqb (t.accepted + t.remainder + t.id) lines) (leb t.filler (2048 * lines)) e);
      filler = leb-true t.filler (2048 * lines) (and_right (eqb (t.accepted + t.remainder + t.id) lines) (leb t.filler (2048 * lines)) e);
    }

pub tally_sound : (lines : ℕ) (t : Tally) → TallyFits lines t → sound_tally lines t ≡ true
unfolding sound_tally
tally_sound lines t f =
    and_both (eqb (t.accepted + t.remainder + t.id) lines) (leb t.filler (2048 * lines)) (eq-eqb _ _ f.adds) (le-leb _ _ f.filler)

pub channel_fits : (lines : ℕ) (c : Channel) → sound_channel lines c ≡ true → ChannelFits lines c
unfolding sound_channel
channel_fits lines c e =
    record {
      count = leb-true c.count (2291 * lines) (and_left (leb c.count (2291 * lines)) (leb c.sum (2343693 * lines)) e);
      sum = leb-true c.sum (2343693 * lines) (and_right (leb c.count (2291 * lines)) (leb c.sum (2343693 * lines)) e);
    }

pub channel_sound : (lines : ℕ) (c : Channel) → ChannelFits lines c → sound_channel lines c ≡ true
unfolding sound_channel
channel_sound lines c f = and_both (leb c.count (2291 * lines)) (leb c.sum (2343693 * lines)) (le-leb _ _ f.count) (le-leb _ _ f.sum)

-- WHAT IS KNOWN OF A POSSIBLE RECORD, and what makes one
pub record Possible (r : Report) : Type 0 where
  pub most : r.lines ≤ most_lines
  pub tally : (i : ℕ) → i < 12 → TallyFits r.lines (tally_at r i)
  pub channel : (i : ℕ) → i < 4 → ChannelFits r.lines (channel_at r i)

pub possible_means : (r : Report) → possible_report r ≡ true → Possible r
unfolding possible_report sectors_sound channels_sound
possible_means r e =
    let t : ℕ → Bool = λ (i : ℕ). sound_tally r.lines (tally_at r i) in
    let u : ℕ → Bool = λ (i : ℕ). sound_channel r.lines (channel_at r i) in
    let rest : all_of t 12 && all_of u 4 ≡ true = and_right (leb r.lines most_lines) (all_of t 12 && all_of u 4) e in
    record {
      most = leb-true r.lines most_lines (and_left (leb r.lines most_lines) (all_of t 12 && all_of u 4) e);
      tally = λ i p. tally_fits r.lines (tally_at r i) (all_at t 12 i p (and_left (all_of t 12) (all_of u 4) rest));
      channel = λ i p. channel_fits r.lines (channel_at r i) (all_at u 4 i p (and_right (all_of t 12) (all_of u 4) rest));
    }

pub possible_made : (r : Report) → Possible r → possible_report r ≡ true
unfolding possible_report sectors_sound channels_sound
possible_made r p =
    let t : ℕ → Bool = λ (i : ℕ). sound_tally r.lines (tally_at r i) in
    let u : ℕ → Bool = λ (i : ℕ). sound_channel r.lines (channel_at r i) in
    and_both (leb r.lines most_lines) (all_of t 12 && all_of u 4) (le-leb _ _ p.most)
    (and_both (all_of t 12) (all_of u 4) (all_made t 12 (λ i q. tally_sound r.lines (tally_at r i) (p.tally i q))) (all_made u 4 (λ i q. channel_sound r.lines (channel_at r i) (p.channel i q))))

-- 12 exactly where it is not
pub record_none : (r : Report) → record_refusal r ≡ 0 → possible_report r ≡ true
unfolding record_refusal
record_none r e = not-false (possible_report r) (none_when (not (possible_report r)) 12 (λ z. omega arith) e)

pub record_passes : (r : Report) → possible_report r ≡ true → record_refusal r ≡ 0
unfolding record_refusal when
record_passes r e = rw e refl

module _ (r : Report) where
  refuses : possible_report r ≡ false → 12 ≡ record_refusal r
  unfolding record_refusal when
  refuses e = rw e refl

  pub record_over : most_lines < r.lines → 12 ≡ record_refusal r
  unfolding possible_report
  record_over h = refuses (and_fails_left (leb r.lines most_lines) (sectors_sound r && channels_sound r) (lt-leb r.lines most_lines h))

  pub record_sectors : sectors_sound r ≡ false → 12 ≡ record_refusal r
  unfolding possible_report
  record_sectors e =
      refuses (and_fails (leb r.lines most_lines) (sectors_sound r && channels_sound r) (and_fails_left (sectors_sound r) (channels_sound r) e))

  pub record_channels : channels_sound r ≡ false → 12 ≡ record_refusal r
  unfolding possible_report
  record_channels e = refuses (and_fails (leb r.lines most_lines) (sectors_sound r && channels_sound r) (and_fails (sectors_sound r) (channels_sound r) e))

  pub record_passed : r.lines ≤ most_lines → sectors_sound r ≡ true → channels_sound r ≡ true → 0 ≡ record_refusal r
  unfolding possible_report
  record_passed h s d =
      sym (record_passes r (and_both (leb r.lines most_lines) (sectors_sound r && channels_sound r) (le-leb r.lines most_lines h) (and_both (sectors_sound r) (channels_sound r) s d)))

-- two possible records may be added
pub tally_room : (a b : Report) → Possible a → Possible b → (i : ℕ) → i < 12 → let x = tally_at a i in let y = tally_at b i in
    (x.accepted + y.accepted < 2 ^ 64) × (x.remainder + y.remainder < 2 ^ 64) × (x.id + y.id < 2 ^ 64) × (x.filler + y.filler < 2 ^ 64)
tally_room a b p q i h =
    let x = p.tally i h in
    let y = q.tally i h in
    let m = p.most in
    let n = q.most in
    (omega (arith, x.adds, y.adds), omega (arith, x.adds, y.adds), omega (arith, x.adds, y.adds), omega (arith, x.filler, y.filler))

pub channel_room : (a b : Report) → Possible a → Possible b → (i : ℕ) → i < 4 → let x = channel_at a i in let y = channel_at b i in
    (x.count + y.count < 2 ^ 64) × (x.sum + y.sum < 2 ^ 64)
channel_room a b p q i h =
    let x = p.channel i h in
    let y = q.channel i h in
    let m = p.most in
    let n = q.most in
    (omega (arith, x.count, y.count), omega (arith, x.sum, y.sum))
