-- The reader with its buffer finds the lines of the plain definition, in any cut of the recording, also where the buffer
-- is exchanged between lines for another that is long enough. Over any length of a window, any test and any line length.
-- Assumes nothing.
use mathlib.Core.Bool.{Bool, true, false, cond}
use mathlib.Core.List.{List, [], ◌∷◌, ◌++◌}
use mathlib.Core.Logic.{◌↔◌}
use mathlib.Core.Path.{◌≡◌, refl, sym, ap, ◌∙◌}
use Prim.Native.Nat.{ℕ, zero, suc, ◌+◌, ◌*◌, ◌%◌, ◌^◌, ◌≤◌, ◌<◌, zero-le}
use native.Mathlib.Omega.{arith}
use borrow.Author.Tests.{lt-leb}
use lib.Dec.{ltb, eqb}
use lib.ListN.{length, take}
use Rattle.bits.specs.Bits.{in_arow, digits, bits_of, Below}
use Rattle.bits.proofs.Below.{below_head, below_rest}
use Rattle.bits.proofs.Bytes.{bits_below}
use Rattle.bits.proofs.Digits.{length_digits, no_digits}
use Rattle.scramble.specs.Register.{next_register}
use Rattle.scramble.specs.Sync.{fifteen_ones}
use Rattle.scramble.specs.Wire.{plain_bit}
use Rattle.wire.specs.Parts.{line_of}
use Rattle.reader_bits.specs.Lines.{lines_of}
use Rattle.reader_bits.specs.Phase.{Phase, seeking, within, phase_next, buffer_next, completes, Bench, step, done}
use Rattle.cuts.proofs.Auto.{Auto, seek, line, step_a, ends_a, line_a, found, found_is}
use Rattle.cuts.proofs.Calls.{outs, Quiet}
use Rattle.cuts.proofs.Cuts.{Reads, reads_iff}
use Rattle.cuts.proofs.Stands.{Stands, buffer_length, after_line, fresh_search, stands_next, ends_same, line_whole}

-- the line that stands in the buffer
abbrev pub line_in : ℕ → Bench → List ℕ
line_in M s = bits_of (take M s.1)

-- the buffer for call k: between lines the caller may lend another
abbrev pub lent_to : (ℕ → List ℕ → List ℕ) → ℕ → Phase → List ℕ → List ℕ
lent_to lend k (seeking c w) buf = lend k buf
lent_to lend k (within p r q) buf = buf

abbrev pub swap : (ℕ → List ℕ → List ℕ) → ℕ → Bench → Bench
swap lend k s = (s.0, lent_to lend k s.0 s.1)

module _ (W : ℕ) (test : List ℕ → Bool) (M : ℕ) where
  -- ---- a line is far away

  abbrev Far : Phase → ℕ → Type 0
  Far (seeking c w) m = m ≤ M * 8
  Far (within p r q) m = p + m < M * 8

  far_none : (bs : List ℕ) (f : Phase) (buf : List ℕ) → Far f (length bs) → outs (step W test M) (done M) (line_in M) (f, buf) bs ≡ []
  unfolding phase_next completes
  far_none [] f buf h = refl
  far_none (b ∷ bs) (seeking c w) buf h = far_none bs (phase_next W test M (seeking c w) b) _ (go (ltb (suc c) W) (test (digits W (w * 2 + b))))
    where
      go : (x y : Bool) → Far (cond x (seeking (suc c) (w * 2 + b)) (cond y (within 0 fifteen_ones 0) (seeking c ((w * 2 + b) % 2 ^ c)))) (length bs)
      go true y = omega arith
      go false true = omega arith
      go false false = omega arith
  far_none (b ∷ bs) (within p r q) buf h =
      rw (lt-leb (M * 8) (suc p) (omega arith))
      (far_none bs (within (suc p) (next_register r) (cond (eqb (p % 8) 7) 0 (q * 2 + plain_bit p r b))) _ (omega arith))

  module _ (pw : zero < W) (pm : zero < M) where
    -- unread bits complete no line
    pub seeking_quiet : (c w : ℕ) (buf : List ℕ) (n v : ℕ) → n ≤ 7 → Quiet (step W test M) (done M) (line_in M) (seeking c w, buf) n v
    seeking_quiet c w buf n v h = far_none (digits n v) (seeking c w) buf (let l = length_digits n v in omega arith)

    pub calm : (s : Bench) (b : ℕ) → done M s b ≡ true → (n v : ℕ) → n ≤ 7 → Quiet (step W test M) (done M) (line_in M) (step W test M s b) n v
    calm s b e n v h = rw (after_line W test M s.0 b e) (seeking_quiet 0 0 (buffer_next s.0 b s.1) n v h)

    -- ---- the lines that come

    abbrev pub StandsFor : Bench → Auto → Type 0
    StandsFor s q = Stands W test M s.0 s.1 q

    pub outs_found : (bs : List ℕ) (f : Phase) (buf : List ℕ) (q : Auto) → Below 2 bs → M ≤ length buf → StandsFor (f, buf) q
        → outs (step W test M) (done M) (line_in M) (f, buf) bs ≡ found W test (M * 8) line_of q bs
    outs_found [] f buf q i m s = refl
    outs_found (b ∷ bs) f buf q i m s =
        go (completes M f b) refl
        (outs_found bs (phase_next W test M f b) (buffer_next f b buf) (step_a W test (M * 8) line_of q b) (below_rest 2 b bs i)
        (let l = buffer_length f buf b in omega arith)
        (stands_next W test M pw pm f buf q b (below_head 2 b bs i) m s))
      where
        here : List (List ℕ)
        here = outs (step W test M) (done M) (line_in M) (phase_next W test M f b, buffer_next f b buf) bs

        there : List (List ℕ)
        there = found W test (M * 8) line_of (step_a W test (M * 8) line_of q b) bs

        go : (t : Bool) → completes M f b ≡ t → here ≡ there
            → cond (completes M f b) (bits_of (take M (buffer_next f b buf)) ∷ here) here
            ≡ cond (ends_a W test (M * 8) line_of q b) (line_a W test (M * 8) line_of q b ∷ there) there
        go true e r = rw (← ends_same W test M pw pm f buf q b s, e, line_whole W test M pw pm f buf q b m s e, r)
        go false e r = rw (← ends_same W test M pw pm f buf q b s, e, r)

    -- ---- a reader that stands for some bits, with a buffer that is long enough

    pub record Ok (s : Bench) : Type 0 where
      pub room : M ≤ length s.1
      pub bits : Auto
      pub stands : StandsFor s bits

    pub ok_step : (s : Bench) (b : ℕ) → b < 2 → Ok s → Ok (step W test M s b)
    ok_step s b h o =
        record {
          room = let l = buffer_length s.0 s.1 b in let k = o.room in omega arith;
          bits = step_a W test (M * 8) line_of o.bits b;
          stands = stands_next W test M pw pm s.0 s.1 o.bits b h o.room o.stands;
        }

    module _ (lend : ℕ → List ℕ → List ℕ) (long : (k : ℕ) (buf : List ℕ) → M ≤ length buf → M ≤ length (lend k buf)) where
      pub stands_lent : (k : ℕ) (f : Phase) (buf : List ℕ) (q : Auto) → StandsFor (f, buf) q → StandsFor (f, lent_to lend k f buf) q
      stands_lent k (seeking c w) buf (seek l) s = s
      stands_lent k (seeking c w) buf (line g) s = s
      stands_lent k (within p r q) buf a s = s

      pub room_lent : (k : ℕ) (f : Phase) (buf : List ℕ) → M ≤ length buf → M ≤ length (lent_to lend k f buf)
      room_lent k (seeking c w) buf h = long k buf h
      room_lent k (within p r q) buf h = h

      pub ok_swap : (k : ℕ) (s : Bench) → Ok s → Ok (swap lend k s)
      ok_swap k s o =
          record {
            room = room_lent k s.0 s.1 o.room;
            bits = o.bits;
            stands = stands_lent k s.0 s.1 o.bits o.stands;
          }

      -- another buffer changes no line to come
      swap_same : (k : ℕ) (s : Bench) → Ok s → (bs : List ℕ) → Below 2 bs
          → outs (step W test M) (done M) (line_in M) (swap lend k s) bs ≡ outs (step W test M) (done M) (line_in M) s bs
      swap_same k s o bs h =
          outs_found bs s.0 (lent_to lend k s.0 s.1) o.bits h (room_lent k s.0 s.1 o.room) (stands_lent k s.0 s.1 o.bits o.stands)
          ∙ sym (outs_found bs s.0 s.1 o.bits h o.room o.stands)

      pub reads_lines : (buf : List ℕ) → M ≤ length buf → (ps ls : List (List ℕ))
          → Reads (step W test M) (done M) (line_in M) (swap lend) 0 (seeking 0 0, buf) 0 0 ps ls ↔ (ls ≡ lines_of W test (M * 8) line_of (bits_of (in_arow ps)))
      reads_lines buf m ps ls =
          let o : Ok (seeking 0 0, buf) = record { room = m; bits = seek []; stands = fresh_search W test M pw pm buf } in
          let e : outs (step W test M) (done M) (line_in M) (seeking 0 0, buf) (digits 0 0 ++ bits_of (in_arow ps)) ≡ lines_of W test (M * 8) line_of (bits_of (in_arow ps)) =
          ap (λ (l : List ℕ). outs (step W test M) (done M) (line_in M) (seeking 0 0, buf) (l ++ bits_of (in_arow ps))) (no_digits 0)
          ∙ outs_found (bits_of (in_arow ps)) (seeking 0 0) buf (seek []) (bits_below (in_arow ps)) m (fresh_search W test M pw pm buf)
          ∙ found_is W test (M * 8) line_of pw (omega arith) (bits_of (in_arow ps)) in
          let i = reads_iff (step W test M) (done M) (line_in M) (swap lend) Ok ok_step ok_swap swap_same calm 0 (seeking 0 0, buf) 0 0
          (o, zero-le, seeking_quiet 0 0 buf 0 0 zero-le) ps ls in
          (λ r. i.0 r ∙ e, λ h. i.1 (h ∙ sym e))
