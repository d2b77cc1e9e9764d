-- THE ICED DISH: of a written recording with wrong bits, as long as each tail has at most k and each earlier searched window at most
-- 8 - k, the setting k finds exactly the lines of the information bits as they were received (`iced_dish`); so for k up to 4 with
-- at most k wrong bits in any 64 neighbouring bits of what is searched (`iced_evenly`), and for k up to 6 with at most k wrong bits
-- in each tail and none before it (`iced_tails`). What is written is such a run with nothing wrong (`sent_bits`, `unwronged`).
-- Assumes nothing.
use mathlib.Core.List.{List, [], ◌∷◌, ◌++◌, map, append_assoc, append-nil}
use mathlib.Core.Logic.{◌↔◌}
use mathlib.Core.Path.{◌≡◌, refl, sym, ap, ap₂, ◌∙◌}
use Prim.Native.Nat.{ℕ, zero, suc, ◌+◌, ◌-◌, ◌*◌, ◌≤◌, ◌<◌}
use native.Mathlib.Nat.{suc-mul}
use native.Mathlib.Omega.{arith}
use lib.Dec.{lit<}
use lib.ListN.{length, take, drop, length-drop, take-append-drop}
use Rattle.bits.specs.Bits.{packed_of, bits_of, in_arow}
use Rattle.bits.proofs.Bytes.{length_bits, bits_below, bits_append}
use Rattle.formats.specs.Formats.{format_of, information_bits}
use Rattle.formats.specs.declared.Format.{Format}
use Rattle.std.specs.Prelude.{Ok}
use Rattle.scramble.specs.Sync.{SYNC, fifteen_ones}
use Rattle.scramble.proofs.Wire.{length_wire}
use Rattle.wire.specs.Parts.{information_of, line_of, dummy_of}
use Rattle.wire.proofs.Wire.{line_back}
use Rattle.reader_bits.specs.Lines.{window_bits, is_tail, lines, recorded}
use Rattle.reader_record.specs.Records.{fresh_state}
use Rattle.reader_refusals.specs.Refusing.{largest_setting}
use Rattle.cuts.specs.Driven.{Driven}
use Rattle.cuts.proofs.Demand.{demand_3}
use Rattle.writer.specs.Wire.{on_wire, wire_bytes}
use Rattle.demands.specs.Iced.{Received, received_of, sent_of, cut_of, Iced, Leading, Near, Even, InTail}
use Rattle.demands.specs.RoundTrip.{PlainLines, recording_of}
use Rattle.demands.proofs.Guarded.{some_bits, Guarded, leading_leads, near_leading, even_near, in_tail_leading, same_near, sync_guarded, dummy_guarded, dummy_short}
use Rattle.demands.proofs.RoundTrip.{wire_bits}
use Rattle.demands.proofs.Run.{found_none, found_line}

-- the lines of the information bits
abbrev pub lines_in : List Received → List (List ℕ)
lines_in rs = map (λ (r : Received). line_of r.information) rs

module _ (n : ℕ) (f : Format) (e : format_of n ≡ Ok f) where
  abbrev dummy : List ℕ
  dummy = dummy_of information_bits f.dummy

  regroup : (got s i d rest : List ℕ) → got ++ ((s ++ i ++ d) ++ rest) ≡ (got ++ s) ++ (i ++ (d ++ rest))
  regroup got s i d rest = simp append_assoc

  iced_behind : (k : ℕ) (sent got : List ℕ) (rs : List Received) → Guarded (sent ++ SYNC f.sync) → length sent < information_bits
      → Iced (Leading k) f sent got rs → lines k (got ++ received_of rs) ≡ lines_in rs
  unfolding lines received_of Iced
  iced_behind k sent got [] g short i =
      ap (lines k) (append-nil got) ∙ found_none window_bits (is_tail k) some_bits information_bits line_of got (omega arith)
  iced_behind k sent got (r ∷ rs) g short i =
      ap (lines k) (regroup got r.sync r.information r.dummy (received_of rs))
      ∙ found_line window_bits (is_tail k) some_bits information_bits line_of (length (sent ++ SYNC f.sync) - 64) (got ++ r.sync) r.information (r.dummy ++ received_of rs)
      (leading_leads k (sent ++ SYNC f.sync) (got ++ r.sync) g i.0) i.1
      ∙ ap (λ (ls : List (List ℕ)). line_of r.information ∷ ls) (iced_behind k dummy r.dummy rs (dummy_guarded n f e) (dummy_short n f e) i.2)

  -- as long as each tail is still found, and no other place
  pub leading_dish : (k : ℕ) (rs : List Received) → Iced (Leading k) f [] [] rs → lines k (received_of rs) ≡ lines_in rs
  leading_dish k rs i = iced_behind k [] [] rs (sync_guarded n f e) (lit< tt) i

  -- ---- from one kind of wrong bits to another

  iced_map : (P Q : (sent got : List ℕ) → Type 0) → ((sent got : List ℕ) → Guarded sent → P sent got → Q sent got)
      → (sent got : List ℕ) (rs : List Received) → Guarded (sent ++ SYNC f.sync) → Iced P f sent got rs → Iced Q f sent got rs
  unfolding Iced
  iced_map P Q m sent got [] g i = i
  iced_map P Q m sent got (r ∷ rs) g i =
      (m (sent ++ SYNC f.sync) (got ++ r.sync) g i.0, i.1, iced_map P Q m dummy r.dummy rs (dummy_guarded n f e) i.2)

  iced_as : (P Q : (sent got : List ℕ) → Type 0) → ((sent got : List ℕ) → Guarded sent → P sent got → Q sent got) → (rs : List Received) → Iced P f [] [] rs → Iced Q f [] [] rs
  iced_as P Q m rs i = iced_map P Q m [] [] rs (sync_guarded n f e) i

  pub near : (k : ℕ) (rs : List Received) → Iced (Near k) f [] [] rs → Iced (Leading k) f [] [] rs
  near k rs i = iced_as (Near k) (Leading k) (near_leading k) rs i

  pub evenly : (k : ℕ) → k ≤ 4 → (rs : List Received) → Iced (Even k) f [] [] rs → Iced (Leading k) f [] [] rs
  evenly k h rs i = near k rs (iced_as (Even k) (Near k) (even_near k h) rs i)

  pub in_tails : (k : ℕ) → k ≤ largest_setting → (rs : List Received) → Iced (InTail k) f [] [] rs → Iced (Leading k) f [] [] rs
  in_tails k h rs i = iced_as (InTail k) (Leading k) (in_tail_leading k h) rs i

  -- THE ICED DISH
  pub iced_dish : (k : ℕ) (rs : List Received) → Iced (Near k) f [] [] rs → lines k (received_of rs) ≡ lines_in rs
  iced_dish k rs i = leading_dish k rs (near k rs i)

  -- AT MOST k WRONG BITS IN ANY 64 NEIGHBOURS of what is searched, k up to 4
  pub iced_evenly : (k : ℕ) → k ≤ 4 → (rs : List Received) → Iced (Even k) f [] [] rs → lines k (received_of rs) ≡ lines_in rs
  iced_evenly k h rs i = leading_dish k rs (evenly k h rs i)

  -- AT MOST k WRONG BITS IN EACH TAIL and none before it, k up to 6, as `signal` makes them
  pub iced_tails : (k : ℕ) → k ≤ largest_setting → (rs : List Received) → Iced (InTail k) f [] [] rs → lines k (received_of rs) ≡ lines_in rs
  iced_tails k h rs i = leading_dish k rs (in_tails k h rs i)

  -- where the information bits are those of written lines: exactly the written lines
  pub iced_written : (k : ℕ) (rs : List Received) (ls : List (List ℕ)) → map (λ (r : Received). r.information) rs ≡ map (λ (l : List ℕ). information_of (bits_of l)) ls
      → Iced (Near k) f [] [] rs → lines k (received_of rs) ≡ map bits_of ls
  iced_written k rs ls same i = iced_dish k rs i ∙ split rs ∙ ap (map line_of) same ∙ back ls
    where
      split : (rs : List Received) → lines_in rs ≡ map line_of (map (λ (r : Received). r.information) rs)
      split [] = refl
      split (r ∷ rs) = ap (λ (xs : List (List ℕ)). line_of r.information ∷ xs) (split rs)

      back : (ls : List (List ℕ)) → map line_of (map (λ (l : List ℕ). information_of (bits_of l)) ls) ≡ map bits_of ls
      back [] = refl
      back (l ∷ ls) = ap₂ (λ (x : List ℕ) (xs : List (List ℕ)). x ∷ xs) (line_back (bits_of l) (bits_below l)) (back ls)

  -- ---- uncut bits, as many as m lines have

  in_a_row : (a b c d : List ℕ) → (a ++ b ++ c) ++ d ≡ a ++ (b ++ (c ++ d))
  in_a_row a b c d = simp append_assoc

  put_back : (a b c : ℕ) (got : List ℕ) → (take a got ++ take b (drop a got) ++ take c (drop b (drop a got))) ++ drop c (drop b (drop a got)) ≡ got
  put_back a b c got =
      let r1 = drop a got in
      let r2 = drop b r1 in
      in_a_row (take a got) (take b r1) (take c r2) (drop c r2)
      ∙ ap (λ (x : List ℕ). take a got ++ (take b r1 ++ x)) (take-append-drop c r2)
      ∙ ap (λ (x : List ℕ). take a got ++ x) (take-append-drop b r1)
      ∙ take-append-drop a got

  pub cut-whole : (m : ℕ) (got : List ℕ) → length got ≡ m * (f.sync + information_bits + f.dummy) → received_of (cut_of f m got) ≡ got
  unfolding received_of cut_of
  cut-whole zero [] l = refl
  cut-whole zero (b ∷ got) l = absurd (let z : ⊥ = omega arith in z)
  cut-whole (suc m) got l =
      let r1 = drop f.sync got in
      let r2 = drop information_bits r1 in
      let one = suc-mul m (f.sync + information_bits + f.dummy) in
      let here = cut-whole m (drop f.dummy r2) (omega (arith, length-drop f.sync got, length-drop information_bits r1, length-drop f.dummy r2)) in
      ap (λ (x : List ℕ). (take f.sync got ++ take information_bits r1 ++ take f.dummy r2) ++ x) here
      ∙ put_back f.sync information_bits f.dummy got

  pub iced_bits : (k m : ℕ) (got : List ℕ) → length got ≡ m * (f.sync + information_bits + f.dummy) → Iced (Near k) f [] [] (cut_of f m got)
      → lines k got ≡ lines_in (cut_of f m got)
  iced_bits k m got l i = ap (lines k) (sym (cut-whole m got l)) ∙ iced_dish k (cut_of f m got) i

  -- ---- what is written is such a run, with nothing wrong at any setting below nine

  pub sent_bits : (ls : List (List ℕ)) → PlainLines ls → bits_of (recording_of f ls) ≡ received_of (map (sent_of f) ls)
  unfolding recording_of PlainLines received_of on_wire
  sent_bits [] p = unfold bits_of packed_of in refl
  sent_bits (l ∷ ls) p =
      bits_append (wire_bytes f l) (recording_of f ls)
      ∙ ap₂ (λ (x y : List ℕ). x ++ y) (wire_bits n f l e p.0) (sent_bits ls p.1)

  pub unwronged : (k : ℕ) → k < 9 → (sent : List ℕ) (ls : List (List ℕ)) → PlainLines ls → Iced (Near k) f sent sent (map (sent_of f) ls)
  unfolding Iced PlainLines information_of
  unwronged k h sent [] p = refl
  unwronged k h sent (l ∷ ls) p =
      (same_near k h (sent ++ SYNC f.sync), length_wire 0 fifteen_ones (bits_of l) ∙ length_bits l ∙ ap (λ (m : ℕ). 8 * m) p.0.long, unwronged k h dummy ls p.1)

  -- ---- read

  -- A READER AT THE SETTING k hands out of such a recording, cut in any way, exactly the lines of its information bits
  pub iced_read : (k : ℕ) → k ≤ largest_setting
      → (lend : ℕ → List ℕ → List ℕ) → ((j : ℕ) (buf : List ℕ) → 44356 ≤ length buf → 44356 ≤ length (lend j buf)) → (buf : List ℕ) → 44356 ≤ length buf
      → (rs : List Received) → Iced (Leading k) f [] [] rs → (ps : List (List ℕ)) → bits_of (in_arow ps) ≡ received_of rs
      → (out : List (List ℕ)) → Driven n k lend 0 fresh_state buf ps out ↔ (out ≡ lines_in rs)
  iced_read k small lend long buf room rs iced ps cut out =
      let d = demand_3 n f e k small lend long buf room ps out in
      let same : recorded k (in_arow ps) ≡ lines_in rs = unfold recorded in ap (lines k) cut ∙ leading_dish k rs iced in
      (λ x. d.0 x ∙ same, λ y. d.1 (y ∙ sym same))

  -- SETTING 4: up to four wrong bits in any 64 of SYNC and dummy never cost a line and never make a false one
  pub setting_four : (lend : ℕ → List ℕ → List ℕ) → ((j : ℕ) (buf : List ℕ) → 44356 ≤ length buf → 44356 ≤ length (lend j buf)) → (buf : List ℕ) → 44356 ≤ length buf
      → (rs : List Received) → Iced (Even 4) f [] [] rs → (ps : List (List ℕ)) → bits_of (in_arow ps) ≡ received_of rs
      → (out : List (List ℕ)) → Driven n 4 lend 0 fresh_state buf ps out ↔ (out ≡ lines_in rs)
  setting_four lend long buf room rs iced ps cut out = iced_read 4 (omega arith) lend long buf room rs (evenly 4 (omega arith) rs iced) ps cut out
