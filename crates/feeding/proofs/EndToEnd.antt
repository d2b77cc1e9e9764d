-- END TO END, for any feeder that lends the slot of the next line and publishes complete lines only: what a holder reads under
-- serial n is the n-th line that the plain definition finds in the bytes fed. Assumes nothing.
use mathlib.Core.Bool.{Bool, true, false, ◌&&◌, not, true≢false, false≢true}
use mathlib.Core.List.{List, [], ◌∷◌, ◌++◌, append_assoc}
use mathlib.Core.Option.{some}
use mathlib.Core.Path.{◌≡◌, refl, sym, ap, ◌∙◌}
use Prim.Native.Nat.{ℕ, suc, ◌+◌, ◌-◌, ◌*◌, ◌≤◌, ◌<◌}
use native.Mathlib.Omega.{arith}
use borrow.Author.Tests.{eqb-true, eqb-false, eq-eqb, ltb-true, ltb-false, leb-true, leb-false}
use lib.Dec.{eqb, ltb, leb}
use lib.ListN.{length, take, drop, length-append, length-set, take-append-drop}
use lib.Seq.{take_all}
use Rattle.std.specs.Prelude.{Result, Ok, Err}
use Rattle.refusals.specs.declared.Refusal.{Refusal}
use Rattle.reader_line.specs.declared.Reading.{Reading}
use Rattle.refusals.specs.Refusals.{answer_number}
use Rattle.refusals.proofs.Numbers.{number_some}
use Rattle.reader_refusals.specs.Refusing.{largest_setting}
use Rattle.bits.specs.Bits.{bits_of}
use Rattle.bits.proofs.Bytes.{bits_append}
use Rattle.formats.specs.Formats.{line_bytes, format_of}
use Rattle.formats.specs.declared.Format.{Format}
use Rattle.desk_record.specs.Slots.{slot_of, is_free, held_by, let_go}
use Rattle.desk_record.specs.Desks.{lowest_of, with_slot, taken_desk, empty_desk, possible_of}
use Rattle.desk.specs.Calls.{take_answer, publish_answer, release_answer, desk_after, take_after}
use Rattle.histories.specs.Histories as histories
use Rattle.histories.specs.Histories.{Done, History}
use Rattle.desk_record.specs.declared.Desk.{Desk}
use Rattle.desk_record.specs.declared.Use.{Use}
use Rattle.desk_record.specs.declared.Use.TheVariants.{Free, Filling, Held}
use Rattle.histories.proofs.Once.{let_gone}
use Rattle.histories.proofs.Others.{others_hold}
use Rattle.histories.proofs.Past.{empty_slot, held_serial, held_or_filling}
use Rattle.histories.proofs.StaysPossible.{possible_means, sound_serial, always_possible}
use Rattle.histories.proofs.Steps.{slot_same, slot_other, take_kept, publish_kept, release_kept, took_it, published_it, released_it}
use Rattle.cuts.specs.Driven.{line_in, bits_read}
use Rattle.reader_bits.specs.Lines.{lines, recorded}
use Rattle.reader.specs.Read.{read_answer, read_left}
use Rattle.reader_record.specs.Records.{fresh_state}
use Rattle.reader_record.specs.declared.State.{State}
use Rattle.reader_line.specs.declared.Reading.TheVariants.{More, Line}
use Rattle.cuts.proofs.Keeps.{line_between}
use Rattle.cuts.proofs.Later.{lines_first}
use Rattle.feeding.specs.Area.{slot_at, area_after, line_no}
use Rattle.feeding.specs.Fed as run
use Rattle.feeding.specs.Fed.{Fed}
use Rattle.feeding.proofs.Exchanged.{Reached, reached_start, reached_on, reached_got, reached_lines}
use Rattle.feeding.proofs.Places.{slot_length, put_same, put_other, put_length, no_append, no_last, no_take_is, of_length}
use Rattle.cuts.proofs.Sized.{read_length}

-- ---- what holds at every moment

-- in a line: the slot that is being filled, and what the reader left in it
record InLine (k : ℕ) (d : Desk) (area buf : List ℕ) : Type 0 where
  slot : ℕ
  used : slot_of d slot ≡ Filling (suc k)
  same : buf ≡ slot_at slot area

-- a busy slot is one of the desk, and the area has room
pub record Inside (d : Desk) (area : List ℕ) (i : ℕ) : Type 0 where
  pub below : i < d.count
  pub room : d.count * line_bytes ≤ length area
  pub least : 2 ≤ d.count
  pub most : d.count ≤ 8

-- every hold is of its line; so is every slot whose line is complete and not yet published
abbrev Right : Desk → List ℕ → List (List ℕ) → Type 0
Right d area ls = (c j n : ℕ) → held_by c n (slot_of d j) ≡ true → line_no n ls ≡ some (bits_of (slot_at j area))

abbrev Ready : ℕ → Desk → List ℕ → List (List ℕ) → Type 0
Ready k d area ls = (j n : ℕ) → slot_of d j ≡ Filling n → n ≤ k → line_no n ls ≡ some (bits_of (slot_at j area))

record Holds (f setting count k : ℕ) (s : State) (d : Desk) (area bytes : List ℕ) : Type 0 where
  buf : List ℕ
  ls : List (List ℕ)
  log : List Done
  reach : Reached f setting s buf bytes ls
  past : History count d log
  slots : length d.slots ≡ 8
  long : length ls ≡ k
  most : k ≤ d.last
  inside : (j : ℕ) → is_free (slot_of d j) ≡ false → Inside d area j
  right : Right d area ls
  ready : Ready k d area ls
  now : s.in_line ≡ true → InLine k d area buf

-- a serial number is in one slot only
unique : (d : Desk) → possible_of d ≡ true → (i j n : ℕ) → i < d.count → j < d.count → slot_of d i ≡ Filling n → slot_of d j ≡ Filling n → i ≡ j
unique d h i j n a b e g = go (ltb i j) refl (ltb j i) refl
  where
    clash : (x y : ℕ) → x < y → y < d.count → slot_of d x ≡ Filling n → slot_of d y ≡ Filling n → ⊥
    clash x y l m u v =
        let p = possible_means (slot_of d) d.last d.count 0 h in
        let w = p.apart x y (omega arith) l (omega arith) (rw u refl) in
        true≢false (sym (eq-eqb n n refl) ∙ (rw (u, v) at w))

    go : (s : Bool) → ltb i j ≡ s → (t : Bool) → ltb j i ≡ t → i ≡ j
    go true x t y = absurd (clash i j (ltb-true i j x) b e g)
    go false x true y = absurd (clash j i (ltb-true j i y) a g e)
    go false x false y = let c = ltb-false i j x in let m = ltb-false j i y in omega arith

-- a serial number in a slot was given
was_given : (d : Desk) → possible_of d ≡ true → (i n : ℕ) → i < d.count → slot_of d i ≡ Filling n → n ≤ d.last
was_given d h i n a e =
    let p = possible_means (slot_of d) d.last d.count 0 h in
    rw e at (sound_serial d.last (slot_of d i) (p.sound i (omega arith) (omega arith)))

filling_same : (n m : ℕ) (u : Use) → u ≡ Filling n → u ≡ Filling m → n ≡ m
filling_same n m u e g = cc

holds_start : (f setting count : ℕ) (first : List ℕ) → Holds f setting count 0 fresh_state (empty_desk count) first []
holds_start f setting count first =
    let b = of_length 44356 in
    record {
      buf = b.list;
      ls = [];
      log = [];
      reach = reached_start f setting b.list (omega (arith, b.size));
      past = histories.History.start;
      slots = refl;
      long = refl;
      most = omega arith;
      inside = λ j e. absurd (true≢false (rw (empty_slot count j) at e));
      right = λ c j n e. absurd (false≢true (rw (empty_slot count j) at e));
      ready = λ j n e l. let y : Free ≡ Filling n = rw (empty_slot count j) at e in absurd (let z : ◌≡◌ {A = ℕ} 0 1 = cc in omega arith);
      now = λ e. absurd (false≢true e);
    }

module _ (f setting count k : ℕ) (s : State) (d : Desk) (area bytes : List ℕ) (h : Holds f setting count k s d area bytes) where
  holds_take : Holds f setting count k s (take_after d (take_answer d (length area))).desk area bytes
  holds_take = by (eqb (answer_number (take_answer d (length area))) 0) refl
    where
      i : ℕ
      i = lowest_of d

      u : Use
      u = Filling (suc d.last)

      right : slot_of (taken_desk d) i ≡ u → (c j n : ℕ) (t : Bool) → eqb j i ≡ t → held_by c n (slot_of (taken_desk d) j) ≡ true → line_no n h.ls ≡ some (bits_of (slot_at j area))
      right w c j n true x g = absurd (false≢true (rw (eqb-true j i x, w) at g))
      right w c j n false x g = h.right c j n (rw (slot_other d i j u (eqb-false j i x)) at g)

      ready : slot_of (taken_desk d) i ≡ u → (j n : ℕ) (t : Bool) → eqb j i ≡ t → slot_of (taken_desk d) j ≡ Filling n → n ≤ k → line_no n h.ls ≡ some (bits_of (slot_at j area))
      ready w j n true x g l =
          let z : suc d.last ≡ n = filling_same (suc d.last) n (slot_of (taken_desk d) i) w (rw (eqb-true j i x) at g) in
          absurd (let y : ⊥ = omega (arith, h.most) in y)
      ready w j n false x g l = h.ready j n (sym (slot_other d i j u (eqb-false j i x)) ∙ g) l

      inside : Inside d area i → (j : ℕ) (t : Bool) → eqb j i ≡ t → is_free (slot_of (taken_desk d) j) ≡ false → Inside (taken_desk d) area j
      inside a j true x g = rw (eqb-true j i x) (record { below = a.below; room = a.room; least = a.least; most = a.most })
      inside a j false x g =
          let b = h.inside j (rw (slot_other d i j u (eqb-false j i x)) at g) in
          record { below = b.below; room = b.room; least = b.least; most = b.most }

      now : slot_of d i ≡ Free → InLine k d area h.buf → InLine k (taken_desk d) area h.buf
      now e w = record { slot = w.slot; used = slot_other d i w.slot u (λ z. other z) ∙ w.used; same = w.same }
        where
          other : w.slot ≡ i → ⊥
          other z =
              let y : Free ≡ Filling (suc k) = sym e ∙ ap (slot_of d) (sym z) ∙ w.used in
              let x : ◌≡◌ {A = ℕ} 0 1 = cc in
              omega arith

      by : (t : Bool) → eqb (answer_number (take_answer d (length area))) 0 ≡ t → Holds f setting count k s (take_after d (take_answer d (length area))).desk area bytes
      by true x =
          let z = eqb-true (answer_number (take_answer d (length area))) 0 x in
          let t = took_it d (length area) z in
          let a = t.served in
          let w : slot_of (taken_desk d) i ≡ u = slot_same d i u (omega (arith, a.slot, a.counts.most, h.slots)) in
          let past : History count (taken_desk d) _ = rw t.desk at (histories.History.takes (length area) h.past z) in
          rw t.desk (record {
            buf = h.buf;
            ls = h.ls;
            log = _;
            reach = h.reach;
            past = past;
            slots = length-set d.slots i (record { used = u }) ∙ h.slots;
            long = h.long;
            most = omega (arith, h.most);
            inside = λ j g. inside (record { below = a.slot; room = a.room; least = a.counts.least; most = a.counts.most }) j (eqb j i) refl g;
            right = λ c j n g. right w c j n (eqb j i) refl g;
            ready = λ j n g l. ready w j n (eqb j i) refl g l;
            now = λ e. now t.free (h.now e);
          })
      by false x = rw (take_kept d (length area) (eqb-false (answer_number (take_answer d (length area))) 0 x)) h

  holds_publish : (i n : ℕ) → n ≤ k → Holds f setting count k s (desk_after d (publish_answer d (length area) i n)) area bytes
  holds_publish i n l = by (eqb (answer_number (publish_answer d (length area) i n)) 0) refl
    where
      u : Use
      u = Held n true true

      right : slot_of d i ≡ Filling n → slot_of (with_slot d i u) i ≡ u → (c j m : ℕ) (t : Bool) → eqb j i ≡ t → held_by c m (slot_of (with_slot d i u) j) ≡ true
          → line_no m h.ls ≡ some (bits_of (slot_at j area))
      right e w c j m true x g =
          let y = eqb-true j i x in
          let v : held_by c m (Held n true true) ≡ true = rw (y, w) at g in
          rw (y, sym (held_serial c m n true true v)) (h.ready i n e l)
      right e w c j m false x g = h.right c j m (rw (slot_other d i j u (eqb-false j i x)) at g)

      ready : slot_of (with_slot d i u) i ≡ u → (j m : ℕ) (t : Bool) → eqb j i ≡ t → slot_of (with_slot d i u) j ≡ Filling m → m ≤ k → line_no m h.ls ≡ some (bits_of (slot_at j area))
      ready w j m true x g b =
          let y : Held n true true ≡ Filling m = sym w ∙ (rw (eqb-true j i x) at g) in
          absurd (let z : ◌≡◌ {A = ℕ} 0 1 = cc in omega arith)
      ready w j m false x g b = h.ready j m (sym (slot_other d i j u (eqb-false j i x)) ∙ g) b

      inside : Inside d area i → (j : ℕ) (t : Bool) → eqb j i ≡ t → is_free (slot_of (with_slot d i u) j) ≡ false → Inside (with_slot d i u) area j
      inside a j true x g = rw (eqb-true j i x) (record { below = a.below; room = a.room; least = a.least; most = a.most })
      inside a j false x g =
          let b = h.inside j (rw (slot_other d i j u (eqb-false j i x)) at g) in
          record { below = b.below; room = b.room; least = b.least; most = b.most }

      now : slot_of d i ≡ Filling n → InLine k d area h.buf → InLine k (with_slot d i u) area h.buf
      now e w = record { slot = w.slot; used = slot_other d i w.slot u (λ z. other z) ∙ w.used; same = w.same }
        where
          other : w.slot ≡ i → ⊥
          other z = let y = filling_same n (suc k) (slot_of d i) e (ap (slot_of d) (sym z) ∙ w.used) in omega arith

      by : (t : Bool) → eqb (answer_number (publish_answer d (length area) i n)) 0 ≡ t → Holds f setting count k s (desk_after d (publish_answer d (length area) i n)) area bytes
      by true x =
          let z = eqb-true (answer_number (publish_answer d (length area) i n)) 0 x in
          let t = published_it d (length area) i n z in
          let a = t.served in
          let w : slot_of (with_slot d i u) i ≡ u = slot_same d i u (omega (arith, a.below, a.counts.most, h.slots)) in
          let past : History count (with_slot d i u) _ = rw t.desk at (histories.History.publishes (length area) i n h.past z) in
          rw t.desk (record {
            buf = h.buf;
            ls = h.ls;
            log = _;
            reach = h.reach;
            past = past;
            slots = length-set d.slots i (record { used = u }) ∙ h.slots;
            long = h.long;
            most = h.most;
            inside = λ j g. inside (record { below = a.below; room = a.room; least = a.counts.least; most = a.counts.most }) j (eqb j i) refl g;
            right = λ c j m g. right t.filling w c j m (eqb j i) refl g;
            ready = λ j m g b. ready w j m (eqb j i) refl g b;
            now = λ e. now t.filling (h.now e);
          })
      by false x = rw (publish_kept d (length area) i n (eqb-false (answer_number (publish_answer d (length area) i n)) 0 x)) h

  holds_release : (c i n : ℕ) → Holds f setting count k s (desk_after d (release_answer d (length area) c i n)) area bytes
  holds_release c i n = by (eqb (answer_number (release_answer d (length area) c i n)) 0) refl
    where
      u : Use
      u = let_go c (slot_of d i)

      -- nobody has a hold that it had not
      mine : (b m : ℕ) (t : Bool) → eqb b c ≡ t → held_by b m (let_go c (slot_of d i)) ≡ true → held_by b m (slot_of d i) ≡ true
      mine b m true x g = absurd (false≢true (sym (let_gone c m (slot_of d i)) ∙ (rw (eqb-true b c x) at g)))
      mine b m false x g = sym (others_hold b c m (slot_of d i) (eqb-false b c x)) ∙ g

      right : slot_of (with_slot d i u) i ≡ u → (b j m : ℕ) (t : Bool) → eqb j i ≡ t → held_by b m (slot_of (with_slot d i u) j) ≡ true → line_no m h.ls ≡ some (bits_of (slot_at j area))
      right w b j m true x g = let y = eqb-true j i x in rw y (h.right b i m (mine b m (eqb b c) refl (rw (y, w) at g)))
      right w b j m false x g = h.right b j m (rw (slot_other d i j u (eqb-false j i x)) at g)

      unfilled : (x : Use) (m : ℕ) → let_go c x ≡ Filling m → x ≡ Filling m
      unfilled Free m e = e
      unfilled (Filling y) m e = e
      unfilled (Held y p q) m e = absurd (held_or_filling y m (p && not (eqb c 1)) (q && not (eqb c 2)) e)

      ready : slot_of (with_slot d i u) i ≡ u → (j m : ℕ) (t : Bool) → eqb j i ≡ t → slot_of (with_slot d i u) j ≡ Filling m → m ≤ k → line_no m h.ls ≡ some (bits_of (slot_at j area))
      ready w j m true x g b = let y = eqb-true j i x in rw y (h.ready i m (unfilled (slot_of d i) m (sym w ∙ (rw y at g))) b)
      ready w j m false x g b = h.ready j m (sym (slot_other d i j u (eqb-false j i x)) ∙ g) b

      inside : Inside d area i → (j : ℕ) (t : Bool) → eqb j i ≡ t → is_free (slot_of (with_slot d i u) j) ≡ false → Inside (with_slot d i u) area j
      inside a j true x g = rw (eqb-true j i x) (record { below = a.below; room = a.room; least = a.least; most = a.most })
      inside a j false x g =
          let b = h.inside j (rw (slot_other d i j u (eqb-false j i x)) at g) in
          record { below = b.below; room = b.room; least = b.least; most = b.most }

      now : held_by c n (slot_of d i) ≡ true → InLine k d area h.buf → InLine k (with_slot d i u) area h.buf
      now e w = record { slot = w.slot; used = slot_other d i w.slot u (λ z. other z) ∙ w.used; same = w.same }
        where
          other : w.slot ≡ i → ⊥
          other z = false≢true (rw (ap (slot_of d) (sym z) ∙ w.used) at e)

      by : (t : Bool) → eqb (answer_number (release_answer d (length area) c i n)) 0 ≡ t → Holds f setting count k s (desk_after d (release_answer d (length area) c i n)) area bytes
      by true x =
          let z = eqb-true (answer_number (release_answer d (length area) c i n)) 0 x in
          let t = released_it d (length area) c i n z in
          let a = t.served in
          let w : slot_of (with_slot d i u) i ≡ u = slot_same d i u (omega (arith, a.below, a.counts.most, h.slots)) in
          let past : History count (with_slot d i u) _ = rw t.desk at (histories.History.releases (length area) c i n h.past z) in
          rw t.desk (record {
            buf = h.buf;
            ls = h.ls;
            log = _;
            reach = h.reach;
            past = past;
            slots = length-set d.slots i (record { used = u }) ∙ h.slots;
            long = h.long;
            most = h.most;
            inside = λ j g. inside (record { below = a.below; room = a.room; least = a.counts.least; most = a.counts.most }) j (eqb j i) refl g;
            right = λ b j m g. right w b j m (eqb j i) refl g;
            ready = λ j m g b. ready w j m (eqb j i) refl g b;
            now = λ e. now t.held (h.now e);
          })
      by false x = rw (release_kept d (length area) c i n (eqb-false (answer_number (release_answer d (length area) c i n)) 0 x)) h

  -- a call of `read` with the slot of the next line lent
  module _ (i : ℕ) (used : slot_of d i ≡ Filling (suc k)) (p : List ℕ) (t : ℕ) (s' : State) where
    here : Inside d area i
    here = h.inside i (rw used refl)

    size : length (slot_at i area) ≡ line_bytes
    size = slot_length i d.count area here.below here.room

    size' : length (read_left f setting s p (slot_at i area)) ≡ line_bytes
    size' = read_length f setting s p (slot_at i area) ∙ size

    fits : i * line_bytes + line_bytes ≤ length area
    fits = omega (arith, here.below, here.room)

    put : slot_at i (area_after f setting s p i area) ≡ read_left f setting s p (slot_at i area)
    put = put_same i (read_left f setting s p (slot_at i area)) area (omega (arith, fits)) size'

    only : (j : ℕ) → slot_of d j ≡ Filling (suc k) → j ≡ i
    only j e = unique d (always_possible h.past) j i (suc k) (h.inside j (rw e refl)).below here.below e used

    same : s.in_line ≡ true → slot_at i area ≡ h.buf
    same e = let w = h.now e in sym (w.same ∙ ap (λ (j : ℕ). slot_at j area) (only w.slot w.used))

    other : (j : ℕ) → (j ≡ i → ⊥) → slot_at j (area_after f setting s p i area) ≡ slot_at j area
    other j e = put_other i j (read_left f setting s p (slot_at i area)) area e fits size'

    inside : (j : ℕ) → is_free (slot_of d j) ≡ false → Inside d (area_after f setting s p i area) j
    inside j e =
        let a = h.inside j e in
        record { below = a.below; room = omega (arith, a.room, put_length i (read_left f setting s p (slot_at i area)) area fits size'); least = a.least; most = a.most }

    right : Right d (area_after f setting s p i area) h.ls
    right c j m e = go (eqb j i) refl e
      where
        go : (b : Bool) → eqb j i ≡ b → held_by c m (slot_of d j) ≡ true → line_no m h.ls ≡ some (bits_of (slot_at j (area_after f setting s p i area)))
        go true x g = absurd (false≢true (rw (eqb-true j i x, used) at g))
        go false x g = rw (other j (eqb-false j i x)) (h.right c j m g)

    ready : Ready k d (area_after f setting s p i area) h.ls
    ready j m e l = rw (other j not_here) (h.ready j m e l)
      where
        not_here : j ≡ i → ⊥
        not_here z = let y = filling_same m (suc k) (slot_of d i) (ap (slot_of d) (sym z) ∙ e) used in omega arith

    holds_read : read_answer f setting s p (slot_at i area) ≡ Ok (More t s') → Holds f setting count k s' d (area_after f setting s p i area) (bytes ++ take t p)
    holds_read e = record {
      buf = read_left f setting s p (slot_at i area);
      ls = h.ls;
      log = h.log;
      reach = reached_on h.reach (slot_at i area) (omega (arith, size)) same p t s' e;
      past = h.past;
      slots = h.slots;
      long = h.long;
      most = h.most;
      inside = inside;
      right = right;
      ready = ready;
      now = λ x. record { slot = i; used = used; same = sym put };
    }

    holds_get : read_answer f setting s p (slot_at i area) ≡ Ok (Line t s') → Holds f setting count (suc k) s' d (area_after f setting s p i area) (bytes ++ take t p)
    unfolding line_in
    holds_get e = record {
      buf = read_left f setting s p (slot_at i area);
      ls = h.ls ++ (l ∷ []);
      log = h.log;
      reach = reached_got h.reach (slot_at i area) (omega (arith, size)) same p t s' e;
      past = h.past;
      slots = h.slots;
      long = omega (arith, length-append h.ls (l ∷ []), h.long);
      most = was_given d (always_possible h.past) i (suc k) here.below used;
      inside = inside;
      right = λ c j m g. no_append m h.ls (l ∷ []) _ (right c j m g);
      ready = λ j m g b. full j m g b (leb m k) refl;
      now = λ x. absurd (true≢false (sym x ∙ line_between f setting s p (slot_at i area) t s' e));
    }
      where
        l : List ℕ
        l = line_in (read_left f setting s p (slot_at i area))

        is : line_in (read_left f setting s p (slot_at i area)) ≡ bits_of (slot_at i (area_after f setting s p i area))
        is = ap bits_of (take_all line_bytes (read_left f setting s p (slot_at i area)) (omega (arith, size')) ∙ sym put)

        full : (j m : ℕ) → slot_of d j ≡ Filling m → m ≤ suc k → (b : Bool) → leb m k ≡ b
            → line_no m (h.ls ++ (l ∷ [])) ≡ some (bits_of (slot_at j (area_after f setting s p i area)))
        full j m g b true x = no_append m h.ls (l ∷ []) _ (ready j m g (leb-true m k x))
        full j m g b false x =
            let y = leb-false m k x in
            let z : m ≡ suc k = omega arith in
            let o = only j (rw z at g) in
            rw (o, z, sym h.long) (no_last h.ls l ∙ ap some is)

holds : {f setting count : ℕ} {first : List ℕ} {k : ℕ} {s : State} {d : Desk} {area bytes : List ℕ} → Fed f setting count first k s d area bytes → Holds f setting count k s d area bytes
holds {f} {setting} {count} {first} run.Fed.start = holds_start f setting count first
holds {f} {setting} {count} (run.Fed.takes {k = k} {s = s} {d = d} {area = area} {fed = bytes} r) = holds_take f setting count k s d area bytes (holds r)
holds {f} {setting} {count} (run.Fed.publishes {k = k} {s = s} {d = d} {area = area} {fed = bytes} i n r l) = holds_publish f setting count k s d area bytes (holds r) i n l
holds {f} {setting} {count} (run.Fed.releases {k = k} {s = s} {d = d} {area = area} {fed = bytes} c i n r) = holds_release f setting count k s d area bytes (holds r) c i n
holds {f} {setting} {count} (run.Fed.reads {k = k} {s = s} {d = d} {area = area} {fed = bytes} {t = t} {s' = s'} i p r u e) =
    holds_read f setting count k s d area bytes (holds r) i u p t s' e
holds {f} {setting} {count} (run.Fed.gets {k = k} {s = s} {d = d} {area = area} {fed = bytes} {t = t} {s' = s'} i p r u e) =
    holds_get f setting count k s d area bytes (holds r) i u p t s' e

-- the lines of the bits read stand first among those of all the bytes, whatever follows
still_line : (setting : ℕ) (s : State) (bytes later : List ℕ) (n : ℕ) (l : List ℕ) → line_no n (lines setting (bits_read s bytes)) ≡ some l → line_no n (recorded setting (bytes ++ later)) ≡ some l
unfolding bits_read recorded
still_line setting s bytes later n l e =
    let m : ℕ = 8 * length bytes - s.unread_count in
    let xs : List ℕ = take m (bits_of bytes) in
    let ys : List ℕ = drop m (bits_of bytes) ++ bits_of later in
    let z : bits_of (bytes ++ later) ≡ xs ++ ys =
    bits_append bytes later
    ∙ ap (λ (x : List ℕ). x ++ bits_of later) (sym (take-append-drop m (bits_of bytes)))
    ∙ append_assoc xs (drop m (bits_of bytes)) (bits_of later) in
    rw z (no_take_is n (length (lines setting xs)) (lines setting (xs ++ ys)) l (rw (lines_first setting xs ys) e))

module _ (f : ℕ) (format : Format) (ok : format_of f ≡ Ok format) (setting : ℕ) (small : setting ≤ largest_setting) (count : ℕ) (first : List ℕ)
    {k : ℕ} {s : State} {d : Desk} {area fed : List ℕ} (r : Fed f setting count first k s d area fed) where
  -- WHAT A HOLDER READS: at every moment, a slot that consumer c holds under serial n has, bit for bit, the n-th line that the
  -- plain definition finds in the bytes fed, whatever bytes will follow them
  pub held_line : (c i n : ℕ) → held_by c n (slot_of d i) ≡ true → (later : List ℕ) → line_no n (recorded setting (fed ++ later)) ≡ some (bits_of (slot_at i area))
  held_line c i n e later =
      let w = holds r in
      still_line setting s fed later n (bits_of (slot_at i area)) (rw (sym (reached_lines f format ok setting small w.reach)) (w.right c i n e))

  -- a busy slot is one of the desk, and the area has room for them all
  pub run_inside : (i : ℕ) → is_free (slot_of d i) ≡ false → Inside d area i
  run_inside i e = (holds r).inside i e

  pub run_slots : length d.slots ≡ 8
  run_slots = (holds r).slots

  -- the lines complete are those of the bits read
  pub lines_complete : k ≡ length (lines setting (bits_read s fed))
  lines_complete = let w = holds r in sym w.long ∙ ap length (reached_lines f format ok setting small w.reach)

  -- the desk is one after some history, so all that is said of histories holds of it
  pub run_history : List Done
  run_history = (holds r).log

  pub run_past : History count d run_history
  unfolding run_history
  run_past = (holds r).past
