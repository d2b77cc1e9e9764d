-- WORDS COME IN ANY ORDER: `-2`, `-3`, `--help` and `-s` with its number may stand before or behind any other word, and the same is
-- asked for. Names keep their order among themselves, and two different formats are not served. Assumes nothing.
use mathlib.Core.Bool.{Bool, true, false, cond, ◌&&◌}
use mathlib.Core.Logic.{◌⊎◌, inl, inr}
use mathlib.Core.List.{List}
use mathlib.Core.Path.{◌≡◌, refl, sym, ap, ap₂, ◌∙◌}
use Prim.Native.Nat.{ℕ}
use borrow.Author.Tests.{clash, eq-eqb, ne_eqb}
use lib.Dec.{eqb, ltb}
use Rattle.std.specs.Prelude.{Option, None, Some}
use Rattle.std.specs.Option.{is_none}
use Rattle.words.specs.declared.Word.{Word}
use Rattle.words.specs.declared.Word.TheVariants.{Format, Help, Setting, Number, Name, Unknown}
use Rattle.words.specs.declared.Place.{Place}
use Rattle.words.specs.declared.Place.TheVariants.{Unasked, Awaited, At}
use Rattle.words.specs.declared.Takes.{Takes}
use Rattle.words.specs.declared.Asked.{Asked}
use Rattle.words.specs.Words.{word_of, is_free, is_unasked, kept, unserved, named, formatted, heard}

-- what such a word does: something to the options, and nothing to the names
record Touch : Type 0 where
  format : Option ℕ → Option ℕ
  help : Bool → Bool
  setting : Place → Place

abbrev touched : Touch → Asked → Asked
touched f a = record a { format = f.format a.format; help = f.help a.help; setting = f.setting a.setting }

either : (f : Touch) (b : Bool) (x y : Asked) → touched f (cond b x y) ≡ cond b (touched f x) (touched f y)
either f true x y = refl
either f false x y = refl

late_any : (f : Touch) (a : Asked) (p : ℕ) (b : Bool) (x : Asked) → touched f (cond b x (unserved a p)) ≡ cond b (touched f x) (unserved (touched f a) p)
late_any f a p b x = either f b x (unserved a p)

named_any : (f : Touch) (a : Asked) (p m : ℕ) → touched f (named a p m) ≡ named (touched f a) p m
named_any f a p m =
    either f (is_none a.first && ltb 0 m) _ _ ∙
    ap (cond (is_none a.first && ltb 0 m) _)
    (either f (is_none a.second && ltb 1 m) _ _ ∙
    ap (cond (is_none a.second && ltb 1 m) _)
    (either f (is_none a.third && ltb 2 m) _ _ ∙
    ap (cond (is_none a.third && ltb 2 m) _) (late_any f a p (is_none a.fourth && ltb 3 m) _)))

-- what leaves the format alone
abbrev keeping : (Bool → Bool) → (Place → Place) → Touch
keeping help setting = record { format = λ x. x; help = help; setting = setting }

formatted_any : (h : Bool → Bool) (s : Place → Place) (a : Asked) (p n : ℕ) → touched (keeping h s) (formatted a p n) ≡ formatted (touched (keeping h s) a) p n
formatted_any h s a p n = late_any (keeping h s) a p (is_free n a.format) _

-- ---- `--help`

abbrev help : Touch
help = keeping (λ b. true) (λ x. x)

-- THE THEOREM of `--help`
pub help_anywhere : (w : Word) (a : Asked) (p q : ℕ) (t : Takes) → heard (heard a q w t) p Help t ≡ heard (heard a p Help t) q w t
help_anywhere (Format n) a p q t = formatted_any (λ b. true) (λ x. x) a q n
help_anywhere Help a p q t = refl
help_anywhere Setting a p q t = late_any help a q (t.setting && is_unasked a.setting) _
help_anywhere Number a p q t = refl
help_anywhere Name a p q t = named_any help a q t.names
help_anywhere Unknown a p q t = refl

-- ---- `-2` and `-3`

abbrev of_format : Option ℕ → Touch
of_format n = record { format = λ x. n; help = λ b. b; setting = λ x. x }

-- no other format than n was asked for
abbrev pub Free : ℕ → Asked → Type 0
Free n a = (a.format ≡ None) ⊎ (a.format ≡ Some n)

-- no other format than n is asked for by a word
abbrev pub Beside : ℕ → Word → Type 0
Beside n (Format m) = m ≡ n
Beside n Help = Unit {0}
Beside n Setting = Unit {0}
Beside n Number = Unit {0}
Beside n Name = Unit {0}
Beside n Unknown = Unit {0}

free_passes : (n : ℕ) (a : Asked) → Free n a → is_free n a.format ≡ true
free_passes n a (inl e) = ap (is_free n) e
free_passes n a (inr e) = ap (is_free n) e ∙ eq-eqb n n refl

served : (n : ℕ) (a : Asked) → Free n a → (p : ℕ) → formatted a p n ≡ touched (of_format (kept n)) a
served n a free p = ap (λ b. cond b (touched (of_format (kept n)) a) (unserved a p)) (free_passes n a free)

-- what is kept of format n leaves n free
kept_free : (n : ℕ) (a : Asked) → a.format ≡ kept n → Free n a
kept_free n a e = go (eqb n 1) e
  where
    go : (b : Bool) → a.format ≡ cond b None (Some n) → Free n a
    go true h = inl h
    go false h = inr h

-- another word leaves it so: a format put in that stands there already changes nothing
still : (n : ℕ) (a b : Asked) → b.format ≡ a.format → Free n a → Free n b
still n a b e (inl h) = inl (e ∙ h)
still n a b e (inr h) = inr (e ∙ h)

still_free : (n : ℕ) (w : Word) → Beside n w → (a : Asked) → Free n a → (q : ℕ) (t : Takes) → Free n (heard a q w t)
still_free n (Format m) e a free q t =
    kept_free n (formatted a q m) (ap (λ (k : ℕ). (formatted a q k).format) e ∙ ap (λ (x : Asked). x.format) (served n a free q))
still_free n Help e a free q t = still n a (heard a q Help t) refl free
still_free n Setting e a free q t =
    still n a (heard a q Setting t) (sym (ap (λ (x : Asked). x.format) (late_any (of_format a.format) a q (t.setting && is_unasked a.setting) (record a { setting = Awaited q })))) free
still_free n Number e a free q t = still n a (heard a q Number t) refl free
still_free n Name e a free q t = still n a (heard a q Name t) (sym (ap (λ (x : Asked). x.format) (named_any (of_format a.format) a q t.names))) free
still_free n Unknown e a free q t = still n a (heard a q Unknown t) refl free

-- and asks for the same once the format stands there
beside_any : (n : ℕ) (w : Word) → Beside n w → (a : Asked) → Free n a → (q : ℕ) (t : Takes) → touched (of_format (kept n)) (heard a q w t) ≡ heard (touched (of_format (kept n)) a) q w t
beside_any n (Format m) e a free q t =
    ap (λ (k : ℕ). touched (of_format (kept n)) (formatted a q k)) e ∙ ap (touched (of_format (kept n))) (served n a free q)
    ∙ sym (served n (touched (of_format (kept n)) a) (kept_free n (touched (of_format (kept n)) a) refl) q)
    ∙ ap (formatted (touched (of_format (kept n)) a) q) (sym e)
beside_any n Help e a free q t = refl
beside_any n Setting e a free q t = late_any (of_format (kept n)) a q (t.setting && is_unasked a.setting) _
beside_any n Number e a free q t = refl
beside_any n Name e a free q t = named_any (of_format (kept n)) a q t.names
beside_any n Unknown e a free q t = refl

-- THE THEOREM of `-2` and `-3`, where no other format is asked for
pub format_anywhere : (n : ℕ) (w : Word) → Beside n w → (a : Asked) → Free n a → (p q : ℕ) (t : Takes) → heard (heard a q w t) p (Format n) t ≡ heard (heard a p (Format n) t) q w t
format_anywhere n w e a free p q t =
    served n (heard a q w t) (still_free n w e a free q t) p ∙ beside_any n w e a free q t ∙ sym (ap (λ (x : Asked). heard x q w t) (served n a free p))

-- TWO DIFFERENT FORMATS: the second is the word that is not served, whichever it is. Format 1 as the first asks for nothing.
pub second_refused : (n m : ℕ) → (n ≡ 1 → ⊥) → (n ≡ m → ⊥) → (a : Asked) → Free n a → a.wrong ≡ None → (p q : ℕ) (t : Takes) → (heard (heard a p (Format n) t) q (Format m) t).wrong ≡ Some q
second_refused n m other differ a free none p q t =
    ap (λ (x : Asked). (formatted x q m).wrong) (served n a free p) ∙ rw (ne_eqb n 1 other, ne_eqb n m differ, none) refl

-- AND OF THE WORDS AS THEY ARE SPELLED, of which none asks for format 1, with nothing to know of n
abbrev asks_for_one : Word → Bool
asks_for_one (Format n) = eqb n 1
asks_for_one Help = false
asks_for_one Setting = false
asks_for_one Number = false
asks_for_one Name = false
asks_for_one Unknown = false

none_asks : (number two three asked late option : Bool)
    → asks_for_one (cond number Number (cond two (Format 2) (cond three (Format 3) (cond asked Help (cond late Setting (cond option Unknown Name)))))) ≡ false
none_asks true two three asked late option = refl
none_asks false true three asked late option = refl
none_asks false false true asked late option = refl
none_asks false false false true late option = refl
none_asks false false false false true option = refl
none_asks false false false false false true = refl
none_asks false false false false false false = refl

pub second_spelled : (awaited : Bool) (text : List ℕ) (n m : ℕ) → word_of awaited text ≡ Format n → (n ≡ m → ⊥) → (a : Asked) → Free n a → a.wrong ≡ None → (p q : ℕ) (t : Takes) → (heard (heard a p (Format n) t) q (Format m) t).wrong ≡ Some q
second_spelled awaited text n m spelled = second_refused n m other
  where
    other : n ≡ 1 → ⊥
    other e = clash (sym (none_asks awaited _ _ _ _ _) ∙ ap asks_for_one spelled ∙ ap (λ (k : ℕ). eqb k 1) e)

-- ---- `-s` with its number

-- what they do together, where they are served
abbrev numbered : ℕ → Touch
numbered r = keeping (λ b. b) (λ x. At r)

both : (t : Takes) → t.setting ≡ true → (a : Asked) → a.setting ≡ Unasked → (p r : ℕ) → heard (heard a p Setting t) r Number t ≡ touched (numbered r) a
both t taken a none p r =
    ap (λ b. touched (numbered r) (cond b (record a { setting = Awaited p }) (unserved a p)))
    (ap₂ (λ b s. b && is_unasked s) taken none)

-- no other word has a setting
abbrev pub Other : Word → Type 0
Other (Format n) = Unit {0}
Other Help = Unit {0}
Other Setting = ⊥
Other Number = ⊥
Other Name = Unit {0}
Other Unknown = Unit {0}

-- a setting put in; the one that stands there already changes nothing
abbrev settled : Place → Touch
settled n = keeping (λ b. b) (λ x. n)

other_kept : (w : Word) → Other w → (a : Asked) (q : ℕ) (t : Takes) → (heard a q w t).setting ≡ a.setting
other_kept (Format n) k a q t = sym (ap (λ (x : Asked). x.setting) (formatted_any (λ b. b) (λ x. a.setting) a q n))
other_kept Help k a q t = refl
other_kept Setting k a q t = absurd k
other_kept Number k a q t = absurd k
other_kept Name k a q t = sym (ap (λ (x : Asked). x.setting) (named_any (settled a.setting) a q t.names))
other_kept Unknown k a q t = refl

other_any : (w : Word) → Other w → (a : Asked) (r q : ℕ) (t : Takes) → touched (numbered r) (heard a q w t) ≡ heard (touched (numbered r) a) q w t
other_any (Format n) k a r q t = formatted_any (λ b. b) (λ x. At r) a q n
other_any Help k a r q t = refl
other_any Setting k a r q t = absurd k
other_any Number k a r q t = absurd k
other_any Name k a r q t = named_any (numbered r) a q t.names
other_any Unknown k a r q t = refl

-- THE THEOREM of `-s` with its number, the first, of a program that takes it
pub setting_anywhere : (w : Word) → Other w → (t : Takes) → t.setting ≡ true → (a : Asked) → a.setting ≡ Unasked → (p r q : ℕ) → heard (heard (heard a q w t) p Setting t) r Number t ≡ heard (heard (heard a p Setting t) r Number t) q w t
setting_anywhere w k t taken a none p r q =
    both t taken (heard a q w t) (other_kept w k a q t ∙ none) p r ∙
    (other_any w k a r q t ∙ sym (ap (λ x. heard x q w t) (both t taken a none p r)))
