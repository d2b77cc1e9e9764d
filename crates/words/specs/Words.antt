-- The words of a command line: what a word is, and what is asked for after one word more. Assumes nothing.
use Rattle.std.specs.Prelude.{Bool, true, false, cond, ◌&&◌, List, [], ◌∷◌, ℕ, ◌-◌, eqb, ltb, length, get_or, Option, None, Some}
use Rattle.std.specs.Option.{is_none, option_or}
use Rattle.bits.specs.Bits.{same}
use Rattle.words.specs.declared.Word.{Word}
use Rattle.words.specs.declared.Word.TheVariants.{Format, Help, Setting, Number, Name, Unknown}
use Rattle.words.specs.declared.Place.{Place}
use Rattle.words.specs.declared.Place.TheVariants.{Unasked, Awaited, At}
use Rattle.words.specs.declared.Takes.{Takes}
use Rattle.words.specs.declared.Asked.{Asked}

-- it opens with a minus sign, and goes on
abbrev pub is_option : List ℕ → Bool
is_option text = ltb 1 (length text) && eqb (get_or text 0 0) 45

-- the words that there are: `-2`, `-3`, `--help`, `-s`
abbrev pub known : List ℕ → Option Word
known text =
    cond (same text (45 ∷ 50 ∷ [])) (Some (Format 2))
    (cond (same text (45 ∷ 51 ∷ [])) (Some (Format 3))
    (cond (same text (45 ∷ 45 ∷ 104 ∷ 101 ∷ 108 ∷ 112 ∷ [])) (Some Help)
    (cond (same text (45 ∷ 115 ∷ [])) (Some Setting) None)))

-- the number that `-s` awaits, whatever stands there; `-2`, `-3`, `--help`, `-s`, any other with a minus sign in front, or a name
abbrev pub word_of : Bool → List ℕ → Word
word_of awaited text =
    cond awaited Number
    (cond (same text (45 ∷ 50 ∷ [])) (Format 2)
    (cond (same text (45 ∷ 51 ∷ [])) (Format 3)
    (cond (same text (45 ∷ 45 ∷ 104 ∷ 101 ∷ 108 ∷ 112 ∷ [])) Help
    (cond (same text (45 ∷ 115 ∷ [])) Setting
    (cond (is_option text) Unknown Name)))))

-- one digit, 0 to 6; none where it is something else
abbrev pub setting_of : List ℕ → Option ℕ
setting_of text =
    cond (eqb (length text) 1 && (ltb 47 (get_or text 0 0) && ltb (get_or text 0 0) 55)) (Some (get_or text 0 0 - 48)) None

abbrev pub nothing_asked : Asked
nothing_asked =
    record { format = None; help = false; setting = Unasked; first = None; second = None; third = None; fourth = None; wrong = None }

-- the word at a place is not served; the first such word is kept
abbrev pub unserved : Asked → ℕ → Asked
unserved a place = record a { wrong = option_or a.wrong (Some place) }

-- a name at a place, of at most so many: the first, the second, the third, the fourth, or one too many
abbrev pub named : Asked → ℕ → ℕ → Asked
named a place most =
    cond (is_none a.first && ltb 0 most) (record a { first = Some place })
    (cond (is_none a.second && ltb 1 most) (record a { second = Some place })
    (cond (is_none a.third && ltb 2 most) (record a { third = Some place })
    (cond (is_none a.fourth && ltb 3 most) (record a { fourth = Some place })
    (unserved a place))))

-- no other format than n is asked for
abbrev pub is_free : ℕ → Option ℕ → Bool
is_free n None = true
is_free n (Some m) = eqb m n

-- what is kept of a format that is asked for: nothing of format 1, which is meant where none is
abbrev pub kept : ℕ → Option ℕ
kept n = cond (eqb n 1) None (Some n)

-- a format at a place: it is asked for where none was, or the same one; another one is not served
abbrev pub formatted : Asked → ℕ → ℕ → Asked
formatted a place n = cond (is_free n a.format) (record a { format = kept n }) (unserved a place)

-- `-s` has stood at no place
abbrev pub is_unasked : Place → Bool
is_unasked Unasked = true
is_unasked (Awaited p) = false
is_unasked (At p) = false

-- the next word is the number of a `-s`
abbrev pub awaits_number : Place → Bool
awaits_number Unasked = false
awaits_number (Awaited p) = true
awaits_number (At p) = false

-- `-s` at a place, which awaits its number: served once, by a program that takes it
abbrev pub awaiting : Asked → ℕ → Bool → Asked
awaiting a place taken = cond (taken && is_unasked a.setting) (record a { setting = Awaited place }) (unserved a place)

-- WITH ONE WORD MORE: where it stands matters to names, to the number behind `-s` and to words that are not served
abbrev pub heard : Asked → ℕ → Word → Takes → Asked
heard a place (Format n) t = formatted a place n
heard a place Help t = record a { help = true }
heard a place Setting t = awaiting a place t.setting
heard a place Number t = record a { setting = At place }
heard a place Name t = named a place t.names
heard a place Unknown t = unserved a place

-- BEHIND THE LAST WORD: a `-s` that still awaits its number is not served
abbrev pub closed_by : Asked → Place → Asked
closed_by a Unasked = a
closed_by a (Awaited place) = unserved a place
closed_by a (At place) = a

abbrev pub closed : Asked → Asked
closed a = closed_by a a.setting
