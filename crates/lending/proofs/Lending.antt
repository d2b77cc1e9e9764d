-- A REGISTER OF ONE'S OWN, LENT TO `step`: the rule by which a walk of a function's MIR passes the call `step(&mut own)`. The local is lent for a lifetime of the call, and once that is over it holds the register that `step` left.
-- All that the rule knows of `step` is its contract. Assumes nothing.
use mathlib.Core.Path.{◌≡◌, refl}
use Prim.Native.Nat.{ℕ}
use mathlib.Core.List.{List, [], ◌∷◌}
use seplogic.Ra.Ura.{Ura}
use lib.Dec.{T as Holds}
use mir.Syntax.{Place, Opd as Operand, Body, seq, call, named, w16}
use mir.Val.{Val, WT, has_ty, vint, vptr, vstruct, vnil, vcons}
use base.Fraction.{full_share}
use base.Logic.{SProp, ent, guard, sep, id⊢}
use base.Fml.{GName, ftrue, fat, fsep, flft, flent}
use prog.Memory.{Memory}
use prog.Routine.{Routine}
use prog.Wp.{Env, Calls, Loops}
use types.Logic.{Logic, sem}
use contract.Monad.{Fun, fact}
use types.Kit.{Item, Post, Seq, lands, runs, ‵, raw, some, given, later, ◌⊛◌, ◌$◌, ◌∵◌, !, qed, move, drop, use1, use2, use3, split, join, pick, learn, fsplit, fjoin, fpick, fpack, frame, await, check, done}
use types.Run.{Opds}
use types.SemTy.{Body as Held}
use types.Tokens.{lft_new, lft_end}
use sound.WpLaws.{FmC}
use denote.Laws.{Is, shows}
use denote.Lend.{lends_ref, ref_back}
use denote.Memory.{mem, cell_at, part_of}
use denote.Ref.{MutBor, MutRef}
use denote.Steps.{only, owned, peeks, facts, heard, nothing}
use denote.Struct.Steps.{spelt}
use denote.Struct.Laws as LL
use denote.Enum.Laws as EL
use denote.Enum.Declared.{Declared}
use denote.RattleType.{RattleType}
use denote.Builtin.{u8}
use denote.Struct.Field.{u8-field}
use denote.Struct.Laws.{u8-laws, u8-copy}
use denote.Param.{layout}
use denote.Param.Laws.{of_field, field_told, enum_told}
use denote.Param.Shared.{copy_shared}
use denote.Triple.Spec.{triple_of}
use denote.Triple.Statement.{Contract, Triple}
use denote.Triple.Call.{calls_at}
use denote.Triple.Clauses.{ensured, lasts}
use Rattle.std.specs.Prelude.{Result}
use Rattle.refusals.specs.declared.Refusal.{Refusal}
use Rattle.scramble.specs.Step.{StepOk, register_left}
use Rattle.scramble.specs.declared.Register.{Register}
use Rattle.scramble.specs.contracts.Register as T
use Rattle.scramble.proofs.Register.TheLaws as T'
use Rattle.std.specs.contracts.result.Result as B
use Rattle.std.proofs.result.Result.TheLaws as B'
use Rattle.refusals.specs.contracts.Refusal as E
use Rattle.refusals.proofs.Refusal.TheLaws as E'
use Rattle.scramble.specs.contracts.step as step
use Rattle.scramble.proofs.step.Symbol.{name as #scramble·step}

-- the answer's type, a bit or a refusal, with its laws
abbrev pub Answer : Type 0
Answer = Result ℕ Refusal

abbrev pub answer_type : Declared
answer_type = B.the_type u8 E.the_row

abbrev pub answer_row : RattleType
answer_row = B.the_row u8 E.the_row

abbrev pub answer_laws : EL.Laws answer_type
answer_laws = B'.the_laws u8 E.the_row (of_field u8-field u8-laws refl (copy_shared u8-field u8-copy)) E'.the_row_laws (field_told u8-field u8-laws) (enum_told E.the_type E'.the_laws)

-- the machine values of a register and of an answer, and what is known of them
abbrev pub mach : Register → Val
mach g = vstruct (vcons (vint w16 g.bits) vnil)

abbrev pub mach_bit : Answer → Val
mach_bit a = only (EL.vals answer_type answer_laws a)

pub bit_is : (a : Answer) (v : Val) → Is answer_row a (v ∷ []) → Is answer_row a (mach_bit a ∷ [])
bit_is a v is = EL.owes answer_type answer_laws a (EL.owed answer_type answer_laws a (v ∷ []) is)

-- what `step` says of the register h, its answer and the register that it leaves
abbrev pub Says : Register → Answer → Register → Type 0
Says h a g = StepOk h.bits a × (g.bits ≡ register_left h.bits)

module _ {M : Type 1} {𝓤 : Ura M} (𝓛 : Logic 𝓤) where
  pub typed : (g : Register) → Is T.the_row g (mach g ∷ []) → Holds (has_ty T'.mir (mach g)) × WT (mach g)
  typed g is = ((LL.lawful T.the_type T'.the_laws 𝓛).typed g _ is).0

  pub bit_typed : (a : Answer) (v : Val) → Is answer_row a (v ∷ []) → Holds (has_ty (layout answer_row) v) × WT v
  bit_typed a v is = ((EL.lawful answer_type answer_laws 𝓛 tt).typed a _ is).0

  -- the local's cell is a register in memory, and back
  goes_out : (h : Register) (l : ℕ) → Is T.the_row h (mach h ∷ []) → ent 𝓤 (sem 𝓛 (fat full_share T'.mir l 0 (mach h))) (sem 𝓛 ((mem T.the_row).own_at h l 0))
  unfolding part_of
  goes_out h l is =
      qed 𝓛 (‵ (fat full_share T'.mir l 0 (mach h)) ∷ []) ∵ use1 𝓛 (‵ (cell_at full_share (T.the_row).mir (mach h ∷ []) l 0)) (𝓛.laws.at_raw full_share T'.mir l 0 (mach h)) $
      owned ! T.the_row (Is T.the_row) (LL.makes T.the_type T'.the_plain 𝓛) h _ is $ move ! (1 ∷ 0 ∷ []) $ fjoin ! $
      fpack ! (List Val) (λ us. fsep (cell_at full_share (T.the_row).mir us l 0) ((T.the_row).own_val h us)) (mach h ∷ []) $ done !

  comes_home : (h : Register) (l : ℕ) → ent 𝓤 (sem 𝓛 ((mem T.the_row).own_at h l 0)) (guard 𝓤 (Is T.the_row h (mach h ∷ [])) (sem 𝓛 (fat full_share T'.mir l 0 (mach h))))
  unfolding part_of
  comes_home h l =
      qed 𝓛 (‵ ((mem T.the_row).own_at h l 0) ∷ []) ∵ fpick ! (λ vs. fsplit ! $
      spelt ! T.the_row (Is T.the_row) (shows 𝓛 T.the_row) (LL.vals T.the_type T'.the_laws) (LL.tells T.the_type T'.the_laws) full_share h vs l 0 $
      use1 𝓛 (‵ (fat full_share T'.mir l 0 (mach h))) (𝓛.laws.raw_at full_share T'.mir l 0 (mach h)) $
      move ! (1 ∷ []) $ peeks ! T.the_row (Is T.the_row) (shows 𝓛 T.the_row) h (mach h ∷ []) (λ is. drop ! $ check ! is $ done !))

-- the contract of `step`, and what its triple binds outside: the local at the place l, lent for the lifetime ν under the name δ
module _ {M : Type 1} {𝓤 : Ura M} (𝓛 : Logic 𝓤) (at_mem : Memory → SProp 𝓤) (run : Routine → Fun 𝓤) where
  open 𝓛 use {A}

  abbrev pub Steps : Contract 𝓤
  Steps = triple_of 𝓛 step.signature (step.spec 𝓛 at_mem run)

  abbrev pub lent : Register → ℕ → GName → MutBor Register
  lent h l δ = record { ref_ptr = (l, 0); ghost_name = δ; now = h }

  abbrev pub to_step : Register → ℕ → ℕ → GName → Steps.Ghost
  to_step h l ν δ = (((ν ∷ [], tt), (full_share, tt), tt, (lent h l δ, tt), (vptr l 0 ∷ [], tt)), tt)

  goes_in : (h : Register) (l ν : ℕ) (δ : GName) → ent 𝓤 (sep 𝓤 (A.lft (ν ∷ []) full_share) (sem 𝓛 ((MutRef (named 0) (ν ∷ []) T.the_row).own_val (lent h l δ) (vptr l 0 ∷ [])))) (Steps.pre (to_step h l ν δ))
  goes_in h l ν δ =
      qed 𝓛 (‵ (flft (ν ∷ []) full_share) ∷ ‵ ((MutRef (named 0) (ν ∷ []) T.the_row).own_val (lent h l δ) (vptr l 0 ∷ [])) ∷ []) ∵
      nothing ! $ move ! (1 ∷ 0 ∷ []) $ join ! $ nothing ! $ move ! (2 ∷ 0 ∷ []) $ fjoin ! $ move ! (1 ∷ 0 ∷ []) $ join ! $ frame ! $ done !

-- THE RULE. The local's cell stands at the head of the context; while the operand is read, what the call asks and the lender's part stand there
module _ {M : Type 1} {𝓤 : Ura M} {𝓛 : Logic 𝓤} {K : Type 0} {Γ : List (Item 𝓤)} {E : Env 𝓤 𝓛.H} {C : Calls 𝓤 𝓛.H} {Λ : Loops 𝓤 𝓛.H} {q : Post 𝓤 𝓛.H} {xs : List Operand} {d : Place} {rest : Body} where
  open 𝓛 use {H}

  pub lends_step : K → (at_mem : Memory → SProp 𝓤) (run : Routine → Fun 𝓤) → FmC 𝓤 H 𝓛.laws C → Triple 𝓤 (C #scramble·step) (Steps 𝓛 at_mem run) → (h : Register) (l : ℕ) → Is T.the_row h (mach h ∷ [])
      → ((ν : ℕ) (δ : GName) → Opds K 𝓛 (raw ((Steps 𝓛 at_mem run).pre (to_step 𝓛 at_mem run h l ν δ)) ∷ ‵ (flent (ν ∷ []) (Held (mem T.the_row) l 0 δ)) ∷ Γ) E xs (vptr l 0 ∷ []))
      → ((v : Val) (a : Answer) (g : Register) → Says h a g → Is answer_row a (v ∷ []) → Is T.the_row g (mach g ∷ []) → Seq K 𝓛 (‵ (fat full_share T'.mir l 0 (mach g)) ∷ Γ) (lands C Λ E d v rest q))
      → Seq K 𝓛 (‵ (fat full_share T'.mir l 0 (mach h)) ∷ Γ) (runs C Λ E (seq (call #scramble·step xs d) rest) q)
  lends_step t at_mem run fm known h l has os k =
      use1 𝓛 (‵ ((mem T.the_row).own_at h l 0)) (goes_out 𝓛 h l has) $ lft_new t tt (λ ν. move t (1 ∷ 0 ∷ []) $
      use1 𝓛 (later (some (λ (δ : GName). ‵ ((MutRef (named 0) (ν ∷ []) T.the_row).own_val (lent 𝓛 at_mem run h l δ) (vptr l 0 ∷ [])) ⊛ ‵ (flent (ν ∷ []) (Held (mem T.the_row) l 0 δ))))) (lends_ref 𝓛 T.the_row (named 0) (ν ∷ []) h l 0) $ await t tt $ pick t (λ δ. split t $
      move t (2 ∷ 0 ∷ []) $ use2 𝓛 (raw ((Steps 𝓛 at_mem run).pre (to_step 𝓛 at_mem run h l ν δ))) (goes_in 𝓛 at_mem run h l ν δ) $
      calls_at t fm (Steps 𝓛 at_mem run) known (to_step 𝓛 at_mem run h l ν δ) (os ν δ) (λ v.
      use1 𝓛 (later (some (λ (a : Answer). ((‵ (flft (ν ∷ []) full_share) ⊛ ‵ ftrue) ⊛ ‵ (answer_row.own_val a (v ∷ []))) ⊛ raw (ensured 𝓛 step.ended (step.clauses 𝓛 at_mem run) (ν ∷ [], tt) (lent 𝓛 at_mem run h l δ, tt) tt a)))) (id⊢ 𝓤 _) $ await t tt $ pick t (λ a.
      split t $ move t (1 ∷ []) $ use1 𝓛 (some (λ (ws : Register × Unit {0}). ‵ (lasts step.ended (ν ∷ [], tt) (lent 𝓛 at_mem run h l δ, tt) ws) ⊛ raw (fact 𝓤 (Says h a ws.0)))) (id⊢ 𝓤 _) $ pick t (λ ws.
      split t $ move t (1 ∷ []) $ heard t (Says h a ws.0) (λ e. fsplit t $ fsplit t $
      -- [the last value; its borrow; …; the token and what the answer owns; the lender's part; …]: the lifetime is ended, and the local comes back
      move t (3 ∷ []) $ split t $ move t (1 ∷ []) $ facts t answer_row (Is answer_row) (shows 𝓛 answer_row) a (v ∷ []) (λ is. split t $ lft_end t tt $ move t (0 ∷ 5 ∷ 2 ∷ []) $
      use3 𝓛 (later (‵ ((mem T.the_row).own_at ws.0 l 0))) (ref_back 𝓛 T.the_row (ν ∷ []) δ ws.0 l 0) $ await t tt $
      use1 𝓛 (given (Is T.the_row ws.0 (mach ws.0 ∷ [])) (‵ (fat full_share T'.mir l 0 (mach ws.0)))) (comes_home 𝓛 ws.0 l) $ learn t (λ left.
      move t (1 ∷ 2 ∷ 3 ∷ []) $ drop t $ drop t $ drop t $ k v a ws.0 e is left))))))))
