-- SERIAL NUMBERS run from 1 on and never repeat. Assumes nothing.
use mathlib.Core.List.{List, ◌∷◌}
use mathlib.Core.Path.{◌≡◌, refl, ap}
use Prim.Native.Nat.{ℕ, suc, ◌≤◌}
use native.Mathlib.Omega.{arith}
use Rattle.desk_record.specs.declared.Desk.{Desk}
use Rattle.desk_record.specs.Desks.{last_serial}
use Rattle.histories.specs.Histories.{Done, History, given, down_from}
use Rattle.histories.proofs.Steps.{always}

-- those given after any calls from an empty desk are, the newest first, the last given, .., 2, 1
pub serials_run : {count : ℕ} {d : Desk} {log : List Done} → History count d log → given log ≡ down_from d.last
unfolding given down_from
serials_run {count} h =
    always count (λ (d : Desk) (log : List Done). given log ≡ down_from d.last) refl
    (λ d log area l e s f. ap (λ (x : List ℕ). suc d.last ∷ x) e) (λ d log area i n l e s f. e) (λ d log area c i n l e s f. e) h

pub serials_end : {count : ℕ} {d : Desk} {log : List Done} → History count d log → d.last ≤ last_serial
serials_end {count} h =
    always count (λ (d : Desk) (log : List Done). d.last ≤ last_serial) (omega arith)
    (λ d log area l e s f. s.serial) (λ d log area i n l e s f. e) (λ d log area c i n l e s f. e) h
