-- What a bus's record gains at a cycle, and what is said of one call of any bus.
use Rattle.std.specs.Prelude.{◌≡◌, ℕ, Bool, true, ◌==◌, List, [], ◌∷◌, Option, Result, OnOk}
use Rattle.page_layout.specs.Flash.{Program, Erase, page_at, block_at}
use Rattle.page_layout.specs.Recording.{Recording, RecordsOrEnds}
use Rattle.onfi_cycles.specs.declared.nand.BusFault.{BusFault}
use Rattle.onfi_cycles.specs.Cycles.{DieState, Cycle, CycleStep, Due, Moves, Resets, Programs, Erases, Refuses, due_of}

-- What a cycle that was taken makes of the record: a program or an erase is noted, with the outcome that the status says and what it left,
-- unless the record ends; each other cycle leaves the record as it was.
abbrev pub Notes : Due → Option Recording → DieState → Option Recording → Type 0
Notes (Programs row page) told new told' = RecordsOrEnds told (Program row page (new.status == 0xE0) (page_at new.flash row) ∷ []) told'
Notes (Erases block) told new told' = RecordsOrEnds told (Erase block (new.status == 0xE0) (block_at new.flash block) ∷ []) told'
Notes (Moves phase) told new told' = told' ≡ told
Notes Resets told new told' = told' ≡ told
Notes (Refuses fault) told new told' = told' ≡ told

-- the same by the cycle
abbrev pub IsNoted : DieState → Cycle → Option Recording → DieState → Option Recording → Type 0
IsNoted old cycle told new told' = Notes (due_of old.flash.geometry old.phase cycle) told new told'

-- ONE CALL OF A BUS: its own word of it, that it is honest or not as before, and where it is honest a step of the protocol, noted
pub record Calls {B : Type 0} (die : B → DieState) (honest : B → Bool) (recorded : B → Option Recording) (called : B → Cycle → Result (Unit {0}) BusFault → List ℕ → B → Type 0)
    (old : B) (cycle : Cycle) (answer : Result (Unit {0}) BusFault) (out : List ℕ) (new : B) : Type 0 where
  pub said : called old cycle answer out new
  pub as_honest : honest new ≡ honest old
  pub step : honest old ≡ true → CycleStep (die old) cycle answer (die new)
  pub noted : OnOk answer (honest old ≡ true → IsNoted (die old) cycle (recorded old) (die new) (recorded new))
