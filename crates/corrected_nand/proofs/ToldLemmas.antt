-- The record of a driver for a chip gains what was answered, and tells what a fault ended.
use Rattle.std.proofs.Common.{[], ◌∷◌, Some, Result, Ok, Err, ap, inr}
use Rattle.std.specs.Prelude.{◌≡◌, Bool, true, IfOk, OnErr}
use Rattle.page_layout.specs.Flash.{Operation}
use Rattle.page_layout.specs.Recording.{Recording, Records, EndsIn}
use Rattle.onfi_cycles.specs.declared.nand.BusFault.{BusFault}
use Rattle.onfi_cycles.specs.declared.nand.Outcome.{Outcome}
use Rattle.corrected_nand.specs.Told.{gained_by}

pub gains : (keeps : Bool) (answer : Result Outcome BusFault) (op : Outcome → Operation) (asked : Operation) (told told' : Recording) → told' ≡ gained_by answer op asked told
    → IfOk answer (λ outcome. keeps ≡ true → Records (Some told) (op outcome ∷ []) (Some told'))
gains keeps (Ok outcome) op asked told told' is = λ k. ap Some is
gains keeps (Err fault) op asked told told' is = tt

pub at_hand_in : (keeps : Bool) (answer : Result Outcome BusFault) (op : Outcome → Operation) (asked : Operation) (told told' : Recording) → told' ≡ gained_by answer op asked told
    → OnErr answer (keeps ≡ true → EndsIn asked (Some told) (Some told'))
at_hand_in keeps (Ok outcome) op asked told told' is = tt
at_hand_in keeps (Err fault) op asked told told' is = λ k. inr (inr (ap Some is))
