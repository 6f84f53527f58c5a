-- What a bus that breaks down answers.
use Rattle.std.specs.Prelude.{◌≡◌, ℕ, true, List, Result}
use Rattle.onfi_cycles.specs.declared.nand.BusFault.{BusFault}
use Rattle.onfi_cycles.specs.declared.nand.BusFault.TheVariants.{Device}
use Rattle.onfi_cycles.specs.Cycles.{Cycle}
use Rattle.onfi_cycles.specs.Spelling.{refused}
use Rattle.nand_die.specs.DieValue.{DieValue, IsCall}
use Rattle.nand_die.specs.Buses.{FuseState, is_blown, Fused}

-- A BLOWN FUSE answers the device's fault, and the die stays as it is
abbrev pub BlownLaw : Type 0
BlownLaw = (old new : FuseState DieValue) (cycle : Cycle) (answer : Result (Unit {0}) BusFault) (out : List ℕ) → is_blown old ≡ true
    → Fused IsCall old cycle answer out new → (answer ≡ refused Device) × (new.bus ≡ old.bus)
