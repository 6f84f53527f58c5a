-- What the record of a driver for a chip gains.
use Rattle.std.specs.Prelude.{Result, Ok, Err}
use Rattle.page_layout.specs.Flash.{Operation}
use Rattle.page_layout.specs.Recording.{Recording}
use Rattle.onfi_cycles.specs.declared.nand.BusFault.{BusFault}
use Rattle.onfi_cycles.specs.declared.nand.Outcome.{Outcome}
use Rattle.onfi_cycles.specs.Driver.{cut_in, gained}

-- the record after an operation that was answered so: it has gained the operation, by its outcome; or after a fault that was asked for is at hand in it
abbrev pub gained_by : Result Outcome BusFault → (Outcome → Operation) → (asked : Operation) → Recording → Recording
gained_by (Ok outcome) op asked told = gained (op outcome) told
gained_by (Err fault) op asked told = cut_in asked told
