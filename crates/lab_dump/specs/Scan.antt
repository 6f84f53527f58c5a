-- A dump that a reader gives, page by page.
use Rattle.std.specs.Prelude.{◌≡◌, List, ℕ, Option, Some, length, map}
use Rattle.page_layout.specs.declared.geometry.Geometry.{Geometry}
use Rattle.image_check.specs.declared.page_reader.Cut.{Cut}
use Rattle.image_check.specs.declared.page_reader.Cut.TheVariants.{Ended, Failed}
use Rattle.lab_dump.specs.declared.pass.PassFault.{PassFault}
use Rattle.lab_dump.specs.declared.pass.PassFault.TheVariants as fault
pub use Rattle.image_check.specs.PageReader.{image_bytes, HasMore, ReadsFewer, IsReadTo, IsTaken}

-- the readers tell their bytes, which are those of these files
abbrev pub Tell : List (Option (List ℕ)) → List (List ℕ) → Type 0
Tell known files = known ≡ map Some files

-- the fault for a cut
abbrev pub pass_fault_of : Cut → PassFault
pass_fault_of Ended = fault.WrongLength
pass_fault_of Failed = fault.Source

-- Why a dump of these bytes was not taken: they are not as many as an image has, a read failed, or the taker stopped.
abbrev pub IsUntakenByPass : Geometry → PassFault → List ℕ → Type 0
IsUntakenByPass g fault.WrongLength bytes = ¬ (length bytes ≡ image_bytes g)
IsUntakenByPass g fault.Source bytes = Unit {0}
IsUntakenByPass g fault.Stopped bytes = Unit {0}
