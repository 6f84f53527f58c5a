-- Why no file was made of a dump.
use Rattle.std.specs.Prelude.{◌≡◌, ℕ, List, length}
use Rattle.page_layout.specs.declared.geometry.Geometry.{Geometry}
use Rattle.lab_dump.specs.Scan.{image_bytes}
use Rattle.lab_dump.specs.declared.pass.PassFault.{PassFault}
use Rattle.lab_dump.specs.declared.pass.PassFault.TheVariants as scan
use Rattle.lab_dump.specs.declared.make_fault.MakeFault.{MakeFault}
use Rattle.lab_dump.specs.declared.make_fault.MakeFault.TheVariants as fault

-- the fault for that of a pass
abbrev pub make_fault_of : PassFault → MakeFault
make_fault_of scan.WrongLength = fault.WrongLength
make_fault_of scan.Source = fault.Source
make_fault_of scan.Stopped = fault.Target

-- `WrongLength` says that the bytes aren't as many as an image has
abbrev pub IsUnmade : Geometry → MakeFault → List ℕ → Type 0
IsUnmade g fault.WrongLength bytes = ¬ (length bytes ≡ image_bytes g)
IsUnmade g fault.Source bytes = Unit {0}
IsUnmade g fault.Target bytes = Unit {0}
