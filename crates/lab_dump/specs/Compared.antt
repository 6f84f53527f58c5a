-- What a dump comes to beside a certificate.
use Rattle.std.specs.Prelude.{◌≡◌, ℕ, List, length}
use Rattle.page_layout.specs.declared.geometry.Geometry.{Geometry}
use Rattle.page_layout.specs.Raw.{raw_image}
use Rattle.certificate.specs.Claim.{Claim}
use Rattle.lab_dump.specs.Scan.{image_bytes}
use Rattle.lab_dump.specs.declared.pass.PassFault.{PassFault}
use Rattle.lab_dump.specs.declared.pass.PassFault.TheVariants as scan
use Rattle.lab_dump.specs.Doubts.{doubts_of, legible_of}
use Rattle.lab_dump.specs.Said.{said_of}
use Rattle.lab_dump.specs.declared.compare.Compared.{Compared}
use Rattle.lab_dump.specs.declared.compare.CompareFault.{CompareFault}
use Rattle.lab_dump.specs.declared.compare.CompareFault.TheVariants as fault
use Rattle.lab_dump.specs.Lost.{lost_sectors_of}

-- The bytes are as many as an image has. Of the image that they are, the sectors that have lost a page are told, what pages say, and its doubts.
pub record IsComparedTo (g : Geometry) (c : Claim) (told : Compared) (bytes : List ℕ) : Type 0 where
  pub whole : length bytes ≡ image_bytes g
  pub lost_are : told.lost.items ≡ lost_sectors_of c g.sectors (raw_image g bytes)
  pub said_is : told.left.said.items ≡ said_of g (raw_image g bytes)
  pub legible_is : told.left.legible ≡ legible_of g (raw_image g bytes)
  pub doubts_is : told.left.doubts ≡ doubts_of g (raw_image g bytes)

-- the fault for that of a pass: what takes the pages never stops
abbrev pub compare_fault_of : PassFault → CompareFault
compare_fault_of scan.WrongLength = fault.WrongLength
compare_fault_of scan.Source = fault.Source
compare_fault_of scan.Stopped = fault.Source

-- `WrongLength` says that the bytes aren't as many as an image has
abbrev pub IsUncompared : Geometry → CompareFault → List ℕ → Type 0
IsUncompared g fault.GeometryDiffers bytes = Unit {0}
IsUncompared g fault.WrongLength bytes = ¬ (length bytes ≡ image_bytes g)
IsUncompared g fault.Source bytes = Unit {0}
