-- WHAT A DISK IS MADE FOR, by the shape that C hands over.
use Rattle.std.specs.Prelude.{◌≡◌, ◌≢◌, ◌⊎◌, ◌≤◌, ◌<◌, ℕ, Option, Some, None}
use Rattle.page_layout.specs.declared.geometry.Geometry.{Geometry}
use Rattle.page_layout.specs.declared.geometry.GeometryFault.{GeometryFault}
use Rattle.page_layout.specs.Limits.{IsWithinLimits}
use Rattle.page_layout.specs.Faults.{HasNumbers, IsFirstFault}
use Rattle.page_code.specs.declared.chip.ChipGeometry.{ChipGeometry}
use Rattle.page_code.specs.Chip.{IsChipOf}
use Rattle.page_code.specs.Layout.{outer_bytes}
use Rattle.ftl_disk.specs.declared.shape.Shape.{Shape}
use Rattle.ftl_disk.specs.declared.plan.Plan.{Plan}
use Rattle.ftl_disk.specs.Numbers.{of_geometry}

-- the chip that it is for, where its pages have codes
abbrev pub IsChipFor : Geometry → (codes : ℕ) → Option ChipGeometry → Type 0
IsChipFor g codes None = codes ≡ 0
IsChipFor g codes (Some chip) = (codes ≡ 1) × IsChipOf g chip.raw

-- whether there are codes is said by 0 or 1, and the spare area of a chip has room for 256 bytes
abbrev pub HasNoRoom : Geometry → (codes : ℕ) → (number : ℕ) → Type 0
HasNoRoom g codes number = (number ≡ 38) × (((codes ≢ 0) × (codes ≢ 1)) ⊎ ((codes ≡ 1) × (256 < outer_bytes g)))

-- its numbers, which keep their limits
pub record IsPlanOf (s : Shape) (p : Plan) : Type 0 where
  pub numbers : HasNumbers s.data_bytes s.spare_bytes s.pages s.blocks s.sectors p.geometry
  pub cache : p.cache ≡ s.cache
  pub chip : IsChipFor p.geometry s.codes p.chip

-- the first limit of a die that they break
pub record BreaksLimit (s : Shape) (number : ℕ) : Type 0 where
  pub fault : GeometryFault
  pub first : IsFirstFault s.data_bytes s.spare_bytes s.pages s.blocks s.sectors fault
  pub number_is : number ≡ of_geometry fault

-- they break none of a die, and that of the cache
pub record BreaksCache (s : Shape) (number : ℕ) : Type 0 where
  pub within : IsWithinLimits s.data_bytes s.spare_bytes s.pages s.blocks s.sectors
  pub cache : (1 ≤ s.cache) × (s.cache ≤ 65536) → ⊥
  pub number_is : number ≡ 37

-- nor that of the cache, and that of the codes
pub record BreaksCodes (s : Shape) (number : ℕ) : Type 0 where
  pub geometry : Geometry
  pub numbers : HasNumbers s.data_bytes s.spare_bytes s.pages s.blocks s.sectors geometry
  pub cache : (1 ≤ s.cache) × (s.cache ≤ 65536)
  pub codes : HasNoRoom geometry s.codes number

abbrev pub IsUnplanned : Shape → ℕ → Type 0
IsUnplanned s number = BreaksLimit s number ⊎ (BreaksCache s number ⊎ BreaksCodes s number)
