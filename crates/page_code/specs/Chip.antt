-- The geometry of a chip, beside that of its pages without their codes.
use Rattle.std.specs.Prelude.{◌≡◌}
use Rattle.page_layout.specs.declared.geometry.Geometry.{Geometry}
use Rattle.page_code.specs.Layout.{outer_bytes}

-- it is that of the same die, but for the spare areas, which have the codes too
pub record IsChipOf (g chip : Geometry) : Type 0 where
  pub data_is : chip.data_bytes ≡ g.data_bytes
  pub spare_is : chip.spare_bytes ≡ outer_bytes g
  pub pages_is : chip.pages ≡ g.pages
  pub blocks_is : chip.blocks ≡ g.blocks
  pub sectors_is : chip.sectors ≡ g.sectors
