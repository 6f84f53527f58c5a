-- WHAT FOLLOWS FROM A SHAPE.
use Rattle.std.specs.Prelude.{◌≡◌, ◌⊎◌, ℕ, ◌+◌, ◌*◌, max, min, Option, Some, None}
use Rattle.page_layout.specs.declared.geometry.Geometry.{Geometry}
use Rattle.page_layout.specs.Geometry.{key_count, need, row_count}
use Rattle.page_code.specs.declared.chip.ChipGeometry.{ChipGeometry}
use Rattle.ftl_disk.specs.Plans.{IsPlanOf, IsUnplanned}
use Rattle.ftl_disk.specs.declared.plan.Plan.{Plan}
use Rattle.ftl_disk.specs.declared.shape.Shape.{Shape}
use Rattle.ftl_disk.specs.declared.measures.Sizes.{Sizes}

-- the bytes of a certificate
abbrev pub certificate_length : Geometry → ℕ
certificate_length g = 40 + 9 * g.blocks + 4 * key_count g

-- the bytes that a look at all pages takes beside its certificate: a sequence and a row for each page, the newest row and sequence of each key, what
-- each block shows, and the table pages, which have four bytes for each block
abbrev pub scan_bytes : Geometry → ℕ
scan_bytes g = 16 * row_count g + 12 * key_count g + 44 * g.blocks + g.data_bytes

-- those that a device takes, with so many entries cached: for an entry a node and its places in a table, and for each page of a block a moved row
abbrev pub device_bytes : Geometry → ℕ → ℕ
device_bytes g entries = 72 * entries + 8 * g.pages + 48 * g.blocks + 9 * key_count g + 2 * (g.data_bytes + g.spare_bytes)

-- what a chip with codes takes beside: two counts for each block, of wrong bits and of lost pages
abbrev pub error_bytes : Geometry → Option ChipGeometry → ℕ
error_bytes g None = 0
error_bytes g (Some chip) = 16 * g.blocks

-- all of it at once: a certificate and its stale sectors, a page, and a look or a device, whichever takes more. A stop leaves at most as many
-- sectors stale as the cache has entries and a block has pages, and a start caches them all
abbrev pub memory_bytes : Geometry → ℕ → Option ChipGeometry → ℕ
memory_bytes g cache chip = 1024 + 12 * g.blocks + 9 * key_count g + (g.data_bytes + g.spare_bytes) + max (scan_bytes g) (device_bytes g (cache + g.pages)) + error_bytes g chip

-- each entry is a piece of its own
abbrev pub memory_blocks : Geometry → ℕ → ℕ
memory_blocks g cache = 34 + cache + g.pages

-- what stands beside the data of a page on the chip
abbrev pub chip_spare : Geometry → Option ChipGeometry → ℕ
chip_spare g None = g.spare_bytes
chip_spare g (Some chip) = chip.raw.spare_bytes

-- as numbers of 32 bits
pub record Measures (p : Plan) (s : Sizes) : Type 0 where
  pub sector_bytes : s.sector_bytes ≡ p.geometry.data_bytes
  pub sectors : s.sectors ≡ p.geometry.sectors
  pub needs : s.need ≡ need p.geometry
  pub certificate : s.certificate_bytes ≡ min (certificate_length p.geometry) 4294967295
  pub bytes : s.memory_bytes ≡ min (memory_bytes p.geometry p.cache p.chip) 4294967295
  pub blocks : s.memory_blocks ≡ memory_blocks p.geometry p.cache
  pub spare : s.chip_spare_bytes ≡ chip_spare p.geometry p.chip

-- WHAT C IS TOLD of a shape that keeps its limits; of another one its number, and the sizes stay
pub record IsMeasured (shape : Shape) (s : Sizes) : Type 0 where
  pub plan : Plan
  pub its : IsPlanOf shape plan
  pub measures : Measures plan s

abbrev pub TellsSizes : Shape → ℕ → (before after : Sizes) → Type 0
TellsSizes shape number before after = ((number ≡ 0) × IsMeasured shape after) ⊎ (IsUnplanned shape number × (after ≡ before))
