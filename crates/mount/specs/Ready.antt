-- What the definitions of the checker find in a formatted die.
use Rattle.std.specs.Prelude.{◌≡◌, ◌↔◌, ℕ, ◌<◌, ◌≤◌, true, []}
use Rattle.page_layout.specs.declared.geometry.Geometry.{Geometry}
use Rattle.page_layout.specs.Page.{Image}
use Rattle.page_layout.specs.Count.{blocks_that}
use Rattle.page_layout.specs.Array.{zeros, sector_of}
use Rattle.page_layout.specs.Flash.{Flash}
use Rattle.bad_blocks.specs.Marks.{is_marked}
use Rattle.image_check.specs.Blocks.{class, is_good_block}
use Rattle.image_check.specs.Stale.{stale_sectors}
use Rattle.image_check.specs.Mountable.{IsMountable}
use Rattle.mount.specs.Formatted.{IsFormatted}

-- An image that was made of an older one, whose marks count: class 4 stands for just the marked blocks, so many blocks
-- are good, no sector is stale, some certificate agrees at every capacity, and every sector is zeros.
pub record IsFreshlyFormatted (g : Geometry) (old new : Image) (good : ℕ) : Type 0 where
  pub factory : (b : ℕ) → b < g.blocks → (class g new b ≡ 4) ↔ (is_marked g old b ≡ true)
  pub good_is : blocks_that g (is_good_block g new) ≡ good
  pub fresh : stale_sectors g new ≡ []
  pub mountable : (capacity : ℕ) → 1 ≤ capacity → capacity ≤ 65536 → IsMountable g capacity new
  pub zero : (n : ℕ) → n < g.sectors → sector_of g new n ≡ zeros g

-- the image that a format leaves
abbrev pub FormattedLaw : Type 0
FormattedLaw = (g : Geometry) (needed : ℕ) (old new : Flash) (good : ℕ) → IsFormatted g needed old new good → IsFreshlyFormatted g old.image new.image good
