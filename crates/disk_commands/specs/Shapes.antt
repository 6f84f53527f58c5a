-- The shape of a disk of a size.
use Rattle.std.specs.Prelude.{◌≡◌, ◌⊎◌, ℕ, ◌+◌, ◌-◌, ◌<◌, ◌≤◌, ◌==◌, min, max, nat_le, if◌then◌else◌}
use Rattle.std.specs.Int.{div_ceil}
use Rattle.page_layout.specs.declared.geometry.Geometry.{Geometry}
use Rattle.page_layout.specs.Faults.{HasNumbers}
use Rattle.page_layout.specs.Geometry.{IsShare, need_at, waiting_at}
use Rattle.disk_commands.specs.declared.shapes.Code.TheVariants.{Plain}
use Rattle.disk_commands.specs.declared.shapes.DiskShape.{DiskShape}
use Rattle.disk_commands.specs.declared.shapes.SizeFault.{SizeFault}
use Rattle.disk_commands.specs.declared.shapes.SizeFault.TheVariants.{Zero, TooLarge}

-- ---- the cache, and what waits

-- an entry for each sector, but from 64 to 65280; where there are more sectors than any cache has entries fewer, and fewer by all that may wait
abbrev pub cache_of : Geometry → (share : ℕ) → ℕ
cache_of g share = if nat_le g.sectors 65536 then max (min g.sectors 65280) 64 else max (57344 - waiting_at g share) 64

-- A SHARE THAT A DISK MAY HAVE. It mounts once it was stopped: at share 0 as ever; a disk of at most 65536 sectors with as many entries as it has sectors;
-- else all that may be stale has room in the largest cache
abbrev pub IsShareFor : Geometry → (cache share : ℕ) → Type 0
IsShareFor g cache share = IsShare g share × ((share ≡ 0) ⊎ ((g.sectors ≤ 65536) ⊎ (cache + (waiting_at g share + g.pages) ≤ 65536)))

-- ---- the die

-- the pages of a block
abbrev pub IsPages : ℕ → Type 0
IsPages pages = (pages ≡ 64) ⊎ ((pages ≡ 128) ⊎ (pages ≡ 256))

-- a die with pages of 4096 and 128 bytes, so many a block, with so many blocks and sectors
abbrev pub IsDie : ℕ → ℕ → ℕ → Geometry → Type 0
IsDie pages blocks sectors g = HasNumbers 4096 128 pages blocks sectors g

-- of such a die the blocks are as many as a format at this share needs
abbrev pub HasBlocksForFormat : (pages share sectors blocks : ℕ) → Type 0
HasBlocksForFormat pages share sectors blocks = (g : Geometry) × IsDie pages blocks sectors g × (need_at g share ≤ blocks)

-- of fewer they are not
pub record AreFewestBlocks (pages share sectors blocks : ℕ) : Type 0 where
  pub formats : HasBlocksForFormat pages share sectors blocks
  pub least : (fewer : ℕ) → fewer < blocks → ¬ HasBlocksForFormat pages share sectors fewer

-- the spare blocks beside so many: a twentieth where no sector waits, else a fortieth, rounded up
abbrev pub spare_of : (share needed : ℕ) → ℕ
spare_of share needed = if share == 0 then div_ceil needed 20 else div_ceil needed 40

-- As many blocks as a format needs, and the spare ones.
pub record IsDieForSectors (pages share sectors : ℕ) (g : Geometry) : Type 0 where
  pub needed : ℕ
  pub least : AreFewestBlocks pages share sectors needed
  pub die : IsDie pages (needed + spare_of share needed) sectors g

-- of the fewest pages a block of which there is such a die
pub record IsSparedDie (share sectors : ℕ) (g : Geometry) : Type 0 where
  pub pages : IsPages g.pages
  pub die : IsDieForSectors g.pages share sectors g
  pub fewest : (fewer : ℕ) → IsPages fewer → fewer < g.pages → (h : Geometry) → ¬ IsDieForSectors fewer share sectors h

-- THE GREATEST DIE, where sectors may wait and a format needs no more
pub record IsGreatestDie (share sectors : ℕ) (g : Geometry) : Type 0 where
  pub waits : 0 < share
  pub die : IsDie 256 4096 sectors g
  pub formats : need_at g share ≤ 4096

-- it has no blocks over, so it is taken where no die has spare ones
abbrev pub HasNoSpared : (share sectors : ℕ) → Type 0
HasNoSpared share sectors = (pages : ℕ) → IsPages pages → (g : Geometry) → ¬ IsDieForSectors pages share sectors g

abbrev pub IsDieOfSectors : (share sectors : ℕ) → Geometry → Type 0
IsDieOfSectors share sectors g = IsSparedDie share sectors g ⊎ (HasNoSpared share sectors × IsGreatestDie share sectors g)

-- no die has room for so many sectors
abbrev pub HasNoDie : (share sectors : ℕ) → Type 0
HasNoDie share sectors = HasNoSpared share sectors × ((g : Geometry) → ¬ IsGreatestDie share sectors g)

-- ---- the share of a new disk

-- from share 15 on no die below this share has room for so many sectors
abbrev pub HasNoDieBelow : (sectors end : ℕ) → Type 0
HasNoDieBelow sectors end = (share : ℕ) → 15 ≤ share → share < end → HasNoDie share sectors

-- THE LEAST FROM 15 TO 64 AT WHICH A DIE HAS ROOM
pub record IsLeastShare (sectors share : ℕ) : Type 0 where
  pub least : 15 ≤ share
  pub most : share ≤ 64
  pub room : (g : Geometry) × IsDieOfSectors share sectors g
  pub lower : HasNoDieBelow sectors share

-- or 15, where at none of them one has
abbrev pub IsNewShare : (sectors share : ℕ) → Type 0
IsNewShare sectors share = IsLeastShare sectors share ⊎ (HasNoDieBelow sectors 65 × (share ≡ 15))

-- ---- the shape

-- Whole sectors for the bytes, on the die of so many; its cache; and no code.
pub record IsShapeFor (bytes share : ℕ) (s : DiskShape) : Type 0 where
  pub die : IsDieOfSectors share (div_ceil bytes 4096) s.geometry
  pub cache : s.cache ≡ cache_of s.geometry share
  pub share_is : s.share ≡ share
  pub code : s.code ≡ Plain

-- why there is no shape for so many bytes: they are none, or no die has room for their sectors
abbrev pub IsNoSize : (bytes share : ℕ) → SizeFault → Type 0
IsNoSize bytes share Zero = bytes ≡ 0
IsNoSize bytes share TooLarge = (1 ≤ bytes) × HasNoDie share (div_ceil bytes 4096)
