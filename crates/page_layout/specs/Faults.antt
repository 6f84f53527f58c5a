-- What a geometry and what each fault of five numbers says: the limit that it names is broken, and none before it.
use Rattle.std.specs.Prelude.{◌≡◌, ℕ, List, codes}
use Rattle.page_layout.specs.declared.geometry.GeometryFault.{GeometryFault}
use Rattle.page_layout.specs.declared.geometry.GeometryFault.TheVariants.{DataSize, SpareSize, PagesPerBlock, Blocks, Sectors}
use Rattle.page_layout.specs.declared.geometry.Geometry.{Geometry}
use Rattle.page_layout.specs.Limits.{IsDataSize, IsSpareSize, IsPageCount, IsBlockCount, IsSectorCount}

-- this is the fault of the first limit, in this order, that the five numbers break
abbrev pub IsFirstFault : ℕ → ℕ → ℕ → ℕ → ℕ → GeometryFault → Type 0
IsFirstFault d s p b l DataSize = ¬ IsDataSize d
IsFirstFault d s p b l SpareSize = IsDataSize d × (¬ IsSpareSize s)
IsFirstFault d s p b l PagesPerBlock = IsDataSize d × IsSpareSize s × (¬ IsPageCount p)
IsFirstFault d s p b l Blocks = IsDataSize d × IsSpareSize s × IsPageCount p × (¬ IsBlockCount d p b)
IsFirstFault d s p b l Sectors = IsDataSize d × IsSpareSize s × IsPageCount p × IsBlockCount d p b × (¬ IsSectorCount l)

-- the geometry is that of these five numbers
pub record HasNumbers (d s p b l : ℕ) (g : Geometry) : Type 0 where
  pub data_bytes_is : g.data_bytes ≡ d
  pub spare_bytes_is : g.spare_bytes ≡ s
  pub pages_is : g.pages ≡ p
  pub blocks_is : g.blocks ≡ b
  pub sectors_is : g.sectors ≡ l

-- the number and the name of a limit that is broken
abbrev pub broken_limit_words : GeometryFault → List ℕ
broken_limit_words DataSize = codes "1 DataSize"
broken_limit_words SpareSize = codes "2 SpareSize"
broken_limit_words PagesPerBlock = codes "3 PagesPerBlock"
broken_limit_words Blocks = codes "4 Blocks"
broken_limit_words Sectors = codes "5 Sectors"
