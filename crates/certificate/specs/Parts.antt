-- Which parts make a certificate.
use Rattle.std.specs.Prelude.{◌≡◌, ℕ, ◌≤◌, List, length, All}
use Rattle.page_layout.specs.declared.geometry.Geometry.{Geometry}
use Rattle.page_layout.specs.Word.{row_of_word}
use Rattle.certificate.specs.declared.block_state.BlockState.{BlockState}
use Rattle.certificate.specs.Claim.{sizes_of}
use Rattle.certificate.specs.Spelling.{FitsBlock, IsRowOf, rows_of, directory_rows}

-- the word is a row of the die, or FFFFFFFFh for none
abbrev pub IsRowWord : ℕ → ℕ → Type 0
IsRowWord rows w = IsRowOf rows (row_of_word w)

-- the capacity, the states of the blocks and the words of the rows are those of a certificate of a die of this geometry
pub record FitTogether (g : Geometry) (capacity : ℕ) (blocks : List BlockState) (directory sectors : List ℕ) : Type 0 where
  pub capacity_least : 1 ≤ capacity
  pub capacity_most : capacity ≤ 65536
  pub states : All FitsBlock blocks
  pub directory_words : All (IsRowWord (rows_of (sizes_of g))) directory
  pub sector_words : All (IsRowWord (rows_of (sizes_of g))) sectors
  pub blocks_length : length blocks ≡ g.blocks
  pub directory_length : length directory ≡ directory_rows (sizes_of g)
  pub sectors_length : length sectors ≡ g.sectors
