-- What a certificate says of an image.
use Rattle.std.specs.Prelude.{ℕ, List, Option, map, count_by, nat_lt, Bool}
use Rattle.certificate.specs.declared.block_state.BlockState.{BlockState}
use Rattle.page_layout.specs.declared.geometry.Geometry.{Geometry}
use Rattle.page_layout.specs.Word.{row_of_word}

-- the five numbers of a geometry
pub record Sizes : Type 0 where
  pub data_bytes : ℕ
  pub spare_bytes : ℕ
  pub pages : ℕ
  pub blocks : ℕ
  pub sectors : ℕ

abbrev pub sizes_of : Geometry → Sizes
sizes_of g = record { data_bytes = g.data_bytes; spare_bytes = g.spare_bytes; pages = g.pages; blocks = g.blocks; sectors = g.sectors }

pub record Claim : Type 0 where
  pub sizes : Sizes
  pub capacity : ℕ
  pub next : ℕ
  -- the state of each block
  pub blocks : List BlockState
  -- the row of each translation page, then of each table page
  pub directory : List (Option ℕ)
  -- the row of each sector
  pub sectors : List (Option ℕ)

-- the claim of these parts, whose rows are words
abbrev pub claim_from : Sizes → ℕ → ℕ → List BlockState → List ℕ → List ℕ → Claim
claim_from s capacity next blocks directory sectors = record { sizes = s; capacity = capacity; next = next; blocks = blocks; directory = map row_of_word directory; sectors = map row_of_word sectors }

-- the block is of no bad class
abbrev pub is_good_state : BlockState → Bool
is_good_state s = nat_lt s.class 4

-- how many blocks are of no bad class
abbrev pub good_blocks : Claim → ℕ
good_blocks c = count_by is_good_state c.blocks
