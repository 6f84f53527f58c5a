-- Why a die with enough good blocks always has a block worth collecting: its keys are too few to fill the others.
use Rattle.std.specs.Prelude.{◌≡◌, ℕ, ◌+◌, ◌<◌, ◌≤◌, Bool, true, List, count_by, Option}
use Rattle.std.specs.List.{range_with_len}
use Rattle.page_layout.specs.declared.record.Record.{Record}
use Rattle.page_layout.specs.declared.geometry.Geometry.{Geometry}
use Rattle.page_layout.specs.Geometry.{vmax_at, flush_blocks_at, need_at}
use Rattle.page_layout.specs.Live.{live}

-- how many of the die's blocks pass a test
abbrev pub blocks_that : Geometry → (ℕ → Bool) → ℕ
blocks_that g test = count_by test (range_with_len 0 g.blocks)

-- one of the blocks that pass has at most so many newest pages
pub record HasSmall (g : Geometry) (most : ℕ) (marks : List (Option Record)) (closed : ℕ → Bool) : Type 0 where
  pub block : ℕ
  pub within : block < g.blocks
  pub is_closed : closed block ≡ true
  pub is_small : live g marks block ≤ most

-- With at least `need_at` good blocks, at most eight of them free beside those of a flush, and at most two open, a closed one has at most
-- vmax_at newest pages.
abbrev pub SmallBlockLaw : Type 0
SmallBlockLaw = (g : Geometry) (share : ℕ) (marks : List (Option Record)) (closed : ℕ → Bool) (free open_blocks : ℕ)
    → need_at g share ≤ free + open_blocks + blocks_that g closed → free ≤ 8 + flush_blocks_at g share → open_blocks ≤ 2
    → HasSmall g (vmax_at g share) marks closed
