-- What was wrong with the reads of a die, in all and block by block. Each count stays at the greatest u64 once there.
use Rattle.std.specs.Prelude.{◌≡◌, ℕ, ◌+◌, ◌-◌, ◌^◌, ◌<◌, ◌≤◌, min, List, length, replicate, slice_index, slice_set}
use Rattle.page_layout.specs.declared.geometry.Geometry.{Geometry}

-- so many more, or the greatest u64 where there are none so great
abbrev pub raised : ℕ → ℕ → ℕ
raised count more = min (count + more) (2 ^ 64 - 1)

-- the bits that were turned back and the reads that gave the page that is lost, and the same of each block
pub record Errors : Type 0 where
  pub turned : ℕ
  pub lost : ℕ
  pub turned_in : List ℕ
  pub lost_in : List ℕ

-- before the first read of a die of so many blocks
abbrev pub no_errors : ℕ → Errors
no_errors blocks = record { turned = 0; lost = 0; turned_in = replicate blocks 0; lost_in = replicate blocks 0 }

-- there is a count for each block of such a die
pub record AreFor (g : Geometry) (e : Errors) : Type 0 where
  pub turned_whole : length e.turned_in ≡ g.blocks
  pub lost_whole : length e.lost_in ≡ g.blocks

-- so many bits more were turned back in a block
abbrev pub with_more_turned : Errors → ℕ → ℕ → Errors
with_more_turned e block bits = record {
  turned = raised e.turned bits;
  lost = e.lost;
  turned_in = slice_set e.turned_in block (raised (slice_index e.turned_in block) bits);
  lost_in = e.lost_in;
}

-- one page more of a block was lost
abbrev pub with_lost : Errors → ℕ → Errors
with_lost e block = record {
  turned = e.turned;
  lost = raised e.lost 1;
  turned_in = e.turned_in;
  lost_in = slice_set e.lost_in block (raised (slice_index e.lost_in block) 1);
}

-- the first of the blocks that have the most, which is some
pub record IsMost (counts : List ℕ) (block : ℕ) : Type 0 where
  pub in_range : block < length counts
  pub some : 0 < slice_index counts block
  pub most : (k : ℕ) → slice_index counts k ≤ slice_index counts block
  pub first : (k : ℕ) → k < block → slice_index counts k < slice_index counts block

-- no block has any
abbrev pub AreNone : List ℕ → Type 0
AreNone counts = (k : ℕ) → slice_index counts k ≡ 0
