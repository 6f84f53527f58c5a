-- The memory of a check.
use Rattle.std.specs.Prelude.{◌≡◌, ◌≤◌, ℕ, [], length, slice_index, vec_capacity}
use Rattle.page_layout.specs.declared.geometry.Geometry.{Geometry}
use Rattle.image_check.specs.declared.scratch.Scratch.{Scratch}

-- nothing written yet, and room for all of it
pub record IsScratch (g : Geometry) (scratch : Scratch) : Type 0 where
  pub table : length scratch.table ≡ g.blocks
  pub counts : length scratch.counts.items ≡ g.blocks
  pub zeros : (b : ℕ) → slice_index scratch.counts.items b ≡ 0
  pub states : scratch.states.items ≡ []
  pub room : g.blocks ≤ vec_capacity scratch.states
