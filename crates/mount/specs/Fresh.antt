-- A fresh die: the pages of the blocks that the factory didn't mark are erased, and no page of a marked block is sound.
use Rattle.std.specs.Prelude.{◌≡◌, ℕ, ◌/◌, ◌<◌, ◌≤◌, Bool, true, false, not, MatchOption, Option, get_or, is_some, if◌then◌else◌}
use Rattle.page_layout.specs.declared.geometry.Geometry.{Geometry}
use Rattle.page_layout.specs.Geometry.{row_count}
use Rattle.page_layout.specs.Page.{Page, Image}
use Rattle.page_layout.specs.Sound.{record_of, is_erased_page}
use Rattle.page_layout.specs.Flash.{no_page}
use Rattle.bad_blocks.specs.Marks.{is_marked}

-- ---- the first number that passes a test

pub record NonePass (test : ℕ → Bool) (from to : ℕ) : Type 0 where
  pub none : (k : ℕ) → from ≤ k → k < to → test k ≡ false

pub record IsFirstPass (test : ℕ → Bool) (from to k : ℕ) : Type 0 where
  pub least : from ≤ k
  pub within : k < to
  pub pass : test k ≡ true
  pub before : NonePass test from k

-- the first number that passes from `from` on and below `to`, or none
abbrev pub IsFirst : (ℕ → Bool) → ℕ → ℕ → Option ℕ → Type 0
IsFirst test from to found = MatchOption found (NonePass test from to) (IsFirstPass test from to)

-- ---- fresh

-- a page that keeps a die from being fresh, of a block that is marked or isn't
abbrev pub is_page_used : Bool → Page → Bool
is_page_used marked p = if marked then is_some (record_of p) else not (is_erased_page p)

-- whether the page of a row keeps the die from being fresh
abbrev pub is_used : Geometry → Image → ℕ → Bool
is_used g image row = is_page_used (is_marked g image (row / g.pages)) (get_or image row no_page)

abbrev pub IsFresh : Geometry → Image → Type 0
IsFresh g image = NonePass (is_used g image) 0 (row_count g)
