-- WHAT A TURN DOES, as the image and the log show it: for bad blocks, and for blocks to be free.
use Rattle.std.specs.Prelude.{◌≡◌, ◌≢◌, ℕ, ◌+◌, ◌<◌, ◌≤◌, Bool, true, false, List, []}
use Rattle.page_layout.specs.declared.geometry.Geometry.{Geometry}
use Rattle.page_layout.specs.Page.{Image}
use Rattle.page_layout.specs.Geometry.{need_at, flush_blocks_at}
use Rattle.page_layout.specs.Array.{marks}
use Rattle.page_layout.specs.Live.{live}
use Rattle.page_layout.specs.Flash.{Operation}
use Rattle.promises.specs.Log.{failed_in, good_count_after, free_count_after}

-- how many newest pages the image has in a block
abbrev pub newest_in : Geometry → Image → ℕ → ℕ
newest_in g image b = live g (marks image) b

-- a bad block that holds a newest page
pub record IsAilingIn (g : Geometry) (bad : ℕ → Bool) (image : Image) (b : ℕ) : Type 0 where
  pub within : b < g.blocks
  pub bad_is : bad b ≡ true
  pub some : 0 < newest_in g image b

-- no operation on a block failed
abbrev pub FailsNowhere : Geometry → List Operation → Type 0
FailsNowhere g log = (b : ℕ) → b < g.blocks → failed_in g.pages log b ≡ false

-- A TURN THAT IS DONE, where `bad` are the bad blocks as it begins, `piece` is what it programs and erases, and `old` and `new` are the images before and
-- after it: no bad block has more newest pages than before. Where one held a newest page, something was programmed or erased; and where
-- nothing failed besides, such a block has fewer of them.
pub record Rescues (g : Geometry) (bad : ℕ → Bool) (piece : List Operation) (old new : Image) : Type 0 where
  pub keeps : (b : ℕ) → b < g.blocks → bad b ≡ true → newest_in g new b ≤ newest_in g old b
  pub works : (b : ℕ) → IsAilingIn g bad old b → piece ≢ []
  pub fewer : (b : ℕ) → IsAilingIn g bad old b → FailsNowhere g piece → (block : ℕ) × IsAilingIn g bad old block × (newest_in g new block < newest_in g old block)

-- A TURN THAT IS DONE AND QUIET, that programs and erases nothing, leaves twelve free blocks, and those of a flush, where three more are good than the
-- geometry asks for
abbrev pub LeavesTwelve : Geometry → (share : ℕ) → (ℕ → Bool) → List Operation → Image → Type 0
LeavesTwelve g share bad piece new = piece ≡ [] → need_at g share + 3 ≤ good_count_after g bad [] → 12 + flush_blocks_at g share ≤ free_count_after g bad [] new
