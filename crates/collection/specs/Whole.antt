-- A collection while it is under way.
use Rattle.std.specs.Prelude.{◌≡◌, ◌⊎◌, ℕ, ◌+◌, ◌-◌, ◌*◌, ◌<◌, ◌≤◌, ◌^◌, min, Bool, true, false, length, Option, Some, None}
use Rattle.page_layout.specs.Page.{Image}
use Rattle.page_layout.specs.Counter.{counted}
use Rattle.page_layout.specs.Geometry.{translation_pages}
use Rattle.budget.specs.Laws.{Accounts}
use Rattle.allocation.specs.State.{live_at}
use Rattle.allocation.specs.Counts.{counts_of}
use Rattle.collection.specs.declared.engine.collect_steps.Progress.{Progress}
use Rattle.collection.specs.declared.engine.collect_steps.Progress.TheVariants.{Copied, WroteBack, Erased}
use Rattle.collection.specs.State.{Ram}
use Rattle.collection.specs.Live.{HoldsNoneIn}
use Rattle.collection.specs.Results.{IsSame}
use Rattle.collection.specs.Collect.{due_count, waiting, Ledger}

-- the page from which the next step goes on, unless the block was erased
abbrev pub next_of : ℕ → Progress → Option ℕ
next_of pages (Copied page) = Some (page + 1)
next_of pages WroteBack = Some pages
next_of pages Erased = None

-- a page that was brought out is one of a block
abbrev pub step_within : ℕ → Progress → Type 0
step_within pages (Copied page) = page < pages
step_within pages WroteBack = Unit {0}
step_within pages Erased = Unit {0}

-- the count of erases after a step
abbrev pub erases_after : Progress → ℕ → ℕ
erases_after (Copied page) erases = erases
erases_after WroteBack erases = erases
erases_after Erased erases = counted erases

-- the good blocks that are neither free nor open, and as many more as the die has blocks, and two
abbrev pub busy_of : Ram → ℕ
busy_of r = (counts_of r.blocks).good + (r.geometry.blocks + 2 - ((counts_of r.blocks).free + min (counts_of r.blocks).data_left 1 + min (counts_of r.blocks).meta_left 1))

-- WHATEVER THE DIE DOES COLLECTIONS END: each leaves less of this. A page takes a sequence and closes at most one block, and an erase frees one.
abbrev pub work_left : Ram → ℕ
work_left r = 2 * (2 ^ 64 - 1 - r.next) + busy_of r

-- so far the array is as it was, each page that was brought out has left the block one newest page less and moved one sector at most, and no newest page is in its
-- first pages
pub record IsSoFar (block first copies : ℕ) (old : Ram) (before : Image) (now : Ram) (after : Image) : Type 0 where
  pub same : IsSame old before now after
  pub copies_left : copies + live_at now.blocks block ≤ live_at old.blocks block
  pub few : live_at now.blocks block + length now.mapping.moved ≤ live_at old.blocks block + length old.mapping.moved
  pub none : HoldsNoneIn old.geometry.pages block 0 first after

-- WHATEVER THE DIE DOES A COLLECTION READS FEW PAGES: so far two for each page that it is past, and one for each translation page that it has
-- written back once none was left to bring out. Of these there were no more than the pages that it is past: in a flush with those that are due, and else each was written for more
-- than the share of the moved sectors, and only while more were moved than may wait. And no more than there are.
pub record HasReadFewPages (flushing : Bool) (start first : ℕ) (old now : Ram) (before after : ℕ) : Type 0 where
  pub written : ℕ
  pub flushed : flushing ≡ true → written + due_count flushing now ≤ first
  pub share : now.mapping.share ≡ old.mapping.share
  pub moved : flushing ≡ false → Accounts old.mapping.share (waiting old) first written (length now.mapping.moved)
  pub last : flushing ≡ false → (written ≡ 0) ⊎ ((old.mapping.share + 1) * written ≤ first + old.mapping.share)
  pub once : written + due_count flushing now ≤ translation_pages old.geometry
  pub order : (written ≡ 0) ⊎ (old.geometry.pages ≤ first)
  pub on : start ≤ first
  pub within : first ≤ old.geometry.pages
  pub few : after ≤ before + (2 * (first - start) + written)

-- so many steps have been taken; translation pages are written before the erase only once no page is left to bring out
pub record IsUnderWay (flushing : Bool) (block first : ℕ) (old now : Ram) (known : Type 0) (before after : Image) : Type 0 where
  pub ledger : Ledger flushing old now
  pub order : (ledger.written ≡ 0) ⊎ (old.geometry.pages ≤ first)
  pub busy : busy_of now ≤ busy_of old + (ledger.copies + ledger.written)
  pub programmed : old.next + (ledger.copies + ledger.written) ≤ now.next
  pub truth : known → IsSoFar block first ledger.copies old before now after
