-- What calls come to by which a page leaves its row: a copy of it or a write-back, and the translation page that follows the copy.
use Rattle.std.specs.Prelude.{◌≡◌, ◌≢◌, ℕ, ◌+◌, ◌/◌, ◌<◌, ◌≤◌, Bool, true, false, length, None, Result, Ok, Err, OnOk, OnErr, MatchResult}
use Rattle.page_layout.specs.View.{View}
use Rattle.page_layout.specs.declared.record.Record.{Record}
use Rattle.page_layout.specs.declared.record.Key.{Key}
use Rattle.page_layout.specs.Page.{Image}
use Rattle.page_layout.specs.Key.{key_of}
use Rattle.page_layout.specs.Sound.{version_for}
use Rattle.page_layout.specs.Version.{is_old}
use Rattle.allocation.specs.State.{live_at}
use Rattle.collection.specs.declared.engine.Engine.{Engine}
use Rattle.collection.specs.declared.fault.EngineFault.{EngineFault}
use Rattle.collection.specs.declared.fault.EngineFault.TheVariants.{Damaged, Bus}
use Rattle.collection.specs.State.{Ram}
use Rattle.collection.specs.Safe.{ram, image_in, page_in_buffer, is_shut}
use Rattle.collection.specs.Truth.{IsTrue}
use Rattle.collection.specs.Live.{NotAt, IsLivePage}
use Rattle.collection.specs.Results.{IsSame, IsLastPage, KeepsPage, Refused, Goes}
use Rattle.collection.specs.Collect.{waiting, KeepsKeys, Refreshes, IsMovedOut, FollowsCopy, RescueCosts}
use Rattle.collection.specs.Left.{LeavesPin, TouchesNoMore}
use Rattle.collection.specs.Acts.{EngineActs, OnlyPrograms}
use Rattle.collection.specs.Stops.{StopsSafely, CutsSafely}

-- A CALL BY WHICH THE PAGE IN THE PAGE BUFFER LEAVES ITS ROW, one with this record: it is copied or, a translation page, written back, and nothing is read for it. Where the
-- die is honest the page was the newest of its key, and for all but a stop its block bad or closed.
pub record LeavesRow {N : Type 0} (view : View N) (flushing : Bool) (found : Record) (row : ℕ) (old new : Engine N) (result : Result (Unit {0}) EngineFault) : Type 0 where
  pub acts : EngineActs view old new result
  pub goes : Goes (ram old) (ram new)
  pub only_programs : OnlyPrograms view old.nand new.nand
  pub keys : KeepsKeys old.mapping new.mapping
  pub refreshes : flushing ≡ true → Refreshes (ram old) (ram new)
  pub pinned : flushing ≡ false → (ram new).pin ≡ (ram old).pin
  pub pin : (ram new).pin.block ≡ (ram old).pin.block
  pub unmoved : OnErr result (new.mapping ≡ old.mapping)
  pub touched : view.honest old.nand ≡ true → IsTrue None (ram old) (image_in view.flash old) → is_shut (ram old).blocks (row / old.geometry.pages) ≡ true
      → IsLivePage row old.page.body.items found (image_in view.flash old)
      → OnOk result (TouchesNoMore flushing (row / old.geometry.pages) (ram old) (image_in view.flash old) (ram new) (image_in view.flash new))
  pub programmed : OnOk result (IsLastPage found.kind found.number (ram new) (page_in_buffer new.page))
  pub truth : view.honest old.nand ≡ true → IsTrue None (ram old) (image_in view.flash old) → is_shut (ram old).blocks (row / old.geometry.pages) ≡ true
      → IsLivePage row old.page.body.items found (image_in view.flash old)
      → MatchResult result
      (λ done. IsMovedOut row (ram old) (image_in view.flash old) (ram new) (image_in view.flash new))
      (Refused (ram old) (image_in view.flash old) (ram new) (image_in view.flash new))
  pub stops : view.honest old.nand ≡ true → IsTrue None (ram old) (image_in view.flash old) → IsLivePage row old.page.body.items found (image_in view.flash old)
      → result ≢ Err Bus → StopsSafely view old new
  pub cut : view.honest old.nand ≡ true → IsTrue None (ram old) (image_in view.flash old) → IsLivePage row old.page.body.items found (image_in view.flash old)
      → result ≡ Err Bus → CutsSafely view old new

-- THE PAGE OF A KEY WAS MOVED out of its row: the array is as it was. Where the die has version 2 the copy is of it, and so is the page that follows it; each other newest
-- page stays as it is. A bad or closed block that the page has left has fewer newest pages, and none in the row.
pub record IsMovedPage (key : Key) (row : ℕ) (old : Ram) (before : Image) (new : Ram) (after : Image) : Type 0 where
  pub same : IsSame old before new after
  pub renewed : version_for old.geometry ≡ 2 → is_old after key ≡ false
  pub followed : version_for old.geometry ≡ 2 → (other : Key) → FollowsCopy old key other → is_old after other ≡ false
  pub others : (other : Key) → other ≢ key → ¬ FollowsCopy old key other → KeepsPage other before after
  pub gone : is_shut old.blocks (row / old.geometry.pages) ≡ true → NotAt row after
  pub fewer : is_shut old.blocks (row / old.geometry.pages) ≡ true → live_at new.blocks (row / old.geometry.pages) < live_at old.blocks (row / old.geometry.pages)

-- what is answered by whether a page was moved
abbrev pub moved_answer : Result (Unit {0}) EngineFault → Result Bool EngineFault
moved_answer (Ok done) = Ok true
moved_answer (Err fault) = Err fault

-- A CALL THAT MOVES ONE PAGE AT MOST, whatever the die does: no block is erased, the cache has the same sectors, and the pin stays. If it is done no sector more is moved, and
-- else one more at most.
pub record MovesFew {A N : Type 0} (view : View N) (old new : Engine N) (result : Result A EngineFault) : Type 0 where
  pub acts : EngineActs view old new result
  pub goes : Goes (ram old) (ram new)
  pub erases : view.erases new.nand ≡ view.erases old.nand
  pub keys : KeepsKeys old.mapping new.mapping
  pub beside : OnOk result (LeavesPin (ram old) (ram new))
  pub pin : (ram new).pin ≡ (ram old).pin
  pub one_more : length new.mapping.moved ≤ length old.mapping.moved + 1

-- A CALL THAT MOVES THE PAGE IN THE PAGE BUFFER, one with this record, at the cost of a page or two
pub record MovesPage {N : Type 0} (view : View N) (found : Record) (row : ℕ) (old new : Engine N) (result : Result (Unit {0}) EngineFault) : Type 0 where
  pub moves : MovesFew view old new result
  pub cost : RescueCosts (ram old) (ram new) (moved_answer result)
  pub truth : view.honest old.nand ≡ true → IsTrue None (ram old) (image_in view.flash old) → IsLivePage row old.page.body.items found (image_in view.flash old)
      → MatchResult result
      (λ done. IsMovedPage (key_of found) row (ram old) (image_in view.flash old) (ram new) (image_in view.flash new))
      (Refused (ram old) (image_in view.flash old) (ram new) (image_in view.flash new))
  pub stops : view.honest old.nand ≡ true → IsTrue None (ram old) (image_in view.flash old) → IsLivePage row old.page.body.items found (image_in view.flash old)
      → result ≢ Err Bus → StopsSafely view old new
  pub cut : view.honest old.nand ≡ true → IsTrue None (ram old) (image_in view.flash old) → IsLivePage row old.page.body.items found (image_in view.flash old)
      → result ≡ Err Bus → CutsSafely view old new

-- A CALL THAT LOOKS FOR A PAGE, and moves it where there is one: `tells` is what its answer means where the die is honest. With no place on the moved list it is refused,
-- and nothing is done.
pub record MovesOne {N : Type 0} (view : View N) (tells : Ram → Image → Ram → Image → Bool → Type 0) (old new : Engine N) (result : Result Bool EngineFault) : Type 0 where
  pub moves : MovesFew view old new result
  pub full : length old.mapping.moved ≡ waiting (ram old) + old.geometry.pages → (result ≡ Err Damaged) × (new ≡ old)
  pub cost : RescueCosts (ram old) (ram new) result
  pub truth : view.honest old.nand ≡ true → IsTrue None (ram old) (image_in view.flash old) → length old.mapping.moved < waiting (ram old) + old.geometry.pages
      → MatchResult result
      (tells (ram old) (image_in view.flash old) (ram new) (image_in view.flash new))
      (Refused (ram old) (image_in view.flash old) (ram new) (image_in view.flash new))
  pub stops : view.honest old.nand ≡ true → IsTrue None (ram old) (image_in view.flash old) → result ≢ Err Bus → StopsSafely view old new
  pub cut : view.honest old.nand ≡ true → IsTrue None (ram old) (image_in view.flash old) → result ≡ Err Bus → CutsSafely view old new
