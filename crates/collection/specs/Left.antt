-- A block that is collected from turn to turn, and how much of its collection is left.
use Rattle.std.specs.Prelude.{◌≡◌, ◌≢◌, ◌↔◌, ℕ, ◌+◌, ◌-◌, ◌/◌, ◌<◌, ◌≤◌, ◌==◌, ◌||◌, ◌&&◌, min, Bool, true, false, not, List, length, replicate, filter, count_by, Option, Some, None, MatchOption}
use Rattle.std.specs.Int.{div_ceil}
use Rattle.std.specs.List.{range_with_len}
use Rattle.std.specs.Option.{ForSome}
use Rattle.page_layout.specs.declared.geometry.Geometry.{Geometry}
use Rattle.page_layout.specs.declared.record.Key.TheVariants.{Sector}
use Rattle.page_layout.specs.Page.{Image}
use Rattle.page_layout.specs.Geometry.{translation_pages, entries, vmax_at}
use Rattle.page_layout.specs.Live.{is_in_block}
use Rattle.allocation.specs.State.{live_at, is_closed}
use Rattle.collection.specs.declared.engine.Pinned.{Pinned}
use Rattle.collection.specs.declared.engine.collect_steps.Progress.{Progress}
use Rattle.collection.specs.declared.engine.collect_steps.Progress.TheVariants as progress
use Rattle.collection.specs.declared.engine.collect_in_turns.Step.{Step}
use Rattle.collection.specs.declared.engine.collect_in_turns.Step.TheVariants.{Copied, WroteBack, Erased}
use Rattle.collection.specs.State.{Ram}
use Rattle.collection.specs.Pages.{newest_row}
use Rattle.collection.specs.Live.{HoldsNoneIn}
use Rattle.collection.specs.Safe.{IsRam, IsIdle}
use Rattle.collection.specs.Truth.{IsTrue}
use Rattle.collection.specs.Results.{Goes, LeavesNewest, IsSame}
use Rattle.collection.specs.Collect.{has_moved, is_owed, waiting, OwesNone, HasCopied, HasBroughtOut, HasWritten, HasErased}

-- ---- how much is left

-- the sectors whose newest pages are in the block
abbrev pub sectors_in_block : Geometry → Image → ℕ → List ℕ
sectors_in_block g image block = filter (λ n. is_in_block g.pages block (newest_row image (Sector n))) (range_with_len 0 g.sectors)

-- one of these sectors is of translation page t
abbrev pub is_of_some : ℕ → List ℕ → ℕ → Bool
is_of_some per_page sectors t = not (count_by (λ n. n / per_page == t) sectors == 0)

-- translation page t is owed, or a sector of it has its newest page in the block
abbrev pub is_touched : Bool → Ram → Image → ℕ → ℕ → Bool
is_touched flushing r image block t = is_owed flushing r t || is_of_some (entries r.geometry) (sectors_in_block r.geometry image block) t

abbrev pub touched_count : Bool → Ram → Image → ℕ → ℕ
touched_count flushing r image block = count_by (is_touched flushing r image block) (range_with_len 0 (translation_pages r.geometry))

-- so many of n moved sectors have to be off the list, each translation page with more than the share of them, before no more are moved than may wait
abbrev pub batches : (share may_wait n : ℕ) → ℕ
batches share may_wait n = div_ceil (n - may_wait) (share + 1)

-- the sectors that are moved, or will be once the block is copied out
abbrev pub moves_in : Ram → Image → ℕ → ℕ
moves_in r image block = length r.mapping.moved + length (sectors_in_block r.geometry image block)

-- THE TRANSLATION PAGES THAT ARE LEFT TO WRITE BACK before the block is erased, at most: those that are touched and, unless flushing, no more than
-- so many batches
abbrev pub write_backs_in : Bool → Ram → Image → ℕ → ℕ
write_backs_in true r image block = touched_count true r image block
write_backs_in false r image block = min (touched_count false r image block) (batches r.mapping.share (waiting r) (moves_in r image block))

-- THE PAGES THAT ARE LEFT TO PROGRAM, at most: with its newest pages
abbrev pub left_to_program : Bool → Ram → Image → ℕ → ℕ
left_to_program flushing r image block = live_at r.blocks block + write_backs_in flushing r image block

-- the number left of a device: one less than a block has pages where none is pinned, and never more
abbrev pub left_by_pin : Option Pinned → Ram → Image → ℕ
left_by_pin None r image = r.geometry.pages - 1
left_by_pin (Some p) r image = min (left_to_program false r image p.block) (r.geometry.pages - 1)

abbrev pub left : Ram → Image → ℕ
left r image = left_by_pin r.pin.block r image

-- ---- what holds between calls

-- whatever the die does: the pinned block is closed, and no more sectors are moved than may wait, and one for each page of it that was passed
pub record IsHalfDone (r : Ram) (p : Pinned) : Type 0 where
  pub within : p.block < r.geometry.blocks
  pub closed : is_closed r.blocks p.block ≡ true
  pub passed : length r.mapping.moved ≤ waiting r + p.first
  pub on_die : p.first ≤ r.geometry.pages

-- No translation page is marked, and with no block pinned no more sectors are moved than may wait. It is so between calls, unless a fault stands.
pub record IsCalm (r : Ram) : Type 0 where
  pub unmarked : r.pin.marks ≡ replicate (translation_pages r.geometry) false
  pub pinned : MatchOption r.pin.block (length r.mapping.moved ≤ waiting r) (IsHalfDone r)

-- of a block with few newest pages: those that it still has and the sectors that are moved are no more than the pages of a victim worth
-- collecting and the sectors that may wait, but for so many
pub record IsFew (extra : ℕ) (r : Ram) (p : Pinned) : Type 0 where
  pub within : p.block < r.geometry.blocks
  pub small : live_at r.blocks p.block ≤ vmax_at r.geometry r.mapping.share
  pub moved : live_at r.blocks p.block + length r.mapping.moved ≤ vmax_at r.geometry r.mapping.share + waiting r + extra

-- where the die is honest: none of the pages that were passed is a newest page
abbrev pub HasPassedNoNewest : Ram → Image → Pinned → Type 0
HasPassedNoNewest r image p = HoldsNoneIn r.geometry.pages p.block 0 p.first image

-- of the block that is pinned, if one is
abbrev pub PinHasPassed : Ram → Image → Type 0
PinHasPassed r image = ForSome r.pin.block (HasPassedNoNewest r image)

abbrev pub PinIsFew : ℕ → Ram → Type 0
PinIsFew extra r = ForSome r.pin.block (IsFew extra r)

-- ---- a call that is no step of the pinned block

-- A CALL BESIDE A HALF-DONE COLLECTION, whatever the die does: the pin stays, closed blocks do, and no sector more is moved
pub record LeavesPin (old new : Ram) : Type 0 where
  pub pin : new.pin ≡ old.pin
  pub goes : Goes old new
  pub share : new.mapping.share ≡ old.mapping.share
  pub fewer : length new.mapping.moved ≤ length old.mapping.moved
  pub moved : (t : ℕ) → has_moved new.mapping t ≡ true → has_moved old.mapping t ≡ true

-- after it no translation page is owed that was not, but for those of sectors whose newest page was in the block; and as many sectors are moved, or
-- have their newest page in it, as before, or fewer
pub record TouchesNoMore (flushing : Bool) (block : ℕ) (old : Ram) (before : Image) (new : Ram) (after : Image) : Type 0 where
  pub pages : (t : ℕ) → is_owed flushing new t ≡ true → is_touched flushing old before block t ≡ true
  pub share : new.mapping.share ≡ old.mapping.share
  pub moves : moves_in new after block ≤ moves_in old before block

-- ---- a step of the pinned block

-- how a step is told
abbrev pub told : Progress → Step
told (progress.Copied page) = Copied
told progress.WroteBack = WroteBack
told progress.Erased = Erased

-- what is pinned after a step: from the next page on, once all were brought out from the end on, and nothing after the erase
abbrev pub pin_after : ℕ → ℕ → Progress → Option Pinned
pin_after block pages (progress.Copied page) = Some (record { block = block; first = page + 1 })
pin_after block pages progress.WroteBack = Some (record { block = block; first = pages })
pin_after block pages progress.Erased = None

-- a memory, with another pin
abbrev pub pinned_to : Option Pinned → Ram → Ram
pinned_to to r = record r { pin = record { block = to; marks = r.pin.marks } }

-- what a step costs: a page that is brought out, a translation page, or the erase
abbrev pub StepSpends : Bool → Pinned → Ram → Ram → Step → Type 0
StepSpends flushing p old new Copied = HasBroughtOut flushing old new
StepSpends flushing p old new WroteBack = HasWritten flushing old new
StepSpends flushing p old new Erased = HasErased p.block old new

-- and what is pinned then: the block from the page on that follows the one brought out; once all were, from the end on; nothing after the erase
abbrev pub PinsOn : ℕ → Pinned → Option Pinned → Step → Type 0
PinsOn pages p pin Copied = (page : ℕ) × (p.first ≤ page) × (page < pages) × (pin ≡ Some (record { block = p.block; first = page + 1 }))
PinsOn pages p pin WroteBack = pin ≡ Some (record { block = p.block; first = pages })
PinsOn pages p pin Erased = pin ≡ None

-- A STEP THAT IS DONE, whatever the die does
pub record HasStepped (flushing : Bool) (p : Pinned) (old new : Ram) (step : Step) : Type 0 where
  pub cost : StepSpends flushing p old new step
  pub next : PinsOn old.geometry.pages p new.pin.block step

-- WHERE THE DIE IS HONEST: the array is as it was, a page that is brought out leaves the block one newest page less, the other steps find none in it, and each but the
-- erase leaves less to do
pub record StepsOn (flushing : Bool) (p : Pinned) (old : Ram) (before : Image) (new : Ram) (after : Image) (step : Step) : Type 0 where
  pub same : IsSame old before new after
  pub fewer : step ≡ Copied → live_at new.blocks p.block + 1 ≡ live_at old.blocks p.block
  pub none : step ≢ Copied → live_at new.blocks p.block ≡ 0
  pub passed : PinHasPassed new after
  pub left : step ≢ Erased → left_to_program flushing new after p.block + 1 ≤ left_to_program flushing old before p.block
  pub few : IsFew 0 old p → PinIsFew 0 new

-- ---- laws

-- an idle memory has no translation page that has to be written back
abbrev pub IdleLaw : Type 0
IdleLaw = (flushing : Bool) (r : Ram) → IsIdle r → OwesNone flushing r

-- THE NUMBER LEFT IS BELOW THE PAGES OF A BLOCK of a victim that was worth collecting
abbrev pub LeftLaw : Type 0
LeftLaw = (r : Ram) (image : Image) (p : Pinned) → IsRam r → IsTrue None r image → IsFew 0 r p → left_to_program false r image p.block < r.geometry.pages

-- with share 0 also where a rescue has moved one sector more and then found no sequence
abbrev pub UnsharedLeftLaw : Type 0
UnsharedLeftLaw = (r : Ram) (image : Image) (p : Pinned) → IsRam r → IsTrue None r image → r.mapping.share ≡ 0 → IsFew 1 r p → left_to_program false r image p.block < r.geometry.pages

-- WITH SHARE 0 each touched translation page is left to write back
abbrev pub UnsharedTouchedLaw : Type 0
UnsharedTouchedLaw = (r : Ram) (image : Image) (block : ℕ) → IsRam r → r.mapping.share ≡ 0 → write_backs_in false r image block ≡ touched_count false r image block

-- as few as of a victim worth collecting, where no more are moved yet than may wait
abbrev pub PinLaw : Type 0
PinLaw = (r : Ram) (p : Pinned) → p.block < r.geometry.blocks → length r.mapping.moved ≤ waiting r → live_at r.blocks p.block ≤ vmax_at r.geometry r.mapping.share → IsFew 0 r p

-- ANOTHER CALL NEVER RAISES IT
abbrev pub LeftNeverRisesLaw : Type 0
LeftNeverRisesLaw = (old new : Ram) (before after : Image) (block : ℕ) → IsRam old → IsRam new → IsTrue None old before → IsTrue None new after
    → block < old.geometry.blocks → is_closed old.blocks block ≡ true → LeavesPin old new → LeavesNewest old before after
    → left_to_program false new after block ≤ left_to_program false old before block

-- memory stays calm in it
abbrev pub StaysCalmLaw : Type 0
StaysCalmLaw = (old new : Ram) → LeavesPin old new → IsCalm old → IsCalm new

-- pages that were passed stay so
abbrev pub PassedLaw : Type 0
PassedLaw = (old new : Ram) (before after : Image) → IsCalm old → LeavesPin old new → LeavesNewest old before after → PinHasPassed old before → PinHasPassed new after

-- and few pages stay few
abbrev pub StaysFewLaw : Type 0
StaysFewLaw = (extra : ℕ) (old new : Ram) (before after : Image) → IsRam old → IsRam new → IsTrue None old before → IsTrue None new after → IsCalm old
    → LeavesPin old new → LeavesNewest old before after → PinIsFew extra old → PinIsFew extra new

-- EACH PAGE THAT IS BROUGHT OUT LOWERS IT: where another sector is moved, its newest page was in the block
abbrev pub CopyLaw : Type 0
CopyLaw = (flushing : Bool) (old new : Ram) (before after : Image) (block : ℕ) → block < old.geometry.blocks → is_closed old.blocks block ≡ true
    → new.geometry ≡ old.geometry → LeavesNewest old before after → TouchesNoMore flushing block old before new after
    → live_at new.blocks block + 1 ≡ live_at old.blocks block → left_to_program flushing new after block + 1 ≤ left_to_program flushing old before block

-- EACH TRANSLATION PAGE THAT IS WRITTEN LOWERS IT, where no newest page is left then
abbrev pub TranslationWriteLaw : Type 0
TranslationWriteLaw = (flushing : Bool) (old new : Ram) (before after : Image) (block : ℕ) → IsRam new → IsTrue None new after → block < old.geometry.blocks
    → new.geometry ≡ old.geometry → live_at new.blocks block ≡ 0 → HasWritten flushing old new
    → left_to_program flushing new after block + 1 ≤ left_to_program flushing old before block

-- WITH SHARE 0 EACH PAGE THAT IS BROUGHT OUT IS COPIED, as it stands
abbrev pub UnsharedCopyLaw : Type 0
UnsharedCopyLaw = (flushing : Bool) (old new : Ram) → old.mapping.share ≡ 0 → HasBroughtOut flushing old new ↔ HasCopied flushing old new
