-- What a flush that is done has programmed, one step after another: a chain of engines, from the one before it to the one after it.
use Rattle.std.specs.Prelude.{◌≡◌, ℕ, ◌+◌, ◌*◌, ◌<◌, ◌≤◌, true, false, suc, zero, List, [], ◌∷◌}
use Rattle.page_layout.specs.View.{View}
use Rattle.page_layout.specs.Geometry.{entries, translation_pages, table_pages}
use Rattle.page_layout.specs.declared.record.Kind.TheVariants as kind
use Rattle.bad_blocks.specs.Table.{good_count}
use Rattle.bad_blocks.specs.TablePage.{table_bytes}
use Rattle.budget.specs.declared.stream.Stream.TheVariants.{Meta}
use Rattle.mapping_cache.specs.Mapping.{cleaned}
use Rattle.allocation.specs.State.{free_count}
use Rattle.allocation.specs.Counts.{counts_of}
use Rattle.collection.specs.declared.engine.Engine.{Engine}
use Rattle.collection.specs.Safe.{ram, image_in, page_in_buffer}
use Rattle.collection.specs.Cost.{HasPut}
use Rattle.collection.specs.Log.{Went}
use Rattle.collection.specs.declared.engine.room.Reserve.TheVariants as reserve
use Rattle.collection.specs.Room.{wanted}
use Rattle.collection.specs.Results.{Goes, IsLastPage, IsWrittenBack, IsTabled}
use Rattle.ftl_device.specs.Calls.{Knows, KeepsArray, HasMadeRoom}
use Rattle.ftl_device.specs.Flush.{IsClean}

-- ---- a step

-- A STEP AT AN HONEST DIE: one piece of its log, and the array is as it was
pub record GoesOver {N : Type 0} (view : View N) (old new : Engine N) : Type 0 where
  pub went : Went (ram old) (view.flash old.nand) (view.recorded old.nand) (ram new) (view.flash new.nand) (view.recorded new.nand)
  pub keeps : KeepsArray old.geometry (image_in view.flash old) (ram new) (image_in view.flash new)

-- the same where the die is honest, and what is known of the image is so
abbrev pub GoesHonestly : {N : Type 0} → View N → Engine N → Engine N → Type 0
GoesHonestly view old new = view.honest old.nand ≡ true → Knows (ram old) (image_in view.flash old) → GoesOver view old new

-- ABOVE SHARE 0 ROOM WAS MADE FOR THE WHOLE FLUSH, by collections as outside one; with share 0 nothing was done
pub record HasBegunFlush {N : Type 0} (view : View N) (old new : Engine N) : Type 0 where
  pub still : old.mapping.share ≡ 0 → new ≡ old
  pub room : 0 < old.mapping.share → HasMadeRoom (wanted reserve.Flush (ram old)) false (ram old) (ram new)
  pub honest_is : view.honest new.nand ≡ view.honest old.nand
  pub goes : GoesHonestly view old new

-- ROOM WAS MADE FOR A PAGE, with share 0, by collections as in a flush. Above it nothing was done, and five blocks are free: a collection would have
-- sectors wait for translation pages that were brought up before.
pub record HasCleared {N : Type 0} (view : View N) (old new : Engine N) : Type 0 where
  pub room : old.mapping.share ≡ 0 → HasMadeRoom 9 true (ram old) (ram new)
  pub still : 0 < old.mapping.share → (new ≡ old) × (5 ≤ free_count (ram old).blocks)
  pub honest_is : view.honest new.nand ≡ view.honest old.nand
  pub goes : GoesHonestly view old new

-- ---- translation pages

-- TRANSLATION PAGE t WAS WRITTEN BACK: one page of the meta stream was programmed, again after each failure, and it lacks no row any more. Where the
-- die is honest, it has the row of each of its sectors, and no other newest page has moved.
pub record WritesBack {N : Type 0} (view : View N) (t : ℕ) (old new : Engine N) : Type 0 where
  pub blocks : Goes (ram old) (ram new)
  pub put : HasPut Meta (ram old) (ram new)
  pub page : IsLastPage kind.Translation t (ram new) (page_in_buffer new.page)
  pub mapping : new.mapping ≡ cleaned old.mapping t
  pub honest_is : view.honest new.nand ≡ view.honest old.nand
  pub goes : GoesHonestly view old new
  pub means : view.honest old.nand ≡ true → Knows (ram old) (image_in view.flash old) → IsWrittenBack t (ram old) (image_in view.flash old) (ram new) (image_in view.flash new)

-- room was made first
pub record BringsUp {N : Type 0} (view : View N) (t : ℕ) (old new : Engine N) : Type 0 where
  pub mid : Engine N
  pub cleared : HasCleared view old mid
  pub back : WritesBack view t mid new

-- JUST WHERE THE PAGE LACKED A ROW, which is asked before room is made; else nothing was done
pub record FlushesPage {N : Type 0} (view : View N) (t : ℕ) (old new : Engine N) : Type 0 where
  pub clean : IsClean old.geometry t old.mapping → new ≡ old
  pub lacking : (IsClean old.geometry t old.mapping → ⊥) → BringsUp view t old new

-- so of the first so many translation pages, one after another
abbrev pub FlushesPages : {N : Type 0} → View N → ℕ → Engine N → Engine N → Type 0
FlushesPages view zero old new = new ≡ old
FlushesPages {N} view (suc t) old new = (mid : Engine N) × FlushesPages view t old mid × FlushesPage view t mid new

-- ---- table pages

-- TABLE PAGE u WAS WRITTEN: one page of the meta stream was programmed, again after each failure, and it spells the table as it was before
pub record WritesTable {N : Type 0} (view : View N) (u : ℕ) (old new : Engine N) : Type 0 where
  pub blocks : Goes (ram old) (ram new)
  pub put : HasPut Meta (ram old) (ram new)
  pub page : IsLastPage kind.Table u (ram new) (page_in_buffer new.page)
  pub spelled : new.page.body.items ≡ table_bytes (entries old.geometry) (ram old).blocks.table u
  pub mapping : new.mapping ≡ old.mapping
  pub honest_is : view.honest new.nand ≡ view.honest old.nand
  pub goes : GoesHonestly view old new
  pub means : view.honest old.nand ≡ true → Knows (ram old) (image_in view.flash old) → IsTabled u (ram old) (image_in view.flash old) (ram new) (image_in view.flash new)

-- so of the first so many table pages, one after another
abbrev pub WritesFirst : {N : Type 0} → View N → ℕ → Engine N → Engine N → Type 0
WritesFirst view zero old new = new ≡ old
WritesFirst {N} view (suc u) old new = (mid : Engine N) × WritesFirst view u old mid × WritesTable view u mid new

-- A ROUND: each table page was written once
pub record HasRound {N : Type 0} (view : View N) (old new : Engine N) : Type 0 where
  pub pages : WritesFirst view (table_pages old.geometry) old new

-- rounds in each of which a block failed, with the engines as they began, the latest first
abbrev pub Repeats : {N : Type 0} → View N → Engine N → List (Engine N) → Engine N → Type 0
Repeats view old [] new = new ≡ old
Repeats view old (start ∷ before) new = Repeats view old before start × HasRound view start new
    × (good_count (ram new).blocks.table < good_count (ram start).blocks.table)

-- such rounds, and after them one in which none failed
pub record WritesRounds {N : Type 0} (view : View N) (old new : Engine N) : Type 0 where
  pub starts : List (Engine N)
  pub last : Engine N
  pub failed : Repeats view old starts last
  pub round : HasRound view last new
  pub none : good_count (ram new).blocks.table ≡ good_count (ram last).blocks.table

-- ---- the whole

-- A FLUSH THAT IS DONE, whatever the die does: room was made for it, translation pages were brought up one after another, room was made for the
-- table pages, and these were written
pub record HasFlushed {N : Type 0} (view : View N) (old new : Engine N) : Type 0 where
  pub begun : Engine N
  pub back : Engine N
  pub ready : Engine N
  pub begins : HasBegunFlush view old begun
  pub pages : FlushesPages view (translation_pages old.geometry) begun back
  pub cleared : HasCleared view back ready
  pub tables : WritesRounds view ready new

-- ---- laws

-- A FLUSH OF WHAT LACKS NOTHING, with as many free blocks as it wants, in which no block fails, programs each table page once, in the meta stream, and
-- nothing else
abbrev pub CleanFlushLaw : {N : Type 0} → View N → Type 0
CleanFlushLaw {N} view = (old new : Engine N) → ((t : ℕ) → t < translation_pages old.geometry → IsClean old.geometry t old.mapping)
    → wanted reserve.Flush (ram old) ≤ free_count (ram old).blocks → good_count (ram new).blocks.table ≡ good_count (ram old).blocks.table → HasFlushed view old new
    → (new.next ≡ old.next + table_pages old.geometry) × ((counts_of (ram new).blocks).data_left ≡ (counts_of (ram old).blocks).data_left)

-- AND WHERE ONE BLOCK FAILS, each table page is programmed twice, since all of them are written again, and the one whose program failed once more
abbrev pub FailedFlushLaw : {N : Type 0} → View N → Type 0
FailedFlushLaw {N} view = (old new : Engine N) → ((t : ℕ) → t < translation_pages old.geometry → IsClean old.geometry t old.mapping)
    → wanted reserve.Flush (ram old) ≤ free_count (ram old).blocks → good_count (ram old).blocks.table ≡ good_count (ram new).blocks.table + 1 → HasFlushed view old new
    → new.next ≡ old.next + 2 * table_pages old.geometry + 1

-- A TRANSLATION PAGE THAT LACKS A ROW is programmed once, with nine free blocks, and once more for each block that fails; then it lacks none
abbrev pub LackingPageLaw : {N : Type 0} → View N → Type 0
LackingPageLaw {N} view = (t : ℕ) (old new : Engine N) → (IsClean old.geometry t old.mapping → ⊥) → 9 ≤ free_count (ram old).blocks
    → FlushesPage view t old new
    → (new.next + good_count (ram new).blocks.table ≡ old.next + good_count (ram old).blocks.table + 1) × IsLastPage kind.Translation t (ram new) (page_in_buffer new.page)
    × (new.mapping ≡ cleaned old.mapping t)
