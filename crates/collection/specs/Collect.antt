-- What a collection of a block does, step by step and as a whole.
use Rattle.std.specs.Prelude.{◌≡◌, ◌≢◌, ◌⊎◌, ℕ, ◌+◌, ◌-◌, ◌*◌, ◌/◌, ◌<◌, ◌≤◌, ◌==◌, ◌^◌, ◌||◌, ◌&&◌, min, Bool, true, false, not, List, [], ◌∷◌, length}
use Rattle.std.specs.Prelude.{slice_set, get_or, count_by, nat_lt, Option, Some, None, IsSome, Result, Ok, Err}
use Rattle.std.specs.Int.{div_ceil}
use Rattle.std.specs.List.{range_with_len}
use Rattle.std.specs.Map.{keys_of}
use Rattle.page_layout.specs.Page.{Image, Page}
use Rattle.page_layout.specs.Key.{key_of}
use Rattle.page_layout.specs.declared.geometry.Geometry.{Geometry}
use Rattle.page_layout.specs.declared.record.Key.{Key}
use Rattle.page_layout.specs.declared.record.Record.{Record}
use Rattle.page_layout.specs.declared.record.Key.TheVariants.{Sector, Translation, Table}
use Rattle.page_layout.specs.Geometry.{translation_pages, entries, need_at, vmax_at, waiting_at, flush_blocks_at}
use Rattle.page_layout.specs.Change.{HoldsNone}
use Rattle.page_layout.specs.Sound.{version_for}
use Rattle.page_layout.specs.Version.{is_old, AddsNoOld}
use Rattle.page_layout.specs.Array.{array_of}
use Rattle.bad_blocks.specs.Table.{is_good_at, wear_at, most_wear}
use Rattle.budget.specs.declared.stream.Stream.{Stream}
use Rattle.budget.specs.declared.stream.Stream.TheVariants.{Meta}
use Rattle.budget.specs.Counts.{Erased}
use Rattle.budget.specs.Laws.{Accounts}
use Rattle.budget.specs.Spending.{Spending, Collected, Stuck, IsFunded}
use Rattle.mapping_cache.specs.Mapping.{MappingState, HasLimitsOf, per_page, pending, slot_of, moved_in, cleaned}
use Rattle.collection.specs.declared.engine.collect_in_turns.Step.{Step}
use Rattle.collection.specs.declared.engine.collect_in_turns.Step.TheVariants as steps
use Rattle.allocation.specs.State.{State, live_at, is_closed, is_free, free_count}
use Rattle.allocation.specs.Step.{erased, without}
use Rattle.allocation.specs.Counts.{counts_of}
use Rattle.allocation.specs.Laws.{IsLeftButLive}
use Rattle.collection.specs.declared.fault.EngineFault.{EngineFault}
use Rattle.collection.specs.declared.fault.EngineFault.TheVariants.{ReadOnly, SequenceSpent, Damaged, Bus}
use Rattle.collection.specs.declared.engine.collect_steps.Progress.{Progress}
use Rattle.collection.specs.declared.engine.collect_steps.Progress.TheVariants as step
use Rattle.collection.specs.State.{Ram}
use Rattle.collection.specs.Pages.{newest_row}
use Rattle.collection.specs.Safe.{is_shut}
use Rattle.collection.specs.Cost.{HasPut, HasRunOut, HasSpent}
use Rattle.collection.specs.Settle.{SetsMapping, BringsOut}
use Rattle.collection.specs.Live.{NotAt, HoldsNoneIn, IsLivePage}
use Rattle.collection.specs.Results.{IsSame, IsLastPage, KeepsPage}
use Rattle.collection.specs.Truth.{IsTrue}

-- ---- translation pages that have to be written

-- a sector of translation page t is on the moved list
abbrev pub has_moved : MappingState → ℕ → Bool
has_moved m t = not (length (moved_in (per_page m) t m.moved) == 0)

-- more of them than the share are
abbrev pub is_over : MappingState → ℕ → Bool
is_over m t = nat_lt m.share (length (moved_in (per_page m) t m.moved))

abbrev pub is_translation_marked : Ram → ℕ → Bool
is_translation_marked r t = get_or r.pin.marks t false

-- how many moved sectors may wait for their translation pages once a collection has ended
abbrev pub waiting : Ram → ℕ
waiting r = waiting_at r.geometry r.mapping.share

-- it is due before the block is erased: more than the share of its sectors are on the moved list or, in a flush, it is marked
abbrev pub is_due : Bool → Ram → ℕ → Bool
is_due flushing r t = is_over r.mapping t || (flushing && is_translation_marked r t)

-- it may come to be: some sector of it is on the moved list or, in a flush, it is marked
abbrev pub is_owed : Bool → Ram → ℕ → Bool
is_owed flushing r t = has_moved r.mapping t || (flushing && is_translation_marked r t)

abbrev pub owed_count : Bool → Ram → ℕ
owed_count flushing r = count_by (is_owed flushing r) (range_with_len 0 (translation_pages r.geometry))

-- how many are due
abbrev pub due_count : Bool → Ram → ℕ
due_count flushing r = count_by (is_due flushing r) (range_with_len 0 (translation_pages r.geometry))

-- THE LOWEST OF THEM is written back; unless flushing, just where more sectors are moved than may wait
pub record IsLowestDue (flushing : Bool) (r : Ram) (t : ℕ) : Type 0 where
  pub within : t < translation_pages r.geometry
  pub due : is_due flushing r t ≡ true
  pub lowest : (k : ℕ) → k < t → is_due flushing r k ≡ false
  pub many : flushing ≡ false → waiting r < length r.mapping.moved

-- none has to be written back: no more sectors are moved than may wait and, in a flush, no translation page is marked
pub record OwesNone (flushing : Bool) (r : Ram) : Type 0 where
  pub few : length r.mapping.moved ≤ waiting r
  pub unmarked : flushing ≡ true → (t : ℕ) → t < translation_pages r.geometry → is_translation_marked r t ≡ false

-- the marks after a copy of a page of this key: in a flush the translation page of a sector is marked
abbrev pub marks_after : Bool → Geometry → Key → List Bool → List Bool
marks_after false g key ms = ms
marks_after true g (Sector n) ms = slice_set ms (n / entries g) true
marks_after true g (Translation t) ms = ms
marks_after true g (Table u) ms = ms

-- translation page t lacks no row
abbrev pub IsUpToDate : MappingState → ℕ → Type 0
IsUpToDate m t = (n : ℕ) → n / per_page m ≡ t → pending m n ≡ None

-- it lacks none, unless it is marked
abbrev pub IsUpToDateUnmarked : Ram → ℕ → Type 0
IsUpToDateUnmarked r t = is_translation_marked r t ≡ false → IsUpToDate r.mapping t

-- IN A FLUSH: each translation page that lacked no row, or was marked, lacks none or is marked
pub record Refreshes (old new : Ram) : Type 0 where
  pub each : (t : ℕ) → t < translation_pages old.geometry → IsUpToDateUnmarked old t → IsUpToDateUnmarked new t

-- ---- what stays, whatever the die does

-- the cache has the same sectors in the same order, and the mapping its size
pub record KeepsKeys (old new : MappingState) : Type 0 where
  pub limits : HasLimitsOf old new
  pub keys : keys_of new.cached ≡ keys_of old.cached

-- bad blocks and closed ones but for this one are as they were, but for the count of their live pages
pub record GoesBut (block : ℕ) (old new : Ram) : Type 0 where
  pub geometry : new.geometry ≡ old.geometry
  pub next : old.next ≤ new.next
  pub shut : (b : ℕ) → b < old.geometry.blocks → b ≢ block → is_shut old.blocks b ≡ true → IsLeftButLive old.blocks new.blocks b

-- bad blocks are
pub record GoesOn (old new : Ram) : Type 0 where
  pub geometry : new.geometry ≡ old.geometry
  pub next : old.next ≤ new.next
  pub bad : (b : ℕ) → b < old.geometry.blocks → is_good_at old.blocks.table b ≡ false → IsLeftButLive old.blocks new.blocks b

-- the block is free and was erased once more, or it is bad
abbrev pub IsReleased : ℕ → State → State → Type 0
IsReleased block old new = ((is_free new block ≡ true) × (wear_at new.table block ≡ min (wear_at old.table block + 1) most_wear)) ⊎ (is_good_at new.table block ≡ false)

-- ---- what a step costs, whatever the die does

-- the block, of which no page was counted as the newest of its key, was erased, or has failed; nothing else in memory has changed but that no translation page
-- is marked
pub record HasErased (block : ℕ) (old new : Ram) : Type 0 where
  pub spent : live_at old.blocks block ≡ 0
  pub failures : ℕ
  pub counts : Erased failures (counts_of old.blocks) (counts_of new.blocks)
  pub blocks : (new.blocks ≡ erased block old.blocks) ⊎ (new.blocks ≡ without block old.blocks)
  pub geometry : new.geometry ≡ old.geometry
  pub directory : new.directory ≡ old.directory
  pub mapping : new.mapping ≡ old.mapping
  pub next : new.next ≡ old.next
  pub fault : new.fault ≡ old.fault

-- a page of a key was copied, and its new row set: at most one more sector is moved, and at most one translation page more has to be written
pub record HasCopied (flushing : Bool) (old new : Ram) : Type 0 where
  pub stream : Stream
  pub put : HasPut stream old new
  pub key : Key
  pub row : ℕ
  pub sets : SetsMapping key row old.mapping new.mapping
  pub moved : length new.mapping.moved ≤ length old.mapping.moved + 1
  pub due : due_count flushing new ≤ due_count flushing old + 1

-- A PAGE OF A KEY WAS BROUGHT OUT OF ITS BLOCK, at the cost of one page: it was copied, and its new row set or, a translation page for which
-- sectors may wait, written back. At most one more sector is moved, and at most one translation page more has to be written.
pub record HasBroughtOut (flushing : Bool) (old new : Ram) : Type 0 where
  pub stream : Stream
  pub put : HasPut stream old new
  pub key : Key
  pub row : ℕ
  pub sets : BringsOut key row old.mapping new.mapping
  pub moved : length new.mapping.moved ≤ length old.mapping.moved + 1
  pub due : due_count flushing new ≤ due_count flushing old + 1

-- WHICH PAGE IT WAS, whatever the die does: the one in the page buffer, programmed last, is of the key that was brought out
pub record IsBroughtOut (old new : Ram) (p : Page) : Type 0 where
  pub its : Record
  pub last : IsLastPage its.kind its.number new p
  pub row : ℕ
  pub sets : BringsOut (key_of its) row old.mapping new.mapping

-- The lowest translation page that is due was written back, and lacks no row: one less is due. UNLESS FLUSHING, more than the share of its
-- sectors were moved, and they are so no more.
pub record HasWritten (flushing : Bool) (old new : Ram) : Type 0 where
  pub put : HasPut Meta old new
  pub page : ℕ
  pub lowest : IsLowestDue flushing old page
  pub of_moved : flushing ≡ false → is_over old.mapping page ≡ true
  pub mapping : new.mapping ≡ cleaned old.mapping page
  pub moved : length new.mapping.moved ≤ length old.mapping.moved
  pub many : flushing ≡ false → length new.mapping.moved + old.mapping.share < length old.mapping.moved
  pub due : due_count flushing new + 1 ≤ due_count flushing old
  pub owed : owed_count flushing new + 1 ≤ owed_count flushing old

-- a page that found no block, or no sequence
pub record StreamRunsOut (old new : Ram) : Type 0 where
  pub stream : Stream
  pub out : HasRunOut stream old new

pub record StreamSpends (old new : Ram) : Type 0 where
  pub stream : Stream
  pub spent : HasSpent stream old new

-- what a refused call costs that programs one page at most
abbrev pub FaultCosts : Ram → Ram → EngineFault → Type 0
FaultCosts old new ReadOnly = StreamRunsOut old new
FaultCosts old new SequenceSpent = StreamSpends old new
FaultCosts old new Damaged = new.next ≡ old.next
FaultCosts old new Bus = Unit {0}

-- what a step costs, by what it answers; from this page on, none before it counts
abbrev pub StepCosts : Bool → (block first : ℕ) → Ram → Ram → Result Progress EngineFault → Type 0
StepCosts flushing block first old new (Ok (step.Copied page)) = (first ≤ page) × (page < old.geometry.pages) × HasBroughtOut flushing old new × (new.fault ≡ old.fault)
StepCosts flushing block first old new (Ok step.WroteBack) = HasWritten flushing old new
StepCosts flushing block first old new (Ok step.Erased) = OwesNone flushing old × HasErased block old new
StepCosts flushing block first old new (Err fault) = FaultCosts old new fault

-- ---- what it does, where the die is honest

-- the page of the row was copied, or written back: the array is as it was, no newest page is in the row, each other one is where it was, and its block has one
-- less
pub record IsMovedOut (row : ℕ) (old : Ram) (before : Image) (new : Ram) (after : Image) : Type 0 where
  pub same : IsSame old before new after
  pub gone : NotAt row after
  pub others : (key : Key) → newest_row before key ≢ Some row → newest_row after key ≡ newest_row before key
  pub fewer : live_at new.blocks (row / old.geometry.pages) + 1 ≡ live_at old.blocks (row / old.geometry.pages)

-- A page of the key was copied: the array is as it was. Where the die has version 2 the newest page of the key is of it. Each other newest page
-- stays as it is.
pub record IsRenewed (key : Key) (old : Ram) (before : Image) (new : Ram) (after : Image) : Type 0 where
  pub same : IsSame old before new after
  pub renewed : version_for old.geometry ≡ 2 → is_old after key ≡ false
  pub others : (other : Key) → other ≢ key → KeepsPage other before after

-- a page was brought out: the array is as it was, the block has one newest page less, and none up to that page
pub record IsCopied (block page : ℕ) (old : Ram) (before : Image) (new : Ram) (after : Image) : Type 0 where
  pub same : IsSame old before new after
  pub fewer : live_at new.blocks block + 1 ≡ live_at old.blocks block
  pub none : HoldsNoneIn old.geometry.pages block 0 (page + 1) after

-- the same of a look for a page to be brought out: where there is none, the block has no newest page
abbrev pub IsCopiedOr : ℕ → Ram → Image → Ram → Image → Option ℕ → Type 0
IsCopiedOr block old before new after None = IsSame old before new after × HoldsNone old.geometry.pages block after
IsCopiedOr block old before new after (Some page) = IsCopied block page old before new after

-- a translation page was written, or the block was erased: the array is as it was, and the block has no newest page
pub record IsEmptied (block : ℕ) (old : Ram) (before : Image) (new : Ram) (after : Image) : Type 0 where
  pub same : IsSame old before new after
  pub none : live_at new.blocks block ≡ 0

abbrev pub IsStepped : ℕ → Ram → Image → Ram → Image → Progress → Type 0
IsStepped block old before new after (step.Copied page) = IsCopied block page old before new after
IsStepped block old before new after step.WroteBack = IsEmptied block old before new after
IsStepped block old before new after step.Erased = IsEmptied block old before new after

-- ---- what a collection costs

-- so many pages were programmed in each stream, each with its failures
pub record HasProgrammed (first now : Ram) (data_pages meta_pages : ℕ) : Type 0 where
  pub account : Spending first.geometry.pages (counts_of first.blocks) (counts_of now.blocks) data_pages meta_pages
  pub next : now.next + (counts_of now.blocks).good ≡ first.next + (data_pages + meta_pages) + (counts_of first.blocks).good

-- THE STEPS OF A COLLECTION before its erase, the latest first: each brings a page out, or writes a translation page back that has to be. Before them nothing has
-- changed but the pin.
abbrev pub LeadTo : Bool → Ram → List Step → Ram → Type 0
LeadTo flushing old [] new = new ≡ record old { pin = record { block = new.pin.block; marks = old.pin.marks } }
LeadTo flushing old (steps.Copied ∷ before) new = (mid : Ram) × LeadTo flushing old before mid × HasBroughtOut flushing mid new
LeadTo flushing old (steps.WroteBack ∷ before) new = (mid : Ram) × LeadTo flushing old before mid × HasWritten flushing mid new
LeadTo flushing old (steps.Erased ∷ before) new = ⊥

-- how many of them brought a page out
abbrev pub copies_in : List Step → ℕ
copies_in [] = 0
copies_in (steps.Copied ∷ before) = copies_in before + 1
copies_in (steps.WroteBack ∷ before) = copies_in before
copies_in (steps.Erased ∷ before) = copies_in before

-- and how many wrote a translation page back that had to be
abbrev pub written_in : List Step → ℕ
written_in [] = 0
written_in (steps.Copied ∷ before) = written_in before
written_in (steps.WroteBack ∷ before) = written_in before + 1
written_in (steps.Erased ∷ before) = written_in before

-- how much too many there are: in a flush the translation pages that are due, and else the moved sectors beyond those that may wait
abbrev pub excess : Bool → Ram → ℕ
excess true r = due_count true r
excess false r = length r.mapping.moved - waiting r

-- one more translation page has to be written back
pub record OwesPage (flushing : Bool) (r : Ram) : Type 0 where
  pub due : 0 < due_count flushing r
  pub many : flushing ≡ false → waiting r < length r.mapping.moved

-- THE ACCOUNT OF A COLLECTION that has brought so many pages out, its copies, and then written so many translation pages back. In a flush these, and those that are due,
-- are no more than the copies and those that were due at first. Else each was written for more than the share of the moved sectors, and only while
-- more were moved than may wait. None is written twice.
pub record IsAccount (flushing : Bool) (first now : Ram) (copies written : ℕ) : Type 0 where
  pub flushed : flushing ≡ true → written + due_count flushing now ≤ copies + due_count flushing first
  pub share : now.mapping.share ≡ first.mapping.share
  pub moved : flushing ≡ false → Accounts first.mapping.share (length first.mapping.moved) copies written (length now.mapping.moved)
  pub last : flushing ≡ false → (written ≡ 0) ⊎ ((first.mapping.share + 1) * written + waiting first ≤ length first.mapping.moved + copies + first.mapping.share)
  pub once : written + due_count flushing now ≤ translation_pages first.geometry

-- So far so many pages were brought out and so many translation pages written back, step by step.
pub record Ledger (flushing : Bool) (first now : Ram) : Type 0 where
  pub steps_taken : List Step
  pub lead : LeadTo flushing first steps_taken now
  pub copies : ℕ
  pub written : ℕ
  pub copies_are : copies ≡ copies_in steps_taken
  pub written_are : written ≡ written_in steps_taken
  pub data_pages : ℕ
  pub meta_pages : ℕ
  pub pages : data_pages + meta_pages ≡ copies + written
  pub programmed : HasProgrammed first now data_pages meta_pages
  pub account : IsAccount flushing first now copies written

-- pages brought out, translation pages until none has to be written, and the erase of the block
pub record HasCollected (flushing : Bool) (block : ℕ) (old new : Ram) : Type 0 where
  pub mid : Ram
  pub ledger : Ledger flushing old mid
  pub none : OwesNone flushing mid
  pub erase : HasErased block mid new

-- WHERE THE DIE IS HONEST, and no more sectors were moved before than may wait: a block with so many newest pages costs as many copies at most,
-- and one translation page for each `share + 1` of them, and no more of these than there are
pub record CollectsFew (flushing : Bool) (block : ℕ) (old new : Ram) : Type 0 where
  pub collected : HasCollected flushing block old new
  pub copies : collected.ledger.copies ≤ live_at old.blocks block
  pub written : collected.ledger.written ≤ min (div_ceil (live_at old.blocks block) (old.mapping.share + 1)) (translation_pages old.geometry)

-- copies and translation pages, and one more page that found no block, or no sequence
pub record HasStuck (flushing : Bool) (old new : Ram) : Type 0 where
  pub mid : Ram
  pub ledger : Ledger flushing old mid
  pub out : StreamRunsOut mid new

pub record HasSpentIn (flushing : Bool) (old new : Ram) : Type 0 where
  pub mid : Ram
  pub ledger : Ledger flushing old mid
  pub out : StreamSpends mid new

abbrev pub CollectCosts : Bool → ℕ → Ram → Ram → Result (Unit {0}) EngineFault → Type 0
CollectCosts flushing block old new (Ok done) = HasCollected flushing block old new
CollectCosts flushing block old new (Err ReadOnly) = HasStuck flushing old new
CollectCosts flushing block old new (Err SequenceSpent) = HasSpentIn flushing old new
CollectCosts flushing block old new (Err Damaged) = Unit {0}
CollectCosts flushing block old new (Err Bus) = Unit {0}

-- ---- the count, where the die is honest and the block has at most vmax_at newest pages

-- FEWER PAGES THAN A BLOCK HAS were programmed, but for one more for each failure
abbrev pub IsThrifty : Ram → Ram → Type 0
IsThrifty old new = new.next + (counts_of new.blocks).good + 1 ≤ old.next + (counts_of old.blocks).good + old.geometry.pages

-- what a collection brings, and where it found no free block, how few there were
abbrev pub CollectCounts : Ram → Ram → Result (Unit {0}) EngineFault → Type 0
CollectCounts old new (Ok done) = Collected old.geometry.pages (counts_of old.blocks) (counts_of new.blocks)
CollectCounts old new (Err ReadOnly) = Stuck (counts_of old.blocks) (counts_of new.blocks)
CollectCounts old new (Err SequenceSpent) = Unit {0}
CollectCounts old new (Err Damaged) = ⊥
CollectCounts old new (Err Bus) = Unit {0}

-- ---- room for a call

-- no closed block has as few live pages
pub record HasNoneWorth (r : Ram) : Type 0 where
  pub none : (b : ℕ) → b < r.geometry.blocks → is_closed r.blocks b ≡ true → vmax_at r.geometry r.mapping.share < live_at r.blocks b

-- what there is when room was made: five free blocks, and as many as are wanted unless no block is worth collecting
pub record HasRoom (many : ℕ) (r : Ram) : Type 0 where
  pub five : 5 ≤ free_count r.blocks
  pub wanted : (many ≤ free_count r.blocks) ⊎ HasNoneWorth r

-- FEWER BLOCKS ARE GOOD than so many free ones ask for: `need_at` asks for nine and those of a flush
abbrev pub LacksBlocks : ℕ → Ram → Ram → Type 0
LacksBlocks many old new = (counts_of new.blocks).good + (9 + flush_blocks_at old.geometry old.mapping.share) < need_at old.geometry old.mapping.share + many

-- why there is none, whatever the die does
abbrev pub RoomTells : Ram → EngineFault → Type 0
RoomTells new ReadOnly = free_count new.blocks < 5
RoomTells new SequenceSpent = new.next ≡ 2 ^ 64 - 1
RoomTells new Damaged = Unit {0}
RoomTells new Bus = Unit {0}

-- The array is as it was, and no bad block has more newest pages. Where the die has version 2, no newest page of version 1 is added.
pub record IsRearranged (old : Ram) (before : Image) (new : Ram) (after : Image) : Type 0 where
  pub truth : IsTrue None new after
  pub array : array_of old.geometry after ≡ array_of old.geometry before
  pub bad : (b : ℕ) → b < old.geometry.blocks → is_good_at old.blocks.table b ≡ false → live_at new.blocks b ≤ live_at old.blocks b
  pub versions : AddsNoOld old.geometry before after

-- after a fault
abbrev pub RoomRefused : Ram → Image → Ram → Image → EngineFault → Type 0
RoomRefused old before new after ReadOnly = IsRearranged old before new after
RoomRefused old before new after SequenceSpent = IsRearranged old before new after
RoomRefused old before new after Damaged = ⊥
RoomRefused old before new after Bus = Unit {0}

-- THE COUNT: with so many failures before it the pool held five blocks' pages but for a block for each failure, and so it does now; as many blocks
-- are free as are wanted, unless too few are good
pub record HasRegained (many failures : ℕ) (old new : Ram) : Type 0 where
  pub its_failures : ℕ
  pub good : (counts_of old.blocks).good ≡ (counts_of new.blocks).good + its_failures
  pub funded : IsFunded old.geometry.pages (failures + its_failures) (counts_of new.blocks)
  pub wanted : LacksBlocks many old new ⊎ (many ≤ (counts_of new.blocks).free)

-- refused: too few blocks are good, or three have failed, here and before
abbrev pub RoomCounts : (many failures : ℕ) → Ram → Ram → Result (Unit {0}) EngineFault → Type 0
RoomCounts many failures old new (Ok done) = HasRegained many failures old new
RoomCounts many failures old new (Err ReadOnly) = LacksBlocks many old new ⊎ (3 + (counts_of new.blocks).good ≤ failures + (counts_of old.blocks).good)
RoomCounts many failures old new (Err SequenceSpent) = Unit {0}
RoomCounts many failures old new (Err Damaged) = ⊥
RoomCounts many failures old new (Err Bus) = Unit {0}

-- ---- a page is rescued

-- a bad block that has a newest page, by the memory's counts
pub record IsAiling (s : State) (block : ℕ) : Type 0 where
  pub within : block < s.geometry.blocks
  pub bad : is_good_at s.table block ≡ false
  pub some : 0 < live_at s block

abbrev pub HasAiling : State → Type 0
HasAiling s = (block : ℕ) × IsAiling s block

-- no bad block has one
abbrev pub HasNoneAiling : State → Type 0
HasNoneAiling s = (b : ℕ) → b < s.geometry.blocks → is_good_at s.table b ≡ false → live_at s b ≡ 0

-- the page of lowest row in a bad block that is the newest of its key
pub record IsFirstAiling (s : State) (row : ℕ) (body : List ℕ) (r : Record) (image : Image) : Type 0 where
  pub ailing : IsAiling s (row / s.geometry.pages)
  pub lowest : (b p : ℕ) → b < s.geometry.blocks → is_good_at s.table b ≡ false → p < s.geometry.pages → b * s.geometry.pages + p < row → NotAt (b * s.geometry.pages + p) image
  pub live : IsLivePage row body r image

-- what a look for it finds
abbrev pub FindsAiling : State → List ℕ → Image → Option (ℕ × Record) → Type 0
FindsAiling s body image None = HasNoneAiling s
FindsAiling s body image (Some found) = IsFirstAiling s found.0 body found.1 image

-- THE PAGE THAT FOLLOWS A COPY of a page of `key`, just where its sector is not cached: the translation page of that sector
pub record FollowsCopy (r : Ram) (key other : Key) : Type 0 where
  pub sector : ℕ
  pub of_sector : key ≡ Sector sector
  pub uncached : slot_of r.mapping sector ≡ None
  pub page_is : other ≡ Translation (sector / entries r.geometry)

-- in the mapping: nothing, where the sector is cached, and else that page lacks no row
abbrev pub IsFollowed : Key → (old new : MappingState) → Type 0
IsFollowed (Sector n) old new = (IsSome (slot_of old n) × (new ≡ old)) ⊎ ((slot_of old n ≡ None) × (new ≡ cleaned old (n / per_page old)))
IsFollowed (Translation t) old new = new ≡ old
IsFollowed (Table u) old new = new ≡ old

-- and what is programmed: nothing, where the sector is cached, and else that page
abbrev pub PutsBehind : Key → Ram → Ram → Type 0
PutsBehind (Sector n) old new = (IsSome (slot_of old.mapping n) × (new ≡ old)) ⊎ ((slot_of old.mapping n ≡ None) × HasPut Meta old new)
PutsBehind (Translation t) old new = new ≡ old
PutsBehind (Table u) old new = new ≡ old

-- by what is answered
abbrev pub FollowCosts : Key → Ram → Ram → Result (Unit {0}) EngineFault → Type 0
FollowCosts key old new (Ok done) = PutsBehind key old new
FollowCosts key old new (Err fault) = FaultCosts old new fault

-- one page, or none, was programmed, and the next one found no block
pub record RescueRunsOut (old new : Ram) : Type 0 where
  pub mid : Ram
  pub data_pages : ℕ
  pub meta_pages : ℕ
  pub few : data_pages + meta_pages ≤ 1
  pub programmed : HasProgrammed old mid data_pages meta_pages
  pub out : StreamRunsOut mid new

-- or no sequence
pub record RescueSpends (old new : Ram) : Type 0 where
  pub mid : Ram
  pub data_pages : ℕ
  pub meta_pages : ℕ
  pub few : data_pages + meta_pages ≤ 1
  pub programmed : HasProgrammed old mid data_pages meta_pages
  pub spent : StreamSpends mid new

-- ONE PAGE WAS RESCUED: a page of a key was copied, and behind it the translation page of its sector was written back, just where the sector is not
-- cached. So one page was programmed or two, and those that failed.
pub record HasRescuedPage (old new : Ram) : Type 0 where
  pub mid : Ram
  pub copied : HasCopied false old mid
  pub behind : PutsBehind copied.key mid new
  pub mapping : IsFollowed copied.key mid.mapping new.mapping
  pub data_pages : ℕ
  pub meta_pages : ℕ
  pub some : 1 ≤ data_pages + meta_pages
  pub few : data_pages + meta_pages ≤ 2
  pub programmed : HasProgrammed old new data_pages meta_pages

-- what it costs, whatever the die does: nothing where there was none, else a page or two
abbrev pub RescueCosts : Ram → Ram → Result Bool EngineFault → Type 0
RescueCosts old new (Ok false) = new ≡ old
RescueCosts old new (Ok true) = HasRescuedPage old new
RescueCosts old new (Err ReadOnly) = RescueRunsOut old new
RescueCosts old new (Err SequenceSpent) = RescueSpends old new
RescueCosts old new (Err Damaged) = Unit {0}
RescueCosts old new (Err Bus) = Unit {0}

-- the array is as it was; the page that follows the copy is in version 2, where the die has it, and each other newest page stays as it is
pub record IsFollowedBy (key : Key) (old : Ram) (before : Image) (new : Ram) (after : Image) : Type 0 where
  pub same : IsSame old before new after
  pub renewed : version_for old.geometry ≡ 2 → (other : Key) → FollowsCopy old key other → is_old after other ≡ false
  pub others : (other : Key) → ¬ FollowsCopy old key other → KeepsPage other before after

-- ONE PAGE, THAT OF LOWEST ROW among the newest ones in bad blocks, has left its row. Each other newest page is where it was but, of a sector's that
-- is not cached, its translation page.
pub record LeavesLowest (old : Ram) (before after : Image) : Type 0 where
  pub row : ℕ
  pub key : Key
  pub ailing : IsAiling old.blocks (row / old.geometry.pages)
  pub newest : newest_row before key ≡ Some row
  pub lowest : (b p : ℕ) → b < old.geometry.blocks → is_good_at old.blocks.table b ≡ false → p < old.geometry.pages → b * old.geometry.pages + p < row → NotAt (b * old.geometry.pages + p) before
  pub gone : NotAt row after
  pub others : (other : Key) → newest_row before other ≢ Some row → ¬ FollowsCopy old key other → newest_row after other ≡ newest_row before other

-- the array is as it was; there was a newest page in a bad block just where it says so, and the one of lowest row has left its block
pub record IsRescued (old : Ram) (before : Image) (new : Ram) (after : Image) (found : Bool) : Type 0 where
  pub same : IsSame old before new after
  pub lowest : found ≡ true → LeavesLowest old before after
  pub some : found ≡ true → (block : ℕ) × IsAiling old.blocks block × (live_at new.blocks block < live_at old.blocks block)
  pub none : found ≡ false → HasNoneAiling old.blocks
  pub bad : (b : ℕ) → b < old.geometry.blocks → is_good_at old.blocks.table b ≡ false → live_at new.blocks b ≤ live_at old.blocks b
