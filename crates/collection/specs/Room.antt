-- When collections stop, and what they leave of the pool.
use Rattle.std.specs.Prelude.{◌≡◌, ◌≢◌, ◌⊎◌, ℕ, ◌+◌, ◌<◌, ◌≤◌, Bool, true, List, [], ◌∷◌, Option, None, MatchOption, Result, Err, IsOk, OnOk, IfErr, MatchResult}
use Rattle.page_layout.specs.View.{View}
use Rattle.page_layout.specs.declared.record.Record.{Record}
use Rattle.page_layout.specs.Geometry.{need_at, vmax_at, flush_blocks_at}
use Rattle.bad_blocks.specs.Table.{good_count}
use Rattle.budget.specs.Spending.{IsFunded}
use Rattle.allocation.specs.State.{free_count, live_at}
use Rattle.allocation.specs.Step.{IsVictim}
use Rattle.allocation.specs.Counts.{counts_of, IsLiveExact}
use Rattle.collection.specs.declared.engine.Engine.{Engine}
use Rattle.collection.specs.declared.engine.room.Reserve.{Reserve}
use Rattle.collection.specs.declared.engine.room.Reserve.TheVariants.{Call, Flush, Turn}
use Rattle.collection.specs.declared.fault.EngineFault.{EngineFault}
use Rattle.collection.specs.declared.fault.EngineFault.TheVariants.{Bus}
use Rattle.collection.specs.State.{Ram}
use Rattle.collection.specs.Safe.{ram, image_in}
use Rattle.collection.specs.Truth.{IsTrue}
use Rattle.collection.specs.Acts.{RestsOrErases}
use Rattle.collection.specs.Left.{IsCalm, PinHasPassed, PinIsFew}
use Rattle.collection.specs.Collect.{KeepsKeys, Refreshes, GoesOn, HasNoneWorth, HasCollected, RoomTells, IsRearranged, RoomRefused}

-- the free blocks up to which collections go on: nine for a call, with those that a flush fills before it collects again, and with three more
abbrev pub wanted : Reserve → Ram → ℕ
wanted Call r = 9
wanted Flush r = 9 + flush_blocks_at r.geometry r.mapping.share
wanted Turn r = 12 + flush_blocks_at r.geometry r.mapping.share

-- No block is collected: so many are free, or none is worth it. With right live counts, and `need_at` good blocks for nine free ones and those of a
-- flush, so many are free.
pub record IsMade (many : ℕ) (r : Ram) : Type 0 where
  pub room : (many ≤ free_count r.blocks) ⊎ HasNoneWorth r
  pub enough : (marks : List (Option Record)) → IsLiveExact r.blocks marks
      → need_at r.geometry r.mapping.share + many ≤ good_count r.blocks.table + (9 + flush_blocks_at r.geometry r.mapping.share) → many ≤ free_count r.blocks

-- this one is: fewer are free, and it is the next victim, which has few live pages
pub record IsWorth (many : ℕ) (r : Ram) (block : ℕ) : Type 0 where
  pub scarce : free_count r.blocks < many
  pub victim : IsVictim r.blocks r.blocks.geometry.blocks block
  pub small : live_at r.blocks block ≤ vmax_at r.geometry r.mapping.share

-- the block that is collected next: with fewer free ones than are wanted it is the pinned one, and with none pinned the next victim, if that has
-- few live pages
pub record IsNextFor (many : ℕ) (r : Ram) (block : ℕ) : Type 0 where
  pub scarce : free_count r.blocks < many
  pub which : MatchOption r.pin.block (IsWorth many r block) (λ p. p.block ≡ block)

-- WHICH BLOCKS WERE COLLECTED, the latest first: each was the next one then, and was copied out of and erased
abbrev pub Collects : ℕ → Bool → Ram → List ℕ → Ram → Type 0
Collects many flushing old [] new = new ≡ old
Collects many flushing old (block ∷ before) new = (mid : Ram) × Collects many flushing old before mid × IsNextFor many mid block × HasCollected flushing block mid new

-- with so many failures before, and its own, the pool still holds five blocks' pages but for a block for each failure
pub record IsFundedOn (failures : ℕ) (old now : Ram) : Type 0 where
  pub its_failures : ℕ
  pub good : (counts_of old.blocks).good ≡ (counts_of now.blocks).good + its_failures
  pub funded : IsFunded old.geometry.pages (failures + its_failures) (counts_of now.blocks)

-- MAKING ROOM, where no fault stood: the cache stays, and bad blocks do; the pinned block was collected first, and then each time the next
-- victim; nothing was done where as many blocks were free as are wanted. Where the die is honest, the array is as it was.
pub record MakesRoom {N : Type 0} (view : View N) (many : ℕ) (flushing : Bool) (old new : Engine N) (result : Result (Unit {0}) EngineFault) : Type 0 where
  pub calm : OnOk result (IsCalm (ram new))
  pub goes : GoesOn (ram old) (ram new)
  pub keys : KeepsKeys old.mapping new.mapping
  pub refreshes : flushing ≡ true → Refreshes (ram old) (ram new)
  pub works : OnOk result (RestsOrErases view.erases old new)
  pub collects : OnOk result ((blocks : List ℕ) × Collects many flushing (ram old) blocks (ram new))
  pub rests : many ≤ free_count (ram old).blocks → IsOk result × (new ≡ old)
  pub tells : IfErr result (RoomTells (ram new))
  pub truth : view.honest old.nand ≡ true → IsTrue None (ram old) (image_in view.flash old) → PinHasPassed (ram old) (image_in view.flash old)
      → MatchResult result
      (λ done. IsRearranged (ram old) (image_in view.flash old) (ram new) (image_in view.flash new))
      (RoomRefused (ram old) (image_in view.flash old) (ram new) (image_in view.flash new))
  pub few : view.honest old.nand ≡ true → IsTrue None (ram old) (image_in view.flash old) → PinHasPassed (ram old) (image_in view.flash old) → PinIsFew 0 (ram old) → result ≢ Err Bus → PinIsFew 0 (ram new)
