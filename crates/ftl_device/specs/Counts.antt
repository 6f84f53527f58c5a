-- Free and good blocks as the image and the log show them, at every call.
use Rattle.std.specs.Prelude.{◌≡◌, ◌⊎◌, ℕ, ◌+◌, ◌-◌, ◌^◌, ◌<◌, ◌++◌, not, Bool, true, false, [], List, None, Result, Ok, Err}
use Rattle.page_layout.specs.declared.geometry.Geometry.{Geometry}
use Rattle.page_layout.specs.Page.{Image}
use Rattle.page_layout.specs.Geometry.{need_at}
use Rattle.page_layout.specs.Flash.{Operation}
use Rattle.bad_blocks.specs.Table.{is_good_at, good_count}
use Rattle.allocation.specs.State.{free_count}
use Rattle.promises.specs.Log as logs
use Rattle.promises.specs.Log.{programs_in, bad_of, failed_count, IsShort}
use Rattle.promises.specs.Step.{Command, Read, Write, Trim, Flush, Turn}
use Rattle.collection.specs.State.{Ram}
use Rattle.collection.specs.Safe.{IsRam}
use Rattle.collection.specs.Truth.{IsTrue}
use Rattle.collection.specs.Log.{FollowsLog}
use Rattle.ftl_device.specs.declared.fault.DeviceFault.{DeviceFault}
use Rattle.ftl_device.specs.declared.fault.DeviceFault.TheVariants.{OutOfRange, ReadOnly, SequenceSpent, OutOfMemory, Damaged, BusFault}
use Rattle.ftl_device.specs.Calls.{IsShortOf}

-- the blocks that the memory counts as bad
abbrev pub is_bad_by : Ram → ℕ → Bool
is_bad_by r block = not (is_good_at r.blocks.table block)

-- how many blocks are free and how many are good, by the image and the blocks that the memory counts as bad
abbrev pub free_by : Ram → Image → ℕ
free_by r image = logs.free_count_after r.geometry (is_bad_by r) [] image

abbrev pub good_by : Ram → ℕ
good_by r = logs.good_count_after r.geometry (is_bad_by r) []

-- TOO FEW FREE BLOCKS, AS THE IMAGE AND THE LOG SHOW THEM. After the call fewer than five blocks are free in the image; `good` is the number of good
-- blocks then, `wanted` how many the geometry asks for at this share, `failed` the number of blocks that failed in the call. `bad` are the blocks that were bad before
-- the log, `log` leads up to the end of the call, and `call` is its last part, that the call added.
pub record IsShortIn (g : Geometry) (share : ℕ) (bad : ℕ → Bool) (log call : List Operation) (image : Image) (good wanted failed : ℕ) : Type 0 where
  pub scarce : logs.free_count_after g bad log image < 5
  pub good_is : good ≡ logs.good_count_after g bad log
  pub wanted_is : wanted ≡ need_at g share
  pub failed_is : failed ≡ failed_count g call

-- WHAT A REFUSAL SHOWS: `ReadOnly` comes only in a shortage, and has its counts. `next` was the next sequence as the log began, `before` is the
-- log up to the call, `call` what the call added, and `ro` whether the device was read-only before it.
abbrev pub IsShownByRefusal : Geometry → (share : ℕ) → (ℕ → Bool) → ℕ → (before call : List Operation) → Bool → Image → DeviceFault → Type 0
IsShownByRefusal g share bad next before call ro image OutOfRange = Unit {0}
IsShownByRefusal g share bad next before call ro image (ReadOnly good wanted failed) = IsShortIn g share bad (before ++ call) call image good wanted failed × IsShort g share bad before call ro
IsShownByRefusal g share bad next before call ro image SequenceSpent = next + programs_in (before ++ call) ≡ 2 ^ 64 - 1
IsShownByRefusal g share bad next before call ro image OutOfMemory = Unit {0}
IsShownByRefusal g share bad next before call ro image Damaged = ⊥
IsShownByRefusal g share bad next before call ro image BusFault = ⊥

abbrev pub is_flush : Command → Bool
is_flush (Read sector) = false
is_flush (Write sector bytes) = false
is_flush (Trim sector) = false
is_flush Flush = true
is_flush Turn = false

-- WHEN A CALL LEAVES THE DEVICE READ-ONLY that isn't refused for it: in a shortage, or where it is a flush in which two blocks failed.
abbrev pub IsLeftReadOnly : Command → Geometry → (share : ℕ) → (ℕ → Bool) → (before call : List Operation) → Bool → Result (Unit {0}) DeviceFault → Type 0
IsLeftReadOnly command g share bad before call ro (Ok done) = IsShort g share bad before call ro ⊎ ((is_flush command ≡ true) × (1 < failed_count g call))
IsLeftReadOnly command g share bad before call ro (Err OutOfRange) = Unit {0}
IsLeftReadOnly command g share bad before call ro (Err (ReadOnly good wanted failed)) = Unit {0}
IsLeftReadOnly command g share bad before call ro (Err SequenceSpent) = Unit {0}
IsLeftReadOnly command g share bad before call ro (Err OutOfMemory) = IsShort g share bad before call ro
IsLeftReadOnly command g share bad before call ro (Err Damaged) = Unit {0}
IsLeftReadOnly command g share bad before call ro (Err BusFault) = Unit {0}

-- ---- laws

-- where the memory is true of the image, its free blocks are those that the image shows
abbrev pub FreeNowLaw : Type 0
FreeNowLaw = (r : Ram) (image : Image) → IsRam r → IsTrue None r image → free_count r.blocks ≡ free_by r image

-- its good blocks are those that it doesn't count as bad
abbrev pub GoodNowLaw : Type 0
GoodNowLaw = (r : Ram) → IsRam r → good_count r.blocks.table ≡ good_by r

-- after a log the blocks are bad that were bad before it and those that failed in it
abbrev pub BadNowLaw : Type 0
BadNowLaw = (old new : Ram) (log : List Operation) (b : ℕ) → old.blocks.geometry ≡ old.geometry → FollowsLog old.geometry.pages log old.blocks new.blocks
    → b < old.geometry.blocks → is_bad_by new b ≡ bad_of old.geometry.pages (is_bad_by old) log b

-- too few free blocks by the memory are too few by the image and the log of the call
abbrev pub ShortOfBlocksLaw : Type 0
ShortOfBlocksLaw = (old new : Ram) (log : List Operation) (image : Image) (good wanted failed : ℕ) → IsRam old → IsRam new → new.geometry ≡ old.geometry → new.mapping.share ≡ old.mapping.share
    → FollowsLog old.geometry.pages log old.blocks new.blocks → IsTrue None new image
    → IsShortOf old new good wanted failed → IsShortIn old.geometry old.mapping.share (is_bad_by old) log log image good wanted failed
