-- Logs of programs and erases: what they count, and which blocks they leave good.
use Rattle.std.specs.Prelude.{◌≡◌, ◌≢◌, ◌↔◌, ◌⊎◌, ◌<◌, ℕ, ◌+◌, ◌/◌, ◌==◌, ◌&&◌, ◌||◌, nat_le, not, Bool, true, false, List, [], ◌∷◌, ◌++◌, length, map}
use Rattle.std.specs.Prelude.{sum_by, slice_get, Some, ◌^◌}
use Rattle.std.specs.List.{list_all, range_with_len}
use Rattle.page_layout.specs.declared.geometry.Geometry.{Geometry}
use Rattle.page_layout.specs.Geometry.{need_at}
use Rattle.page_layout.specs.Page.{Page, Image}
use Rattle.page_layout.specs.Sound.{is_erased_page}
use Rattle.page_layout.specs.Block.{block_pages}
use Rattle.page_layout.specs.Change.{one_if}
use Rattle.page_layout.specs.Count.{blocks_that}
use Rattle.page_layout.specs.Flash.{Operation, Program, Erase, Flash, Leads, IsWhole, next_page_at}

-- the block that an operation names
abbrev pub block_of : ℕ → Operation → ℕ
block_of pages (Program row page passed left) = row / pages
block_of pages (Erase block passed left) = block

-- by the die's word
abbrev pub has_passed : Operation → Bool
has_passed (Program row page passed left) = passed
has_passed (Erase block passed left) = passed

-- ---- counts of what was asked for, failing ones too

abbrev pub programs_in : List Operation → ℕ
programs_in [] = 0
programs_in (Program row page passed left ∷ log) = programs_in log + 1
programs_in (Erase block passed left ∷ log) = programs_in log

abbrev pub erases_in : List Operation → ℕ
erases_in [] = 0
erases_in (Program row page passed left ∷ log) = erases_in log
erases_in (Erase block passed left ∷ log) = erases_in log + 1

-- the same of one block
abbrev pub programs_of : ℕ → List Operation → ℕ → ℕ
programs_of pages [] block = 0
programs_of pages (Program row page passed left ∷ log) block = programs_of pages log block + one_if (row / pages == block)
programs_of pages (Erase other passed left ∷ log) block = programs_of pages log block

abbrev pub erases_of : List Operation → ℕ → ℕ
erases_of [] block = 0
erases_of (Program row page passed left ∷ log) block = erases_of log block
erases_of (Erase other passed left ∷ log) block = erases_of log block + one_if (other == block)

-- the erases of one block that passed
abbrev pub passed_erases_of : List Operation → ℕ → ℕ
passed_erases_of [] block = 0
passed_erases_of (Program row page passed left ∷ log) block = passed_erases_of log block
passed_erases_of (Erase other passed left ∷ log) block = passed_erases_of log block + one_if (passed && (other == block))

-- ---- bad, good and free blocks

-- an operation on the block failed
abbrev pub failed_in : ℕ → List Operation → ℕ → Bool
failed_in pages [] block = false
failed_in pages (op ∷ log) block = (not (has_passed op) && (block_of pages op == block)) || failed_in pages log block

-- a block is bad that was bad before the log, or failed in it
abbrev pub bad_of : ℕ → (ℕ → Bool) → List Operation → ℕ → Bool
bad_of pages bad log block = bad block || failed_in pages log block

-- the others are good
abbrev pub good_of : ℕ → (ℕ → Bool) → List Operation → ℕ → Bool
good_of pages bad log block = not (bad_of pages bad log block)

-- a good block is free whose pages are all erased in the image
abbrev pub free_of : Geometry → (ℕ → Bool) → List Operation → Image → ℕ → Bool
free_of g bad log image block = good_of g.pages bad log block && list_all is_erased_page (block_pages g image block)

-- how many there are
abbrev pub good_count_after : Geometry → (ℕ → Bool) → List Operation → ℕ
good_count_after g bad log = blocks_that g (good_of g.pages bad log)

abbrev pub free_count_after : Geometry → (ℕ → Bool) → List Operation → Image → ℕ
free_count_after g bad log image = blocks_that g (free_of g bad log image)

abbrev pub failed_count : Geometry → List Operation → ℕ
failed_count g log = blocks_that g (failed_in g.pages log)

-- A SHORTAGE. After the call fewer than `need_at` blocks are good, or more than two failed in the call, or the device was read-only
-- before it. `before` is the log up to the call, `call` what the call added.
abbrev pub IsShort : Geometry → (share : ℕ) → (ℕ → Bool) → (before call : List Operation) → Bool → Type 0
IsShort g share bad before call ro = (good_count_after g bad (before ++ call) < need_at g share) ⊎ (2 < failed_count g call) ⊎ (ro ≡ true)

-- ---- laws

-- a log in two parts counts what both count
pub record CountsJoin (pages block : ℕ) (xs ys : List Operation) : Type 0 where
  pub programs : programs_in (xs ++ ys) ≡ programs_in xs + programs_in ys
  pub erases : erases_in (xs ++ ys) ≡ erases_in xs + erases_in ys
  pub programs_at : programs_of pages (xs ++ ys) block ≡ programs_of pages xs block + programs_of pages ys block
  pub erases_at : erases_of (xs ++ ys) block ≡ erases_of xs block + erases_of ys block
  pub passed_erases_at : passed_erases_of (xs ++ ys) block ≡ passed_erases_of xs block + passed_erases_of ys block

abbrev pub CountsLaw : Type 0
CountsLaw = (pages block : ℕ) (xs ys : List Operation) → CountsJoin pages block xs ys

-- of what may follow a log only an erase of the block that passes counts as one: no erase of it that fails, none of another block, and
-- no program
pub record CountsPassed (log : List Operation) (block : ℕ) : Type 0 where
  pub passes : (left : List Page) → passed_erases_of (log ++ Erase block true left ∷ []) block ≡ passed_erases_of log block + 1
  pub fails : (left : List Page) → passed_erases_of (log ++ Erase block false left ∷ []) block ≡ passed_erases_of log block
  pub elsewhere : (other : ℕ) (passed : Bool) (left : List Page) → other ≢ block → passed_erases_of (log ++ Erase other passed left ∷ []) block ≡ passed_erases_of log block
  pub programs : (row : ℕ) (page left : Page) (passed : Bool) → passed_erases_of (log ++ Program row page passed left ∷ []) block ≡ passed_erases_of log block

abbrev pub PassedErasesLaw : Type 0
PassedErasesLaw = (log : List Operation) (block : ℕ) → (passed_erases_of [] block ≡ 0) × CountsPassed log block

-- the bad blocks of a log in two parts: the first part's, carried on
abbrev pub BadJoinLaw : Type 0
BadJoinLaw = (pages block : ℕ) (bad : ℕ → Bool) (xs ys : List Operation) → bad_of pages bad (xs ++ ys) block ≡ bad_of pages (bad_of pages bad xs) ys block

-- a bad block stays so
abbrev pub BadStaysLaw : Type 0
BadStaysLaw = (pages block : ℕ) (bad : ℕ → Bool) (xs ys : List Operation) → bad_of pages bad xs block ≡ true → bad_of pages bad (xs ++ ys) block ≡ true

-- a log leaves nothing out: the die counts for each block what was asked for, and the log has it all
pub record CountsAll (old new : Flash) (log : List Operation) (block : ℕ) : Type 0 where
  pub programs : (next_page_at old block).programs + programs_of old.geometry.pages log block < 2 ^ 64
      → (next_page_at new block).programs ≡ (next_page_at old block).programs + programs_of old.geometry.pages log block
  pub erases : (next_page_at old block).erases + erases_of log block < 2 ^ 64 → (next_page_at new block).erases ≡ (next_page_at old block).erases + erases_of log block

abbrev pub CompleteLaw : Type 0
CompleteLaw = (old new : Flash) (log : List Operation) (block : ℕ) → block < length old.next_pages → Leads old log new → CountsAll old new log block

-- ---- what the counts are

-- what a log counts in all is what it counts of each block, together
pub record CountsEach (g : Geometry) (log : List Operation) : Type 0 where
  pub programs : programs_in log ≡ sum_by (λ block. programs_of g.pages log block) (range_with_len 0 g.blocks)
  pub erases : erases_in log ≡ sum_by (λ block. erases_of log block) (range_with_len 0 g.blocks)

abbrev pub SumsLaw : Type 0
SumsLaw = (old new : Flash) (log : List Operation) → IsWhole old → Leads old log new → CountsEach old.geometry log

-- and so it is what the blocks of the die have counted since, where none of them stands at its top
pub record CountsSince (old new : Flash) (log : List Operation) : Type 0 where
  pub programs : ((block : ℕ) → (next_page_at old block).programs + programs_of old.geometry.pages log block < 2 ^ 64)
      → sum_by (λ block. (next_page_at new block).programs) (range_with_len 0 old.geometry.blocks) ≡ sum_by (λ block. (next_page_at old block).programs) (range_with_len 0 old.geometry.blocks) + programs_in log
  pub erases : ((block : ℕ) → (next_page_at old block).erases + erases_of log block < 2 ^ 64)
      → sum_by (λ block. (next_page_at new block).erases) (range_with_len 0 old.geometry.blocks) ≡ sum_by (λ block. (next_page_at old block).erases) (range_with_len 0 old.geometry.blocks) + erases_in log

abbrev pub SinceLaw : Type 0
SinceLaw = (old new : Flash) (log : List Operation) → IsWhole old → Leads old log new → CountsSince old new log

-- an operation of the log named the block and failed
pub record HasFailed (pages : ℕ) (log : List Operation) (block : ℕ) : Type 0 where
  pub before : List Operation
  pub op : Operation
  pub after : List Operation
  pub log_is : log ≡ before ++ op ∷ after
  pub names : block_of pages op ≡ block
  pub fails : has_passed op ≡ false

-- `failed_in` tells just that, whatever else the log has
abbrev pub FailedLaw : Type 0
FailedLaw = (pages block : ℕ) (log : List Operation) → (failed_in pages log block ≡ true) ↔ HasFailed pages log block

-- each block is good or bad
abbrev pub GoodLaw : Type 0
GoodLaw = (g : Geometry) (bad : ℕ → Bool) (log : List Operation) → good_count_after g bad log + blocks_that g (bad_of g.pages bad log) ≡ g.blocks

-- the pages of the block are erased
abbrev pub AreErased : Geometry → Image → ℕ → Type 0
AreErased g image block = (row : ℕ) (its : Page) → row / g.pages ≡ block → slice_get image row ≡ Some its → is_erased_page its ≡ true

-- a block is free just where it is not bad and its pages are erased
abbrev pub FreeLaw : Type 0
FreeLaw = (g : Geometry) (bad : ℕ → Bool) (log : List Operation) (image : Image) (block : ℕ) → (free_of g bad log image block ≡ true)
    ↔ ((bad_of g.pages bad log block ≡ false) × AreErased g image block)

-- each block is free or isn't
abbrev pub FreeCountLaw : Type 0
FreeCountLaw = (g : Geometry) (bad : ℕ → Bool) (log : List Operation) (image : Image) → free_count_after g bad log image + blocks_that g (λ block. not (free_of g bad log image block)) ≡ g.blocks

-- ---- shortages worked out by hand, of a die of 24 blocks that needs 17

-- the blocks from this one on were bad before
abbrev pub bad_from : ℕ → ℕ → Bool
bad_from first block = nat_le first block

-- erases of these blocks, which failed
abbrev pub failing : List ℕ → List Operation
failing blocks = map (λ block. Erase block false []) blocks

-- 5 blocks are good
abbrev pub FewGoodLaw : Type 0
FewGoodLaw = (g : Geometry) (share : ℕ) → g.blocks ≡ 24 → need_at g share ≡ 17 → IsShort g share (bad_from 5) [] [] false

-- 21 blocks are good, and three failed in the call
abbrev pub ThreeFailedLaw : Type 0
ThreeFailedLaw = (g : Geometry) (share : ℕ) → g.blocks ≡ 24 → need_at g share ≡ 17 → IsShort g share (bad_from 24) [] (failing (1 ∷ 2 ∷ 3 ∷ [])) false

-- 18 blocks were good before the call, and two failed in it: 16 are left
abbrev pub FewLeftLaw : Type 0
FewLeftLaw = (g : Geometry) (share : ℕ) → g.blocks ≡ 24 → need_at g share ≡ 17 → IsShort g share (bad_from 18) [] (failing (1 ∷ 2 ∷ [])) false

-- two erases failed in the call, and a program of a third block, that of the last page of block 3
abbrev pub FailedProgramLaw : Type 0
FailedProgramLaw = (g : Geometry) (share : ℕ) (page left : Page) → g.blocks ≡ 24 → g.pages ≡ 8 → need_at g share ≡ 17 → IsShort g share (bad_from 24) [] (Program 31 page false left ∷ failing (1 ∷ 2 ∷ [])) false

-- the device was read-only before
abbrev pub ReadOnlyBeforeLaw : Type 0
ReadOnlyBeforeLaw = (g : Geometry) (share : ℕ) → IsShort g share (bad_from 24) [] [] true

-- No shortage: just 17 blocks are good, and two failed in the call, one of them twice. A third had failed before it.
abbrev pub TwoFailedLaw : Type 0
TwoFailedLaw = (g : Geometry) (share : ℕ) → g.blocks ≡ 24 → need_at g share ≡ 17 → IsShort g share (bad_from 20) (failing (0 ∷ [])) (failing (1 ∷ 2 ∷ 2 ∷ [])) false → ⊥
