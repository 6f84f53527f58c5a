-- The counts that the argument on free blocks speaks of, and what each call does to them.
use Rattle.std.specs.Prelude.{◌≡◌, ℕ, ◌-◌, ◌<◌, ◌≤◌, List, Option, Some, None, IsSomeAnd}
use Rattle.page_layout.specs.declared.record.Record.{Record}
use Rattle.page_layout.specs.Geometry.{need, vmax}
use Rattle.page_layout.specs.Live.{live}
use Rattle.bad_blocks.specs.Table.{good_count}
use Rattle.budget.specs.Counts.{Counts, left_of, FitsGoodBlocks, FailsOne}
use Rattle.budget.specs.declared.stream.Stream.{Stream}
use Rattle.allocation.specs.State.{State, pointer_at, live_at, free_count, AreBlocksSafe}
use Rattle.allocation.specs.Step.{IsNextBlock, HasNone, taken, without, with_live}

-- the erased pages of an open block
abbrev pub left_in : State → Option ℕ → ℕ
left_in s None = 0
left_in s (Some block) = s.geometry.pages - pointer_at s block

-- the blocks that are good, those that are free, and what the open blocks have over
abbrev pub counts_of : State → Counts
counts_of s = record { good = good_count s.table; free = free_count s; data_left = left_in s s.data_open; meta_left = left_in s s.meta_open }

-- every live count is the number of newest pages in the block
abbrev pub IsLiveExact : State → List (Option Record) → Type 0
IsLiveExact s marks = (block : ℕ) → block < s.geometry.blocks → live_at s block ≡ live s.geometry marks block

-- With right live counts, enough good blocks and at most eight free ones, the block that is found has at most `vmax` live pages.
abbrev pub IsWorthCollecting : State → Option ℕ → Type 0
IsWorthCollecting s found = (marks : List (Option Record)) → IsLiveExact s marks → need s.geometry ≤ good_count s.table → free_count s ≤ 8 → IsSomeAnd found (λ v. live_at s v ≤ vmax s.geometry)

-- ---- the laws

-- a row was taken and its program failed
abbrev pub TakenRowFailedLaw : Type 0
TakenRowFailedLaw = (free : ℕ) (s : State) (stream : Stream) (block : ℕ) → AreBlocksSafe free s → IsNextBlock s stream block → FailsOne stream (counts_of s) (counts_of (without block (taken stream block s)))

-- there was no row to take
abbrev pub NoneLaw : Type 0
NoneLaw = (s : State) (stream : Stream) → HasNone s stream → ((counts_of s).free ≡ 0) × (left_of (counts_of s) stream ≡ 0)

-- live pages are counted
abbrev pub LiveLaw : Type 0
LiveLaw = (free : ℕ) (s : State) (block live : ℕ) → block < s.geometry.blocks → AreBlocksSafe free s → counts_of (with_live block live s) ≡ counts_of s

-- free and open blocks are good, and an open block has a page programmed
abbrev pub FitsLaw : Type 0
FitsLaw = (free : ℕ) (s : State) → AreBlocksSafe free s → FitsGoodBlocks s.geometry.pages (counts_of s)
