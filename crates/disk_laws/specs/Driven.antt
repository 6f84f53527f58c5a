-- WHAT A DRIVER ASKS OF A DIE IN A STORE, by its contract, and what its record gains: so the record tells what a loss of power, or a call that the file refused, may leave of the store.
use Rattle.std.specs.Prelude.{◌≡◌, ◌<◌, ◌⊎◌, ℕ, Bool, true, List, [], ◌∷◌, ◌++◌, length, replicate, Some, None, Result, Ok, Err, IfOk, MatchResult}
use Rattle.page_layout.specs.Geometry.{row_count}
use Rattle.page_layout.specs.Page.{Image, page}
use Rattle.page_layout.specs.declared.source.SourceFault.{SourceFault}
use Rattle.page_layout.specs.Sound.{record_of}
use Rattle.page_layout.specs.Change.{erased_page}
use Rattle.page_layout.specs.Flash.{Operation, Program, Erase, Steps, block_at, page_at}
use Rattle.page_layout.specs.Recording.{Records, asked_erase, asked_program, image_after}
use Rattle.onfi_cycles.specs.declared.nand.BusFault.{BusFault}
use Rattle.onfi_cycles.specs.declared.nand.Outcome.{Outcome}
use Rattle.onfi_cycles.specs.Cycles.{Due}
use Rattle.onfi_cycles.specs.Driver.{DriverState, IsReady, cut_in, flash_by, gained}
use Rattle.onfi_cycles.specs.Outcomes.{is_passed}
use Rattle.onfi_cycles.specs.Sent.{Operates, SendsRead}
use Rattle.onfi_cycles.specs.Spelling.{erase_cycles, program_cycles, read_cycles}
use Rattle.promises.specs.Stop.{MayLeave}
use Rattle.file_die.specs.Die.{ActsOnCycle, FileState, Leaves, shown}
use Rattle.file_die.specs.Store.{Held, AreImages, page_in}
use Rattle.disk_laws.specs.Lost.{MayLose}

-- the store behind a driver
abbrev pub store_behind : {S : Type 0} → (S → Held) → DriverState (FileState S) → Held
store_behind held d = held d.bus.store

-- A DRIVER BETWEEN TWO CALLS knows the geometry of its die, on which no command is unfinished
pub record StandsReady {S : Type 0} (held : S → Held) (d : DriverState (FileState S)) : Type 0 where
  pub geometry : (store_behind held d).geometry ≡ d.geometry
  pub ready : IsReady d.bus.phase

-- A PROGRAM OF A PAGE, AN ERASE AND A READ, each by what a driver's contract says: which cycles it sent; where it was done the step of the die; and the operation that its record gained, or that a fault left at hand in it, or none
pub record AsksProgram {S : Type 0} (held : S → Held) (honest : S → Bool) (failed : S → ℕ) (row : ℕ) (body spare : List ℕ) (old : DriverState (FileState S)) (result : Result Outcome BusFault)
    (new : DriverState (FileState S)) : Type 0 where
  pub stands : StandsReady held old
  pub in_range : row < row_count old.geometry
  pub body_whole : length body ≡ old.geometry.data_bytes
  pub spare_whole : length spare ≡ old.geometry.spare_bytes
  pub sends : Operates (ActsOnCycle held honest failed) old.bus (program_cycles row body spare) result new.bus
  pub step : IfOk result (λ outcome. Steps (flash_by (shown held) old) (Program row (page body spare) (is_passed outcome) (page_at (flash_by (shown held) new) row)) (flash_by (shown held) new))
  pub told : MatchResult result (λ outcome. new.told ≡ gained (Program row (page body spare) (is_passed outcome) (page_at (flash_by (shown held) new) row)) old.told)
      (λ fault. new.told ≡ cut_in (asked_program row (page body spare)) old.told)

pub record AsksErase {S : Type 0} (held : S → Held) (honest : S → Bool) (failed : S → ℕ) (block : ℕ) (old : DriverState (FileState S)) (result : Result Outcome BusFault) (new : DriverState (FileState S)) : Type 0 where
  pub stands : StandsReady held old
  pub in_range : block < old.geometry.blocks
  pub sends : Operates (ActsOnCycle held honest failed) old.bus (erase_cycles old.geometry block) result new.bus
  pub step : IfOk result (λ outcome. Steps (flash_by (shown held) old) (Erase block (is_passed outcome) (block_at (flash_by (shown held) new) block)) (flash_by (shown held) new))
  pub told : MatchResult result (λ outcome. new.told ≡ gained (Erase block (is_passed outcome) (block_at (flash_by (shown held) new) block)) old.told)
      (λ fault. new.told ≡ cut_in (asked_erase old.geometry block) old.told)

pub record AsksPage {S : Type 0} (held : S → Held) (honest : S → Bool) (failed : S → ℕ) (row : ℕ) (out : List ℕ) (old : DriverState (FileState S)) (result : Result (Unit {0}) SourceFault)
    (new : DriverState (FileState S)) : Type 0 where
  pub stands : StandsReady held old
  pub in_range : row < row_count old.geometry
  pub sends : SendsRead (ActsOnCycle held honest failed) old.bus (read_cycles row old.geometry.data_bytes old.geometry.spare_bytes) out result new.bus
  pub told : new.told ≡ old.told

-- WHAT A PROGRAM OR AN ERASE DID IN THE STORE: answered `Ok` it was done there, where its block's next page allows it; with a fault it was not begun, or was, and was done or failed
abbrev pub LeavesStore : {S : Type 0} → (held : S → Held) → Due → (old : DriverState (FileState S)) → Result Outcome BusFault → (new : DriverState (FileState S)) → Type 0
LeavesStore held due old (Ok outcome) new = Leaves due (shown held old.bus).flash old.bus.sync_when (store_behind held old) true (store_behind held new)
LeavesStore held due old (Err fault) new =
    (store_behind held new ≡ store_behind held old) ⊎ ((done : Bool) × Leaves due (shown held old.bus).flash old.bus.sync_when (store_behind held old) done (store_behind held new))

-- CALLS ONE AFTER ANOTHER, each program and erase answered `Ok`, and a read with any answer, with the operations that the driver's record gained in them
pub data DriverCalls {S : Type 0} (held : S → Held) (honest : S → Bool) (failed : S → ℕ) : DriverState (FileState S) → List Operation → DriverState (FileState S) → Type 0 where
  NothingAsked : (d : DriverState (FileState S)) → DriverCalls held honest failed d [] d
  PageRead : (row : ℕ) (out : List ℕ) (result : Result (Unit {0}) SourceFault) (old mid new : DriverState (FileState S)) (log : List Operation) → AsksPage held honest failed row out old result mid
      → DriverCalls held honest failed mid log new → DriverCalls held honest failed old log new
  PageProgrammed : (row : ℕ) (body spare : List ℕ) (outcome : Outcome) (old mid new : DriverState (FileState S)) (log : List Operation) → AsksProgram held honest failed row body spare old (Ok outcome) mid
      → DriverCalls held honest failed mid log new
      → DriverCalls held honest failed old (Program row (page body spare) (is_passed outcome) (page_at (flash_by (shown held) mid) row) ∷ log) new
  BlockErased : (block : ℕ) (outcome : Outcome) (old mid new : DriverState (FileState S)) (log : List Operation) → AsksErase held honest failed block old (Ok outcome) mid
      → DriverCalls held honest failed mid log new → DriverCalls held honest failed old (Erase block (is_passed outcome) (block_at (flash_by (shown held) mid) block) ∷ log) new

-- ONE MORE THAT THE FILE REFUSED, with the operation at hand as it was asked for: the call has a fault, and the record gains nothing, and has it at hand
pub data DriverFails {S : Type 0} (held : S → Held) (honest : S → Bool) (failed : S → ℕ) (old : DriverState (FileState S)) : List Operation → DriverState (FileState S) → Type 0 where
  ReadFails : (row : ℕ) (out : List ℕ) (fault : SourceFault) (new : DriverState (FileState S)) → AsksPage held honest failed row out old (Err fault) new → DriverFails held honest failed old [] new
  ProgramFails : (row : ℕ) (body spare : List ℕ) (fault : BusFault) (new : DriverState (FileState S)) → AsksProgram held honest failed row body spare old (Err fault) new
      → DriverFails held honest failed old (Program row (page body spare) true (page body spare) ∷ []) new
  EraseFails : (block : ℕ) (fault : BusFault) (new : DriverState (FileState S)) → AsksErase held honest failed block old (Err fault) new
      → DriverFails held honest failed old (Erase block true (replicate old.geometry.pages (erased_page old.geometry)) ∷ []) new

-- each program of a log is of a row whose page has no record then, and each erase passed
abbrev pub AddsOrErases : (pages : ℕ) → Image → List Operation → Type 0
AddsOrErases pages image [] = Unit {0}
AddsOrErases pages image (Program row page passed left ∷ log) = (record_of (page_in image row) ≡ None) × AddsOrErases pages (image_after pages image (Program row page passed left)) log
AddsOrErases pages image (Erase block passed left ∷ log) = (passed ≡ true) × AddsOrErases pages (image_after pages image (Erase block passed left)) log

-- ---- laws

-- THE RECORD GAINS just the operations of the calls
abbrev pub DriverTellsLaw : {S : Type 0} → (S → Held) → (honest : S → Bool) → (failed : S → ℕ) → Type 0
DriverTellsLaw {S} held honest failed = (old new : DriverState (FileState S)) (log : List Operation) → DriverCalls held honest failed old log new → Records (Some old.told) log (Some new.told)

-- WHAT LASTS OF AN HONEST STORE after calls, since all of its pages did, as after a sync, is what a loss of power may leave by the operations that the driver's record gained since
abbrev pub DriverLosesLaw : {S : Type 0} → (S → Held) → (honest : S → Bool) → (failed : S → ℕ) → Type 0
DriverLosesLaw {S} held honest failed = (old new : DriverState (FileState S)) (log : List Operation) → honest old.bus.store ≡ true → AreImages (store_behind held old) → (store_behind held old).durable ≡ (store_behind held old).pages
    → DriverCalls held honest failed old log new → AddsOrErases (store_behind held old).geometry.pages (store_behind held old).pages log
    → MayLose (store_behind held old).geometry (store_behind held old).pages log (store_behind held new).durable

-- WHAT A CALL THAT WAS REFUSED LEAVES of an honest store's pages is what a stop may leave, by the operations that the record gained before it and the one at hand
abbrev pub DriverStopsLaw : {S : Type 0} → (S → Held) → (honest : S → Bool) → (failed : S → ℕ) → Type 0
DriverStopsLaw {S} held honest failed = (old mid new : DriverState (FileState S)) (log hand : List Operation) → honest old.bus.store ≡ true → AreImages (store_behind held old)
    → DriverCalls held honest failed old log mid → DriverFails held honest failed mid hand new
    → MayLeave (store_behind held old).geometry (store_behind held old).pages (log ++ hand) (store_behind held new).pages

-- and what lasts of the store behind it, since all of its pages did, is what a loss of power may leave by the same operations
abbrev pub StopLosesLaw : {S : Type 0} → (S → Held) → (honest : S → Bool) → (failed : S → ℕ) → Type 0
StopLosesLaw {S} held honest failed = (old mid new : DriverState (FileState S)) (log hand : List Operation) → honest old.bus.store ≡ true → AreImages (store_behind held old) → (store_behind held old).durable ≡ (store_behind held old).pages
    → DriverCalls held honest failed old log mid → DriverFails held honest failed mid hand new → AddsOrErases (store_behind held old).geometry.pages (store_behind held old).pages (log ++ hand)
    → MayLose (store_behind held old).geometry (store_behind held old).pages (log ++ hand) (store_behind held new).durable
