-- WHAT IS ASKED OF A DEVICE OF SECTORS for a task of a disk over it.
use Rattle.std.specs.Prelude.{◌≡◌, ◌⊎◌, ◌≤◌, ◌<◌, ◌+◌, ℕ, Bool, true, false, List, slice_index, Result, Ok, Err, IfErr, OnOk, OnErr}
use Rattle.nbd_stream.specs.declared.fault.DiskFault.{DiskFault}
use Rattle.nbd_stream.specs.declared.fault.DiskFault.TheVariants as fault
use Rattle.nbd_stream.specs.declared.task.Task.{Task}
use Rattle.nbd_stream.specs.declared.task.Task.TheVariants.{Read, Write, Flush, Trim, WriteZeroes}
use Rattle.nbd_stream.specs.Disk.{Contents}
use Rattle.nbd_stream.specs.Through.{Through}

-- a range of these bytes has zeros
abbrev pub HasZeros : (offset count : ℕ) → (bytes : List ℕ) → Type 0
HasZeros offset count bytes = (place : ℕ) → offset ≤ place → place < offset + count → slice_index bytes place ≡ 0

-- NOTHING IS PROGRAMMED TO CLEAR ZEROS: where the range has zeros, and the device is honest after it, only reads were asked
abbrev pub SparesZeros : {S : Type 0} → (S → Contents) → (honest : S → Bool) → (only_reads : S → S → Type 0) → (offset count : ℕ) → (old new : S) → Type 0
SparesZeros contents honest only_reads offset count old new = honest new ≡ true → HasZeros offset count (contents old).bytes → only_reads old new

-- ONE CALL OF A DEVICE OF SECTORS: a read of a sector, a change of one, or a flush
unfoldable pub AsksCall : {S : Type 0} → (reads : S → S → Type 0) → (changes flushes : S → Result (Unit {0}) DiskFault → S → Type 0) → (old new : S) → Type 0
AsksCall reads changes flushes old new = reads old new ⊎ ((result : Result (Unit {0}) DiskFault) × changes old result new) ⊎ ((result : Result (Unit {0}) DiskFault) × flushes old result new)

-- ONE OF THEM FOR A TASK THAT SETS BYTES, and its answer: a read, which may only fail, or a change
abbrev pub AsksPiece : {S : Type 0} → (reads : S → S → Type 0) → (changes : S → Result (Unit {0}) DiskFault → S → Type 0) → (old : S) → Result (Unit {0}) DiskFault → (new : S) → Type 0
AsksPiece reads changes old result new = (IfErr result (λ e. e ≡ fault.Failed) × reads old new) ⊎ changes old result new

-- STEPS, one after another: each is done, but the last one where the answer is an error, which is that one's
abbrev pub StepsTo : {S : Type 0} → (step : S → Result (Unit {0}) DiskFault → S → Type 0) → (old : S) → Result (Unit {0}) DiskFault → (new : S) → Type 0
StepsTo step old (Ok done) new = Through (λ a b. step a (Ok tt) b) old new
StepsTo {S} step old (Err e) new = (mid : S) × Through (λ a b. step a (Ok tt) b) old mid × step mid (Err e) new

-- one flush where that is asked, else nothing
abbrev pub FlushesIf : {S : Type 0} → (flushes : S → Result (Unit {0}) DiskFault → S → Type 0) → (durable : Bool) → (old : S) → Result (Unit {0}) DiskFault → (new : S) → Type 0
FlushesIf flushes true old result new = flushes old result new
FlushesIf flushes false old result new = (result ≡ Ok tt) × (new ≡ old)

-- A RANGE IS SET by reads and changes of sectors, up to the first that fails, whose fault is told; where all are done and it is to last, one flush is behind them, and else none
pub record SetsRange {S : Type 0} (reads : S → S → Type 0) (changes flushes : S → Result (Unit {0}) DiskFault → S → Type 0) (durable : Bool) (old : S) (result : Result (Unit {0}) DiskFault) (new : S) : Type 0 where
  pub mid : S
  pub answer : Result (Unit {0}) DiskFault
  pub pieces : StepsTo (AsksPiece reads changes) old answer mid
  pub done : OnOk answer (FlushesIf flushes durable mid result new)
  pub not_done : OnErr answer ((result ≡ answer) × (new ≡ mid))

-- a range is cleared by such calls, and only reads are asked where it has zeros and they need not last
pub record AsksToClear {S : Type 0} (contents : S → Contents) (honest : S → Bool) (reads : S → S → Type 0) (changes flushes : S → Result (Unit {0}) DiskFault → S → Type 0)
    (offset count : ℕ) (durable : Bool) (old : S) (result : Result (Unit {0}) DiskFault) (new : S) : Type 0 where
  pub calls : SetsRange reads changes flushes durable old result new
  pub spares : durable ≡ false → SparesZeros contents honest (Through reads) offset count old new

-- WHAT A TASK ASKS: calls of sectors, one after another. A read only reads of sectors; a flush one flush
abbrev pub AsksSectors : {S : Type 0} → (S → Contents) → (honest : S → Bool) → (reads : S → S → Type 0) → (changes flushes : S → Result (Unit {0}) DiskFault → S → Type 0)
    → S → Task → Result (Unit {0}) DiskFault → S → Type 0
AsksSectors contents honest reads changes flushes old (Read offset count) result new = Through reads old new
AsksSectors contents honest reads changes flushes old (Write offset count durable) result new = SetsRange reads changes flushes durable old result new
AsksSectors contents honest reads changes flushes old Flush result new = flushes old result new
AsksSectors contents honest reads changes flushes old (Trim offset count durable) result new = AsksToClear contents honest reads changes flushes offset count durable old result new
AsksSectors contents honest reads changes flushes old (WriteZeroes offset count durable) result new = AsksToClear contents honest reads changes flushes offset count durable old result new
