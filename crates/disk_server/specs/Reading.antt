-- A DISK THAT IS ONLY READ.
use Rattle.std.specs.Prelude.{◌≡◌, ℕ, Result, Ok, Err, slice_index}
use Rattle.nbd_stream.specs.declared.fault.DiskFault.{DiskFault}
use Rattle.nbd_stream.specs.declared.fault.DiskFault.TheVariants as fault
use Rattle.nbd_stream.specs.declared.task.Task.{Task}
use Rattle.nbd_stream.specs.declared.task.Task.TheVariants.{Read, Write, Flush, Trim, WriteZeroes}
use Rattle.nbd_stream.specs.Disk.{Contents}
use Rattle.nbd_stream.specs.Through.{Through}

-- all bytes last: if the power goes now each is as it is
abbrev pub AllLasts : Contents → Type 0
AllLasts c = (place : ℕ) → slice_index c.durable place ≡ slice_index c.bytes place

-- WHAT IS ASKED OF WHAT STANDS UNDER IT: a read asks reads of sectors. A change is refused, and a flush is done; neither asks anything
abbrev pub OnlyAsksReads : {D : Type 0} → (reads : D → D → Type 0) → D → Task → Result (Unit {0}) DiskFault → D → Type 0
OnlyAsksReads reads old (Read offset count) result new = Through reads old new
OnlyAsksReads reads old (Write offset count durable) result new = (result ≡ Err fault.ReadOnly) × (new ≡ old)
OnlyAsksReads reads old Flush result new = (result ≡ Ok tt) × (new ≡ old)
OnlyAsksReads reads old (Trim offset count durable) result new = (result ≡ Err fault.ReadOnly) × (new ≡ old)
OnlyAsksReads reads old (WriteZeroes offset count durable) result new = (result ≡ Err fault.ReadOnly) × (new ≡ old)

-- a rest asks nothing of it
abbrev pub RestsNever : {D : Type 0} → D → Result (Unit {0}) DiskFault → D → Type 0
RestsNever old result new = (result ≡ Ok tt) × (new ≡ old)

-- SO NOTHING BUT READS IS ASKED of what stands under it, whatever its task and the rest behind it
abbrev pub OnlyReadsLaw : {D : Type 0} → (reads : D → D → Type 0) → Type 0
OnlyReadsLaw {D} reads = (old mid new : D) (task : Task) (answer result : Result (Unit {0}) DiskFault) → OnlyAsksReads reads old task answer mid → RestsNever mid result new → Through reads old new
