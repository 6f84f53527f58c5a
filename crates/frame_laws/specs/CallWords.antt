-- What a disk says of the call that answered a request of NBD.
use Rattle.std.specs.Prelude.{◌≡◌, ◌≢◌, ℕ, Bool, List, Result, Ok, Err, IsOk}
use Rattle.nbd_stream.specs.declared.fault.DiskFault.{DiskFault}
use Rattle.nbd_stream.specs.declared.reply.RequestError.{RequestError}
use Rattle.nbd_stream.specs.declared.task.Task.{Task}
use Rattle.nbd_stream.specs.declared.task.Task.TheVariants.{WriteZeroes}
use Rattle.nbd_stream.specs.Disk.{Contents, asked_as, bytes_after, bytes_given, error_for, makes_last}
use Rattle.nbd_stream.specs.Exchanges.{NbdExchange, TellsBy}

-- WHAT THE DISK ITSELF IS ASKED gives, sets and makes last what the request asks, and is never the task for zeroes
abbrev pub DiskAskedLaw : Type 0
DiskAskedLaw = (task : Task) (body bytes : List ℕ) (place : ℕ)
    → (bytes_given (asked_as task) bytes ≡ bytes_given task bytes)
    × (bytes_after (asked_as task) body bytes ≡ bytes_after task body bytes)
    × (makes_last (asked_as task) place ≡ makes_last task place)
    × ((offset count : ℕ) (durable : Bool) → asked_as task ≢ WriteZeroes offset count durable)

-- A REQUEST THAT IS ANSWERED WITHOUT AN ERROR is a call that the disk says was done; and an error is the one that the disk's call ended with
abbrev pub CallWordLaw : {D : Type 0} → (D → Contents) → (honest calm : D → Bool) → (does : D → Task → Result (Unit {0}) DiskFault → D → Type 0) → Type 0
CallWordLaw {D} contents honest calm does = (task : Task) (old new : D) (x : NbdExchange) → TellsBy contents honest calm does (Ok task) old x new
    → (IsOk x.answer → does old (asked_as task) (Ok tt) new)
    × ((error : RequestError) → x.answer ≡ Err error → (fault : DiskFault) × (error_for fault ≡ error) × does old (asked_as task) (Err fault) new)
