-- What a disk says of a rest, between two requests of NBD.
use Rattle.std.specs.Prelude.{◌≡◌, Bool, true, Option, None, Some, Result}
use Rattle.nbd_stream.specs.declared.fault.DiskFault.{DiskFault}
use Rattle.nbd_stream.specs.declared.reply.RequestError.{RequestError}
use Rattle.nbd_stream.specs.declared.task.Task.{Task}
use Rattle.nbd_stream.specs.Disk.{Contents}
use Rattle.nbd_stream.specs.Tasks.{asks_change}
use Rattle.nbd_stream.specs.Exchanges.{RestsBy}

-- A REST THAT IS TOLD is one that the disk itself tells so, and it came after a change; and where none is told the disk is as it was
abbrev pub RestWordLaw : {D : Type 0} → (D → Contents) → (honest calm : D → Bool) → (rests : D → Result (Unit {0}) DiskFault → D → Type 0) → Type 0
RestWordLaw {D} contents honest calm rests = (asked : Result Task RequestError) (old new : D) (rested : Option (Result (Unit {0}) DiskFault))
    → RestsBy contents honest calm rests asked old rested new
    → ((result : Result (Unit {0}) DiskFault) → rested ≡ Some result → rests old result new × (asks_change asked ≡ true)) × (rested ≡ None → new ≡ old)
