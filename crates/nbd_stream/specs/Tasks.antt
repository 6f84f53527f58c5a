-- What a request asks of a disk, or the error that it has before the disk is asked. (The NBD protocol, "Request types" and "Error values".)
use Rattle.std.specs.Prelude.{◌≡◌, ◌<◌, ◌≤◌, ◌+◌, ◌%◌, ◌==◌, ◌&&◌, ℕ, nat_lt, nat_le, Bool, true, false, Option, Some, None, Result, Ok, Err, if◌then◌else◌}
use Rattle.nbd_stream.specs.declared.export.Export.{Export}
use Rattle.nbd_stream.specs.declared.reply.RequestError.{RequestError}
use Rattle.nbd_stream.specs.declared.reply.RequestError.TheVariants.{NotPermitted, Invalid, NoSpace}
use Rattle.nbd_stream.specs.declared.request.NbdHeader.{NbdHeader}
use Rattle.nbd_stream.specs.declared.task.NbdCommand.{NbdCommand}
use Rattle.nbd_stream.specs.declared.task.NbdCommand.TheVariants as command
use Rattle.nbd_stream.specs.declared.task.Task.{Task}
use Rattle.nbd_stream.specs.declared.task.Task.TheVariants.{Read, Write, Flush, Trim, WriteZeroes}

-- the commands that are supported, by their numbers
abbrev pub command_from : ℕ → Option NbdCommand
command_from code =
    if code == 0 then Some command.Read else (if code == 1 then Some command.Write else (if code == 2 then Some command.Disconnect else (
    if code == 3 then Some command.Flush else (if code == 4 then Some command.Trim else (if code == 6 then Some command.WriteZeroes else None)))))

-- the range has bytes, and all are the export's
abbrev pub is_within : Export → NbdHeader → Bool
is_within e h = nat_lt 0 h.count && nat_le (h.offset + h.count) e.size

-- NBD_CMD_FLAG_FUA
abbrev pub is_durable : NbdHeader → Bool
is_durable h = h.flags % 2 == 1

-- a change of at most so many bytes, or the error past the export's end
abbrev pub change_of : Export → NbdHeader → (most : ℕ) → RequestError → Task → Result Task RequestError
change_of e h most past task =
    if e.read_only then Err NotPermitted else (
    if h.count == 0 then Err Invalid else (
    if nat_lt most h.count then Err Invalid else (
    if is_within e h then Ok task else Err past)))

-- by the command: beside NBD_CMD_FLAG_FUA only zeroes have a flag, NBD_CMD_FLAG_NO_HOLE 2
abbrev pub admitted_by : Option NbdCommand → Export → NbdHeader → Result Task RequestError
admitted_by None e h = Err Invalid
admitted_by (Some command.Disconnect) e h = Err Invalid
admitted_by (Some command.Read) e h = if nat_lt 1 h.flags then Err Invalid else (if nat_le h.count e.maximum && is_within e h then Ok (Read h.offset h.count) else Err Invalid)
admitted_by (Some command.Write) e h = if nat_lt 1 h.flags then Err Invalid else change_of e h e.maximum NoSpace (Write h.offset h.count (is_durable h))
admitted_by (Some command.Flush) e h = if nat_lt 1 h.flags then Err Invalid else (if h.offset == 0 && h.count == 0 then Ok Flush else Err Invalid)
admitted_by (Some command.Trim) e h = if nat_lt 1 h.flags then Err Invalid else change_of e h 4294967295 Invalid (Trim h.offset h.count (is_durable h))
admitted_by (Some command.WriteZeroes) e h = if nat_lt 3 h.flags then Err Invalid else change_of e h 4294967295 NoSpace (WriteZeroes h.offset h.count (is_durable h))

-- WHAT IS ASKED
abbrev pub admitted : Export → NbdHeader → Result Task RequestError
admitted e h = admitted_by (command_from h.code) e h

-- ---- changes

-- A CHANGE: what sets bytes
abbrev pub sets_bytes : Task → Bool
sets_bytes (Read offset count) = false
sets_bytes (Write offset count durable) = true
sets_bytes Flush = false
sets_bytes (Trim offset count durable) = true
sets_bytes (WriteZeroes offset count durable) = true

-- a change was asked of the disk
abbrev pub asks_change : Result Task RequestError → Bool
asks_change (Err e) = false
asks_change (Ok task) = sets_bytes task

-- ---- a law

-- the export has these bytes, of which there is one
pub record HasRange (e : Export) (offset count : ℕ) : Type 0 where
  pub some : 0 < count
  pub inside : offset + count ≤ e.size

-- a task is for the bytes of the export alone: it reads and writes no more than the export takes, and changes no export that is read-only
abbrev pub IsFor : Export → Task → Type 0
IsFor e (Read offset count) = HasRange e offset count × (count ≤ e.maximum)
IsFor e (Write offset count durable) = HasRange e offset count × (count ≤ e.maximum) × (e.read_only ≡ false)
IsFor e Flush = Unit {0}
IsFor e (Trim offset count durable) = HasRange e offset count × (e.read_only ≡ false)
IsFor e (WriteZeroes offset count durable) = HasRange e offset count × (e.read_only ≡ false)

-- what is asked of the disk is for it, whatever the request
abbrev pub AdmittedLaw : Type 0
AdmittedLaw = (e : Export) (h : NbdHeader) (task : Task) → admitted e h ≡ Ok task → IsFor e task
