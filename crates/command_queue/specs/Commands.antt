-- COMMANDS, and what a list of them needs and keeps.
use Rattle.std.specs.Prelude.{◌≡◌, ℕ, ◌==◌, Bool, true, false, not, ◌&&◌, List, [], length, replicate}
use Rattle.std.specs.Prelude.{IsSome, Result, OnErr}
use Rattle.std.specs.Option.{ForSome}
use Rattle.std.specs.List.{AllByRecursion, AllZip}
use Rattle.page_layout.specs.declared.geometry.Geometry.{Geometry}
use Rattle.page_layout.specs.Page.{Image}
use Rattle.image_check.specs.Stale.{is_stale}
use Rattle.promises.specs.Step as step
use Rattle.ftl_device.specs.declared.fault.DeviceFault.{DeviceFault}
use Rattle.command_queue.specs.declared.command.Command.{Command}
use Rattle.command_queue.specs.declared.command.Command.TheVariants.{Read, Write, Trim, Flush, Turn}
use Rattle.command_queue.specs.declared.command.Call.{Call}

-- a command as the promises speak of it
abbrev pub promised_command : Command → step.Command
promised_command (Read sector) = step.Read sector
promised_command (Write sector body) = step.Write sector body.now
promised_command (Trim sector) = step.Trim sector
promised_command Flush = step.Flush
promised_command Turn = step.Turn

-- the command asks for no memory, where a block is pinned or not: it changes no sector, or one that is stale in the image, which with share 0 is cached
-- where no block is pinned
abbrev pub needs_no_memory : (share : ℕ) (pinned : Bool) → Geometry → Image → step.Command → Bool
needs_no_memory share pinned g image (step.Read sector) = true
needs_no_memory share pinned g image (step.Write sector body) = share == 0 && not pinned && is_stale g image sector
needs_no_memory share pinned g image (step.Trim sector) = share == 0 && not pinned && is_stale g image sector
needs_no_memory share pinned g image step.Flush = true
needs_no_memory share pinned g image step.Turn = true

-- the command is a read; it is a turn
abbrev pub is_read : step.Command → Bool
is_read (step.Read sector) = true
is_read (step.Write sector body) = false
is_read (step.Trim sector) = false
is_read step.Flush = false
is_read step.Turn = false

abbrev pub is_turn : step.Command → Bool
is_turn (step.Read sector) = false
is_turn (step.Write sector body) = false
is_turn (step.Trim sector) = false
is_turn step.Flush = false
is_turn step.Turn = true

-- ---- calls

-- a call of a list, once it was answered
abbrev pub told_command : Call → step.Command
told_command call = promised_command call.command

-- the room that a call begins with, for the bytes of a read
abbrev pub room_for : Geometry → Command → List ℕ
room_for g (Read sector) = replicate g.data_bytes 0
room_for g (Write sector body) = []
room_for g (Trim sector) = []
room_for g Flush = []
room_for g Turn = []

-- a read has room for one data area, and a write has the bytes of one
abbrev pub HasDataArea : Geometry → Command → List ℕ → Type 0
HasDataArea g (Read sector) bytes = length bytes ≡ g.data_bytes
HasDataArea g (Write sector body) bytes = length body.now ≡ g.data_bytes
HasDataArea g (Trim sector) bytes = Unit {0}
HasDataArea g Flush bytes = Unit {0}
HasDataArea g Turn bytes = Unit {0}

abbrev pub IsCallWhole : Geometry → Call → Type 0
IsCallWhole g call = HasDataArea g call.command call.bytes.items

abbrev pub AreWhole : Geometry → List Call → Type 0
AreWhole g calls = AllByRecursion (IsCallWhole g) calls

-- each call was answered
abbrev pub AreAnswered : List Call → Type 0
AreAnswered calls = AllByRecursion (λ (c : Call). IsSome c.reply) calls

-- only a read that is done changes its bytes
abbrev pub KeepsBytes : step.Command → Result (Unit {0}) DeviceFault → List ℕ → List ℕ → Type 0
KeepsBytes (step.Read sector) result old new = OnErr result (new ≡ old)
KeepsBytes (step.Write sector body) result old new = new ≡ old
KeepsBytes (step.Trim sector) result old new = new ≡ old
KeepsBytes step.Flush result old new = new ≡ old
KeepsBytes step.Turn result old new = new ≡ old

-- a call before and after it was told
abbrev pub HasKept : Call → Call → Type 0
HasKept old new = ForSome new.reply (λ result. KeepsBytes (told_command new) result old.bytes.items new.bytes.items)

abbrev pub HaveKept : List Call → List Call → Type 0
HaveKept old new = AllZip HasKept old new
