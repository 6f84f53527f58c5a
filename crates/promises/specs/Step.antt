-- What a device may answer to a command, and what its array of sectors is then.
use Rattle.std.specs.Prelude.{◌≡◌, ◌≢◌, ◌↔◌, ◌⊎◌, ◌<◌, ◌≤◌, ℕ, Bool, true, false, List, [], ◌∷◌, length, replicate, slice_get, slice_set, Some}
use Rattle.page_layout.specs.declared.geometry.Geometry.{Geometry}
use Rattle.page_layout.specs.Array.{zeros}

-- a device as its promises see it: its sectors in order, and whether it refuses to change them
pub record ArrayState : Type 0 where
  pub array : List (List ℕ)
  pub ro : Bool

-- what a device is told: a turn is an idle moment given to it
pub data Command : Type 0 where
  Read : (sector : ℕ) → Command
  Write : (sector : ℕ) (bytes : List ℕ) → Command
  Trim : (sector : ℕ) → Command
  Flush : Command
  Turn : Command

-- what it answers: to a read `DoneWith` the sector, to all else that succeeds `Done`
pub data Reply : Type 0 where
  Done : Reply
  DoneWith : (bytes : List ℕ) → Reply
  OutOfRange : Reply
  ReadOnly : Reply
  SequenceSpent : Reply
  OutOfMemory : Reply
  Damaged : Reply
  BusFault : Reply

-- ---- the rows

-- no such sector: nothing has changed
pub record IsPast (g : Geometry) (sector : ℕ) (old new : ArrayState) : Type 0 where
  pub past : g.sectors ≤ sector
  pub same : new ≡ old

-- a read gives the sector and changes nothing
pub record ReadsSector (g : Geometry) (sector : ℕ) (bytes : List ℕ) (old new : ArrayState) : Type 0 where
  pub within : sector < g.sectors
  pub bytes_are : slice_get old.array sector ≡ Some bytes
  pub same : new ≡ old

-- the sector holds the bytes now, and no other has changed; the device may be read-only afterwards
pub record ChangesSector (g : Geometry) (sector : ℕ) (bytes : List ℕ) (old new : ArrayState) : Type 0 where
  pub within : sector < g.sectors
  pub writable : old.ro ≡ false
  pub array_is : new.array ≡ slice_set old.array sector bytes

-- no sector has changed; the device may be read-only afterwards
pub record KeepsSectors (old new : ArrayState) : Type 0 where
  pub writable : old.ro ≡ false
  pub array_is : new.array ≡ old.array

-- no sector has changed, and the device is read-only, as it may have been before
pub record BecomesReadOnly (old new : ArrayState) : Type 0 where
  pub array_is : new.array ≡ old.array
  pub read_only : new.ro ≡ true

-- the same of a sector in range
pub record KeepsSectorsAt (g : Geometry) (sector : ℕ) (old new : ArrayState) : Type 0 where
  pub within : sector < g.sectors
  pub keeps : KeepsSectors old new

pub record BecomesReadOnlyAt (g : Geometry) (sector : ℕ) (old new : ArrayState) : Type 0 where
  pub within : sector < g.sectors
  pub becomes : BecomesReadOnly old new

-- ---- the commands

-- a read
abbrev pub ReadStep : Geometry → ArrayState → ℕ → Reply → ArrayState → Type 0
ReadStep g old sector (DoneWith bytes) new = ReadsSector g sector bytes old new
ReadStep g old sector OutOfRange new = IsPast g sector old new
ReadStep g old sector _ new = ⊥

-- a write of these bytes
abbrev pub WriteStep : Geometry → ArrayState → ℕ → List ℕ → Reply → ArrayState → Type 0
WriteStep g old sector bytes Done new = ChangesSector g sector bytes old new
WriteStep g old sector bytes OutOfRange new = IsPast g sector old new
WriteStep g old sector bytes ReadOnly new = BecomesReadOnlyAt g sector old new
WriteStep g old sector bytes SequenceSpent new = KeepsSectorsAt g sector old new
WriteStep g old sector bytes OutOfMemory new = KeepsSectorsAt g sector old new
WriteStep g old sector bytes _ new = ⊥

-- a flush or a turn
abbrev pub QuietStep : ArrayState → Reply → ArrayState → Type 0
QuietStep old Done new = KeepsSectors old new
QuietStep old ReadOnly new = BecomesReadOnly old new
QuietStep old SequenceSpent new = KeepsSectors old new
QuietStep old _ new = ⊥

-- THE STEP OF THE ARRAY: the device may answer the command so, and be so afterwards. A trim writes zeros.
abbrev pub ArrayStep : Geometry → ArrayState → Command → Reply → ArrayState → Type 0
ArrayStep g old (Read sector) reply new = ReadStep g old sector reply new
ArrayStep g old (Write sector bytes) reply new = WriteStep g old sector bytes reply new
ArrayStep g old (Trim sector) reply new = WriteStep g old sector (zeros g) reply new
ArrayStep g old Flush reply new = QuietStep old reply new
ArrayStep g old Turn reply new = QuietStep old reply new

-- THE ARRAY'S RUN: the replies answer the commands one by one, each by a step
abbrev pub ArrayRun : Geometry → ArrayState → List Command → List Reply → ArrayState → Type 0
ArrayRun g old [] [] new = new ≡ old
ArrayRun g old [] (reply ∷ replies) new = ⊥
ArrayRun g old (command ∷ commands) [] new = ⊥
ArrayRun g old (command ∷ commands) (reply ∷ replies) new = (mid : ArrayState) × ArrayStep g old command reply mid × ArrayRun g mid commands replies new

-- ---- laws

-- a read has one answer, read-only or not
abbrev pub OneReadLaw : Type 0
OneReadLaw = (g : Geometry) (old new other : ArrayState) (sector : ℕ) (reply another : Reply) → ArrayStep g old (Read sector) reply new
    → ArrayStep g old (Read sector) another other → (reply ≡ another) × (new ≡ other)

-- what was written is read until it is written again, and no other sector has changed
abbrev pub ReadBackLaw : Type 0
ReadBackLaw = (g : Geometry) (old new : ArrayState) (sector : ℕ) (bytes : List ℕ) → length old.array ≡ g.sectors → ArrayStep g old (Write sector bytes) Done new
    → (slice_get new.array sector ≡ Some bytes) × ((other : ℕ) → other ≢ sector → slice_get new.array other ≡ slice_get old.array other)

-- a sector that was trimmed is zeros, and no other sector has changed
abbrev pub TrimmedLaw : Type 0
TrimmedLaw = (g : Geometry) (old new : ArrayState) (sector : ℕ) → length old.array ≡ g.sectors → ArrayStep g old (Trim sector) Done new
    → (slice_get new.array sector ≡ Some (replicate g.data_bytes 0)) × ((other : ℕ) → other ≢ sector → slice_get new.array other ≡ slice_get old.array other)

-- a flush and a turn change no sector, whatever they are answered
abbrev pub FlushAndTurnLaw : Type 0
FlushAndTurnLaw = (g : Geometry) (old new : ArrayState) (reply : Reply) → (ArrayStep g old Flush reply new → new.array ≡ old.array) × (ArrayStep g old Turn reply new → new.array ≡ old.array)

-- a command that isn't answered `Done` has changed no sector
abbrev pub KeptLaw : Type 0
KeptLaw = (g : Geometry) (old new : ArrayState) (command : Command) (reply : Reply) → reply ≢ Done → ArrayStep g old command reply new → new.array ≡ old.array

-- a device that is read-only stays as it is, whatever it is told
abbrev pub ReadOnlyLaw : Type 0
ReadOnlyLaw = (g : Geometry) (old new : ArrayState) (command : Command) (reply : Reply) → old.ro ≡ true → ArrayStep g old command reply new → new ≡ old

-- there are as many sectors as before
abbrev pub SectorCountLaw : Type 0
SectorCountLaw = (g : Geometry) (old new : ArrayState) (command : Command) (reply : Reply) → ArrayStep g old command reply new → length new.array ≡ length old.array

-- `Damaged` and `BusFault` are no step of any command
abbrev pub NeverLaw : Type 0
NeverLaw = (g : Geometry) (old new : ArrayState) (command : Command) → (ArrayStep g old command Damaged new → ⊥) × (ArrayStep g old command BusFault new → ⊥)

-- as many replies as commands
abbrev pub RepliesLaw : Type 0
RepliesLaw = (g : Geometry) (old new : ArrayState) (commands : List Command) (replies : List Reply) → ArrayRun g old commands replies new → length replies ≡ length commands

-- six commands with each kind of reply
abbrev pub six_commands : List Command
six_commands = Write 5 (replicate 64 17) ∷ Read 5 ∷ Trim 5 ∷ Write 32 (replicate 64 34) ∷ Flush ∷ Turn ∷ []

-- what they are answered
abbrev pub six_replies : List Reply
six_replies = Done ∷ DoneWith (replicate 64 17) ∷ OutOfMemory ∷ OutOfRange ∷ SequenceSpent ∷ ReadOnly ∷ []

-- 32 sectors of zeros
abbrev pub zeroed_state : Geometry → ArrayState
zeroed_state g = record { array = replicate 32 (zeros g); ro = false }

-- sector 5 was written, and the device is read-only
abbrev pub written_once : Geometry → ArrayState
written_once g = record { array = slice_set (replicate 32 (zeros g)) 5 (replicate 64 17); ro = true }

-- they are a run
abbrev pub SixLaw : Type 0
SixLaw = (g : Geometry) → g.data_bytes ≡ 64 → g.sectors ≡ 32 → ArrayRun g (zeroed_state g) six_commands six_replies (written_once g)

-- and where the read gives anything else, it is no run
abbrev pub OtherBytesLaw : Type 0
OtherBytesLaw = (g : Geometry) (bytes : List ℕ) (new : ArrayState) → g.sectors ≡ 32 → bytes ≢ replicate 64 17
    → ArrayRun g (zeroed_state g) (Write 5 (replicate 64 17) ∷ Read 5 ∷ []) (Done ∷ DoneWith bytes ∷ []) new → ⊥

-- ---- which replies come at all

-- the command names a sector past the last
abbrev pub NamesPast : Geometry → Command → Type 0
NamesPast g (Read sector) = g.sectors ≤ sector
NamesPast g (Write sector bytes) = g.sectors ≤ sector
NamesPast g (Trim sector) = g.sectors ≤ sector
NamesPast g Flush = ⊥
NamesPast g Turn = ⊥

-- the replies of a read, of a write or a trim, of a flush or a turn
abbrev pub AnswersRead : Reply → Type 0
AnswersRead reply = ((bytes : List ℕ) × (reply ≡ DoneWith bytes)) ⊎ (reply ≡ OutOfRange)

abbrev pub AnswersWrite : Reply → Type 0
AnswersWrite reply = (reply ≡ Done) ⊎ (reply ≡ OutOfRange) ⊎ (reply ≡ ReadOnly) ⊎ (reply ≡ SequenceSpent) ⊎ (reply ≡ OutOfMemory)

abbrev pub AnswersQuiet : Reply → Type 0
AnswersQuiet reply = (reply ≡ Done) ⊎ (reply ≡ ReadOnly) ⊎ (reply ≡ SequenceSpent)

abbrev pub MayAnswer : Command → Reply → Type 0
MayAnswer (Read sector) reply = AnswersRead reply
MayAnswer (Write sector bytes) reply = AnswersWrite reply
MayAnswer (Trim sector) reply = AnswersWrite reply
MayAnswer Flush reply = AnswersQuiet reply
MayAnswer Turn reply = AnswersQuiet reply

-- each command has one of its replies
abbrev pub MayAnswerLaw : Type 0
MayAnswerLaw = (g : Geometry) (old new : ArrayState) (command : Command) (reply : Reply) → ArrayStep g old command reply new → MayAnswer command reply

-- `OutOfRange` comes just where the command names a sector past the last
abbrev pub PastLaw : Type 0
PastLaw = (g : Geometry) (old new : ArrayState) (command : Command) (reply : Reply) → ArrayStep g old command reply new → (reply ≡ OutOfRange) ↔ NamesPast g command

-- after `ReadOnly` the device is read-only
abbrev pub AfterReadOnlyLaw : Type 0
AfterReadOnlyLaw = (g : Geometry) (old new : ArrayState) (command : Command) → ArrayStep g old command ReadOnly new → new.ro ≡ true

-- a device that is read-only gives no other answer to what would change it
abbrev pub RefusesLaw : Type 0
RefusesLaw = (g : Geometry) (old new : ArrayState) (command : Command) (reply : Reply) → old.ro ≡ true → ((sector : ℕ) → command ≢ Read sector)
    → reply ≢ OutOfRange → ArrayStep g old command reply new → reply ≡ ReadOnly
