-- A DISK AS BYTES: what a task is to leave of it, what it gives, and what is left where it fails or the power goes.
use Rattle.std.specs.Prelude.{◌≡◌, ◌≤◌, ◌⊎◌, ◌+◌, ◌-◌, ◌&&◌, ℕ, nat_le, nat_lt, Bool, true, false, List, [], ◌++◌, length, take, drop, replicate}
use Rattle.std.specs.Prelude.{slice_index, slice_range, Option, Some, None, Result, Ok, Err, IfOk, IfErr, IsOk, OnOk, OnErr, if◌then◌else◌}
use Rattle.nbd_stream.specs.declared.fault.DiskFault.{DiskFault}
use Rattle.nbd_stream.specs.declared.fault.DiskFault.TheVariants as fault
use Rattle.nbd_stream.specs.declared.reply.RequestError.{RequestError}
use Rattle.nbd_stream.specs.declared.reply.RequestError.TheVariants.{NotPermitted, InputOutput, NoSpace}
use Rattle.nbd_stream.specs.declared.task.Task.{Task}
use Rattle.nbd_stream.specs.declared.task.Task.TheVariants.{Read, Write, Flush, Trim, WriteZeroes}

-- A DISK BETWEEN TWO TASKS: the bytes that it stands for, and those that it will stand for if the power goes now
pub record Contents : Type 0 where
  pub bytes : List ℕ
  pub durable : List ℕ

-- ---- a task that is done

-- these bytes in their place, from an offset on; all others stay
abbrev pub with_bytes : (offset : ℕ) → (body bytes : List ℕ) → List ℕ
with_bytes offset body bytes = take offset bytes ++ (body ++ drop (offset + length body) bytes)

-- WHAT A TASK LEAVES: a write its bytes in their place, a trim and zeroes zeros in theirs, a read and a flush all as it was
abbrev pub bytes_after : Task → (body bytes : List ℕ) → List ℕ
bytes_after (Read offset count) body bytes = bytes
bytes_after (Write offset count durable) body bytes = with_bytes offset body bytes
bytes_after Flush body bytes = bytes
bytes_after (Trim offset count durable) body bytes = with_bytes offset (replicate count 0) bytes
bytes_after (WriteZeroes offset count durable) body bytes = with_bytes offset (replicate count 0) bytes

-- WHAT IT GIVES: a read the bytes of its range, anything else none
abbrev pub bytes_given : Task → List ℕ → List ℕ
bytes_given (Read offset count) bytes = slice_range bytes offset (offset + count)
bytes_given (Write offset count durable) bytes = []
bytes_given Flush bytes = []
bytes_given (Trim offset count durable) bytes = []
bytes_given (WriteZeroes offset count durable) bytes = []

-- how many it gives, and how many it takes
abbrev pub count_given : Task → ℕ
count_given (Read offset count) = count
count_given (Write offset count durable) = 0
count_given Flush = 0
count_given (Trim offset count durable) = 0
count_given (WriteZeroes offset count durable) = 0

abbrev pub count_taken : Task → ℕ
count_taken (Read offset count) = 0
count_taken (Write offset count durable) = count
count_taken Flush = 0
count_taken (Trim offset count durable) = 0
count_taken (WriteZeroes offset count durable) = 0

-- the range is within so many bytes
abbrev pub IsInside : (size : ℕ) → Task → Type 0
IsInside size (Read offset count) = offset + count ≤ size
IsInside size (Write offset count durable) = offset + count ≤ size
IsInside size Flush = Unit {0}
IsInside size (Trim offset count durable) = offset + count ≤ size
IsInside size (WriteZeroes offset count durable) = offset + count ≤ size

-- ---- byte by byte

-- a byte of the range
abbrev pub is_in : (offset count place : ℕ) → Bool
is_in offset count place = nat_le offset place && nat_lt place (offset + count)

-- WHAT A TASK SETS A BYTE TO: a write those of its bytes, a trim and zeroes those of their range to zero; else it is let be
abbrev pub value_at : Task → List ℕ → (place : ℕ) → Option ℕ
value_at (Read offset count) body place = None
value_at (Write offset count durable) body place = if is_in offset (length body) place then Some (slice_index body (place - offset)) else None
value_at Flush body place = None
value_at (Trim offset count durable) body place = if is_in offset count place then Some 0 else None
value_at (WriteZeroes offset count durable) body place = if is_in offset count place then Some 0 else None

-- WHETHER A TASK MAKES A BYTE LAST: a flush each, a change that is to last those of its range
abbrev pub makes_last : Task → (place : ℕ) → Bool
makes_last (Read offset count) place = false
makes_last (Write offset count durable) place = durable && is_in offset count place
makes_last Flush place = true
makes_last (Trim offset count durable) place = durable && is_in offset count place
makes_last (WriteZeroes offset count durable) place = durable && is_in offset count place

-- ---- the answer

-- the error that a client is told
abbrev pub error_for : DiskFault → RequestError
error_for fault.ReadOnly = NotPermitted
error_for fault.Failed = InputOutput
error_for fault.NoSpace = NoSpace

-- what a disk answered: the bytes that it gave, or an error
abbrev pub answer_from : Result (Unit {0}) DiskFault → List ℕ → Result (List ℕ) RequestError
answer_from (Ok done) bytes = Ok bytes
answer_from (Err e) bytes = Err (error_for e)

-- WHAT THE DISK ITSELF IS ASKED: zeroes as a trim, and anything else as it is
abbrev pub asked_as : Task → Task
asked_as (Read offset count) = Read offset count
asked_as (Write offset count durable) = Write offset count durable
asked_as Flush = Flush
asked_as (Trim offset count durable) = Trim offset count durable
asked_as (WriteZeroes offset count durable) = Trim offset count durable

-- the errors that a change may have: it failed; no change is taken any more; there is no room for it
abbrev pub IsOfChange : RequestError → Type 0
IsOfChange e = (e ≡ InputOutput) ⊎ (e ≡ NotPermitted) ⊎ (e ≡ NoSpace)

-- THE ERRORS THAT A DISK ANSWERS: a read and a flush only that they failed
abbrev pub MayFailWith : Task → RequestError → Type 0
MayFailWith (Read offset count) e = e ≡ InputOutput
MayFailWith (Write offset count durable) e = IsOfChange e
MayFailWith Flush e = e ≡ InputOutput
MayFailWith (Trim offset count durable) e = IsOfChange e
MayFailWith (WriteZeroes offset count durable) e = IsOfChange e

-- ---- one task

-- A byte is as it was, or as the task is to leave it.
abbrev pub IsOldOrDue : (old due new : List ℕ) → (place : ℕ) → Type 0
IsOldOrDue old due new place = (slice_index new place ≡ slice_index old place) ⊎ (slice_index new place ≡ slice_index due place)

-- ONE TASK OF A DISK, BY ITS BYTES. Where it is done the bytes are those that the task leaves, and a read gave those of its range; where it
-- failed, each byte is as it was or as the task was to leave it. If the power goes now, each byte is as it would have been before, as it was,
-- or as the task leaves it; and after one that is done, a byte that it makes last is as it is now.
pub record TaskSteps (task : Task) (body : List ℕ) (s : Contents) (answer : Result (List ℕ) RequestError) (t : Contents) : Type 0 where
  pub done : OnOk answer (t.bytes ≡ bytes_after task body s.bytes)
  pub gave : IfOk answer (λ bytes. bytes ≡ bytes_given task s.bytes)
  pub torn : OnErr answer ((place : ℕ) → IsOldOrDue s.bytes (bytes_after task body s.bytes) t.bytes place)
  pub stays : (place : ℕ) → (slice_index t.durable place ≡ slice_index s.durable place) ⊎ IsOldOrDue s.bytes (bytes_after task body s.bytes) t.durable place
  pub lasts : OnOk answer ((place : ℕ) → makes_last task place ≡ true → slice_index t.durable place ≡ slice_index t.bytes place)

-- ONE CALL OF A DISK, whatever it does. A disk holds what it is given until a call of it fails; from then on it may be honest no more, and is never
-- again. What is true of the bytes is said of a disk that is honest after the call: so of each call that is done, and of each that failed and
-- left it honest. One that is calm does all that it is asked.
pub record PerformsTask {D : Type 0} (contents : D → Contents) (honest calm : D → Bool) (task : Task) (body : List ℕ)
    (old : D) (answer : Result (List ℕ) RequestError) (new : D) : Type 0 where
  pub sized : length (contents new).bytes ≡ length (contents old).bytes
  pub kept : OnOk answer (honest new ≡ honest old)
  pub back : honest new ≡ true → honest old ≡ true
  pub calm_is : calm new ≡ calm old
  pub fault : IfErr answer (MayFailWith task)
  pub given : IfOk answer (λ bytes. length bytes ≡ count_given task)
  pub calmly : calm old ≡ true → IsOk answer
  pub steps : honest new ≡ true → TaskSteps task body (contents old) answer (contents new)

-- ONE REST, an idle moment between two requests. Done or failed, it leaves the bytes of a disk that is honest after it; if the power goes now, each
-- byte is as it would have been before, or as it stands. A disk's honesty may end in it as in a call that failed, and its one error is that the disk
-- failed. One that is calm rests without an error.
pub record Idles {D : Type 0} (contents : D → Contents) (honest calm : D → Bool) (old : D) (result : Result (Unit {0}) DiskFault) (new : D) : Type 0 where
  pub sized : length (contents new).bytes ≡ length (contents old).bytes
  pub kept : OnOk result (honest new ≡ honest old)
  pub was_honest : honest new ≡ true → honest old ≡ true
  pub calm_is : calm new ≡ calm old
  pub fault : IfErr result (λ e. e ≡ fault.Failed)
  pub calmly : calm old ≡ true → IsOk result
  pub bytes : honest new ≡ true → (contents new).bytes ≡ (contents old).bytes
  pub stays : honest new ≡ true → (place : ℕ) → (slice_index (contents new).durable place ≡ slice_index (contents old).durable place)
      ⊎ (slice_index (contents new).durable place ≡ slice_index (contents old).bytes place)
