-- A RUN: the answers of an array of bytes to requests, one after another; and what it comes to.
use Rattle.std.specs.Prelude.{◌≡◌, ◌<◌, ◌≤◌, ◌+◌, ◌⊎◌, ℕ, Bool, true, List, [], ◌∷◌, length, replicate, slice_index}
use Rattle.std.specs.Prelude.{Option, Some, None, unwrap_or, Result, Ok, Err, IsOk}
use Rattle.std.specs.List.{AllByRecursion}
use Rattle.nbd_stream.specs.declared.export.Export.{Export}
use Rattle.nbd_stream.specs.declared.reply.RequestError.{RequestError}
use Rattle.nbd_stream.specs.declared.task.Task.{Task}
use Rattle.nbd_stream.specs.declared.task.Task.TheVariants.{Read, Write, Flush, Trim, WriteZeroes}
use Rattle.nbd_stream.specs.Frames.{NbdRequest, IsNbdRequest}
use Rattle.nbd_stream.specs.Disk.{Contents, TaskSteps, IsInside, bytes_after, bytes_given, count_taken, value_at}
use Rattle.nbd_stream.specs.Exchanges.{NbdExchange, requests_in, task_of}

-- ---- the run

-- ONE ANSWER: a request that is refused gets its error, and changes nothing; else the disk did a task, and has as many bytes as before
abbrev pub AnswersBy : Result Task RequestError → Contents → NbdExchange → Contents → Type 0
AnswersBy (Err e) s x t = (x.answer ≡ Err e) × (t ≡ s)
AnswersBy (Ok task) s x t = (length t.bytes ≡ length s.bytes) × TaskSteps task x.request.body s x.answer t

abbrev pub AnswersExchange : Export → Contents → NbdExchange → Contents → Type 0
AnswersExchange e s x t = AnswersBy (task_of e x.request) s x t

-- THE RUN
abbrev pub Runs : Export → Contents → List NbdExchange → Contents → Type 0
Runs e s [] t = t ≡ s
Runs e s (x ∷ xs) t = (mid : Contents) × AnswersExchange e s x mid × Runs e mid xs t

-- ---- where no task fails

-- the disk did what it was asked
abbrev pub IsTaskDone : Export → NbdExchange → Type 0
IsTaskDone e x = (task : Task) → task_of e x.request ≡ Ok task → IsOk x.answer

abbrev pub AreDone : Export → List NbdExchange → Type 0
AreDone e xs = AllByRecursion (IsTaskDone e) xs

abbrev pub task_answer_by : Result Task RequestError → List ℕ → Result (List ℕ) RequestError
task_answer_by (Err e) bytes = Err e
task_answer_by (Ok task) bytes = Ok (bytes_given task bytes)

abbrev pub bytes_left_by : Result Task RequestError → (body bytes : List ℕ) → List ℕ
bytes_left_by (Err e) body bytes = bytes
bytes_left_by (Ok task) body bytes = bytes_after task body bytes

-- THE EXCHANGES OF AN ARRAY with a client that sends these requests, and the array that they leave
abbrev pub array_exchanges : Export → List ℕ → List NbdRequest → List NbdExchange
array_exchanges e bytes [] = []
array_exchanges e bytes (r ∷ rs) = record { request = r; answer = task_answer_by (task_of e r) bytes } ∷ array_exchanges e (bytes_left_by (task_of e r) r.body bytes) rs

abbrev pub bytes_left : Export → List ℕ → List NbdRequest → List ℕ
bytes_left e bytes [] = bytes
bytes_left e bytes (r ∷ rs) = bytes_left e (bytes_left_by (task_of e r) r.body bytes) rs

-- ---- byte by byte

-- what a request sets a byte to, if it is asked of the disk
abbrev pub value_by : Result Task RequestError → List ℕ → (place : ℕ) → Option ℕ
value_by (Err e) body place = None
value_by (Ok task) body place = value_at task body place

abbrev pub value_set_by : Export → NbdRequest → (place : ℕ) → Option ℕ
value_set_by e r place = value_by (task_of e r) r.body place

-- one of these requests sets the byte to this
abbrev pub IsSet : Export → List NbdExchange → (place value : ℕ) → Type 0
IsSet e [] place value = ⊥
IsSet e (x ∷ xs) place value = (value_set_by e x.request place ≡ Some value) ⊎ IsSet e xs place value

-- the byte is as this says, or one of these requests sets it so
abbrev pub IsOrSet : Export → (was : ℕ) → List NbdExchange → (place value : ℕ) → Type 0
IsOrSet e was xs place value = (value ≡ was) ⊎ IsSet e xs place value

-- ---- laws

-- a task leaves as many bytes as before, and each as it sets it, or as it was
abbrev pub ByteLaw : Type 0
ByteLaw = (task : Task) (body bytes : List ℕ) → IsInside (length bytes) task → length body ≡ count_taken task
    → (length (bytes_after task body bytes) ≡ length bytes)
    × ((place : ℕ) → slice_index (bytes_after task body bytes) place ≡ unwrap_or (value_at task body place) (slice_index bytes place))

-- A READ OF WHAT A WRITE SET gives its bytes, and of what a trim or zeroes set zeros
abbrev pub ReadAfterChangeLaw : Type 0
ReadAfterChangeLaw = (offset count : ℕ) (durable : Bool) (body bytes : List ℕ) → offset + count ≤ length bytes → length body ≡ count
    → (bytes_given (Read offset count) (bytes_after (Write offset count durable) body bytes) ≡ body)
    × (bytes_given (Read offset count) (bytes_after (Trim offset count durable) body bytes) ≡ replicate count 0)
    × (bytes_given (Read offset count) (bytes_after (WriteZeroes offset count durable) body bytes) ≡ replicate count 0)

-- requests of a client, to a disk of the export's size
pub record AreForExport (e : Export) (s : Contents) (xs : List NbdExchange) : Type 0 where
  pub sized : length s.bytes ≡ e.size
  pub whole : AllByRecursion IsNbdRequest (requests_in xs)

-- a flush, or a durable change of this byte
abbrev pub IsToLast : Task → (place : ℕ) → Type 0
IsToLast task place =
    (task ≡ Flush)
    ⊎ ((offset count : ℕ) × (offset ≤ place) × (place < offset + count)
    × ((task ≡ Write offset count true) ⊎ (task ≡ Trim offset count true) ⊎ (task ≡ WriteZeroes offset count true)))

-- WHAT IT MAKES LAST, where it was answered without an error: the byte that stands would stand if the power went
abbrev pub LastsLaw : Type 0
LastsLaw = (e : Export) (s t : Contents) (x : NbdExchange) (task : Task) (place : ℕ) → task_of e x.request ≡ Ok task
    → IsToLast task place → AnswersExchange e s x t → IsOk x.answer
    → slice_index t.durable place ≡ slice_index t.bytes place

-- a byte that stands, and would stand if the power went, does both at the end of a run, whatever fails; or stands as one of its requests sets it
abbrev pub KeptOrSetLaw : Type 0
KeptOrSetLaw = (e : Export) (s t : Contents) (xs : List NbdExchange) (place : ℕ) → AreForExport e s xs → Runs e s xs t
    → slice_index s.durable place ≡ slice_index s.bytes place
    → IsOrSet e (slice_index s.bytes place) xs place (slice_index t.bytes place)
    × IsOrSet e (slice_index s.bytes place) xs place (slice_index t.durable place)

-- NOTHING IS LOST after a flush or a durable change that was answered without an error: if the power goes at any later time, each byte that
-- it made last is as it was then, or as a later request sets it
abbrev pub NothingLostLaw : Type 0
NothingLostLaw = (e : Export) (s m t : Contents) (x : NbdExchange) (xs : List NbdExchange) (task : Task) (place : ℕ) → task_of e x.request ≡ Ok task
    → IsToLast task place → AreForExport e s (x ∷ xs) → AnswersExchange e s x m → IsOk x.answer → Runs e m xs t
    → IsOrSet e (slice_index m.bytes place) xs place (slice_index t.durable place)

-- WHAT A CHANGE SETS, where it was answered without an error, stands
abbrev pub SetLaw : Type 0
SetLaw = (e : Export) (s t : Contents) (x : NbdExchange) (place value : ℕ) → AreForExport e s (x ∷ []) → AnswersExchange e s x t → IsOk x.answer
    → value_set_by e x.request place ≡ Some value → slice_index t.bytes place ≡ value

-- where no task fails, the exchanges are those of the array, and it is left as they leave it
abbrev pub DoneLaw : Type 0
DoneLaw = (e : Export) (s t : Contents) (xs : List NbdExchange) → Runs e s xs t → AreDone e xs
    → (xs ≡ array_exchanges e s.bytes (requests_in xs)) × (t.bytes ≡ bytes_left e s.bytes (requests_in xs))
