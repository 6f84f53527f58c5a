-- WHAT A SERVER ASKS OF ITS DEVICE OF SECTORS, read off what it was asked: in a session with one client, and as it closes the disk behind that.
use Rattle.std.specs.Prelude.{◌⊎◌, ℕ, Bool, true, false, List, [], ◌∷◌, ◌++◌, Option, Some, None, Result, Ok, Err, OnOk}
use mathlib.Core.Logic.{inl, inr}
use Rattle.nbd_stream.specs.declared.export.Export.{Export}
use Rattle.nbd_stream.specs.declared.fault.DiskFault.{DiskFault}
use Rattle.nbd_stream.specs.declared.reply.RequestError.{RequestError}
use Rattle.nbd_stream.specs.declared.request.StreamEnd.{StreamEnd}
use Rattle.nbd_stream.specs.declared.task.Task.{Task}
use Rattle.nbd_stream.specs.declared.task.Task.TheVariants.{Read, Write, Flush, Trim, WriteZeroes}
use Rattle.nbd_stream.specs.Disk.{Contents, asked_as}
use Rattle.nbd_stream.specs.Exchanges.{NbdExchange, RestsBy, Round, TellsBy, ToldEachRound, task_of}
use Rattle.nbd_stream.specs.Through.{Through}
use Rattle.nbd_stream.specs.Transmission.{Serves}
use Rattle.request_stream.specs.declared.reply.ServeFault.{ServeFault}
use Rattle.disk_server.specs.declared.mark.SyncMark.{SyncMark}
use Rattle.disk_server.specs.declared.synced.SyncedDisk.{SyncedDisk}
use Rattle.disk_server.specs.Asked.{AsksCall, AsksPiece, AsksSectors, FlushesIf, SetsRange, StepsTo}
use Rattle.disk_server.specs.Synced.{ClearsDonePart, ClearsPart, ClearsParts, Closes, EndsTask, FlushesBy, IsKnownFlushed, RestsSynced, SyncsTask}
use Rattle.disk_laws.specs.CallsMade.{CallMade, IsRunOf, asked_unless, calls_made, each_asked, this_call}
use Rattle.disk_laws.specs.Runs.{AsksOneOf}

module _ {S Y : Type 0} (contents : S → Contents) (honest : S → Bool) (reads : S → S → Type 0) (changes flushes rests : S → Result (Unit {0}) DiskFault → S → Type 0)
    (synced failed : Y → ℕ) (marked : Y → SyncMark) (next : S → ℕ) where
  -- one call of the device of sectors, and what a task asks
  abbrev pub IsSectorCall : S → S → Type 0
  IsSectorCall = AsksOneOf reads changes flushes rests

  abbrev pub DoesTask : S → Task → Result (Unit {0}) DiskFault → S → Type 0
  DoesTask = AsksSectors contents honest reads changes flushes

  -- A TASK'S CALLS: its reads, its one flush, or those of its range
  abbrev pub reads_made : (old new : S) → Through reads old new → List (CallMade IsSectorCall)
  unfolding AsksCall
  reads_made old new is = each_asked reads IsSectorCall (λ a b read. this_call IsSectorCall a b (inl (inl read))) (calls_made reads old new is)

  abbrev pub flush_asked : (old new : S) (result : Result (Unit {0}) DiskFault) → flushes old result new → List (CallMade IsSectorCall)
  unfolding AsksCall
  flush_asked old new result is = this_call IsSectorCall old new (inl (inr (inr (result, is))))

  -- those of a range: a read or a change for each step, and the flush behind them, where there is one
  abbrev pub read_asked : (old new : S) → reads old new → List (CallMade IsSectorCall)
  unfolding AsksCall
  read_asked old new is = this_call IsSectorCall old new (inl (inl is))

  abbrev pub change_asked : (old new : S) (result : Result (Unit {0}) DiskFault) → changes old result new → List (CallMade IsSectorCall)
  unfolding AsksCall
  change_asked old new result is = this_call IsSectorCall old new (inl (inr (inl (result, is))))

  abbrev pub piece_asked : (old new : S) (result : Result (Unit {0}) DiskFault) → AsksPiece reads changes old result new → List (CallMade IsSectorCall)
  piece_asked old new result (inl read) = read_asked old new read.1
  piece_asked old new result (inr change) = change_asked old new result change

  abbrev pub DonePiece : S → S → Type 0
  DonePiece old new = AsksPiece reads changes old (Ok tt) new

  abbrev pub done_pieces : (old new : S) → Through DonePiece old new → List (CallMade IsSectorCall)
  done_pieces old new is = each_asked DonePiece IsSectorCall (λ a b piece. piece_asked a b (Ok tt) piece) (calls_made DonePiece old new is)

  abbrev pub pieces_asked : (old new : S) (result : Result (Unit {0}) DiskFault) → StepsTo (AsksPiece reads changes) old result new → List (CallMade IsSectorCall)
  pieces_asked old new (Ok done) is = done_pieces old new is
  pieces_asked old new (Err e) (mid, before, last) = done_pieces old mid before ++ piece_asked mid new (Err e) last

  abbrev pub flush_behind : (durable : Bool) (old new : S) (result : Result (Unit {0}) DiskFault) → FlushesIf flushes durable old result new → List (CallMade IsSectorCall)
  flush_behind true old new result is = flush_asked old new result is
  flush_behind false old new result is = []

  abbrev pub behind_asked : (durable : Bool) (old new : S) (answer result : Result (Unit {0}) DiskFault) → OnOk answer (FlushesIf flushes durable old result new) → List (CallMade IsSectorCall)
  behind_asked durable old new (Ok done) result is = flush_behind durable old new result is
  behind_asked durable old new (Err e) result is = []

  abbrev pub range_asked : (durable : Bool) (old new : S) (result : Result (Unit {0}) DiskFault) → SetsRange reads changes flushes durable old result new → List (CallMade IsSectorCall)
  range_asked durable old new result is = pieces_asked old is.mid is.answer is.pieces ++ behind_asked durable is.mid new is.answer result is.done

  abbrev pub task_asked : (old new : S) (task : Task) (result : Result (Unit {0}) DiskFault) → DoesTask old task result new → List (CallMade IsSectorCall)
  task_asked old new (Read offset count) result is = reads_made old new is
  task_asked old new (Write offset count durable) result is = range_asked durable old new result is
  task_asked old new Flush result is = flush_asked old new result is
  task_asked old new (Trim offset count durable) result is = range_asked durable old new result is.calls
  task_asked old new (WriteZeroes offset count durable) result is = range_asked durable old new result is.calls

  -- so does each part of a range that is cleared
  abbrev pub part_asked : (offset count : ℕ) (old new : SyncedDisk S Y) (result : Result (Unit {0}) DiskFault) → ClearsPart DoesTask synced failed marked next offset count old result new → List (CallMade IsSectorCall)
  part_asked offset count old new result is = task_asked old.disk new.disk (Trim is.place is.taken false) is.change.answer is.change.does_so

  abbrev pub done_asked : (offset count : ℕ) (old new : SyncedDisk S Y) → Through (ClearsDonePart DoesTask synced failed marked next offset count) old new → List (CallMade IsSectorCall)
  done_asked offset count old new parts =
      each_asked (ClearsDonePart DoesTask synced failed marked next offset count) IsSectorCall (λ a b part. part_asked offset count a b (Ok tt) part) (calls_made (ClearsDonePart DoesTask synced failed marked next offset count) old new parts)

  abbrev pub parts_asked : (offset count : ℕ) (old new : SyncedDisk S Y) (result : Result (Unit {0}) DiskFault) → ClearsParts DoesTask synced failed marked next offset count old result new → List (CallMade IsSectorCall)
  parts_asked offset count old new (Ok done) parts = done_asked offset count old new parts
  parts_asked offset count old new (Err e) (mid, parts, last) = done_asked offset count old mid parts ++ part_asked offset count mid new (Err e) last

  -- WHAT A TASK OF THE SYNCED DISK ASKS of it: a flush nothing; and none asks anything after a sync that failed
  abbrev pub ends_asked : (old new : SyncedDisk S Y) (task : Task) (result : Result (Unit {0}) DiskFault) → EndsTask DoesTask synced failed marked next old task result new → List (CallMade IsSectorCall)
  ends_asked old new (Read offset count) result is = task_asked old.disk new.disk (Read offset count) result is.0
  ends_asked old new (Write offset count durable) result is = task_asked old.disk new.disk (Write offset count false) is.answer is.does_so
  ends_asked old new Flush result is = []
  ends_asked old new (Trim offset count durable) result is = parts_asked offset count old is.mid is.answer is.parts
  ends_asked old new (WriteZeroes offset count durable) result is = parts_asked offset count old is.mid is.answer is.parts

  abbrev pub syncs_asked : (old new : SyncedDisk S Y) (task : Task) (result : Result (Unit {0}) DiskFault) → SyncsTask DoesTask synced failed marked next old task result new → List (CallMade IsSectorCall)
  syncs_asked old new task result is = asked_unless old.failed (λ going. ends_asked old new task result (is.ends going))

  -- A ROUND'S: those of its task, where it was not refused, and its rest, where there was one
  abbrev pub tells_asked : (asked : Result Task RequestError) (old new : SyncedDisk S Y) (x : NbdExchange)
      → TellsBy (λ s. contents s.disk) (λ s. honest s.disk) (λ _. false) (SyncsTask DoesTask synced failed marked next) asked old x new → List (CallMade IsSectorCall)
  tells_asked (Err e) old new x is = []
  tells_asked (Ok task) old new x is = syncs_asked old new (asked_as task) is.1.done is.1.does_so

  abbrev pub rest_asked : (asked : Result Task RequestError) (rested : Option (Result (Unit {0}) DiskFault)) (old new : SyncedDisk S Y)
      → RestsBy (λ s. contents s.disk) (λ s. honest s.disk) (λ _. false) (RestsSynced rests) asked old rested new → List (CallMade IsSectorCall)
  rest_asked asked None old new same = []
  rest_asked asked (Some result) old new (change, idles, inl over) = []
  rest_asked asked (Some result) old new (change, idles, inr on) = this_call IsSectorCall old.disk new.disk (inr (result, on.1))

  abbrev pub rounds_asked : (e : Export) (old new : SyncedDisk S Y) (rounds : List Round)
      → ToldEachRound (λ s. contents s.disk) (λ s. honest s.disk) (λ _. false) (SyncsTask DoesTask synced failed marked next) (RestsSynced rests) e old rounds new → List (CallMade IsSectorCall)
  rounds_asked e old new [] same = []
  rounds_asked e old new (x ∷ xs) (at, one, more) =
      tells_asked (task_of e x.exchange.request) old one.mid x.exchange one.tells ++ rest_asked (task_of e x.exchange.request) x.rested one.mid at one.rest ++ rounds_asked e at new xs more

  -- A SESSION'S: those of its rounds, and none where the negotiation came to no transmission
  abbrev pub session_asked : (e : Export) (limit : ℕ) (old new : SyncedDisk S Y) (unread left before after : Option (List ℕ)) (result : Result StreamEnd ServeFault)
      → Serves (λ s. contents s.disk) (λ s. honest s.disk) (λ _. false) (SyncsTask DoesTask synced failed marked next) (RestsSynced rests) e limit old new unread left before after result → List (CallMade IsSectorCall)
  session_asked e limit old new unread left before after result (inl ended) = []
  session_asked e limit old new unread left before after result (inr begins) = rounds_asked e old new begins.transmits.rounds begins.transmits.each

  -- AS A DISK IS CLOSED: one flush, unless it is known to be flushed, or a sync failed before
  module _ (takes : S → Bool) where
    abbrev pub closing_flush : (old new : SyncedDisk S Y) (result : Result (Unit {0}) DiskFault) → FlushesBy DoesTask synced failed marked next takes old result new → List (CallMade IsSectorCall)
    closing_flush old new (Ok done) is = flush_asked old.disk new.disk (Ok tt) is.flushed
    closing_flush old new (Err e) is = flush_asked old.disk new.disk is.answer is.asked

    abbrev pub closing_asked : (counts : Bool) (old new : SyncedDisk S Y) (result : Result (Unit {0}) DiskFault) → Closes DoesTask synced failed marked next takes counts old result new
        → IsKnownFlushed marked next counts old ⊎ (¬ IsKnownFlushed marked next counts old) → List (CallMade IsSectorCall)
    closing_asked counts old new result closes (inl known) = []
    closing_asked counts old new result closes (inr unknown) = asked_unless old.failed (λ going. closing_flush old new result (closes.flushes going unknown))

-- ---- laws

-- ALL THAT A SERVER ASKS of its device of sectors, in a session with one client, is the calls that its requests and rests are, one after another, and no other change of it
abbrev pub ServedSessionLaw : {S Y : Type 0} → (S → Contents) → (honest : S → Bool) → (reads : S → S → Type 0) → (changes flushes rests : S → Result (Unit {0}) DiskFault → S → Type 0)
    → (synced failed : Y → ℕ) → (marked : Y → SyncMark) → (next : S → ℕ) → Type 0
ServedSessionLaw {S} {Y} contents honest reads changes flushes rests synced failed marked next = (e : Export) (limit : ℕ) (old new : SyncedDisk S Y) (unread left before after : Option (List ℕ)) (result : Result StreamEnd ServeFault)
    (is : Serves (λ s. contents s.disk) (λ s. honest s.disk) (λ _. false) (SyncsTask (AsksSectors contents honest reads changes flushes) synced failed marked next) (RestsSynced rests) e limit old new unread left before after result)
    → IsRunOf (AsksOneOf reads changes flushes rests) (session_asked contents honest reads changes flushes rests synced failed marked next e limit old new unread left before after result is) old.disk new.disk

-- and as it closes the disk behind that one flush, or nothing
abbrev pub ClosedSessionLaw : {S Y : Type 0} → (S → Contents) → (honest : S → Bool) → (reads : S → S → Type 0) → (changes flushes rests : S → Result (Unit {0}) DiskFault → S → Type 0)
    → (synced failed : Y → ℕ) → (marked : Y → SyncMark) → (next : S → ℕ) → (takes : S → Bool) → Type 0
ClosedSessionLaw {S} {Y} contents honest reads changes flushes rests synced failed marked next takes = (counts : Bool) (old new : SyncedDisk S Y) (result : Result (Unit {0}) DiskFault)
    (closes : Closes (AsksSectors contents honest reads changes flushes) synced failed marked next takes counts old result new)
    → (known : IsKnownFlushed marked next counts old ⊎ (¬ IsKnownFlushed marked next counts old))
    × IsRunOf (AsksOneOf reads changes flushes rests) (closing_asked contents honest reads changes flushes rests synced failed marked next takes counts old new result closes known) old.disk new.disk
