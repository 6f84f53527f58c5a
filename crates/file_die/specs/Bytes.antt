-- A FILE OF BYTES: what stands in it, what would stand there if the power went, and what each call makes of both.
use Rattle.std.specs.Prelude.{◌≡◌, ◌<◌, ◌⊎◌, ℕ, suc, ◌+◌, ◌*◌, ◌^◌, Bool, true, List, [], ◌∷◌, ◌++◌, length, take, drop, slice_get, slice_index, if◌then◌else◌, Result, Ok, Err, IfOk}
use Rattle.page_layout.specs.Page.{Page}
use Rattle.std.specs.declared.io.ErrorKind.{ErrorKind}
use Rattle.std.specs.declared.io.ErrorKind.TheVariants as kind
use Rattle.file_die.specs.declared.bytes.ByteFault.{ByteFault}
use Rattle.file_die.specs.declared.bytes.ByteFault.TheVariants as fault
use Rattle.file_die.specs.Store.{MayBeLeft, LastsOf}

-- what an error of the system comes to
abbrev pub fault_of : ErrorKind → ByteFault
fault_of kind.Interrupted = fault.Interrupted
fault_of kind.StorageFull = fault.NoSpace
fault_of kind.QuotaExceeded = fault.NoSpace
fault_of _ = fault.Other

-- A FILE BETWEEN TWO CALLS: its bytes, those that it would have if the power went now, and how many of its syncs have failed
pub record Bytes : Type 0 where
  pub bytes : List ℕ
  pub durable : List ℕ
  pub failed_syncs : ℕ

-- all of it are bytes
pub record HoldsOnlyBytes (s : Bytes) : Type 0 where
  pub bytes_fit : (i : ℕ) → slice_index s.bytes i < 256
  pub durable_fit : (i : ℕ) → slice_index s.durable i < 256

-- the bytes with others in place of those from a place on; past the end these make them more
unfoldable pub over : ℕ → List ℕ → List ℕ → List ℕ
over at given bytes = take at bytes ++ (given ++ drop (length given) (drop at bytes))

-- ---- what is left. A place has a byte, or none, past the end

-- each place has what it had, or what it was to have
abbrev pub Mixes : List ℕ → List ℕ → List ℕ → Type 0
Mixes was wanted left = (i : ℕ) → (slice_get left i ≡ slice_get was i) ⊎ (slice_get left i ≡ slice_get wanted i)

-- each place would have what it had if the power had gone before, what it had, or what it has
abbrev pub LastsMixed : List ℕ → List ℕ → List ℕ → List ℕ → Type 0
LastsMixed lasted was is now = (i : ℕ) → (slice_get now i ≡ slice_get lasted i) ⊎ ((slice_get now i ≡ slice_get was i) ⊎ (slice_get now i ≡ slice_get is i))

-- the first places are alike
abbrev pub AreAlike : ℕ → List ℕ → List ℕ → Type 0
AreAlike n xs ys = (i : ℕ) → i < n → slice_get xs i ≡ slice_get ys i

-- ---- one call

-- A READ changes nothing. One that is done gives bytes from the place on
pub record ReadsBytes (s : Bytes) (at : ℕ) (answer : Result ℕ ByteFault) (given : List ℕ) (t : Bytes) : Type 0 where
  pub same : t ≡ s
  pub gave : IfOk answer (λ n. (i : ℕ) → i < n → slice_get given i ≡ slice_get s.bytes (at + i))

-- A WRITE of bytes at a place, done or failed, leaves each place as it was or as it was to be; one that is done has written the first n of them
pub record WritesBytes (s : Bytes) (at : ℕ) (given : List ℕ) (answer : Result ℕ ByteFault) (t : Bytes) : Type 0 where
  pub mixes : Mixes s.bytes (over at given s.bytes) t.bytes
  pub moved : IfOk answer (λ n. AreAlike (at + n) t.bytes (over at given s.bytes))
  pub lasts : LastsMixed s.durable s.bytes t.bytes t.durable
  pub syncs : t.failed_syncs ≡ s.failed_syncs

-- A SYNC changes no byte. One that is done, where none before it failed, makes all last
pub record SyncsBytes (s : Bytes) (done : Bool) (t : Bytes) : Type 0 where
  pub same : t.bytes ≡ s.bytes
  pub synced : done ≡ true → s.failed_syncs ≡ 0 → t.durable ≡ s.bytes
  pub lasts : LastsMixed s.durable s.bytes t.bytes t.durable
  pub syncs : t.failed_syncs ≡ (if done then s.failed_syncs else suc s.failed_syncs)

-- ---- pages in it

-- the bytes of a row, where each row has so many
abbrev pub piece : ℕ → ℕ → List ℕ → List ℕ
piece size row bytes = take size (drop (row * size) bytes)

-- WHAT WAS TORN TELLS ITSELF, as the rows are read: since the file was so, with these bytes to be in it, each row reads as it did, as it was to, or as
-- a page without a sound record; and so do those that would be there if the power went
pub record IsTold (size : ℕ) (reads : List ℕ → Page) (since : Bytes) (wanted : List ℕ) (t : Bytes) : Type 0 where
  pub stands : (row : ℕ) → MayBeLeft (reads (piece size row since.bytes) ∷ reads (piece size row wanted) ∷ []) (reads (piece size row t.bytes))
  pub lasts : (row : ℕ) → LastsOf (reads (piece size row since.durable)) (reads (piece size row since.bytes)) (reads (piece size row t.bytes)) (reads (piece size row t.durable))

-- a call that is to make these bytes of the file: what was told of it before is told of it after
abbrev pub KeepsTold : ℕ → (List ℕ → Page) → List ℕ → Bytes → Bytes → Type 0
KeepsTold size reads wanted s t = (since : Bytes) → IsTold size reads since wanted s → IsTold size reads since wanted t

-- ---- why bytes were not written

-- the last write that it was asked for was answered so, by the file's own word for one write
abbrev pub HasAnswered : {F : Type 0} → (wrote : F → ℕ → List ℕ → Result ℕ ByteFault → F → Type 0) → (answer : Result ℕ ByteFault) → (new : F) → Type 0
HasAnswered {F} wrote answer new = (mid : F) × (at : ℕ) × (bytes : List ℕ) × wrote mid at bytes answer new

-- that write took none of its bytes, of which there was one or more
abbrev pub TookNone : {F : Type 0} → (wrote : F → ℕ → List ℕ → Result ℕ ByteFault → F → Type 0) → (new : F) → Type 0
TookNone {F} wrote new = (mid : F) × (at : ℕ) × (bytes : List ℕ) × (0 < length bytes) × wrote mid at bytes (Ok 0) new

-- WRITES FAILED BY A FAULT that was the file's last answer; by `Other` also where its last write took no byte
abbrev pub WritesFailBy : {F : Type 0} → (wrote : F → ℕ → List ℕ → Result ℕ ByteFault → F → Type 0) → ByteFault → (new : F) → Type 0
WritesFailBy wrote why new = HasAnswered wrote (Err why) new ⊎ ((why ≡ fault.Other) × TookNone wrote new)

-- ---- why it was not taken, or not made to last

-- the last call that it was asked for failed so, by the file's own word for a sync and for the telling of its length
abbrev pub HasRefused : {F : Type 0} → (refused : F → ByteFault → F → Type 0) → ByteFault → (new : F) → Type 0
HasRefused {F} refused why new = (mid : F) × refused mid why new

-- ---- reads one behind another

-- the answer of a read, with the bytes that it gave
abbrev pub given_by : Result ℕ ByteFault → List ℕ → Result (List ℕ) ByteFault
given_by (Ok n) bytes = Ok (take n bytes)
given_by (Err why) bytes = Err why

-- these bytes; none where it failed
abbrev pub came_by : Result (List ℕ) ByteFault → List ℕ
came_by (Ok bytes) = bytes
came_by (Err why) = []

-- READS FROM A PLACE ON, each where the one before has ended, have given these bytes, by the file's own word for one read
pub data Gives {F : Type 0} (gave : F → ℕ → ℕ → Result (List ℕ) ByteFault → F → Type 0) (old : F) (at : ℕ) : List ℕ → F → Type 0 where
  NoRead : Gives gave old at [] old
  OneMore : (before : List ℕ) (mid : F) (room : ℕ) (answer : Result (List ℕ) ByteFault) (new : F) → Gives gave old at before mid → gave mid (at + length before) room answer new → Gives gave old at (before ++ came_by answer) new

-- READS FROM A PLACE ON HAVE ENDED before so many bytes were read: the last one, where the ones before it had ended and with room for all the rest, failed by
-- this fault, or gave none, which is told as `Other`
pub record HasEnded {F : Type 0} (gave : F → ℕ → ℕ → Result (List ℕ) ByteFault → F → Type 0) (old : F) (at wanted : ℕ) (why : ByteFault) (new : F) : Type 0 where
  pub before : List ℕ
  pub mid : F
  pub gives : Gives gave old at before mid
  pub rest : ℕ
  pub some : 0 < rest
  pub unread : length before + rest ≡ wanted
  pub last : gave mid (at + length before) rest (Err why) new ⊎ ((why ≡ fault.Other) × gave mid (at + length before) rest (Ok []) new)

-- ---- writes one behind another

-- how many bytes are taken, after as many as had been
abbrev pub taken_by : ℕ → Result ℕ ByteFault → ℕ
taken_by done (Ok n) = done + n
taken_by done (Err why) = done

-- WRITES OF BYTES FROM A PLACE ON, each of all that are left where the one before has ended, have taken so many of them, by the file's own word for one write
pub data TakesBytes {F : Type 0} (wrote : F → ℕ → List ℕ → Result ℕ ByteFault → F → Type 0) (old : F) (at : ℕ) (bytes : List ℕ) : ℕ → F → Type 0 where
  NoWrite : TakesBytes wrote old at bytes 0 old
  OneWrite : (done : ℕ) (mid : F) (answer : Result ℕ ByteFault) (new : F) → TakesBytes wrote old at bytes done mid → wrote mid (at + done) (drop done bytes) answer new → TakesBytes wrote old at bytes (taken_by done answer) new

-- they took a part of them only
abbrev pub TakesFewer : {F : Type 0} → (wrote : F → ℕ → List ℕ → Result ℕ ByteFault → F → Type 0) → (old : F) → (at : ℕ) → (bytes : List ℕ) → (new : F) → Type 0
TakesFewer wrote old at bytes new = (done : ℕ) × (done < length bytes) × TakesBytes wrote old at bytes done new

-- ---- calls that were interrupted

-- a read was, and a write
abbrev pub ReadInterrupted : {F : Type 0} → (gave : F → ℕ → ℕ → Result (List ℕ) ByteFault → F → Type 0) → (old new : F) → Type 0
ReadInterrupted gave old new = (at : ℕ) × (room : ℕ) × gave old at room (Err fault.Interrupted) new

abbrev pub WriteInterrupted : {F : Type 0} → (wrote : F → ℕ → List ℕ → Result ℕ ByteFault → F → Type 0) → (old new : F) → Type 0
WriteInterrupted wrote old new = (at : ℕ) × (bytes : List ℕ) × wrote old at bytes (Err fault.Interrupted) new

-- SO MANY IN A ROW WERE, each from where the one before had left the file
pub data InARow {F : Type 0} (one : F → F → Type 0) : ℕ → F → Type 0 where
  NoCall : (new : F) → InARow one 0 new
  OneCall : (n : ℕ) (mid new : F) → InARow one n mid → one mid new → InARow one (suc n) new

-- a call that was interrupted was made again: it is told only where 2^64 in a row were
abbrev pub IsPatient : {F : Type 0} → (one : F → F → Type 0) → ByteFault → (new : F) → Type 0
IsPatient one why new = why ≡ fault.Interrupted → InARow one (2 ^ 64) new
