-- Why the bytes of a file were not read or written, and why it was not taken: what these clauses come to.
use Rattle.std.specs.Prelude.{◌≡◌, ◌≢◌, ◌<◌, ◌≤◌, ℕ, suc, ◌+◌, ◌*◌, ◌^◌, true, false, List, [], length, take, drop, Some, None, Result, Ok, Err}
use Rattle.file_die.specs.declared.bytes.ByteFault.{ByteFault}
use Rattle.file_die.specs.declared.bytes.ByteFault.TheVariants as fault
use Rattle.file_die.specs.Bytes.{WritesFailBy, HasAnswered, HasEnded, HasRefused, IsPatient, over}
use Rattle.file_die.specs.Rows.{Rows, FailsSync, TellsEnd, TellsFull}

-- EACH READ is done, leaves what the file holds as it is, and gives a byte wherever one stands and there is room
pub record GivesAll {F : Type 0} (held : F → List ℕ) (gave : F → ℕ → ℕ → Result (List ℕ) ByteFault → F → Type 0) : Type 0 where
  pub same : (old new : F) (at room : ℕ) (answer : Result (List ℕ) ByteFault) → gave old at room answer new → held new ≡ held old
  pub done : (old new : F) (at room : ℕ) (why : ByteFault) → gave old at room (Err why) new → ⊥
  pub some : (old new : F) (at room : ℕ) → 0 < room → gave old at room (Ok []) new → length (held old) ≤ at

-- EACH WRITE is done, and where it is given a byte takes one
pub record TakesAll {F : Type 0} (wrote : F → ℕ → List ℕ → Result ℕ ByteFault → F → Type 0) : Type 0 where
  pub done : (old new : F) (at : ℕ) (bytes : List ℕ) (why : ByteFault) → wrote old at bytes (Err why) new → ⊥
  pub some : (old new : F) (at : ℕ) (bytes : List ℕ) → 0 < length bytes → wrote old at bytes (Ok 0) new → ⊥

-- the last write was answered, and not that there is no room
abbrev pub HadRoom : {F : Type 0} → (wrote : F → ℕ → List ℕ → Result ℕ ByteFault → F → Type 0) → (new : F) → Type 0
HadRoom wrote new = (answer : Result ℕ ByteFault) × (answer ≢ Err fault.NoSpace) × HasAnswered wrote answer new

-- ---- laws

-- reads that give all that stands have ended only where more was wanted, and that is told as `Other`
abbrev pub EndedLaw : {F : Type 0} → (gave : F → ℕ → ℕ → Result (List ℕ) ByteFault → F → Type 0) → Type 0
EndedLaw {F} gave = (held : F → List ℕ) (old new : F) (at wanted : ℕ) (why : ByteFault) → GivesAll held gave → HasEnded gave old at wanted why new → (length (held old) < at + wanted) × (why ≡ fault.Other)

-- those of a file that gives what stands there as far as there is room, do
abbrev pub WholeReadLaw : Type 0
WholeReadLaw = GivesAll {F = List ℕ} (λ bytes. bytes) (λ old at room answer new. (new ≡ old) × (answer ≡ Ok (take room (drop at old))))

-- writes that are done and take bytes fail by nothing
abbrev pub NoWriteFailsLaw : {F : Type 0} → (wrote : F → ℕ → List ℕ → Result ℕ ByteFault → F → Type 0) → Type 0
NoWriteFailsLaw {F} wrote = (why : ByteFault) (new : F) → TakesAll wrote → WritesFailBy wrote why new → ⊥

-- those of a file that takes all the bytes that it is given, do
abbrev pub WholeWriteLaw : Type 0
WholeWriteLaw = TakesAll {F = List ℕ} (λ old at bytes answer new. (new ≡ over at bytes old) × (answer ≡ Ok (length bytes)))

-- a fault that is not `Other` is the file's last answer
abbrev pub OwnFaultLaw : {F : Type 0} → (wrote : F → ℕ → List ℕ → Result ℕ ByteFault → F → Type 0) → Type 0
OwnFaultLaw {F} wrote = (why : ByteFault) (new : F) → why ≢ fault.Other → WritesFailBy wrote why new → HasAnswered wrote (Err why) new

-- whether it was for want of room is told by the file's last answer, as long as no sync has failed
abbrev pub FullLaw : {F : Type 0} → (wrote : F → ℕ → List ℕ → Result ℕ ByteFault → F → Type 0) → Type 0
FullLaw {F} wrote = (old new : Rows F) → TellsFull wrote old new
    → (new.full ≡ true → (old.sync_failed ≡ false) × HasAnswered wrote (Err fault.NoSpace) new.file) × (new.full ≡ false → old.sync_failed ≡ false → HadRoom wrote new.file)

-- rows whose file's writes are done and take bytes are changed
abbrev pub ChangedLaw : {F : Type 0} → (wrote : F → ℕ → List ℕ → Result ℕ ByteFault → F → Type 0) → Type 0
ChangedLaw {F} wrote = (old new : Rows F) → TakesAll wrote → TellsFull wrote old new → ⊥

-- a row that a file has, whose reads give all that stands, is read
abbrev pub RowReadLaw : {F : Type 0} → (gave : F → ℕ → ℕ → Result (List ℕ) ByteFault → F → Type 0) → Type 0
RowReadLaw {F} gave = (held : F → List ℕ) (row size : ℕ) (old new : Rows F) → GivesAll held gave → row * size + size ≤ length (held old.file) → TellsEnd gave row size old new → ⊥

-- a file whose syncs never fail is synced, as long as none has failed
abbrev pub SyncedLaw : {F : Type 0} → (refused : F → ByteFault → F → Type 0) → Type 0
SyncedLaw {F} refused = (old new : Rows F) → ((file left : F) (why : ByteFault) → refused file why left → ⊥) → FailsSync refused old new → old.sync_failed ≡ true

-- why the first call failed is the file's own answer
abbrev pub FirstFaultLaw : {F : Type 0} → (wrote : F → ℕ → List ℕ → Result ℕ ByteFault → F → Type 0) → Type 0
FirstFaultLaw {F} wrote = (old new : Rows F) (why : ByteFault) → old.fault ≡ None → new.fault ≡ Some why → TellsFull wrote old new → WritesFailBy wrote why new.file

-- a file whose syncs and tellings of its length never fail is refused by none
abbrev pub NeverRefusedLaw : {F : Type 0} → (refused : F → ByteFault → F → Type 0) → Type 0
NeverRefusedLaw {F} refused = (why : ByteFault) (new : F) → ((old left : F) (e : ByteFault) → refused old e left → ⊥) → HasRefused refused why new → ⊥

-- a file that counts its calls that were interrupted, and has not come to 2^64, is told as interrupted by none
abbrev pub PatientLaw : {F : Type 0} → (one : F → F → Type 0) → Type 0
PatientLaw {F} one = (count : F → ℕ) (why : ByteFault) (new : F) → ((old left : F) → one old left → count left ≡ suc (count old)) → count new < 2 ^ 64 → IsPatient one why new → why ≢ fault.Interrupted
