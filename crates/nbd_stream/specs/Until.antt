-- HOW LONG A DISK HOLDS WHAT IT IS GIVEN: the rounds before the first one that ended that.
use Rattle.std.specs.Prelude.{◌≡◌, ◌⊎◌, Bool, true, false, List, [], ◌∷◌, ◌++◌, Some, Result, Ok, Err, IsOk, IsErr}
use Rattle.nbd_stream.specs.declared.export.Export.{Export}
use Rattle.nbd_stream.specs.declared.fault.DiskFault.{DiskFault}
use Rattle.nbd_stream.specs.declared.fault.DiskFault.TheVariants.{Failed}
use Rattle.nbd_stream.specs.declared.task.Task.{Task}
use Rattle.nbd_stream.specs.Disk.{Contents}
use Rattle.nbd_stream.specs.Exchanges.{Round, TellsRound, ToldEachRound, AreRestsDone, exchanges_in, requests_in, task_of}
use Rattle.nbd_stream.specs.Runs.{Runs, AreDone, bytes_left, array_exchanges}

-- nothing more was asked; or the next round left a disk that is not honest, and of that one the others were asked
abbrev pub BreaksBy : {D : Type 0} → (D → Contents) → (honest calm : D → Bool)
    → (does : D → Task → Result (Unit {0}) DiskFault → D → Type 0) → (rests : D → Result (Unit {0}) DiskFault → D → Type 0)
    → Export → D → List Round → D → Type 0
BreaksBy contents honest calm does rests e mid [] new = new ≡ mid
BreaksBy {D} contents honest calm does rests e mid (x ∷ xs) new =
    (next : D) × TellsRound contents honest calm does rests e mid x next × (honest next ≡ false) × ToldEachRound contents honest calm does rests e next xs new

-- THE LONGEST FRONT of the rounds that an honest disk came through honest: over it the answers are a run of its array. After it nothing was
-- asked, or the next round ended it.
pub record IsHonestUntil {D : Type 0} (contents : D → Contents) (honest calm : D → Bool)
    (does : D → Task → Result (Unit {0}) DiskFault → D → Type 0) (rests : D → Result (Unit {0}) DiskFault → D → Type 0)
    (e : Export) (old : D) (xs : List Round) (new : D) : Type 0 where
  pub before : List Round
  pub after : List Round
  pub joined : xs ≡ before ++ after
  pub mid : D
  pub each : ToldEachRound contents honest calm does rests e old before mid
  pub held : honest mid ≡ true
  pub runs : Runs e (contents old) (exchanges_in before) (contents mid)
  pub breaks : BreaksBy contents honest calm does rests e mid after new

-- ---- laws

-- A DISK THAT IS HONEST NO MORE is never again, whatever it is asked
abbrev pub NeverHonestAgainLaw : {D : Type 0} → (D → Contents) → (honest calm : D → Bool)
    → (does : D → Task → Result (Unit {0}) DiskFault → D → Type 0) → (rests : D → Result (Unit {0}) DiskFault → D → Type 0) → Type 0
NeverHonestAgainLaw {D} contents honest calm does rests =
    (e : Export) (old new : D) (xs : List Round) → ToldEachRound contents honest calm does rests e old xs new → honest old ≡ false → honest new ≡ false

-- a round that was asked of the disk and failed, or whose rest failed
abbrev pub IsFailed : Export → Round → Type 0
IsFailed e x = ((task : Task) × (task_of e x.exchange.request ≡ Ok task)) × (IsErr x.exchange.answer ⊎ (x.rested ≡ Some (Err Failed)))

abbrev pub IsFirstFailed : Export → List Round → Type 0
IsFirstFailed e [] = Unit {0}
IsFirstFailed e (x ∷ xs) = IsFailed e x

-- an answer without an error is the array's too where the rest after it failed
abbrev pub IsFirstOfRun : Export → Contents → (before after : List Round) → Type 0
IsFirstOfRun e s before [] = Unit {0}
IsFirstOfRun e s before (x ∷ xs) = IsOk x.exchange.answer → (t : Contents) × Runs e s (exchanges_in (before ++ x ∷ [])) t

-- WHERE IT ENDED: not while the disk is honest, and in no round but one that was asked of the disk and failed, or whose rest failed. What was answered
-- without an error until then is the array's. Where no task before it failed, the exchanges before it are those of the array.
abbrev pub UntilLaw : {D : Type 0} → (D → Contents) → (honest calm : D → Bool)
    → (does : D → Task → Result (Unit {0}) DiskFault → D → Type 0) → (rests : D → Result (Unit {0}) DiskFault → D → Type 0) → Type 0
UntilLaw {D} contents honest calm does rests =
    (e : Export) (old new : D) (xs : List Round) (until : IsHonestUntil contents honest calm does rests e old xs new)
    → (honest new ≡ true → (until.before ≡ xs) × (new ≡ until.mid))
    × IsFirstFailed e until.after
    × IsFirstOfRun e (contents old) until.before until.after
    × (AreDone e (exchanges_in until.before)
    → (exchanges_in until.before ≡ array_exchanges e (contents old).bytes (requests_in (exchanges_in until.before)))
    × ((contents until.mid).bytes ≡ bytes_left e (contents old).bytes (requests_in (exchanges_in until.before))))

-- where no task and no rest fails, an honest disk stays so
abbrev pub StaysHonestLaw : {D : Type 0} → (D → Contents) → (honest calm : D → Bool)
    → (does : D → Task → Result (Unit {0}) DiskFault → D → Type 0) → (rests : D → Result (Unit {0}) DiskFault → D → Type 0) → Type 0
StaysHonestLaw {D} contents honest calm does rests =
    (e : Export) (old new : D) (xs : List Round) → ToldEachRound contents honest calm does rests e old xs new
    → AreDone e (exchanges_in xs) → AreRestsDone xs → honest new ≡ honest old
