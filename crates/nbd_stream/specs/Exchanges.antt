-- EXCHANGES: what a disk was asked in a transmission, and what was answered; and the rests between them.
use Rattle.std.specs.Prelude.{◌≡◌, ℕ, Bool, true, List, [], ◌∷◌, map, Option, Some, None, IsSome, IfSome, Result, Ok, Err, IsOk}
use Rattle.std.specs.List.{AllByRecursion}
use Rattle.nbd_stream.specs.declared.export.Export.{Export}
use Rattle.nbd_stream.specs.declared.fault.DiskFault.{DiskFault}
use Rattle.nbd_stream.specs.declared.reply.RequestError.{RequestError}
use Rattle.nbd_stream.specs.declared.request.NbdHeader.{NbdHeader}
use Rattle.nbd_stream.specs.declared.task.Task.{Task}
use Rattle.nbd_stream.specs.Frames.{NbdRequest, simple_reply_bytes}
use Rattle.nbd_stream.specs.Tasks.{admitted, asks_change}
use Rattle.nbd_stream.specs.Disk.{Contents, Idles, PerformsTask, answer_from, asked_as}

-- AN EXCHANGE: a request, and the bytes that answer it, or an error
pub record NbdExchange : Type 0 where
  pub request : NbdRequest
  pub answer : Result (List ℕ) RequestError

abbrev pub requests_in : List NbdExchange → List NbdRequest
requests_in xs = map (λ (x : NbdExchange). x.request) xs

-- the bytes of an answer
abbrev pub bytes_in : Result (List ℕ) RequestError → List ℕ
bytes_in (Ok bytes) = bytes
bytes_in (Err e) = []

-- THE REPLY: the request's cookie, and the answer
abbrev pub reply_bytes_in : NbdExchange → List ℕ
reply_bytes_in x = simple_reply_bytes x.request.cookie x.answer (bytes_in x.answer)

-- its header
abbrev pub header_of : NbdRequest → NbdHeader
header_of r = record { flags = r.flags; code = r.code; cookie = r.cookie; offset = r.offset; count = r.count }

-- what it asks of a disk
abbrev pub task_of : Export → NbdRequest → Result Task RequestError
task_of e r = admitted e (header_of r)

-- THE CALL THAT ANSWERED: the disk was asked the task itself, the answer is made of the one that it gave, and the call is what the disk says of such a one
pub record HasDone {D : Type 0} (does : D → Task → Result (Unit {0}) DiskFault → D → Type 0) (task : Task)
    (old : D) (answer : Result (List ℕ) RequestError) (new : D) : Type 0 where
  pub done : Result (Unit {0}) DiskFault
  pub told : answer ≡ answer_from done (bytes_in answer)
  pub does_so : does old (asked_as task) done new

-- ONE EXCHANGE, by what was asked: a request that is refused is answered its error, and the disk is as it was; else the disk was asked
abbrev pub TellsBy : {D : Type 0} → (D → Contents) → (honest calm : D → Bool) → (does : D → Task → Result (Unit {0}) DiskFault → D → Type 0)
    → Result Task RequestError → D → NbdExchange → D → Type 0
TellsBy contents honest calm does (Err e) old x new = (x.answer ≡ Err e) × (new ≡ old)
TellsBy contents honest calm does (Ok task) old x new =
    PerformsTask contents honest calm task x.request.body old x.answer new × HasDone does task old x.answer new

abbrev pub TellsRequest : {D : Type 0} → (D → Contents) → (honest calm : D → Bool) → (does : D → Task → Result (Unit {0}) DiskFault → D → Type 0)
    → Export → D → NbdExchange → D → Type 0
TellsRequest contents honest calm does e old x new = TellsBy contents honest calm does (task_of e x.request) old x new

-- ---- rests

-- A ROUND: an exchange, and what the disk answered to the rest after it, if there was one
pub record Round : Type 0 where
  pub exchange : NbdExchange
  pub rested : Option (Result (Unit {0}) DiskFault)

abbrev pub exchanges_in : List Round → List NbdExchange
exchanges_in rounds = map (λ (x : Round). x.exchange) rounds

-- THE REST AFTER AN EXCHANGE: none, and the disk is as it was; or, after a change alone, one that leaves the bytes and is what the disk says of a rest
abbrev pub RestsBy : {D : Type 0} → (D → Contents) → (honest calm : D → Bool) → (rests : D → Result (Unit {0}) DiskFault → D → Type 0)
    → Result Task RequestError → D → Option (Result (Unit {0}) DiskFault) → D → Type 0
RestsBy contents honest calm rests asked old None new = new ≡ old
RestsBy contents honest calm rests asked old (Some result) new =
    (asks_change asked ≡ true) × Idles contents honest calm old result new × rests old result new

-- after a change a rest, and after anything else none
abbrev pub RestsAfter : {D : Type 0} → (D → Contents) → (honest calm : D → Bool) → (rests : D → Result (Unit {0}) DiskFault → D → Type 0)
    → Result Task RequestError → D → D → Type 0
RestsAfter contents honest calm rests asked old new =
    (rested : Option (Result (Unit {0}) DiskFault))
    × (asks_change asked ≡ true → IsSome rested)
    × RestsBy contents honest calm rests asked old rested new

-- ONE ROUND: from a disk to the one that was asked, and from that one to the one that rested
pub record TellsRound {D : Type 0} (contents : D → Contents) (honest calm : D → Bool)
    (does : D → Task → Result (Unit {0}) DiskFault → D → Type 0) (rests : D → Result (Unit {0}) DiskFault → D → Type 0)
    (e : Export) (old : D) (x : Round) (new : D) : Type 0 where
  pub mid : D
  pub tells : TellsRequest contents honest calm does e old x.exchange mid
  pub rest : RestsBy contents honest calm rests (task_of e x.exchange.request) mid x.rested new

-- EACH ROUND, from a disk to the next: a chain of disks, from the one to the other
abbrev pub ToldEachRound : {D : Type 0} → (D → Contents) → (honest calm : D → Bool)
    → (does : D → Task → Result (Unit {0}) DiskFault → D → Type 0) → (rests : D → Result (Unit {0}) DiskFault → D → Type 0)
    → Export → D → List Round → D → Type 0
ToldEachRound contents honest calm does rests e old [] new = new ≡ old
ToldEachRound {D} contents honest calm does rests e old (x ∷ xs) new =
    (next : D) × TellsRound contents honest calm does rests e old x next × ToldEachRound contents honest calm does rests e next xs new

-- a change that the disk was asked is followed by a rest
abbrev pub IsRested : Export → Round → Type 0
IsRested e x = asks_change (task_of e x.exchange.request) ≡ true → IsSome x.rested

abbrev pub AreRested : Export → List Round → Type 0
AreRested e xs = AllByRecursion (IsRested e) xs

-- no rest failed
abbrev pub IsRestDone : Round → Type 0
IsRestDone x = IfSome x.rested (λ result. IsOk result)

abbrev pub AreRestsDone : List Round → Type 0
AreRestsDone xs = AllByRecursion IsRestDone xs
