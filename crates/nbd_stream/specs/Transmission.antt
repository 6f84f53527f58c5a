-- A TRANSMISSION: what was read, what the disk was asked and answered, what was written, and when the disk rested.
use Rattle.std.specs.Prelude.{◌≡◌, ◌⊎◌, ℕ, Bool, true, List, [], ◌∷◌, ◌++◌, length, Option, Some, None, IfSome, Result, Ok, Err}
use Rattle.std.specs.List.{flat_map, AllByRecursion}
use Rattle.std.specs.Io.KnownBytes.{Appends, Consumes}
use Rattle.request_stream.specs.Frames.{AppendsFront, HasReadNoRequest, known_bytes_left, SendsBytes}
use Rattle.request_stream.specs.declared.reply.ServeFault.{ServeFault}
use Rattle.request_stream.specs.declared.reply.ServeFault.TheVariants as fault
use Rattle.nbd_stream.specs.declared.export.Export.{Export}
use Rattle.nbd_stream.specs.declared.fault.DiskFault.{DiskFault}
use Rattle.nbd_stream.specs.declared.request.StreamEnd.{StreamEnd}
use Rattle.nbd_stream.specs.declared.negotiation.Negotiated.{Negotiated}
use Rattle.nbd_stream.specs.declared.negotiation.Negotiated.TheVariants.{Transmission, Ended}
use Rattle.nbd_stream.specs.declared.task.Task.{Task}
use Rattle.nbd_stream.specs.Frames.{NbdRequest, IsNbdRequest, IsNbdRequestBeginning, TransmissionRests, SplitsTransmission, nbd_request_bytes}
use Rattle.nbd_stream.specs.Negotiation.{Negotiates}
use Rattle.nbd_stream.specs.Disk.{Contents}
use Rattle.nbd_stream.specs.Exchanges.{NbdExchange, Round, TellsRequest, TellsRound, ToldEachRound, IsRested, AreRested, AreRestsDone, exchanges_in, reply_bytes_in, requests_in}
use Rattle.nbd_stream.specs.Runs.{Runs, AreDone}
use Rattle.nbd_stream.specs.Until.{IsHonestUntil}

-- ---- the streams

-- these requests were read, and then these bytes
pub record ReadsNbdRequests (unread left : Option (List ℕ)) (requests : List NbdRequest) (tail : List ℕ) : Type 0 where
  pub each : AllByRecursion IsNbdRequest requests
  pub bytes : Consumes unread left (flat_map nbd_request_bytes requests ++ tail)

-- WHAT WAS READ AND WRITTEN, by the result. Where the stream ended, its bytes are the requests and the rest that `end` names, and what was
-- written is their replies, one each, in order. After `Read` what was written answers the requests that were read whole. After `Write` it is a
-- beginning of the replies.
abbrev pub Carries : (unread left before after : Option (List ℕ)) → List NbdExchange → Result StreamEnd ServeFault → Type 0
Carries unread left before after xs (Ok end) =
    (tail : List ℕ) × ReadsNbdRequests unread left (requests_in xs) tail × TransmissionRests end tail left
    × Appends before after (flat_map reply_bytes_in xs)
    × IfSome unread (λ input. SplitsTransmission input (requests_in xs) end (tail ++ known_bytes_left left))
Carries unread left before after xs (Err fault.Read) =
    (tail : List ℕ) × ReadsNbdRequests unread left (requests_in xs) tail × IsNbdRequestBeginning tail × Appends before after (flat_map reply_bytes_in xs)
Carries unread left before after xs (Err fault.Write) = ReadsNbdRequests unread left (requests_in xs) [] × AppendsFront before after (flat_map reply_bytes_in xs)
Carries unread left before after xs (Err fault.OutOfMemory) = ⊥

-- WHEN THE DISK RESTED, by the result: after each change that it was asked, done or failed, once the reply was handed on. After `Write` the last reply was
-- not, and no rest follows it.
abbrev pub Rested : Export → List Round → Result StreamEnd ServeFault → Type 0
Rested e xs (Ok end) = AreRested e xs
Rested e xs (Err fault.Read) = AreRested e xs
Rested e xs (Err fault.Write) =
    (before : List Round) × (last : Round) × (xs ≡ before ++ last ∷ []) × AreRested e before × (last.rested ≡ None)
Rested e xs (Err fault.OutOfMemory) = ⊥

-- THE TRANSMISSION: each request was read, asked of the disk, and answered, and after a change the disk rested. Of an honest disk the answers are a run
-- of its array: up to the first round that ended its honesty, and all of them where it is honest at the end. One that is calm did all that it
-- was asked.
pub record Transmits {D : Type 0} (contents : D → Contents) (honest calm : D → Bool)
    (does : D → Task → Result (Unit {0}) DiskFault → D → Type 0) (rests : D → Result (Unit {0}) DiskFault → D → Type 0)
    (e : Export) (old new : D) (unread left before after : Option (List ℕ)) (result : Result StreamEnd ServeFault) : Type 0 where
  pub rounds : List Round
  pub each : ToldEachRound contents honest calm does rests e old rounds new
  pub rested : Rested e rounds result
  pub sized : length (contents new).bytes ≡ length (contents old).bytes
  pub back : honest new ≡ true → honest old ≡ true
  pub calm_is : calm new ≡ calm old
  pub until : honest old ≡ true → IsHonestUntil contents honest calm does rests e old rounds new
  pub run : honest new ≡ true → Runs e (contents old) (exchanges_in rounds) (contents new)
  pub done : calm old ≡ true → AreDone e (exchanges_in rounds) × AreRestsDone rounds
  pub stream : Carries unread left before after (exchanges_in rounds) result

-- ---- one request

-- the disk was asked a request, and the reply was written, or a beginning of it
pub record Replies {D : Type 0} (contents : D → Contents) (honest calm : D → Bool) (does : D → Task → Result (Unit {0}) DiskFault → D → Type 0)
    (e : Export) (old : D) (r : NbdRequest) (new : D)
    (before after : Option (List ℕ)) (result : Result (Unit {0}) ServeFault) : Type 0 where
  pub exchange : NbdExchange
  pub request_is : exchange.request ≡ r
  pub tells : TellsRequest contents honest calm does e old exchange new
  pub sends : SendsBytes before after (reply_bytes_in exchange) result

-- a request was read, the disk was asked it, its reply was written as this says, and the disk rested as that says
pub record HasServedRound {D : Type 0} (contents : D → Contents) (honest calm : D → Bool)
    (does : D → Task → Result (Unit {0}) DiskFault → D → Type 0) (rests : D → Result (Unit {0}) DiskFault → D → Type 0)
    (e : Export) (old new : D) (unread left : Option (List ℕ)) (writes : List ℕ → Type 0) (rested : Round → Type 0) : Type 0 where
  pub round : Round
  pub whole : IsNbdRequest round.exchange.request
  pub read : Consumes unread left (nbd_request_bytes round.exchange.request)
  pub tells : TellsRound contents honest calm does rests e old round new
  pub written : writes (reply_bytes_in round.exchange)
  pub has_rested : rested round

abbrev pub ServesNext : {D : Type 0} → (D → Contents) → (honest calm : D → Bool)
    → (does : D → Task → Result (Unit {0}) DiskFault → D → Type 0) → (rests : D → Result (Unit {0}) DiskFault → D → Type 0) → Export
    → (old new : D) → (unread left before after : Option (List ℕ)) → Result (Option StreamEnd) ServeFault → Type 0
ServesNext contents honest calm does rests e old new unread left before after (Ok None) =
    HasServedRound contents honest calm does rests e old new unread left (Appends before after) (IsRested e)
ServesNext contents honest calm does rests e old new unread left before after (Ok (Some end)) =
    HasReadNoRequest old new unread left before after (λ tail. TransmissionRests end tail left)
ServesNext contents honest calm does rests e old new unread left before after (Err fault.Read) = HasReadNoRequest old new unread left before after IsNbdRequestBeginning
ServesNext contents honest calm does rests e old new unread left before after (Err fault.Write) =
    HasServedRound contents honest calm does rests e old new unread left (AppendsFront before after) (λ round. round.rested ≡ None)
ServesNext contents honest calm does rests e old new unread left before after (Err fault.OutOfMemory) = ⊥

-- ---- a whole session

-- a negotiation that came to no transmission
abbrev pub negotiated_as : Result StreamEnd ServeFault → Result Negotiated ServeFault
negotiated_as (Ok end) = Ok (Ended end)
negotiated_as (Err e) = Err e

-- A NEGOTIATION AND A TRANSMISSION: of the bytes between, so many were read and written by the one
pub record Begins {D : Type 0} (contents : D → Contents) (honest calm : D → Bool)
    (does : D → Task → Result (Unit {0}) DiskFault → D → Type 0) (rests : D → Result (Unit {0}) DiskFault → D → Type 0)
    (e : Export) (limit : ℕ) (old new : D) (unread left before after : Option (List ℕ)) (result : Result StreamEnd ServeFault) : Type 0 where
  pub unread' : Option (List ℕ)
  pub before' : Option (List ℕ)
  pub negotiated : Negotiates e limit unread unread' before before' (Ok Transmission)
  pub transmits : Transmits contents honest calm does rests e old new unread' left before' after result

-- A SESSION: a negotiation that came to no transmission, and the disk is as it was; or one that did, and the transmission
abbrev pub Serves : {D : Type 0} → (D → Contents) → (honest calm : D → Bool)
    → (does : D → Task → Result (Unit {0}) DiskFault → D → Type 0) → (rests : D → Result (Unit {0}) DiskFault → D → Type 0) → Export
    → (limit : ℕ) → (old new : D) → (unread left before after : Option (List ℕ)) → Result StreamEnd ServeFault → Type 0
Serves contents honest calm does rests e limit old new unread left before after result =
    ((new ≡ old) × Negotiates e limit unread left before after (negotiated_as result))
    ⊎ Begins contents honest calm does rests e limit old new unread left before after result
