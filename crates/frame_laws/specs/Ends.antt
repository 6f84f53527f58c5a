-- What is said where a stream of requests ends, or a read fails.
use Rattle.std.specs.Prelude.{◌≡◌, ◌≢◌, ◌⊎◌, ℕ, ◌<◌, false, List, length, Option, Err}
use Rattle.std.specs.Io.KnownBytes.{Consumes, IsAtEnd}
use Rattle.promises.specs.Stream.{Request, is_header, body_length, request_bytes}
use Rattle.promises.specs.declared.stream.End.{End}
use Rattle.promises.specs.declared.stream.End.TheVariants.{BadFrame}
use Rattle.request_stream.specs.declared.reply.ServeFault.{ServeFault}
use Rattle.request_stream.specs.Frames.{Rests, ReadsRequest}

-- A STREAM THAT ENDS at the end of a request, or inside one, has no byte left
abbrev pub AtEndLaw : Type 0
AtEndLaw = (size : ℕ) (end : End) (tail : List ℕ) (left : Option (List ℕ)) → Rests size end tail left → end ≢ BadFrame → IsAtEnd left

-- A BAD FRAME is twelve bytes that are no header
abbrev pub NoHeaderLaw : Type 0
NoHeaderLaw = (size : ℕ) (tail : List ℕ) (left : Option (List ℕ)) → Rests size BadFrame tail left → (length tail ≡ 12) × (is_header tail ≡ false)

-- A READ THAT FAILED came inside a request: it had taken fewer bytes than a header has, or fewer than the request that its header begins
abbrev pub FailedInRequestLaw : Type 0
FailedInRequestLaw = (size : ℕ) (unread left : Option (List ℕ)) (buffer : List ℕ) (fault : ServeFault) → ReadsRequest size unread left buffer (Err fault)
    → (tail : List ℕ) × Consumes unread left tail × ((length tail < 12) ⊎ ((r : Request) × (length r.body < body_length size r.op) × (tail ≡ request_bytes r)))
