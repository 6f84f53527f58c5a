-- How the requests of a stream are read one by one, and how replies are written.
use Rattle.std.specs.Prelude.{◌≡◌, ◌≢◌, ◌<◌, ℕ, false, List, [], ◌∷◌, ◌++◌, length, Option, Some, None, Result, Ok, Err}
use Rattle.std.specs.Int.{to_le_bytes, w32}
use Rattle.std.specs.Io.KnownBytes.{Appends, Consumes, IsAtEnd}
use Rattle.promises.specs.Stream.{Request, IsRequest, IsBeginning, IsRest, body_length, is_header, request_bytes}
use Rattle.promises.specs.declared.stream.Op.{Op}
use Rattle.promises.specs.declared.stream.Op.TheVariants.{Read, Write, Trim, Flush, Turn}
use Rattle.promises.specs.declared.stream.End.{End}
use Rattle.promises.specs.declared.stream.End.TheVariants.{Boundary, Unfinished, BadFrame}
use Rattle.request_stream.specs.declared.header.Header.{Header}
use Rattle.request_stream.specs.declared.reply.ServeFault.{ServeFault}
use Rattle.request_stream.specs.declared.reply.ServeFault.TheVariants as fault
use Rattle.request_stream.specs.declared.request.Next.{Next}
use Rattle.request_stream.specs.declared.request.Next.TheVariants as next

-- the known bytes that a reader has left
abbrev pub known_bytes_left : Option (List ℕ) → List ℕ
known_bytes_left None = []
known_bytes_left (Some bytes) = bytes

-- ---- requests

-- what follows the header of a request, out of a buffer of one sector
abbrev pub body_in_buffer : Op → List ℕ → List ℕ
body_in_buffer Read buffer = []
body_in_buffer Write buffer = buffer
body_in_buffer Trim buffer = []
body_in_buffer Flush buffer = []
body_in_buffer Turn buffer = []

-- the request of this header, with its body in the buffer
abbrev pub request_at : Header → List ℕ → Request
request_at h buffer = record { op = h.op; tag = h.tag; sector = h.sector; body = body_in_buffer h.op buffer }

-- What was read after the last whole request, and why no more was: the reader has ended, after nothing or after a beginning of a
-- request, or the twelve bytes are no header.
abbrev pub Rests : ℕ → End → List ℕ → Option (List ℕ) → Type 0
Rests size Boundary tail left = (tail ≡ []) × IsAtEnd left
Rests size Unfinished tail left = IsRest size Unfinished tail × IsAtEnd left
Rests size BadFrame tail left = (length tail ≡ 12) × (is_header tail ≡ false)

-- THE NEXT REQUEST, or the end, was read and nothing after it; where a read failed, a beginning of it
abbrev pub ReadsRequest : ℕ → Option (List ℕ) → Option (List ℕ) → List ℕ → Result Next ServeFault → Type 0
ReadsRequest size unread left buffer (Ok (next.Whole h)) = IsRequest size (request_at h buffer) × Consumes unread left (request_bytes (request_at h buffer))
ReadsRequest size unread left buffer (Ok (next.Ended end)) = (tail : List ℕ) × Rests size end tail left × Consumes unread left tail
ReadsRequest size unread left buffer (Err e) = (e ≡ fault.Read) × (tail : List ℕ) × IsBeginning size tail × Consumes unread left tail

-- the same, once the header was read
abbrev pub ReadsAfterHeader : ℕ → Header → Option (List ℕ) → Option (List ℕ) → List ℕ → Result Next ServeFault → Type 0
ReadsAfterHeader size header unread left buffer (Ok (next.Whole h)) = (h ≡ header) × Consumes unread left (body_in_buffer header.op buffer)
ReadsAfterHeader size header unread left buffer (Ok (next.Ended end)) = (end ≡ Unfinished) × IsAtEnd left × (part : List ℕ) × (length part < body_length size header.op) × Consumes unread left part
ReadsAfterHeader size header unread left buffer (Err e) = (e ≡ fault.Read) × (part : List ℕ) × (length part < body_length size header.op) × Consumes unread left part

-- ---- replies

-- "df", an operation's code, a status, a tag, and a sector or nothing
abbrev pub answer_bytes : (code status tag : ℕ) → List ℕ → List ℕ
answer_bytes code status tag sector = 100 ∷ 102 ∷ code ∷ status ∷ (to_le_bytes w32 tag ++ sector)

-- how many frames the end of a stream is answered with
abbrev pub last_count : End → ℕ
last_count Boundary = 0
last_count Unfinished = 0
last_count BadFrame = 1

-- a beginning of the bytes was written, or all of them
abbrev pub AppendsFront : Option (List ℕ) → Option (List ℕ) → List ℕ → Type 0
AppendsFront old new due = (sent more : List ℕ) × (sent ++ more ≡ due) × Appends old new sent

-- all of them were written, or a write failed, or the handing on of all of them did, and a beginning was
abbrev pub SendsBytes : {T : Type 0} → Option (List ℕ) → Option (List ℕ) → List ℕ → Result T ServeFault → Type 0
SendsBytes old new due (Ok x) = Appends old new due
SendsBytes old new due (Err e) = (e ≡ fault.Write) × AppendsFront old new due

-- of what serves requests: none was read whole, it is as it was, and nothing was written
pub record HasReadNoRequest {D : Type 0} (old new : D) (unread left before after : Option (List ℕ)) (P : List ℕ → Type 0) : Type 0 where
  pub tail : List ℕ
  pub is : P tail
  pub read : Consumes unread left tail
  pub same : new ≡ old
  pub kept : after ≡ before

-- ---- lines

-- a beginning of a line was written, or nothing, and never all of it: some of its bytes are missing
abbrev pub AppendsPart : Option (List ℕ) → Option (List ℕ) → List ℕ → Type 0
AppendsPart old new line = (sent more : List ℕ) × (more ≢ []) × (sent ++ more ≡ line) × Appends old new sent

-- all of it was written, or a write failed and a part was
abbrev pub SendsLine : {T : Type 0} → Option (List ℕ) → Option (List ℕ) → List ℕ → Result T ServeFault → Type 0
SendsLine old new line (Ok x) = Appends old new line
SendsLine old new line (Err e) = (e ≡ fault.Write) × AppendsPart old new line
