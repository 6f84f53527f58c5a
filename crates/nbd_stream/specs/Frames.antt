-- A transmission as bytes: whole requests and a rest, and replies. (The NBD protocol; its numbers have their most significant byte first.)
use Rattle.promises.specs.Stream.{IsBytes}
use Rattle.std.specs.Prelude.{◌≡◌, ◌<◌, ◌≤◌, ◌⊎◌, ◌^◌, ◌==◌, ◌&&◌, ℕ, Bool, true, false, List, [], ◌∷◌, ◌++◌, length, take}
use Rattle.std.specs.Prelude.{slice_index, Option, Result, Ok, Err, if◌then◌else◌}
use Rattle.std.specs.List.{flat_map, AllByRecursion}
use Rattle.std.specs.Int.{to_be_bytes, w16, w32, w64}
use Rattle.std.specs.Io.KnownBytes.{Consumes, IsAtEnd}
use Rattle.request_stream.specs.declared.reply.ServeFault.{ServeFault}
use Rattle.request_stream.specs.declared.reply.ServeFault.TheVariants as fault
use Rattle.nbd_stream.specs.declared.reply.RequestError.{RequestError}
use Rattle.nbd_stream.specs.declared.reply.RequestError.TheVariants.{NotPermitted, InputOutput, Invalid, NoSpace}
use Rattle.nbd_stream.specs.declared.request.NbdHeader.{NbdHeader}
use Rattle.nbd_stream.specs.declared.request.StreamEnd.{StreamEnd}
use Rattle.nbd_stream.specs.declared.request.StreamEnd.TheVariants.{Boundary, Unfinished, BadFrame, Disconnected}
use Rattle.nbd_stream.specs.declared.request.NextRequest.{NextRequest}
use Rattle.nbd_stream.specs.declared.request.NextRequest.TheVariants as next

-- ---- requests

-- a request: its flags, the number of its command, the cookie that its reply carries, the range of bytes that it speaks of, and the
-- bytes that follow
pub record NbdRequest : Type 0 where
  pub flags : ℕ
  pub code : ℕ
  pub cookie : ℕ
  pub offset : ℕ
  pub count : ℕ
  pub body : List ℕ

-- the magic 25609513h, and the numbers
abbrev pub nbd_header_bytes : NbdRequest → List ℕ
nbd_header_bytes r = 37 ∷ 96 ∷ 149 ∷ 19 ∷ (to_be_bytes w16 r.flags ++ (to_be_bytes w16 r.code ++ (to_be_bytes w64 r.cookie ++ (to_be_bytes w64 r.offset ++ to_be_bytes w32 r.count))))

abbrev pub nbd_request_bytes : NbdRequest → List ℕ
nbd_request_bytes r = nbd_header_bytes r ++ r.body

-- how many bytes follow the header: after a write's as many as it counts
abbrev pub counted_body_length : (code count : ℕ) → ℕ
counted_body_length code count = if code == 1 then count else 0

-- the numbers have two, two, eight, eight and four bytes, and the command is not the one that ends a transmission
pub record IsHeader (r : NbdRequest) : Type 0 where
  pub flags : r.flags < 2 ^ 16
  pub code : r.code < 2 ^ 16
  pub cookie : r.cookie < 2 ^ 64
  pub offset : r.offset < 2 ^ 64
  pub count : r.count < 2 ^ 32
  pub goes_on : (r.code == 2) ≡ false

-- and the body is as long as the header says
pub record IsNbdRequest (r : NbdRequest) : Type 0 where
  pub header : IsHeader r
  pub body : length r.body ≡ counted_body_length r.code r.count

-- ---- what comes after the last whole request

-- whether 28 bytes begin with the magic
abbrev pub begins_with_magic : List ℕ → Bool
begins_with_magic bytes = slice_index bytes 0 == 37 && slice_index bytes 1 == 96 && slice_index bytes 2 == 149 && slice_index bytes 3 == 19

-- whether their command is the one that ends the transmission
abbrev pub is_end : List ℕ → Bool
is_end bytes = slice_index bytes 6 == 0 && slice_index bytes 7 == 2

-- the beginning of a request: a part of its header, or its header and a part of its body
abbrev pub IsNbdRequestBeginning : List ℕ → Type 0
IsNbdRequestBeginning bytes = (length bytes < 28)
    ⊎ ((r : NbdRequest) × IsHeader r × (length r.body < counted_body_length r.code r.count) × (bytes ≡ nbd_request_bytes r))

-- nothing; less than a whole request; or 28 bytes with another magic, or with the command that ends the transmission, and more
abbrev pub IsTransmissionRest : StreamEnd → List ℕ → Type 0
IsTransmissionRest Boundary bytes = bytes ≡ []
IsTransmissionRest Unfinished bytes = (0 < length bytes) × IsNbdRequestBeginning bytes
IsTransmissionRest BadFrame bytes = (28 ≤ length bytes) × (begins_with_magic (take 28 bytes) ≡ false)
IsTransmissionRest Disconnected bytes = (28 ≤ length bytes) × (begins_with_magic (take 28 bytes) ≡ true) × (is_end (take 28 bytes) ≡ true)

-- THE TRANSMISSION: the bytes are these requests one after another, and then this rest
pub record SplitsTransmission (stream : List ℕ) (requests : List NbdRequest) (end : StreamEnd) (rest : List ℕ) : Type 0 where
  pub whole : stream ≡ flat_map nbd_request_bytes requests ++ rest
  pub each : AllByRecursion IsNbdRequest requests
  pub ends : IsTransmissionRest end rest

-- ---- requests as they are read

-- the request of this header, with this body
abbrev pub request_with_body : NbdHeader → List ℕ → NbdRequest
request_with_body h body = record { flags = h.flags; code = h.code; cookie = h.cookie; offset = h.offset; count = h.count; body = body }

-- 28 bytes are this header, whose numbers have as many bytes as they take
pub record SpellsHeader (bytes : List ℕ) (h : NbdHeader) : Type 0 where
  pub whole : bytes ≡ nbd_header_bytes (request_with_body h [])
  pub flags : h.flags < 2 ^ 16
  pub code : h.code < 2 ^ 16
  pub cookie : h.cookie < 2 ^ 64
  pub offset : h.offset < 2 ^ 64
  pub count : h.count < 2 ^ 32

-- so many bytes were read, and where the buffer has room for them they stand at its front; or the reader ended or failed before
abbrev pub ReadsBody : ℕ → (unread left : Option (List ℕ)) → List ℕ → Result Bool ServeFault → Type 0
ReadsBody count unread left buffer (Ok true) = (body : List ℕ) × (length body ≡ count) × Consumes unread left body × (count ≤ length buffer → body ≡ take count buffer)
ReadsBody count unread left buffer (Ok false) = (part : List ℕ) × (length part < count) × Consumes unread left part × IsAtEnd left
ReadsBody count unread left buffer (Err e) = (e ≡ fault.Read) × (part : List ℕ) × (length part < count) × Consumes unread left part

-- What was read after the last whole request, and why no more was: the reader has ended, after nothing or after a beginning of a
-- request, or 28 bytes have another magic or end the transmission.
abbrev pub TransmissionRests : StreamEnd → List ℕ → Option (List ℕ) → Type 0
TransmissionRests Boundary tail left = (tail ≡ []) × IsAtEnd left
TransmissionRests Unfinished tail left = IsTransmissionRest Unfinished tail × IsAtEnd left
TransmissionRests BadFrame tail left = (length tail ≡ 28) × (begins_with_magic tail ≡ false)
TransmissionRests Disconnected tail left = (length tail ≡ 28) × (begins_with_magic tail ≡ true) × (is_end tail ≡ true)

-- THE NEXT REQUEST, or the end, was read and nothing after it; where a read failed, a beginning of it. Where the buffer has room for
-- the request's body, it stands at the front.
abbrev pub ReadsNbdRequest : (unread left : Option (List ℕ)) → List ℕ → Result NextRequest ServeFault → Type 0
ReadsNbdRequest unread left buffer (Ok (next.Whole h)) =
    (body : List ℕ) × IsNbdRequest (request_with_body h body) × Consumes unread left (nbd_request_bytes (request_with_body h body)) × (length body ≤ length buffer → body ≡ take (length body) buffer)
ReadsNbdRequest unread left buffer (Ok (next.Ended end)) = (tail : List ℕ) × TransmissionRests end tail left × Consumes unread left tail
ReadsNbdRequest unread left buffer (Err e) = (e ≡ fault.Read) × (tail : List ℕ) × IsNbdRequestBeginning tail × Consumes unread left tail

-- the same, once the header was read
abbrev pub ReadsRest : NbdHeader → (unread left : Option (List ℕ)) → List ℕ → Result NextRequest ServeFault → Type 0
ReadsRest header unread left buffer (Ok (next.Whole h)) =
    (h ≡ header) × ((header.code == 2) ≡ false) × ReadsBody (counted_body_length header.code header.count) unread left buffer (Ok true)
ReadsRest header unread left buffer (Ok (next.Ended end)) =
    ((end ≡ Disconnected) × (header.code ≡ 2) × Consumes unread left [])
    ⊎ ((end ≡ Unfinished) × ((header.code == 2) ≡ false) × ReadsBody (counted_body_length header.code header.count) unread left buffer (Ok false))
ReadsRest header unread left buffer (Err e) = ((header.code == 2) ≡ false) × ReadsBody (counted_body_length header.code header.count) unread left buffer (Err e)

-- ---- replies

-- the protocol's number of an error: 1 EPERM, 5 EIO, 22 EINVAL, 28 ENOSPC
abbrev pub error_code : RequestError → ℕ
error_code NotPermitted = 1
error_code InputOutput = 5
error_code Invalid = 22
error_code NoSpace = 28

-- 0 where there is none
abbrev pub error_number_of : {T : Type 0} → Result T RequestError → ℕ
error_number_of (Ok done) = 0
error_number_of (Err e) = error_code e

-- the magic 67446698h, an error's number or 0, the cookie
abbrev pub reply_header_bytes : (error cookie : ℕ) → List ℕ
reply_header_bytes error cookie = 103 ∷ 68 ∷ 102 ∷ 152 ∷ (to_be_bytes w32 error ++ to_be_bytes w64 cookie)

-- a reply: the bytes that were asked for follow where there is no error
abbrev pub simple_reply_bytes : {T : Type 0} → ℕ → Result T RequestError → List ℕ → List ℕ
simple_reply_bytes cookie (Ok done) bytes = reply_header_bytes 0 cookie ++ bytes
simple_reply_bytes cookie (Err e) bytes = reply_header_bytes (error_code e) cookie

-- ---- laws

-- a transmission splits in just one way
abbrev pub TransmissionOneWayLaw : Type 0
TransmissionOneWayLaw = (stream : List ℕ) (fs gs : List NbdRequest) (d e : StreamEnd) (t u : List ℕ) → SplitsTransmission stream fs d t → SplitsTransmission stream gs e u → (fs ≡ gs) × (d ≡ e) × (t ≡ u)

-- and in some way
pub record SplitsTransmissionSomehow (stream : List ℕ) : Type 0 where
  pub requests : List NbdRequest
  pub end : StreamEnd
  pub rest : List ℕ
  pub splits : SplitsTransmission stream requests end rest

abbrev pub TransmissionSomeWayLaw : Type 0
TransmissionSomeWayLaw = (stream : List ℕ) → IsBytes stream → SplitsTransmissionSomehow stream
