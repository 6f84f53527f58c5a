-- WHAT A DISK IN MEMORY COMES TO: what is written is a function of what is read.
use Rattle.std.specs.Prelude.{◌≡◌, ◌⊎◌, ℕ, List, Option, Result, Ok}
use Rattle.request_stream.specs.declared.reply.ServeFault.{ServeFault}
use Rattle.nbd_stream.specs.declared.export.Export.{Export}
use Rattle.nbd_stream.specs.declared.request.StreamEnd.{StreamEnd}
use Rattle.nbd_stream.specs.declared.negotiation.Negotiated.TheVariants.{Transmission}
use Rattle.nbd_stream.specs.Frames.{NbdRequest}
use Rattle.nbd_stream.specs.Negotiation.{Negotiates}
use Rattle.nbd_stream.specs.Runs.{bytes_left, array_exchanges}
use Rattle.nbd_stream.specs.Transmission.{Carries, negotiated_as}

-- after a negotiation these requests were read, and what was written are the answers of the array
pub record AnswersAsArray (e : Export) (limit : ℕ) (bytes left_bytes : List ℕ)
    (unread left before after : Option (List ℕ)) (result : Result StreamEnd ServeFault) : Type 0 where
  pub unread' : Option (List ℕ)
  pub before' : Option (List ℕ)
  pub negotiated : Negotiates e limit unread unread' before before' (Ok Transmission)
  pub requests : List NbdRequest
  pub stream : Carries unread' left before' after (array_exchanges e bytes requests) result
  pub left_is : left_bytes ≡ bytes_left e bytes requests

-- no request was read, and the bytes are as they were; or some were
abbrev pub ServesBytes : Export → (limit : ℕ) → (bytes left_bytes : List ℕ) → (unread left before after : Option (List ℕ)) → Result StreamEnd ServeFault → Type 0
ServesBytes e limit bytes left_bytes unread left before after result =
    ((left_bytes ≡ bytes) × Negotiates e limit unread left before after (negotiated_as result))
    ⊎ AnswersAsArray e limit bytes left_bytes unread left before after result
