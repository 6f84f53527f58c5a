-- A SESSION OF THE SERVER: what it read, what the device was told and answered, and what was written.
use Rattle.std.specs.Prelude.{◌≡◌, ◌⊎◌, ◌+◌, ℕ, false, List, [], ◌++◌, length, map, Option, Some, None, IfSome, Result, Ok, Err}
use Rattle.std.specs.List.{flat_map, AllByRecursion}
use Rattle.std.specs.Io.KnownBytes.{Appends, Consumes, Keeps}
use Rattle.page_layout.specs.View.{View}
use Rattle.promises.specs.Step.{Reply}
use Rattle.promises.specs.Stream.{Request, IsRequest, IsBeginning, Splits, command_of, is_header, request_bytes, reply_bytes, replies_bytes, out_bytes}
use Rattle.promises.specs.declared.stream.End.{End}
use Rattle.promises.specs.declared.stream.End.TheVariants.{BadFrame}
use Rattle.request_stream.specs.declared.reply.ServeFault.{ServeFault}
use Rattle.request_stream.specs.declared.reply.ServeFault.TheVariants as fault
use Rattle.request_stream.specs.Frames.{AppendsFront, HasReadNoRequest, known_bytes_left, last_count, Rests, SendsBytes}
use Rattle.ftl_device.specs.declared.device.Device.{Device}
use Rattle.command_queue.specs.declared.command.Command.{Command}
use Rattle.command_queue.specs.declared.command.Command.TheVariants as told
use Rattle.command_queue.specs.Exchanges.{Exchange, reply_in, commands_in, replies_in}
use Rattle.command_queue.specs.Tells.{Tells}
use Rattle.command_queue.specs.Told.{WasTold}
use Rattle.block_server.specs.declared.server.Served.{Served}

-- ---- the streams

-- these requests were read, and then these bytes
pub record ReadsRequests (size : ℕ) (unread left : Option (List ℕ)) (requests : List Request) (tail : List ℕ) : Type 0 where
  pub each : AllByRecursion (IsRequest size) requests
  pub bytes : Consumes unread left (flat_map request_bytes requests ++ tail)

-- WHAT WAS READ AND WRITTEN, by the result, of requests and the replies to them. Where the stream ended, its bytes are these requests and
-- the rest that `end` names, and what was written is all replies, counted. After `Read` what was written answers the requests that were read
-- whole. After `Write` it is a beginning of the replies. After `OutOfMemory` there is none.
abbrev pub ServesRequests : ℕ → (unread left before after : Option (List ℕ)) → List Request → List Reply → Result Served ServeFault → Type 0
ServesRequests size unread left before after requests replies (Ok served) =
    (tail : List ℕ) × ReadsRequests size unread left requests tail × Rests size served.end tail left
    × Appends before after (out_bytes requests replies served.end)
    × (served.replies ≡ length requests + last_count served.end)
    × IfSome unread (λ input. Splits size input requests served.end (tail ++ known_bytes_left left))
ServesRequests size unread left before after requests replies (Err fault.Read) =
    (tail : List ℕ) × ReadsRequests size unread left requests tail × IsBeginning size tail × Appends before after (replies_bytes requests replies)
ServesRequests size unread left before after requests replies (Err fault.Write) =
    (ReadsRequests size unread left requests [] × AppendsFront before after (replies_bytes requests replies))
    ⊎ ((tail : List ℕ) × ReadsRequests size unread left requests tail × (length tail ≡ 12) × (is_header tail ≡ false) × AppendsFront before after (out_bytes requests replies BadFrame))
ServesRequests size unread left before after requests replies (Err fault.OutOfMemory) = (requests ≡ []) × Keeps unread left × Keeps before after

-- ---- the device

-- THE SESSION: each request was told to the device, and it answered
pub record Session {N : Type 0} (view : View N)
    (old new : Device N) (unread left before after : Option (List ℕ)) (result : Result Served ServeFault) : Type 0 where
  pub requests : List Request
  pub exchanges : List Exchange
  pub commands : commands_in exchanges ≡ map command_of requests
  pub told : WasTold view old exchanges new
  pub stream : ServesRequests old.engine.geometry.data_bytes unread left before after requests (replies_in exchanges) result

-- ---- one request

-- the body that a write is told
abbrev pub IsWriteBody : List ℕ → Command → Type 0
IsWriteBody body (told.Read sector) = Unit {0}
IsWriteBody body (told.Write sector bytes) = bytes.now ≡ body
IsWriteBody body (told.Trim sector) = Unit {0}
IsWriteBody body told.Flush = Unit {0}
IsWriteBody body told.Turn = Unit {0}

-- the device was told what the request asks, and the reply was written, or a beginning of it
pub record AnswersRequest {N : Type 0} (view : View N)
    (old new : Device N) (r : Request) (before after : Option (List ℕ)) (result : Result (Unit {0}) ServeFault) : Type 0 where
  pub exchange : Exchange
  pub command_is : exchange.command ≡ command_of r
  pub tells : Tells view old exchange new
  pub sends : SendsBytes before after (reply_bytes r (reply_in exchange)) result

-- a request was read, the device was told it, and its reply was written as this says
pub record HasServed {N : Type 0} (view : View N)
    (old new : Device N) (unread left : Option (List ℕ)) (writes : List ℕ → Type 0) : Type 0 where
  pub request : Request
  pub exchange : Exchange
  pub whole : IsRequest old.engine.geometry.data_bytes request
  pub read : Consumes unread left (request_bytes request)
  pub command_is : exchange.command ≡ command_of request
  pub tells : Tells view old exchange new
  pub written : writes (reply_bytes request (reply_in exchange))

abbrev pub ServesNextCommand : {N : Type 0} → (view : View N) → (old new : Device N)
    → (unread left before after : Option (List ℕ)) → Result (Option End) ServeFault → Type 0
ServesNextCommand view old new unread left before after (Ok None) = HasServed view old new unread left (Appends before after)
ServesNextCommand view old new unread left before after (Ok (Some end)) = HasReadNoRequest old new unread left before after (λ tail. Rests old.engine.geometry.data_bytes end tail left)
ServesNextCommand view old new unread left before after (Err fault.Read) = HasReadNoRequest old new unread left before after (IsBeginning old.engine.geometry.data_bytes)
ServesNextCommand view old new unread left before after (Err fault.Write) = HasServed view old new unread left (AppendsFront before after)
ServesNextCommand view old new unread left before after (Err fault.OutOfMemory) = ⊥
