-- One request is answered.
use Rattle.std.proofs.Common.{◌≡◌, ℕ, List, [], Option, Some, None, Result, Ok, Err, length, sym, subst, ap, ◌∙◌, refl}
use Rattle.std.specs.Io.KnownBytes.{Appends}
use Rattle.page_layout.specs.View.{View}
use Rattle.page_layout.specs.declared.geometry.Geometry.{Geometry}
use Rattle.promises.specs.Stream.{IsRequest, IsBeginning, command_by, command_of, reply_status, reply_body, reply_bytes}
use Rattle.promises.specs.declared.stream.Op.{Op}
use Rattle.promises.specs.declared.stream.Op.TheVariants.{Read, Write, Trim, Flush, Turn}
use Rattle.promises.specs.declared.stream.End.{End}
use Rattle.request_stream.specs.declared.header.Header.{Header}
use Rattle.request_stream.specs.declared.reply.ServeFault.{ServeFault}
use Rattle.request_stream.specs.declared.request.Next.TheVariants as next
use Rattle.request_stream.specs.Frames.{Rests, ReadsRequest, AppendsFront, request_at}
use Rattle.ftl_device.specs.declared.device.Device.{Device}
use Rattle.command_queue.specs.declared.command.Command.{Command}
use Rattle.command_queue.specs.declared.command.Command.TheVariants as told
use Rattle.ftl_device.specs.declared.fault.DeviceFault.{DeviceFault}
use Rattle.ftl_device.specs.declared.fault.DeviceFault.TheVariants.{OutOfRange, ReadOnly, SequenceSpent, OutOfMemory, Damaged, BusFault}
use Rattle.ftl_device.specs.Calls.{reply_of, read_reply_of, device_fault_number}
use Rattle.command_queue.specs.Commands.{HasDataArea}
use Rattle.command_queue.specs.Exchanges.{Exchange, reply_in, reply_to_command}
use Rattle.command_queue.specs.Tells.{Tells}
use Rattle.block_server.specs.Session.{AnswersRequest, HasServed, ServesNextCommand, IsWriteBody}

-- ---- statuses and sectors

abbrev pub status_by : Result (Unit {0}) DeviceFault → ℕ
status_by (Ok done) = 0
status_by (Err fault) = device_fault_number fault

fault_status : (result : Result (Unit {0}) DeviceFault) → reply_status (reply_of result) ≡ status_by result
fault_status (Ok done) = refl
fault_status (Err OutOfRange) = refl
fault_status (Err (ReadOnly good wanted failed)) = refl
fault_status (Err SequenceSpent) = refl
fault_status (Err OutOfMemory) = refl
fault_status (Err Damaged) = refl
fault_status (Err BusFault) = refl

read_status : (bytes : List ℕ) (result : Result (Unit {0}) DeviceFault) → reply_status (read_reply_of bytes result) ≡ status_by result
read_status bytes (Ok done) = refl
read_status bytes (Err OutOfRange) = refl
read_status bytes (Err (ReadOnly good wanted failed)) = refl
read_status bytes (Err SequenceSpent) = refl
read_status bytes (Err OutOfMemory) = refl
read_status bytes (Err Damaged) = refl
read_status bytes (Err BusFault) = refl

pub status_at : (op : Op) (sector : ℕ) (body bytes : List ℕ) (result : Result (Unit {0}) DeviceFault) → reply_status (reply_to_command (command_by op sector body) bytes result) ≡ status_by result
status_at Read sector body bytes result = read_status bytes result
status_at Write sector body bytes result = fault_status result
status_at Trim sector body bytes result = fault_status result
status_at Flush sector body bytes result = fault_status result
status_at Turn sector body bytes result = fault_status result

no_body : (result : Result (Unit {0}) DeviceFault) → reply_body (reply_of result) ≡ []
no_body (Ok done) = refl
no_body (Err OutOfRange) = refl
no_body (Err (ReadOnly good wanted failed)) = refl
no_body (Err SequenceSpent) = refl
no_body (Err OutOfMemory) = refl
no_body (Err Damaged) = refl
no_body (Err BusFault) = refl

pub refused_body : (bytes : List ℕ) (fault : DeviceFault) → reply_body (read_reply_of bytes (Err fault)) ≡ []
refused_body bytes OutOfRange = refl
refused_body bytes (ReadOnly good wanted failed) = refl
refused_body bytes SequenceSpent = refl
refused_body bytes OutOfMemory = refl
refused_body bytes Damaged = refl
refused_body bytes BusFault = refl

-- what follows the reply: of a read what it gave, of all else nothing
abbrev pub given_by : Op → Result (Unit {0}) DeviceFault → List ℕ → List ℕ
given_by Read (Ok done) bytes = bytes
given_by Read (Err fault) bytes = []
given_by Write result bytes = []
given_by Trim result bytes = []
given_by Flush result bytes = []
given_by Turn result bytes = []

pub body_is : (op : Op) (sector : ℕ) (body bytes : List ℕ) (result : Result (Unit {0}) DeviceFault) → given_by op result bytes ≡ reply_body (reply_to_command (command_by op sector body) bytes result)
body_is Read sector body bytes (Ok done) = refl
body_is Read sector body bytes (Err fault) = sym (refused_body bytes fault)
body_is Write sector body bytes result = sym (no_body result)
body_is Trim sector body bytes result = sym (no_body result)
body_is Flush sector body bytes result = sym (no_body result)
body_is Turn sector body bytes result = sym (no_body result)

pub room_of : (g : Geometry) (body bytes : List ℕ) (command : Command) → IsWriteBody body command → length body ≡ g.data_bytes → length bytes ≡ g.data_bytes → HasDataArea g command bytes
room_of g body bytes (told.Read sector) is size room = room
room_of g body bytes (told.Write sector b) is size room = ap length is ∙ size
room_of g body bytes (told.Trim sector) is size room = tt
room_of g body bytes told.Flush is size room = tt
room_of g body bytes told.Turn is size room = tt

-- ---- the next request

module _ {N : Type 0} (view : View N) (old new : Device N) (u v b a : Option (List ℕ)) (buffer : List ℕ) (size : length buffer ≡ old.engine.geometry.data_bytes) where
  -- a reply was written, whole or in part
  pub served : (h : Header) (writes : List ℕ → Type 0) (x : Exchange) → ReadsRequest (length buffer) u v buffer (Ok (next.Whole h))
      → x.command ≡ command_of (request_at h buffer) → Tells view old x new
      → writes (reply_bytes (request_at h buffer) (reply_in x)) → HasServed view old new u v writes
  served h writes x read command tells wrote = record {
    request = request_at h buffer;
    exchange = x;
    whole = subst (λ k. IsRequest k (request_at h buffer)) size read.0;
    read = read.1;
    command_is = command;
    tells = tells;
    written = wrote;
  }

  pub next_served : (h : Header) (done : Unit {0}) → ReadsRequest (length buffer) u v buffer (Ok (next.Whole h))
      → AnswersRequest view old new (request_at h buffer) b a (Ok done)
      → ServesNextCommand view old new u v b a (Ok None)
  next_served h done read answers = served h (Appends b a) answers.exchange read answers.command_is answers.tells answers.sends

  pub next_unsent : (h : Header) (e : ServeFault) → ReadsRequest (length buffer) u v buffer (Ok (next.Whole h)) → AnswersRequest view old new (request_at h buffer) b a (Err e) → ServesNextCommand view old new u v b a (Err e)
  next_unsent h e read answers =
      subst (λ k. ServesNextCommand view old new u v b a (Err k)) (sym answers.sends.0) (served h (AppendsFront b a) answers.exchange read answers.command_is answers.tells answers.sends.1)

module _ {N : Type 0} (view : View N) (old : Device N) (u v b : Option (List ℕ)) (buffer : List ℕ) (size : length buffer ≡ old.engine.geometry.data_bytes) where
  pub next_ended : (end : End) → ReadsRequest (length buffer) u v buffer (Ok (next.Ended end)) → ServesNextCommand view old old u v b b (Ok (Some end))
  next_ended end (tail, rests, read) = record { tail = tail; is = subst (λ k. Rests k end tail v) size rests; read = read; same = refl; kept = refl }

  pub next_unread : (e : ServeFault) → ReadsRequest (length buffer) u v buffer (Err e) → ServesNextCommand view old old u v b b (Err e)
  next_unread e (is, tail, begins, read) =
      subst (λ k. ServesNextCommand view old old u v b b (Err k)) (sym is) (record { tail = tail; is = subst (λ k. IsBeginning k tail) size begins; read = read; same = refl; kept = refl })
