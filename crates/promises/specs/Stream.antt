-- A stream of bytes as whole requests and a rest, and the bytes of the replies.
use Rattle.std.specs.Prelude.{◌≡◌, ◌<◌, ◌≤◌, ◌⊎◌, ◌^◌, ◌↔◌, ◌==◌, ◌&&◌, ℕ, nat_le, Bool, false, List, [], ◌∷◌, ◌++◌, length, take, map, replicate}
use Rattle.std.specs.Prelude.{slice_index, Option, Some, None, if◌then◌else◌}
use Rattle.std.specs.List.{flat_map, AllByRecursion}
use Rattle.std.specs.Int.{to_le_bytes, w32}
use Rattle.promises.specs.Step.{Command, Reply, Done, DoneWith, OutOfRange, ReadOnly, SequenceSpent, OutOfMemory, Damaged, BusFault}
use Rattle.promises.specs.Step as step
use Rattle.promises.specs.declared.stream.Op.{Op}
use Rattle.promises.specs.declared.stream.Op.TheVariants.{Read, Write, Trim, Flush, Turn}
use Rattle.promises.specs.declared.stream.End.{End}
use Rattle.promises.specs.declared.stream.End.TheVariants.{Boundary, Unfinished, BadFrame}

-- ---- requests

abbrev pub op_code : Op → ℕ
op_code Read = 1
op_code Write = 2
op_code Trim = 3
op_code Flush = 4
op_code Turn = 5

abbrev pub op_from : ℕ → Option Op
op_from code =
    if code == 1 then Some Read else (if code == 2 then Some Write else (if code == 3 then Some Trim else (
    if code == 4 then Some Flush else (if code == 5 then Some Turn else None))))

-- a request: what it asks for, the tag that its reply carries, a sector's number, and for a write the bytes of a sector
pub record Request : Type 0 where
  pub op : Op
  pub tag : ℕ
  pub sector : ℕ
  pub body : List ℕ

-- "DF", the op, 0, the tag, the sector's number, each number least significant byte first
abbrev pub header_bytes : Request → List ℕ
header_bytes r = 68 ∷ 70 ∷ op_code r.op ∷ 0 ∷ (to_le_bytes w32 r.tag ++ to_le_bytes w32 r.sector)

abbrev pub request_bytes : Request → List ℕ
request_bytes r = header_bytes r ++ r.body

-- how many bytes follow the header
abbrev pub body_length : ℕ → Op → ℕ
body_length data_bytes Write = data_bytes
body_length data_bytes _ = 0

-- the body is what the op says, and the numbers have four bytes
pub record IsRequest (data_bytes : ℕ) (r : Request) : Type 0 where
  pub body : length r.body ≡ body_length data_bytes r.op
  pub tag : r.tag < 2 ^ 32
  pub sector : r.sector < 2 ^ 32

abbrev pub command_by : Op → ℕ → List ℕ → Command
command_by Read sector body = step.Read sector
command_by Write sector body = step.Write sector body
command_by Trim sector body = step.Trim sector
command_by Flush sector body = step.Flush
command_by Turn sector body = step.Turn

-- the command that a request is: of a flush or a turn the sector's number is not looked at
abbrev pub command_of : Request → Command
command_of r = command_by r.op r.sector r.body

-- ---- what comes after the last whole request

-- whether twelve bytes are a header
abbrev pub is_header : List ℕ → Bool
is_header bytes = slice_index bytes 0 == 68 && slice_index bytes 1 == 70
    && nat_le 1 (slice_index bytes 2) && nat_le (slice_index bytes 2) 5 && slice_index bytes 3 == 0

-- the beginning of a request: a part of its header, or its header and a part of its body
abbrev pub IsBeginning : ℕ → List ℕ → Type 0
IsBeginning data_bytes bytes = (length bytes < 12)
    ⊎ ((r : Request) × (length r.body < body_length data_bytes r.op) × (bytes ≡ request_bytes r))

-- nothing; less than a whole request; or at least twelve bytes that begin with no header
abbrev pub IsRest : ℕ → End → List ℕ → Type 0
IsRest data_bytes Boundary bytes = bytes ≡ []
IsRest data_bytes Unfinished bytes = (0 < length bytes) × IsBeginning data_bytes bytes
IsRest data_bytes BadFrame bytes = (12 ≤ length bytes) × (is_header (take 12 bytes) ≡ false)

-- THE REQUEST STREAM: the bytes are these requests one after another, and then this rest
pub record Splits (data_bytes : ℕ) (stream : List ℕ) (requests : List Request) (end : End) (rest : List ℕ) : Type 0 where
  pub whole : stream ≡ flat_map request_bytes requests ++ rest
  pub each : AllByRecursion (IsRequest data_bytes) requests
  pub ends : IsRest data_bytes end rest

-- ---- replies

abbrev pub reply_status : Reply → ℕ
reply_status Done = 0
reply_status (DoneWith bytes) = 0
reply_status OutOfRange = 1
reply_status ReadOnly = 2
reply_status SequenceSpent = 3
reply_status OutOfMemory = 4
reply_status Damaged = 5
reply_status BusFault = 6

-- after a read that was done its sector
abbrev pub reply_body : Reply → List ℕ
reply_body (DoneWith bytes) = bytes
reply_body _ = []

-- "df", the op, the status, the tag
abbrev pub reply_bytes : Request → Reply → List ℕ
reply_bytes r reply = 100 ∷ 102 ∷ op_code r.op ∷ reply_status reply ∷ (to_le_bytes w32 r.tag ++ reply_body reply)

-- the one answer to a bad header: status 7, op and tag 0
abbrev pub last_bytes : End → List ℕ
last_bytes Boundary = []
last_bytes Unfinished = []
last_bytes BadFrame = 100 ∷ 102 ∷ 0 ∷ 7 ∷ 0 ∷ 0 ∷ 0 ∷ 0 ∷ []

abbrev pub replies_bytes : List Request → List Reply → List ℕ
replies_bytes [] replies = []
replies_bytes (r ∷ requests) [] = []
replies_bytes (r ∷ requests) (reply ∷ replies) = reply_bytes r reply ++ replies_bytes requests replies

-- WHAT IS WRITTEN: the replies in their order, and the answer to a bad header
abbrev pub out_bytes : List Request → List Reply → End → List ℕ
out_bytes requests replies end = replies_bytes requests replies ++ last_bytes end

-- ---- laws

abbrev pub IsBytes : List ℕ → Type 0
IsBytes bytes = (i : ℕ) → slice_index bytes i < 256

-- a stream splits in just one way
abbrev pub OneWayLaw : Type 0
OneWayLaw = (data_bytes : ℕ) (stream : List ℕ) (fs gs : List Request) (d e : End) (t u : List ℕ) → Splits data_bytes stream fs d t → Splits data_bytes stream gs e u → (fs ≡ gs) × (d ≡ e) × (t ≡ u)

-- and in some way
pub record SplitsSomehow (data_bytes : ℕ) (stream : List ℕ) : Type 0 where
  pub requests : List Request
  pub end : End
  pub rest : List ℕ
  pub splits : Splits data_bytes stream requests end rest

abbrev pub SomeWayLaw : Type 0
SomeWayLaw = (data_bytes : ℕ) (stream : List ℕ) → IsBytes stream → SplitsSomehow data_bytes stream

-- the replies to requests in two parts are the replies to the first part and then those to the second
abbrev pub RepliesJoinLaw : Type 0
RepliesJoinLaw = (fs gs : List Request) (rs qs : List Reply) → length rs ≡ length fs → replies_bytes (fs ++ gs) (rs ++ qs) ≡ replies_bytes fs rs ++ replies_bytes gs qs

-- the answer to a bad header comes after all replies
abbrev pub BadHeaderLastLaw : Type 0
BadHeaderLastLaw = (fs : List Request) (rs : List Reply) → out_bytes fs rs BadFrame ≡ replies_bytes fs rs ++ (100 ∷ 102 ∷ 0 ∷ 7 ∷ replicate 4 0)

-- an op is found again from its code, and no other code has one
abbrev pub OpLaw : Type 0
OpLaw = (op : Op) (code : ℕ) → (op_from code ≡ Some op) ↔ (code ≡ op_code op)

-- ---- streams worked out by hand, of a device with sectors of 64 bytes

-- a read of sector 31 with tag 1
abbrev pub read_31 : Request
read_31 = record { op = Read; tag = 1; sector = 31; body = [] }

-- a read, and the header of a write: one request, unfinished
abbrev pub CutShortLaw : Type 0
CutShortLaw = Splits 64 (68 ∷ 70 ∷ 1 ∷ 0 ∷ 1 ∷ 0 ∷ 0 ∷ 0 ∷ 31 ∷ 0 ∷ 0 ∷ 0 ∷ 68 ∷ 70 ∷ 2 ∷ 0 ∷ 2 ∷ 0 ∷ 0 ∷ 0 ∷ 5 ∷ 0 ∷ 0 ∷ 0 ∷ [])
    (read_31 ∷ []) Unfinished (68 ∷ 70 ∷ 2 ∷ 0 ∷ 2 ∷ 0 ∷ 0 ∷ 0 ∷ 5 ∷ 0 ∷ 0 ∷ 0 ∷ [])

-- what is written where the sector is zeros
abbrev pub CutShortOutLaw : Type 0
CutShortOutLaw = out_bytes (read_31 ∷ []) (DoneWith (replicate 64 0) ∷ []) Unfinished ≡ (100 ∷ 102 ∷ 1 ∷ 0 ∷ 1 ∷ 0 ∷ 0 ∷ 0 ∷ replicate 64 0)

-- twelve bytes that begin with "DX", and what is written
abbrev pub BadHeaderLaw : Type 0
BadHeaderLaw = Splits 64 (68 ∷ 88 ∷ 1 ∷ 0 ∷ replicate 8 0) [] BadFrame (68 ∷ 88 ∷ 1 ∷ 0 ∷ replicate 8 0) × (out_bytes [] [] BadFrame ≡ (100 ∷ 102 ∷ 0 ∷ 7 ∷ replicate 4 0))

-- eleven such bytes, and nothing is written
abbrev pub ElevenLaw : Type 0
ElevenLaw = Splits 64 (68 ∷ 88 ∷ 1 ∷ 0 ∷ replicate 7 0) [] Unfinished (68 ∷ 88 ∷ 1 ∷ 0 ∷ replicate 7 0) × (out_bytes [] [] Unfinished ≡ [])

-- one request of each kind but a read that is done: a flush, a read of a sector past the last, a write past the last with its body, a
-- trim, and a turn whose sector's number is not looked at
abbrev pub five_requests : List Request
five_requests = record { op = Flush; tag = 9; sector = 0; body = [] }
    ∷ record { op = Read; tag = 7; sector = 32; body = [] }
    ∷ record { op = Write; tag = 2; sector = 40; body = replicate 64 17 }
    ∷ record { op = Trim; tag = 3; sector = 5; body = [] }
    ∷ record { op = Turn; tag = 67305985; sector = 4294967295; body = [] } ∷ []

abbrev pub five_stream : List ℕ
five_stream = (68 ∷ 70 ∷ 4 ∷ 0 ∷ 9 ∷ 0 ∷ 0 ∷ 0 ∷ 0 ∷ 0 ∷ 0 ∷ 0 ∷ [])
    ++ (68 ∷ 70 ∷ 1 ∷ 0 ∷ 7 ∷ 0 ∷ 0 ∷ 0 ∷ 32 ∷ 0 ∷ 0 ∷ 0 ∷ [])
    ++ (68 ∷ 70 ∷ 2 ∷ 0 ∷ 2 ∷ 0 ∷ 0 ∷ 0 ∷ 40 ∷ 0 ∷ 0 ∷ 0 ∷ replicate 64 17)
    ++ (68 ∷ 70 ∷ 3 ∷ 0 ∷ 3 ∷ 0 ∷ 0 ∷ 0 ∷ 5 ∷ 0 ∷ 0 ∷ 0 ∷ [])
    ++ (68 ∷ 70 ∷ 5 ∷ 0 ∷ 1 ∷ 2 ∷ 3 ∷ 4 ∷ 255 ∷ 255 ∷ 255 ∷ 255 ∷ [])

abbrev pub FiveLaw : Type 0
FiveLaw = Splits 64 five_stream five_requests Boundary []

-- what they tell a device
abbrev pub FiveCommandsLaw : Type 0
FiveCommandsLaw = map command_of five_requests ≡ (step.Flush ∷ step.Read 32 ∷ step.Write 40 (replicate 64 17) ∷ step.Trim 5 ∷ step.Turn ∷ [])

-- what is written where a device has 32 sectors
abbrev pub FiveOutLaw : Type 0
FiveOutLaw = out_bytes five_requests (Done ∷ OutOfRange ∷ OutOfRange ∷ Done ∷ Done ∷ []) Boundary
    ≡ ((100 ∷ 102 ∷ 4 ∷ 0 ∷ 9 ∷ 0 ∷ 0 ∷ 0 ∷ []) ++ (100 ∷ 102 ∷ 1 ∷ 1 ∷ 7 ∷ 0 ∷ 0 ∷ 0 ∷ []) ++ (100 ∷ 102 ∷ 2 ∷ 1 ∷ 2 ∷ 0 ∷ 0 ∷ 0 ∷ [])
    ++ (100 ∷ 102 ∷ 3 ∷ 0 ∷ 3 ∷ 0 ∷ 0 ∷ 0 ∷ []) ++ (100 ∷ 102 ∷ 5 ∷ 0 ∷ 1 ∷ 2 ∷ 3 ∷ 4 ∷ []))

-- each refusal but `OutOfRange`, as a reply to a flush with tag 9
abbrev pub RefusalsLaw : Type 0
RefusalsLaw = map (λ reply. reply_bytes (record { op = Flush; tag = 9; sector = 0; body = [] }) reply) (ReadOnly ∷ SequenceSpent ∷ OutOfMemory ∷ Damaged ∷ BusFault ∷ [])
    ≡ ((100 ∷ 102 ∷ 4 ∷ 2 ∷ 9 ∷ 0 ∷ 0 ∷ 0 ∷ []) ∷ (100 ∷ 102 ∷ 4 ∷ 3 ∷ 9 ∷ 0 ∷ 0 ∷ 0 ∷ []) ∷ (100 ∷ 102 ∷ 4 ∷ 4 ∷ 9 ∷ 0 ∷ 0 ∷ 0 ∷ [])
    ∷ (100 ∷ 102 ∷ 4 ∷ 5 ∷ 9 ∷ 0 ∷ 0 ∷ 0 ∷ []) ∷ (100 ∷ 102 ∷ 4 ∷ 6 ∷ 9 ∷ 0 ∷ 0 ∷ 0 ∷ []) ∷ [])
