-- A negotiation as bytes: whole options and a rest, and what each is answered. (The NBD protocol; its numbers have their most
-- significant byte first.)
use Rattle.std.specs.Prelude.{◌≡◌, ◌<◌, ◌≤◌, ◌⊎◌, ◌^◌, ◌+◌, ◌*◌, ◌==◌, ◌&&◌, ℕ, nat_lt, nat_le, Bool, true, false, List, [], ◌∷◌, ◌++◌, length, take, drop, replicate}
use Rattle.std.specs.Prelude.{slice_index, Option, Some, None, Result, Ok, Err, if◌then◌else◌}
use Rattle.std.specs.Int.{to_be_bytes, w16, w32, w64}
use Rattle.std.specs.Io.KnownBytes.{Consumes, IsAtEnd}
use Rattle.byteorder.specs.Endian.{big_number}
use Rattle.request_stream.specs.declared.reply.ServeFault.{ServeFault}
use Rattle.request_stream.specs.declared.reply.ServeFault.TheVariants as fault
use Rattle.nbd_stream.specs.declared.export.Export.{Export}
use Rattle.nbd_stream.specs.declared.request.StreamEnd.{StreamEnd}
use Rattle.nbd_stream.specs.declared.request.StreamEnd.TheVariants.{Boundary, Unfinished, BadFrame, Disconnected}
use Rattle.nbd_stream.specs.declared.option.OptionHeader.{OptionHeader}
use Rattle.nbd_stream.specs.declared.option.NextOption.{NextOption}
use Rattle.nbd_stream.specs.declared.option.NextOption.TheVariants as next
use Rattle.nbd_stream.specs.Frames.{ReadsBody}
use Rattle.nbd_stream.specs.declared.answer.OptionCode.{OptionCode}
use Rattle.nbd_stream.specs.declared.answer.OptionCode.TheVariants.{ExportName, Abort, Info, Go}
use Rattle.nbd_stream.specs.declared.answer.OptionCode.TheVariants as wanted
use Rattle.nbd_stream.specs.declared.answer.Answer.{Answer}
use Rattle.nbd_stream.specs.declared.answer.Answer.TheVariants.{Short, Listed, Told, Chosen, Silent}
use Rattle.nbd_stream.specs.declared.answer.AnswerStep.{AnswerStep}
use Rattle.nbd_stream.specs.declared.answer.AnswerStep.TheVariants.{More, Transmit, Close}

-- ---- options

-- what a client asks in a negotiation: an option's number, and its data
pub record AskedOption : Type 0 where
  pub code : ℕ
  pub body : List ℕ

-- "IHAVEOPT", the number, the data's length
abbrev pub option_header_bytes : (code count : ℕ) → List ℕ
option_header_bytes code count = 73 ∷ 72 ∷ 65 ∷ 86 ∷ 69 ∷ 79 ∷ 80 ∷ 84 ∷ (to_be_bytes w32 code ++ to_be_bytes w32 count)

abbrev pub asked_option : ℕ → List ℕ → AskedOption
asked_option code body = record { code = code; body = body }

abbrev pub option_bytes : AskedOption → List ℕ
option_bytes o = option_header_bytes o.code (length o.body) ++ o.body

-- both numbers have four bytes
pub record IsOption (o : AskedOption) : Type 0 where
  pub code : o.code < 2 ^ 32
  pub count : length o.body < 2 ^ 32

-- ---- what comes after the last whole option

-- whether sixteen bytes begin with "IHAVEOPT"
abbrev pub is_option_header : List ℕ → Bool
is_option_header bytes = slice_index bytes 0 == 73 && slice_index bytes 1 == 72 && slice_index bytes 2 == 65 && slice_index bytes 3 == 86
    && slice_index bytes 4 == 69 && slice_index bytes 5 == 79 && slice_index bytes 6 == 80 && slice_index bytes 7 == 84

-- an option's header of this count, and fewer bytes than that
pub record IsCutOption (code count : ℕ) (part bytes : List ℕ) : Type 0 where
  pub code_fits : code < 2 ^ 32
  pub count_fits : count < 2 ^ 32
  pub short : length part < count
  pub whole : bytes ≡ option_header_bytes code count ++ part

-- the beginning of an option: a part of its header, or its header and a part of its data
abbrev pub IsOptionBeginning : List ℕ → Type 0
IsOptionBeginning bytes = (length bytes < 16) ⊎ ((code count : ℕ) × (part : List ℕ) × IsCutOption code count part bytes)

-- What was read after the last whole option, and why no more was. No header says that the client goes: an option says so.
abbrev pub OptionRests : StreamEnd → List ℕ → Option (List ℕ) → Type 0
OptionRests Boundary tail left = (tail ≡ []) × IsAtEnd left
OptionRests Unfinished tail left = (0 < length tail) × IsOptionBeginning tail × IsAtEnd left
OptionRests BadFrame tail left = (length tail ≡ 16) × (is_option_header tail ≡ false)
OptionRests Disconnected tail left = ⊥

-- sixteen bytes are this header
pub record SpellsOption (bytes : List ℕ) (h : OptionHeader) : Type 0 where
  pub whole : bytes ≡ option_header_bytes h.code h.count
  pub code : h.code < 2 ^ 32
  pub count : h.count < 2 ^ 32

-- the data of an option that was read: it stands at the buffer's front, where the buffer has room for it
pub record IsData (h : OptionHeader) (buffer body : List ℕ) : Type 0 where
  pub long : length body ≡ h.count
  pub stands : h.count ≤ length buffer → body ≡ take h.count buffer

-- THE NEXT OPTION, or the end, was read and nothing after it; where a read failed, a beginning of it
abbrev pub ReadsOption : (unread left : Option (List ℕ)) → List ℕ → Result NextOption ServeFault → Type 0
ReadsOption unread left buffer (Ok (next.Whole h)) =
    (body : List ℕ) × IsData h buffer body × IsOption (asked_option h.code body) × Consumes unread left (option_bytes (asked_option h.code body))
ReadsOption unread left buffer (Ok (next.Ended end)) = (tail : List ℕ) × OptionRests end tail left × Consumes unread left tail
ReadsOption unread left buffer (Err e) = (e ≡ fault.Read) × (tail : List ℕ) × IsOptionBeginning tail × Consumes unread left tail

-- the same, once the header was read
abbrev pub ReadsOptionRest : OptionHeader → (unread left : Option (List ℕ)) → List ℕ → Result NextOption ServeFault → Type 0
ReadsOptionRest header unread left buffer (Ok (next.Whole h)) = (h ≡ header) × ReadsBody header.count unread left buffer (Ok true)
ReadsOptionRest header unread left buffer (Ok (next.Ended end)) = (end ≡ Unfinished) × ReadsBody header.count unread left buffer (Ok false)
ReadsOptionRest header unread left buffer (Err e) = ReadsBody header.count unread left buffer (Err e)

-- ---- what is answered

-- the options that are supported, by their numbers
abbrev pub option_from : ℕ → Option OptionCode
option_from code =
    if code == 1 then Some ExportName else (if code == 2 then Some Abort else (if code == 3 then Some wanted.List else (
    if code == 6 then Some Info else (if code == 7 then Some Go else None))))

-- the length of the name in the data of a question for an export, and the count of the types that follow it
abbrev pub name_length : List ℕ → ℕ
name_length body = big_number 4 body

abbrev pub type_count : List ℕ → ℕ
type_count body = big_number 2 (drop (4 + name_length body) body)

-- whether data is such a question: a name's length, the name, a count, and so many types of two bytes
abbrev pub is_question : List ℕ → Bool
is_question body = nat_le (6 + name_length body) (length body) && length body == 6 + name_length body + 2 * type_count body

-- the kinds of replies: 1 NBD_REP_ACK; from 2^31 on NBD_REP_ERR_UNSUP, INVALID, UNKNOWN and TOO_BIG
abbrev pub acknowledged : Answer
acknowledged = Short 1

abbrev pub unsupported : Answer
unsupported = Short 2147483649

abbrev pub invalid : Answer
invalid = Short 2147483651

abbrev pub unknown : Answer
unknown = Short 2147483654

abbrev pub too_big : Answer
too_big = Short 2147483657

-- a question for an export: the one that there is has no name. Data of more bytes than `limit` is not looked at
abbrev pub question_answer : ℕ → List ℕ → Answer
question_answer limit body =
    if nat_lt limit (length body) then too_big else (if is_question body then (if name_length body == 0 then Told else unknown) else invalid)

abbrev pub option_answer_by : Option OptionCode → ℕ → List ℕ → Answer
option_answer_by None limit body = unsupported
option_answer_by (Some ExportName) limit body = if length body == 0 then Chosen else Silent
option_answer_by (Some Abort) limit body = acknowledged
option_answer_by (Some wanted.List) limit body = if length body == 0 then Listed else invalid
option_answer_by (Some Info) limit body = question_answer limit body
option_answer_by (Some Go) limit body = question_answer limit body

-- THE ANSWER to an option
abbrev pub answer_to_option : ℕ → AskedOption → Answer
answer_to_option limit o = option_answer_by (option_from o.code) limit o.body

-- what follows: requests after NBD_OPT_EXPORT_NAME and after NBD_OPT_GO where these were granted, nothing after NBD_OPT_ABORT or a refusal of
-- the former, which has no words; else another option
abbrev pub step_after : (code : ℕ) → Answer → AnswerStep
step_after code (Short kind) = if code == 2 then Close else More
step_after code Listed = More
step_after code Told = if code == 7 then Transmit else More
step_after code Chosen = Transmit
step_after code Silent = Close

-- ---- the bytes of answers

-- the magic 3E889045565A9h, the option, the kind, and the length of the data that follows
abbrev pub option_reply_header : (code kind count : ℕ) → List ℕ
option_reply_header code kind count = 0 ∷ 3 ∷ 232 ∷ 137 ∷ 4 ∷ 85 ∷ 101 ∷ 169 ∷ (to_be_bytes w32 code ++ (to_be_bytes w32 kind ++ to_be_bytes w32 count))

abbrev pub option_reply_bytes : (code kind : ℕ) → List ℕ → List ℕ
option_reply_bytes code kind body = option_reply_header code kind (length body) ++ body

-- NBD_FLAG_HAS_FLAGS 1, READ_ONLY 2, SEND_FLUSH 4, SEND_FUA 8, SEND_TRIM 32, SEND_WRITE_ZEROES 64
abbrev pub transmission_flags : Export → ℕ
transmission_flags e = if e.read_only then 1 + 2 + 4 + 8 else 1 + 4 + 8 + 32 + 64

abbrev pub export_bytes : Export → List ℕ
export_bytes e = to_be_bytes w64 e.size ++ to_be_bytes w16 (transmission_flags e)

-- NBD_INFO_EXPORT 0, and NBD_INFO_BLOCK_SIZE 3 with the least, the best and the greatest count of a request
abbrev pub export_info : Export → List ℕ
export_info e = 0 ∷ 0 ∷ export_bytes e

abbrev pub block_info : Export → List ℕ
block_info e = 0 ∷ 3 ∷ 0 ∷ 0 ∷ 0 ∷ 1 ∷ (to_be_bytes w32 e.preferred ++ to_be_bytes w32 e.maximum)

-- the bytes of an answer, of an export; after NBD_OPT_EXPORT_NAME with 124 zeros, which the client may have asked to leave out
abbrev pub option_answer_bytes : Export → (no_zeroes : Bool) → (code : ℕ) → Answer → List ℕ
option_answer_bytes e no_zeroes code (Short kind) = option_reply_bytes code kind []
option_answer_bytes e no_zeroes code Listed = option_reply_bytes code 2 (0 ∷ 0 ∷ 0 ∷ 0 ∷ []) ++ option_reply_bytes code 1 []
option_answer_bytes e no_zeroes code Told = option_reply_bytes code 3 (export_info e) ++ (option_reply_bytes code 3 (block_info e) ++ option_reply_bytes code 1 [])
option_answer_bytes e no_zeroes code Chosen = export_bytes e ++ (if no_zeroes then [] else replicate 124 0)
option_answer_bytes e no_zeroes code Silent = []

-- of an option
abbrev pub reply_to : Export → Bool → ℕ → AskedOption → List ℕ
reply_to e no_zeroes limit o = option_answer_bytes e no_zeroes o.code (answer_to_option limit o)

abbrev pub step_of : ℕ → AskedOption → AnswerStep
step_of limit o = step_after o.code (answer_to_option limit o)

-- ---- a law

-- the bytes of an option say which it is, whatever follows them
pub record IsOneOption (o : AskedOption) (more : List ℕ) : Type 0 where
  pub same : (p : AskedOption) (other : List ℕ) → IsOption p → option_bytes o ++ more ≡ option_bytes p ++ other → (o ≡ p) × (more ≡ other)
  pub whole : ¬ IsOptionBeginning (option_bytes o ++ more)
  pub header : is_option_header (take 16 (option_bytes o ++ more)) ≡ true

-- AN OPTION THAT IS WHOLE is no other one, no part of one, and has a header
abbrev pub OptionOneWayLaw : Type 0
OptionOneWayLaw = (o : AskedOption) (more : List ℕ) → IsOption o → IsOneOption o more
