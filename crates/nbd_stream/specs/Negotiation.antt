-- A NEGOTIATION: what was read and written.
use Rattle.std.specs.Prelude.{◌≡◌, ◌<◌, ◌⊎◌, ℕ, nat_le, Bool, List, [], ◌∷◌, length, Option, Some, None, Result, Ok, Err}
use Rattle.std.specs.List.{flat_map, AllByRecursion}
use Rattle.std.specs.Io.KnownBytes.{Appends, Consumes, IsAtEnd}
use Rattle.request_stream.specs.Frames.{AppendsFront}
use Rattle.request_stream.specs.declared.reply.ServeFault.{ServeFault}
use Rattle.request_stream.specs.declared.reply.ServeFault.TheVariants as fault
use Rattle.nbd_stream.specs.Options.{AskedOption, IsOption, IsOptionBeginning, OptionRests, option_bytes, reply_to, step_of}
use Rattle.nbd_stream.specs.declared.export.Export.{Export}
use Rattle.nbd_stream.specs.declared.answer.AnswerStep.{AnswerStep}
use Rattle.nbd_stream.specs.declared.answer.AnswerStep.TheVariants.{More, Transmit, Close}
use Rattle.nbd_stream.specs.declared.request.StreamEnd.TheVariants.{Unfinished, BadFrame, Disconnected}
use Rattle.nbd_stream.specs.declared.negotiation.Negotiated.{Negotiated}
use Rattle.nbd_stream.specs.declared.negotiation.Negotiated.TheVariants.{Transmission, Ended}
use Rattle.nbd_stream.specs.declared.negotiation.ClientFlags.{ClientFlags}
use Rattle.nbd_stream.specs.declared.negotiation.ClientFlags.TheVariants.{NoZeroes}
use Rattle.nbd_stream.specs.declared.negotiation.ClientFlags.TheVariants as client

-- an option was read, which this step follows, and its answer was written as this says
pub record HasAnsweredOption (e : Export) (no_zeroes : Bool) (limit : ℕ) (unread left : Option (List ℕ)) (writes : List ℕ → Type 0) (step : AnswerStep) : Type 0 where
  pub option : AskedOption
  pub is : IsOption option
  pub read : Consumes unread left (option_bytes option)
  pub step_is : step_of limit option ≡ step
  pub written : writes (reply_to e no_zeroes limit option)

-- an option was read, and of its answer a beginning was written
pub record HasBegunAnswer (e : Export) (no_zeroes : Bool) (limit : ℕ) (unread left before after : Option (List ℕ)) : Type 0 where
  pub option : AskedOption
  pub is : IsOption option
  pub read : Consumes unread left (option_bytes option)
  pub written : AppendsFront before after (reply_to e no_zeroes limit option)

-- no option was read whole, and nothing was written
pub record HasReadNoOption (unread left before after : Option (List ℕ)) (P : List ℕ → Type 0) : Type 0 where
  pub tail : List ℕ
  pub is : P tail
  pub read : Consumes unread left tail
  pub kept : after ≡ before

-- THE NEXT OPTION was answered, by the result: another one follows, or requests, or the client goes or was refused; or there was none
abbrev pub AnswersNext : Export → (no_zeroes : Bool) → (limit : ℕ) → (unread left before after : Option (List ℕ)) → Result (Option Negotiated) ServeFault → Type 0
AnswersNext e no_zeroes limit unread left before after (Ok None) = HasAnsweredOption e no_zeroes limit unread left (Appends before after) More
AnswersNext e no_zeroes limit unread left before after (Ok (Some Transmission)) = HasAnsweredOption e no_zeroes limit unread left (Appends before after) Transmit
AnswersNext e no_zeroes limit unread left before after (Ok (Some (Ended end))) =
    ((end ≡ Disconnected) × HasAnsweredOption e no_zeroes limit unread left (Appends before after) Close) ⊎ HasReadNoOption unread left before after (λ tail. OptionRests end tail left)
AnswersNext e no_zeroes limit unread left before after (Err fault.Read) = HasReadNoOption unread left before after IsOptionBeginning
AnswersNext e no_zeroes limit unread left before after (Err fault.Write) = HasBegunAnswer e no_zeroes limit unread left before after
AnswersNext e no_zeroes limit unread left before after (Err fault.OutOfMemory) = ⊥

-- these options were read, and after each another one follows; and what was written is their answers
pub record HaveAnswered (e : Export) (no_zeroes : Bool) (limit : ℕ) (unread left before after : Option (List ℕ)) (options : List AskedOption) : Type 0 where
  pub each : AllByRecursion IsOption options
  pub more : AllByRecursion (λ o. step_of limit o ≡ More) options
  pub read : Consumes unread left (flat_map option_bytes options)
  pub written : Appends before after (flat_map (reply_to e no_zeroes limit) options)

-- THE OPTIONS were answered one after another, and then the last one, or there was none
abbrev pub AnswersOptions : Export → (no_zeroes : Bool) → (limit : ℕ) → (unread left before after : Option (List ℕ)) → Result Negotiated ServeFault → Type 0
AnswersOptions e no_zeroes limit unread left before after (Ok negotiated) =
    (options : List AskedOption) × (unread' before' : Option (List ℕ)) × HaveAnswered e no_zeroes limit unread unread' before before' options × AnswersNext e no_zeroes limit unread' left before' after (Ok (Some negotiated))
AnswersOptions e no_zeroes limit unread left before after (Err e') =
    (options : List AskedOption) × (unread' before' : Option (List ℕ)) × HaveAnswered e no_zeroes limit unread unread' before before' options × AnswersNext e no_zeroes limit unread' left before' after (Err e')

-- ---- before the options

-- "NBDMAGIC", "IHAVEOPT", and the flags NBD_FLAG_FIXED_NEWSTYLE 1 and NBD_FLAG_NO_ZEROES 2
abbrev pub greeting : List ℕ
greeting = 78 ∷ 66 ∷ 68 ∷ 77 ∷ 65 ∷ 71 ∷ 73 ∷ 67 ∷ 73 ∷ 72 ∷ 65 ∷ 86 ∷ 69 ∷ 79 ∷ 80 ∷ 84 ∷ 0 ∷ 3 ∷ []

-- the client's flags, of which there are these two
abbrev pub flag_bytes : ℕ → List ℕ
flag_bytes flags = 0 ∷ 0 ∷ 0 ∷ flags ∷ []

-- the client's flags were read, or the reader ended or failed before, or they are others than these two
abbrev pub ReadsFlags : (unread left : Option (List ℕ)) → Result ClientFlags ServeFault → Type 0
ReadsFlags unread left (Ok (NoZeroes no_zeroes)) = (flags : ℕ) × (flags < 4) × (no_zeroes ≡ nat_le 2 flags) × Consumes unread left (flag_bytes flags)
ReadsFlags unread left (Ok (client.Ended end)) =
    (tail : List ℕ) × Consumes unread left tail
    × (((end ≡ Unfinished) × (length tail < 4) × IsAtEnd left) ⊎ ((end ≡ BadFrame) × (length tail ≡ 4) × ((flags : ℕ) → flags < 4 → tail ≡ flag_bytes flags → ⊥)))
ReadsFlags unread left (Err e) = (e ≡ fault.Read) × (tail : List ℕ) × (length tail < 4) × Consumes unread left tail

-- no flags were read, and so the negotiation ended
abbrev pub EndsBefore : (unread left : Option (List ℕ)) → Result Negotiated ServeFault → Type 0
EndsBefore unread left (Ok Transmission) = ⊥
EndsBefore unread left (Ok (Ended end)) = ReadsFlags unread left (Ok (client.Ended end))
EndsBefore unread left (Err e) = ReadsFlags unread left (Err e)

-- the client's flags were read, and then its options were answered
abbrev pub AfterFlags : Export → (limit : ℕ) → (unread left before after : Option (List ℕ)) → Result Negotiated ServeFault → Type 0
AfterFlags e limit unread left before after result =
    (no_zeroes : Bool) × (unread' : Option (List ℕ)) × ReadsFlags unread unread' (Ok (NoZeroes no_zeroes)) × AnswersOptions e no_zeroes limit unread' left before after result

-- THE NEGOTIATION: a greeting, the client's flags, and its options; or the greeting was not written, and nothing was read
abbrev pub Negotiates : Export → (limit : ℕ) → (unread left before after : Option (List ℕ)) → Result Negotiated ServeFault → Type 0
Negotiates e limit unread left before after result =
    ((result ≡ Err fault.Write) × (left ≡ unread) × AppendsFront before after greeting)
    ⊎ ((greeted : Option (List ℕ)) × Appends before greeted greeting × (AfterFlags e limit unread left greeted after result ⊎ ((after ≡ greeted) × EndsBefore unread left result)))
