-- What is said of a line that was not written whole.
use Rattle.std.specs.Prelude.{◌≡◌, ℕ, List, Option, Some, Result, Ok, Err}
use Rattle.std.specs.Io.KnownBytes.{Appends}
use Rattle.request_stream.specs.declared.reply.ServeFault.{ServeFault}
use Rattle.request_stream.specs.declared.reply.ServeFault.TheVariants as fault
use Rattle.request_stream.specs.Frames.{AppendsFront, AppendsPart, SendsLine}

-- WHERE A PART OF A LINE WAS WRITTEN a beginning of it was, and not all of it
abbrev pub PartLaw : Type 0
PartLaw = (before line : List ℕ) (after : Option (List ℕ)) → AppendsPart (Some before) after line
    → AppendsFront (Some before) after line × ¬ Appends (Some before) after line

-- A LINE IS SENT WHOLE, or a write failed and a part of it was
abbrev pub SentLineLaw : Type 0
SentLineLaw = (before after : Option (List ℕ)) (line : List ℕ) (result : Result (Unit {0}) ServeFault) → SendsLine before after line result
    → (result ≡ Ok tt → Appends before after line) × ((e : ServeFault) → result ≡ Err e → (e ≡ fault.Write) × AppendsPart before after line)
