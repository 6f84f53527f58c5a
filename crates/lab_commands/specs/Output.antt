-- What is written, all of it or a part.
use Rattle.std.specs.Prelude.{ℕ, List, Option, Result, Ok, Err}
use Rattle.std.specs.Io.KnownBytes.{Appends}
use Rattle.request_stream.specs.Frames.{AppendsPart}

-- all of the bytes were written, or a part of them and never all
abbrev pub AppendsAllOrPart : {T E : Type 0} → Option (List ℕ) → Option (List ℕ) → List ℕ → Result T E → Type 0
AppendsAllOrPart old new bytes (Ok done) = Appends old new bytes
AppendsAllOrPart old new bytes (Err fault) = AppendsPart old new bytes
