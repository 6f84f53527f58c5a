-- What is told of a command.
use Rattle.std.specs.Prelude.{◌≡◌, ◌≢◌, ℕ, false, List, [], ◌∷◌, ◌++◌, Option, Some, None, Ok}
use Rattle.std.specs.Io.KnownBytes.{Appends}
use Rattle.request_stream.specs.Frames.{AppendsPart}
use Rattle.commands.specs.declared.text.CommandFault.{CommandFault}
use Rattle.commands.specs.declared.text.ServeStop.{ServeStop}
use Rattle.commands.specs.Files.{Stored, written_file, unwritten_file, with_store}
use Rattle.commands.specs.Lines.{IsLineUnprinted}
use Rattle.commands.specs.Text.{IsCommandFaultTold, told_line, command_exit_status}
use Rattle.commands.specs.Serve.{EndsServing}

-- THE LINE OF A FAULT was written, and the status is the fault's; or a part of it was, and the status is 3
abbrev pub ToldLaw : Type 0
ToldLaw = (fault : CommandFault) (before after : Option (List ℕ)) (status : ℕ) → IsCommandFaultTold fault before after status
    → (status ≢ 3 → (status ≡ command_exit_status fault) × Appends before after (told_line fault))
    × (status ≢ command_exit_status fault → AppendsPart before after (told_line fault))

-- A LINE THAT STANDS THERE WHOLE goes with its fault's own status
abbrev pub WholeLineLaw : Type 0
WholeLineLaw = (fault : CommandFault) (before : List ℕ) (after : Option (List ℕ)) (status : ℕ) → IsCommandFaultTold fault (Some before) after status
    → Appends (Some before) after (told_line fault) → status ≡ command_exit_status fault

-- ON STANDARD OUTPUT too: a line that is told as unprinted does not stand there whole
abbrev pub UnprintedLaw : Type 0
UnprintedLaw = (line before : List ℕ) (after : Option (List ℕ)) (stop : CommandFault) → IsLineUnprinted line (Some before) after stop → ¬ Appends (Some before) after line

-- A STORE THAT FAILED is told as not done
abbrev pub FailedStoreLaw : Type 0
FailedStoreLaw = (path bytes : List ℕ) → (unwritten_file path bytes).done ≡ false

-- STORES STAND IN THEIR ORDER, the latest last
abbrev pub StoresInOrderLaw : Type 0
StoresInOrderLaw = (earlier : List Stored) (last : Stored) → with_store (Some earlier) last ≡ Some (earlier ++ (last ∷ []))

-- A SERVER THAT IS TOLD AS DONE was not stopped
abbrev pub UnstoredLaw : Type 0
UnstoredLaw = (path image : List ℕ) (how : Option ServeStop) (before after : Option (List Stored)) → EndsServing path image how before after (Ok tt)
    → (how ≡ None) × (after ≡ with_store before (written_file path image))
