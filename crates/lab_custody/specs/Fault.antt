-- What the program says when a report was not written, or when files of one are not the same.
use Rattle.std.specs.Prelude.{◌≡◌, ◌⊎◌, ℕ, Bool, true, List, codes, Option}
use Rattle.std.specs.Io.KnownBytes.{Appends}
use Rattle.request_stream.specs.Frames.{AppendsPart}
use Rattle.lab_commands.specs.Text as lab
use Rattle.lab_custody.specs.declared.fault.CustodyFault.{CustodyFault}
use Rattle.lab_custody.specs.declared.fault.CustodyFault.TheVariants as fault

-- the line was written, and the status is 1; or a write failed, the status is 3, and a beginning of the line stands there, and never all of it
abbrev pub TellsLine : List ℕ → (broke : Bool) → Option (List ℕ) → Option (List ℕ) → ℕ → Type 0
TellsLine line broke before after status = ((status ≡ 1) × Appends before after line) ⊎ ((status ≡ 3) × (broke ≡ true) × AppendsPart before after line)

abbrev pub IsCustodyFaultTold : CustodyFault → (broke : Bool) → Option (List ℕ) → Option (List ℕ) → ℕ → Type 0
IsCustodyFaultTold fault.NotReport broke before after status = TellsLine (codes "refused verify 1 NotReport\n") broke before after status
IsCustodyFaultTold fault.Changed broke before after status = TellsLine (codes "refused verify 2 Changed\n") broke before after status
IsCustodyFaultTold fault.ReportExists broke before after status = TellsLine (codes "refused report 1 Exists\n") broke before after status
IsCustodyFaultTold fault.ReportIsOut broke before after status = TellsLine (codes "refused report 2 IsOut\n") broke before after status
IsCustodyFaultTold (fault.Lab told) broke before after status = lab.IsLabFaultTold told broke before after status
