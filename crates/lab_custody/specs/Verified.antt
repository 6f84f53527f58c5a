-- What the command `verify` comes to.
use Rattle.lab_commands.specs.Compare.{looked_at}
use Rattle.std.specs.Prelude.{◌≡◌, ◌⊎◌, ◌<◌, ◌^◌, ◌++◌, ℕ, suc, Bool, true, if◌then◌else◌, All, List, codes, map, take, Option, Some, option_map, IfSome}
use Rattle.std.specs.Io.KnownBytes.{Appends, Keeps}
use Rattle.request_stream.specs.Frames.{AppendsPart}
use Rattle.lab_commands.specs.declared.document.ReportForm.{ReportForm}
use Rattle.lab_commands.specs.declared.document.ReportForm.TheVariants.{Text, Json}
use Rattle.lab_commands.specs.declared.text.LabFault.TheVariants as lab
use Rattle.lab_commands.specs.Files.{IsFileOpened, StoreAnswers}
use Rattle.lab_commands.specs.Undone.{IsUnread}
use Rattle.lab_report.specs.Note.{Told}
use Rattle.lab_report.specs.Reading.{IsNoReport, report_in}
use Rattle.lab_custody.specs.declared.checks.Checked.{Checked}
use Rattle.lab_custody.specs.declared.fault.CustodyFault.{CustodyFault}
use Rattle.lab_custody.specs.declared.fault.CustodyFault.TheVariants as fault
use Rattle.lab_custody.specs.declared.words.VerifyWords.{VerifyWords}
use Rattle.lab_custody.specs.Lines.{verify_text}
use Rattle.lab_custody.specs.Verify.{IsChecked, changed_count, noted_in}

-- ---- the report

-- the file's bytes, as far as they are known, say this report
pub record IsReportAt (a : StoreAnswers) (path : List ℕ) (told : Told) : Type 0 where
  pub known : Option (List ℕ)
  pub opened : IsFileOpened a path known
  pub says : IfSome known (λ bytes. report_in (looked_at bytes) ≡ Some told)

-- they say none
pub record OpensNone (a : StoreAnswers) (path : List ℕ) : Type 0 where
  pub known : Option (List ℕ)
  pub opened : IsFileOpened a path known
  pub none : IfSome known (λ bytes. IsNoReport (looked_at bytes))

-- there is none, or memory for it was refused
abbrev pub IsNoReportAt : StoreAnswers → List ℕ → CustodyFault → Type 0
IsNoReportAt a path fault.NotReport = OpensNone a path
IsNoReportAt a path (fault.Lab (lab.Read told)) = IsUnread a path (lab.Read told)
IsNoReportAt a path (fault.Lab lab.OutOfMemory) = Unit {0}
IsNoReportAt a path _ = ⊥

-- ---- done

-- this is said of the files of a report, one after another
pub record AreAllChecked (a : StoreAnswers) (told : Told) (checks : List Checked) : Type 0 where
  pub each : All (IsChecked a) checks
  pub noted : map noted_in checks ≡ told.read ++ told.wrote

abbrev pub form_of_verify : VerifyWords → ReportForm
form_of_verify words = if words.json then Json else Text

-- the file is a report, and this is said of its files
pub record HasVerified (a : StoreAnswers) (words : VerifyWords) (checks : List Checked) : Type 0 where
  pub report : Told
  pub report_is : IsReportAt a words.report.now report
  pub checked : AreAllChecked a report checks

-- and was printed; all are the same
pub record ToldVerified (a : StoreAnswers) (words : VerifyWords) (out printed : Option (List ℕ)) : Type 0 where
  pub checks : List Checked
  pub has : HasVerified a words checks
  pub same : changed_count checks ≡ 0
  pub told : Appends out printed (verify_text (form_of_verify words) checks)

-- ---- not done, or not the same

-- all was printed, and a file is not the same; or standard output failed, and a part was printed and never all
abbrev pub IsHalfTold : (broke : Bool) → Option (List ℕ) → Option (List ℕ) → List ℕ → ℕ → CustodyFault → Type 0
IsHalfTold broke out printed due changed fault.Changed = (0 < changed) × Appends out printed due
IsHalfTold broke out printed due changed (fault.Lab (lab.Write told)) = (told.now ≡ codes "-") × (broke ≡ true) × AppendsPart out printed due
IsHalfTold broke out printed due changed _ = ⊥

-- there is no report, or memory was refused: before another file was opened, and nothing was printed; or the files were checked
abbrev pub IsVerifyFault : StoreAnswers → VerifyWords → (opens opened : Option ℕ) → (broke : Bool) → Option (List ℕ) → Option (List ℕ) → CustodyFault → Type 0
IsVerifyFault a words opens opened broke out printed told =
    (Keeps out printed × (opened ≡ option_map suc opens) × IsNoReportAt a words.report.now told)
    ⊎ ((checks : List Checked) × HasVerified a words checks × IsHalfTold broke out printed (verify_text (form_of_verify words) checks) (changed_count checks) told)
