-- What a run of the program comes to.
use Rattle.std.specs.Prelude.{◌≡◌, ◌≢◌, ◌⊎◌, ℕ, Bool, false, List, [], ◌∷◌, length, Option, Some}
use Rattle.std.specs.Io.KnownBytes.{Keeps}
use Rattle.program_words.specs.Met.{texts}
use Rattle.lab_commands.specs.declared.text.LabFault.TheVariants as lab
use Rattle.lab_commands.specs.Files.{AnswersNoMore, Store, StoreAnswers, after_opens, with_kept}
use Rattle.lab_commands.specs.Program.{LabCommandRuns, Written}
use Rattle.lab_report.specs.Note.{Note}
use Rattle.lab_report.specs.Written.{report_text}
use Rattle.lab_custody.specs.declared.fault.CustodyFault.{CustodyFault}
use Rattle.lab_custody.specs.declared.fault.CustodyFault.TheVariants as fault
use Rattle.lab_custody.specs.declared.words.Custody.{Custody}
use Rattle.lab_custody.specs.declared.words.Custody.TheVariants as custody
use Rattle.lab_custody.specs.declared.words.ReportedWords.{ReportedWords}
use Rattle.lab_custody.specs.declared.words.VerifyWords.{VerifyWords}
use Rattle.lab_custody.specs.Fault.{IsCustodyFaultTold}
use Rattle.lab_custody.specs.Reported.{AreNoted, IsSomeUnnoted, IsReportUnstored, MayNotReport, MayReport, told_of_run}
use Rattle.lab_custody.specs.Verified.{IsVerifyFault, ToldVerified}
use Rattle.lab_custody.specs.Words.{IsCustody}

-- ---- a report

-- why a command was not begun: no report may be written, memory was refused before a file was opened, or a file that it reads cannot be read
abbrev pub IsCommandUnbegun : StoreAnswers → Option Store → ReportedWords → (opens opened : Option ℕ) → CustodyFault → Type 0
IsCommandUnbegun a kept asked opens opened told =
    MayNotReport a asked.file.now (texts asked.wrote.items) told
    ⊎ (MayReport a asked.file.now (texts asked.wrote.items) × (((told ≡ fault.Lab lab.OutOfMemory) × (opened ≡ opens)) ⊎ IsSomeUnnoted a kept (texts asked.read.items) told))

-- why no report was written of one that was done: a file that it wrote cannot be read, or the report was not stored
abbrev pub IsUnfinished : StoreAnswers → Option Store → ReportedWords → CustodyFault → Type 0
IsUnfinished a kept asked told = IsSomeUnnoted a kept (texts asked.wrote.items) told ⊎ IsReportUnstored a asked.file.now told

-- the report was put in its place, over no file: it says these words, these files that were read, and those that were written, each opened once, as they were put in their places
pub record WroteReport (a : StoreAnswers) (words : List (List ℕ)) (asked : ReportedWords) (read : List Note) (before after : Option Store) (opens opened : Option ℕ) : Type 0 where
  pub wrote : List Note
  pub noted : AreNoted a before (texts asked.wrote.items) wrote
  pub once : opened ≡ after_opens (length asked.wrote.items) opens
  pub stored : after ≡ with_kept before asked.file.now (Some (report_text (told_of_run words read wrote) ∷ [])) false

-- ---- a command with its report, by what the files answer, which of them were put in their places, and how many were opened

-- THE FILES WERE NOTED, EACH OPENED ONCE, AND THEN THE COMMAND RAN OVER FILES THAT MAY ANSWER NOTHING NEW
pub record HasBegun {F : Type 0} (answers : F → StoreAnswers) (kept : F → Option Store) (opened : F → Option ℕ) (asked : ReportedWords) (old begun : F) (read : List Note) : Type 0 where
  pub may : MayReport (answers old) asked.file.now (texts asked.wrote.items)
  pub noted : AreNoted (answers old) (kept old) (texts asked.read.items) read
  pub no_more : AnswersNoMore (answers old) (answers begun)
  pub same : kept begun ≡ kept old
  pub once : opened begun ≡ after_opens (length asked.read.items) (opened old)

-- all was done, and the report was put in its place
pub record HasReported {F : Type 0} (answers : F → StoreAnswers) (kept : F → Option Store) (opened : F → Option ℕ) (words : List (List ℕ)) (asked : ReportedWords) (old new : F) (out err : Written) : Type 0 where
  pub begun : F
  pub done : F
  pub read : List Note
  pub begins : HasBegun answers kept opened asked old begun read
  pub ran : LabCommandRuns (answers begun) words (kept begun) (kept done) (opened begun) (opened done) out err 0
  pub wrote : WroteReport (answers done) words asked read (kept done) (kept new) (opened done) (opened new)

-- it was not begun, and nothing was done
pub record IsNotBegun {F : Type 0} (answers : F → StoreAnswers) (kept : F → Option Store) (opened : F → Option ℕ) (asked : ReportedWords) (old new : F) (out err : Written) (status : ℕ) : Type 0 where
  pub why : CustodyFault
  pub is : IsCommandUnbegun (answers old) (kept old) asked (opened old) (opened new) why
  pub same : kept new ≡ kept old
  pub silent : Keeps out.before out.after
  pub told : IsCustodyFaultTold why err.broke err.before err.after status

-- the command itself was not done, and has told why
pub record IsNotDone {F : Type 0} (answers : F → StoreAnswers) (kept : F → Option Store) (opened : F → Option ℕ) (words : List (List ℕ)) (asked : ReportedWords) (old new : F) (out err : Written) (status : ℕ) : Type 0 where
  pub begun : F
  pub read : List Note
  pub begins : HasBegun answers kept opened asked old begun read
  pub ran : LabCommandRuns (answers begun) words (kept begun) (kept new) (opened begun) (opened new) out err status
  pub failed : status ≢ 0

-- it was done, but there is no report
pub record IsNotReported {F : Type 0} (answers : F → StoreAnswers) (kept : F → Option Store) (opened : F → Option ℕ) (words : List (List ℕ)) (asked : ReportedWords) (old new : F) (out err : Written) (status : ℕ) : Type 0 where
  pub begun : F
  pub done : F
  pub read : List Note
  pub said : Written
  pub begins : HasBegun answers kept opened asked old begun read
  pub ran : LabCommandRuns (answers begun) words (kept begun) (kept done) (opened begun) (opened done) out said 0
  pub first : said.before ≡ err.before
  pub why : CustodyFault
  pub is : IsUnfinished (answers done) (kept done) asked why
  pub same : kept new ≡ kept done
  pub told : IsCustodyFaultTold why err.broke said.after err.after status

abbrev pub IsRunReported : {F : Type 0} → (F → StoreAnswers) → (F → Option Store) → (F → Option ℕ) → List (List ℕ) → ReportedWords → (old new : F) → (out err : Written) → ℕ → Type 0
IsRunReported answers kept opened words asked old new out err status =
    ((status ≡ 0) × HasReported answers kept opened words asked old new out err)
    ⊎ IsNotBegun answers kept opened asked old new out err status
    ⊎ IsNotDone answers kept opened words asked old new out err status
    ⊎ IsNotReported answers kept opened words asked old new out err status

-- ---- `verify`

-- all files are the same, and that was printed; or not, for this reason, which was told
pub record IsNotVerified {F : Type 0} (answers : F → StoreAnswers) (opened : F → Option ℕ) (read : VerifyWords) (old new : F) (out err : Written) (status : ℕ) : Type 0 where
  pub why : CustodyFault
  pub is : IsVerifyFault (answers old) read (opened old) (opened new) out.broke out.before out.after why
  pub told : IsCustodyFaultTold why err.broke err.before err.after status

abbrev pub IsRunVerified : {F : Type 0} → (F → StoreAnswers) → (F → Option Store) → (F → Option ℕ) → VerifyWords → (old new : F) → (out err : Written) → ℕ → Type 0
IsRunVerified answers kept opened read old new out err status =
    (kept new ≡ kept old)
    × (((status ≡ 0) × ToldVerified (answers old) read out.before out.after × Keeps err.before err.after) ⊎ IsNotVerified answers opened read old new out err status)

-- ---- a run

-- by what the words ask for
abbrev pub DoesCustody : {F : Type 0} → (F → StoreAnswers) → (F → Option Store) → (F → Option ℕ) → List (List ℕ) → Custody → (old new : F) → (out err : Written) → ℕ → Type 0
DoesCustody answers kept opened words (custody.Verify read) old new out err status = IsRunVerified answers kept opened read old new out err status
DoesCustody answers kept opened words (custody.Reported asked) old new out err status = IsRunReported answers kept opened words asked old new out err status
DoesCustody answers kept opened words custody.Plain old new out err status = LabCommandRuns (answers old) words (kept old) (kept new) (opened old) (opened new) out err status

-- memory for the words was refused, and nothing was done
pub record IsWordless {F : Type 0} (old new : F) (out err : Written) (status : ℕ) : Type 0 where
  pub same : new ≡ old
  pub silent : Keeps out.before out.after
  pub told : IsCustodyFaultTold (fault.Lab lab.OutOfMemory) err.broke err.before err.after status

abbrev pub IsRun : {F : Type 0} → (F → StoreAnswers) → (F → Option Store) → (F → Option ℕ) → List (List ℕ) → (old new : F) → (out err : Written) → ℕ → Type 0
IsRun answers kept opened words old new out err status =
    ((found : Custody) × IsCustody words found × DoesCustody answers kept opened words found old new out err status)
    ⊎ IsWordless old new out err status
