-- What a run of the program comes to.
use Rattle.std.specs.Prelude.{◌≡◌, ◌⊎◌, ℕ, suc, Bool, List, length, Option, option_map, string_bytes}
use Rattle.std.specs.Io.KnownBytes.{Appends, Keeps}
use Rattle.lab_commands.specs.declared.words.Asked.{Asked}
use Rattle.lab_commands.specs.declared.words.Asked.TheVariants as asked
use Rattle.lab_commands.specs.Words.{AsksLabProgram, IsNoLabCommand}
use Rattle.lab_commands.specs.declared.text.LabFault.{LabFault}
use Rattle.lab_commands.specs.declared.text.LabFault.TheVariants.{NoSuchCommand, OutOfMemory}
use Rattle.lab_commands.specs.Files.{Store, StoreAnswers, after_opens}
use Rattle.lab_commands.specs.Text.{IsLabFaultTold}
use Rattle.lab_commands.specs.Array.{WroteArray, IsArrayFault}
use Rattle.lab_commands.specs.History.{ToldHistory, IsHistoryFault}
use Rattle.lab_commands.specs.Survey.{ToldSurvey, IsSurveyFault}
use Rattle.lab_commands.specs.Compare.{ToldCompared, IsCompareFault}
use Rattle.lab_commands.specs.Geometry.{ToldFits, IsGeometryFault}
use Rattle.lab_commands.specs.Repair.{WroteRepair, IsRepairFault}
use Rattle.lab_commands.specs.Correct.{WroteCorrected, IsCorrectFault}
use Rattle.lab_commands.specs.Arrange.{WroteArranged, IsArrangeFault}
use Rattle.lab_commands.specs.Merge.{WroteMerge, IsMergeFault}
use Rattle.lab_commands.specs.Origin.{WroteOrigin, IsOriginFault}
use Rattle.lab_commands.specs.Undone.{IsHalfPrinted, LeavesAll}

-- ---- done

-- the words asked for an array, a merge, a repair, a correction, a dump in order or a map, which was written, or for geometries, a survey, a history, a comparison or a text, which was printed
abbrev pub WroteOrToldAsked : StoreAnswers → Asked → Option Store → Option Store → Option (List ℕ) → Option (List ℕ) → Type 0
WroteOrToldAsked a (asked.Geometry read) before after out printed = (after ≡ before) × ToldFits a read out printed
WroteOrToldAsked a (asked.Array read) before after out printed = WroteArray a read before after out printed
WroteOrToldAsked a (asked.History read) before after out printed = (after ≡ before) × ToldHistory a read out printed
WroteOrToldAsked a (asked.Survey read) before after out printed = (after ≡ before) × ToldSurvey a read out printed
WroteOrToldAsked a (asked.Compare read) before after out printed = (after ≡ before) × ToldCompared a read out printed
WroteOrToldAsked a (asked.Merge read) before after out printed = WroteMerge a read before after out printed
WroteOrToldAsked a (asked.Repair read) before after out printed = WroteRepair a read before after out printed
WroteOrToldAsked a (asked.Correct read) before after out printed = WroteCorrected a read before after out printed
WroteOrToldAsked a (asked.Arrange read) before after out printed = WroteArranged a read before after out printed
WroteOrToldAsked a (asked.Origin read) before after out printed = WroteOrigin a read before after out printed
WroteOrToldAsked a (asked.Text text) before after out printed = (after ≡ before) × Appends out printed (string_bytes text)

-- as many files were opened to be read as the words name, so NONE WAS OPENED AGAIN: a pipe that is opened again has lost what was read of it
abbrev pub OpensEachOnce : Asked → (opens opened : Option ℕ) → Type 0
OpensEachOnce (asked.Compare read) opens opened = opened ≡ option_map suc (option_map suc opens)
OpensEachOnce (asked.Merge read) opens opened = opened ≡ after_opens (length read.dumps.items) opens
OpensEachOnce (asked.Origin read) opens opened = opened ≡ after_opens (length read.readings.items) (option_map suc opens)
OpensEachOnce (asked.Text text) opens opened = opened ≡ opens
OpensEachOnce _ opens opened = opened ≡ option_map suc opens

abbrev pub Obeyed : StoreAnswers → List (List ℕ) → Option Store → Option Store → (opens opened : Option ℕ) → Option (List ℕ) → Option (List ℕ) → Type 0
Obeyed a words before after opens opened out printed = (found : Asked) × AsksLabProgram words found × WroteOrToldAsked a found before after out printed × OpensEachOnce found opens opened

-- ---- not done

-- why what was asked for was not done
abbrev pub IsFaultOf : StoreAnswers → Asked → Option Store → Option Store → (opens opened : Option ℕ) → (broke : Bool) → Option (List ℕ) → Option (List ℕ) → LabFault → Type 0
IsFaultOf a (asked.Geometry read) before after opens opened broke out printed told = IsGeometryFault a read before after opens opened broke out printed told
IsFaultOf a (asked.Array read) before after opens opened broke out printed told = IsArrayFault a read before after opens opened broke out printed told
IsFaultOf a (asked.History read) before after opens opened broke out printed told = IsHistoryFault a read before after opens opened broke out printed told
IsFaultOf a (asked.Survey read) before after opens opened broke out printed told = IsSurveyFault a read before after opens opened broke out printed told
IsFaultOf a (asked.Compare read) before after opens opened broke out printed told = IsCompareFault a read before after opens opened broke out printed told
IsFaultOf a (asked.Merge read) before after opens opened broke out printed told = IsMergeFault a read before after opens opened broke out printed told
IsFaultOf a (asked.Repair read) before after opens opened broke out printed told = IsRepairFault a read before after opens opened broke out printed told
IsFaultOf a (asked.Correct read) before after opens opened broke out printed told = IsCorrectFault a read before after opens opened broke out printed told
IsFaultOf a (asked.Arrange read) before after opens opened broke out printed told = IsArrangeFault a read before after opens opened broke out printed told
IsFaultOf a (asked.Origin read) before after opens opened broke out printed told = IsOriginFault a read before after opens opened broke out printed told
IsFaultOf a (asked.Text text) before after opens opened broke out printed told = (after ≡ before) × IsHalfPrinted broke out printed (string_bytes text) told

-- the words are no command, or memory for them was refused, before any file was opened
abbrev pub IsNoCommandAsked : List (List ℕ) → (opens opened : Option ℕ) → LabFault → Type 0
IsNoCommandAsked words opens opened NoSuchCommand = IsNoLabCommand words
IsNoCommandAsked words opens opened OutOfMemory = opened ≡ opens
IsNoCommandAsked words opens opened _ = ⊥

-- Why the words were not obeyed, and what was left then.
abbrev pub IsUnobeyed : StoreAnswers → List (List ℕ) → Option Store → Option Store → (opens opened : Option ℕ) → (broke : Bool) → Option (List ℕ) → Option (List ℕ) → LabFault → Type 0
IsUnobeyed a words before after opens opened broke out printed told =
    (LeavesAll before after out printed × IsNoCommandAsked words opens opened told)
    ⊎ ((found : Asked) × AsksLabProgram words found × IsFaultOf a found before after opens opened broke out printed told)

-- ---- both

-- What a writer holds before a run and after it, and whether a write to it has failed.
pub record Written : Type 0 where
  pub before : Option (List ℕ)
  pub after : Option (List ℕ)
  pub broke : Bool

-- status 0 where all was done, with nothing on standard error; else the fault's line there, and its status
abbrev pub LabCommandRuns : StoreAnswers → List (List ℕ) → Option Store → Option Store → (opens opened : Option ℕ) → (out err : Written) → ℕ → Type 0
LabCommandRuns a words before after opens opened out err status =
    (Obeyed a words before after opens opened out.before out.after × (status ≡ 0) × Keeps err.before err.after)
    ⊎ ((fault : LabFault) × IsUnobeyed a words before after opens opened out.broke out.before out.after fault × IsLabFaultTold fault err.broke err.before err.after status)
