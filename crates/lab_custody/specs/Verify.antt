-- What `verify` says of the files of a report.
use Rattle.std.specs.Prelude.{◌≡◌, ◌⊎◌, ◌≤◌, ◌^◌, ◌++◌, ℕ, Bool, true, false, All, List, length, map, count_by, Option, IfSome}
use Rattle.sha2.specs.Sha256.{sha256}
use Rattle.lab_commands.specs.declared.files.LabFileFault.{LabFileFault}
use Rattle.lab_commands.specs.declared.files.Standing.TheVariants as standing
use Rattle.lab_commands.specs.Files.{IsFileOpened, StoreAnswers}
use Rattle.lab_report.specs.Note.{Note, named_as}
use Rattle.lab_custody.specs.declared.checks.Checked.{Checked}
use Rattle.lab_custody.specs.declared.checks.Verdict.{Verdict}
use Rattle.lab_custody.specs.declared.checks.Verdict.TheVariants as verdict

-- the bytes are those that were noted: as many, with that SHA-256
pub record IsStill (note : Note) (bytes : List ℕ) : Type 0 where
  pub bytes_are : length bytes ≡ note.bytes
  pub digest_is : sha256 bytes ≡ note.sha256

-- a file of this path was opened, and where its bytes are known they are those that were noted
pub record ReadsSame (a : StoreAnswers) (note : Note) : Type 0 where
  pub known : Option (List ℕ)
  pub opened : IsFileOpened a note.name known
  pub same : IfSome known (IsStill note)

-- and they are not
pub record ReadsOther (a : StoreAnswers) (note : Note) : Type 0 where
  pub known : Option (List ℕ)
  pub opened : IsFileOpened a note.name known
  pub other : IfSome known (λ bytes. ¬ IsStill note bytes)

-- and it was not read whole: a read failed, or it has more bytes than 64 bits count
pub record ReadsNot (a : StoreAnswers) (path : List ℕ) : Type 0 where
  pub known : Option (List ℕ)
  pub opened : IsFileOpened a path known
  pub cut : a.reads_fail ⊎ IfSome known (λ bytes. 2 ^ 64 ≤ length bytes)

-- a call that names it failed, or what stands there is no file, or it was not read whole
abbrev pub IsNotReadWhole : StoreAnswers → List ℕ → Type 0
IsNotReadWhole a path = ((fault : LabFileFault) × a.fails path fault) ⊎ a.says path standing.Other ⊎ ReadsNot a path

-- WHAT IS SAID OF A FILE IS SO
abbrev pub IsVerdict : StoreAnswers → Note → Verdict → Type 0
IsVerdict a note verdict.Same = ReadsSame a note
IsVerdict a note verdict.Differs = ReadsOther a note
IsVerdict a note verdict.Missing = a.says note.name standing.Nothing
IsVerdict a note verdict.Unread = IsNotReadWhole a note.name

-- a file of a report as it was noted
abbrev pub noted_in : Checked → Note
noted_in check = named_as check.name.now check.content

abbrev pub IsChecked : StoreAnswers → Checked → Type 0
IsChecked a check = IsVerdict a (noted_in check) check.verdict

-- of these files one after another something was said, behind what was said before
pub record AreChecked (a : StoreAnswers) (notes : List Note) (before after : List Checked) : Type 0 where
  pub more : List Checked
  pub longer : after ≡ before ++ more
  pub each : All (IsChecked a) more
  pub noted : map noted_in more ≡ notes

-- ---- how many are not the same

abbrev pub changes : Verdict → Bool
changes verdict.Same = false
changes verdict.Differs = true
changes verdict.Missing = true
changes verdict.Unread = true

abbrev pub is_changed : Checked → Bool
is_changed check = changes check.verdict

abbrev pub changed_count : List Checked → ℕ
changed_count checks = count_by is_changed checks
