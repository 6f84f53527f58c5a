-- The lines of `verify`: one for each file, and the count.
use Rattle.std.specs.Prelude.{ℕ, List, [], ◌∷◌, ◌++◌, codes, length, decimal}
use Rattle.serde_json.specs.Data.{Data, member, no_members, number, object, string, unsigned}
use Rattle.serde_json.specs.Written.{compact_text}
use Rattle.json.specs.Print.{escape}
use Rattle.lab_commands.specs.declared.document.ReportForm.{ReportForm}
use Rattle.lab_commands.specs.declared.document.ReportForm.TheVariants.{Text, Json}
use Rattle.lab_commands.specs.Names.{shown_name}
use Rattle.lab_commands.specs.Values.{head_data}
use Rattle.lab_custody.specs.declared.checks.Checked.{Checked}
use Rattle.lab_custody.specs.declared.checks.Verdict.{Verdict}
use Rattle.lab_custody.specs.declared.checks.Verdict.TheVariants as verdict
use Rattle.lab_custody.specs.Verify.{changed_count}

abbrev pub verdict_words : Verdict → List ℕ
verdict_words verdict.Same = codes "same"
verdict_words verdict.Differs = codes "differs"
verdict_words verdict.Missing = codes "missing"
verdict_words verdict.Unread = codes "unread"

-- the line of a file, as an object
abbrev pub verdict_data : Verdict → List ℕ → Data
verdict_data v name = object (member (codes "line") (string (verdict_words v)) (member (codes "name") (string name) no_members))

-- how many files there are, and how many are not the same
abbrev pub verified_data : ℕ → ℕ → Data
verified_data files changed =
    object (member (codes "changed") (number (unsigned changed)) (member (codes "files") (number (unsigned files)) (member (codes "line") (string (codes "verified")) no_members)))

abbrev pub verified_words : ℕ → ℕ → List ℕ
verified_words files changed = codes "verified " ++ (decimal files ++ (codes " changed " ++ decimal changed))

-- ---- in a form

abbrev pub check_text : ReportForm → Verdict → List ℕ → List ℕ
check_text Text v name = (verdict_words v ++ codes " ") ++ (shown_name name ++ (10 ∷ []))
check_text Json v name = codes ",\n" ++ compact_text (verdict_data v name)

-- what stands before a name and behind it, which a JSON string has with its escapes
abbrev pub front_text : ReportForm → Verdict → List ℕ
front_text Text v = verdict_words v ++ codes " "
front_text Json v = codes ",\n{\"line\":\"" ++ (verdict_words v ++ codes "\",\"name\":\"")

abbrev pub name_text : ReportForm → List ℕ → List ℕ
name_text Text name = shown_name name
name_text Json name = escape name

abbrev pub end_text : ReportForm → List ℕ
end_text Text = codes "\n"
end_text Json = codes "\"}"

abbrev pub checks_text : ReportForm → List Checked → List ℕ
checks_text form [] = []
checks_text form (check ∷ checks) = check_text form check.verdict check.name.now ++ checks_text form checks

abbrev pub verified_text : ReportForm → ℕ → ℕ → List ℕ
verified_text Text files changed = verified_words files changed ++ (10 ∷ [])
verified_text Json files changed = codes ",\n" ++ (compact_text (verified_data files changed) ++ codes "\n]\n")

abbrev pub begin_text : ReportForm → List ℕ
begin_text Text = []
begin_text Json = codes "[" ++ compact_text (head_data (codes "verify"))

-- ALL THAT `verify` PRINTS
abbrev pub verify_text : ReportForm → List Checked → List ℕ
verify_text form checks = begin_text form ++ (checks_text form checks ++ verified_text form (length checks) (changed_count checks))
