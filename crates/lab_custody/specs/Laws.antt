-- Laws of what is said of files.
use Rattle.std.specs.Prelude.{◌≡◌, ◌↔◌, ℕ, All, Bool, List, Option, Some}
use Rattle.std.specs.List.{concat}
use Rattle.lab_commands.specs.Files.{IsAsPut, Store, with_kept}
use Rattle.lab_custody.specs.declared.checks.Checked.{Checked}
use Rattle.lab_custody.specs.declared.checks.Verdict.TheVariants as verdict
use Rattle.lab_custody.specs.Verify.{changed_count}

-- NONE IS COUNTED AS CHANGED JUST WHERE EACH IS THE SAME: one that is missing or could not be read is none
abbrev pub NoneChanged : Type 0
NoneChanged = (checks : List Checked) → (changed_count checks ≡ 0) ↔ All (λ check. check.verdict ≡ verdict.Same) checks

-- WHAT IS READ OF A FILE THAT WAS JUST PUT IN ITS PLACE IS WHAT WAS PUT THERE, whatever was put there before
abbrev pub PutReadsBack : Type 0
PutReadsBack = (s : Store) (path : List ℕ) (pieces : List (List ℕ)) (over : Bool) (known : Option (List ℕ)) → IsAsPut (with_kept (Some s) path (Some pieces) over) path known → known ≡ Some (concat pieces)
