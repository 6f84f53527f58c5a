-- Of a file that was begun beside the reader of a dump.
use Rattle.std.proofs.Common.{◌≡◌, ℕ, List, Option, IfSome, subst, sym}
use Rattle.std.specs.Borrow.{Bor}
use Rattle.std.specs.Prelude.{Result, Ok, Err, IfOk, length, replicate}
use Rattle.page_layout.specs.declared.geometry.Geometry.{Geometry}
use Rattle.lab_dump.specs.declared.make_fault.MakeFault.{MakeFault}
use Rattle.lab_dump.specs.declared.make_fault.MakeFault.TheVariants as make
use Rattle.lab_dump.specs.Unmade.{IsUnmade as IsUnmadeBy}
use Rattle.lab_commands.specs.declared.text.LabFault.{LabFault}
use Rattle.lab_commands.specs.Files.{IsFileOpened, StoreAnswers}
use Rattle.lab_commands.specs.Undone.{IsFileUnmade, unmade_as}
use Rattle.lab_commands.proofs.UndoneLemmas.{as_many, unmade}

-- one of so many zeros has so many pieces
pub as_many_begun : {R T : Type 0} (pieces : T → Option (List (List ℕ))) (begun : Result (R × T) LabFault) (count rows : ℕ) (zeros : List ℕ) → IfOk begun (λ both. IfSome (pieces both.1) (λ (ps : List (List ℕ)). ps ≡ replicate count zeros)) → count ≡ rows
    → IfOk begun (λ both. IfSome (pieces both.1) (λ ps. length ps ≡ rows))
as_many_begun pieces (Ok both) count rows zeros is same = as_many (pieces both.1) count rows zeros is same
as_many_begun pieces (Err fault) count rows zeros is same = tt

-- one was not written whole, and this is told
pub told_unmade : (a : StoreAnswers) (dump out : Bor (List ℕ)) (g : Geometry) (known : Option (List ℕ)) (f : MakeFault) (told : LabFault) → told ≡ unmade_as f dump out → IsFileOpened a dump.now known → IfSome known (IsUnmadeBy g f) → (f ≡ make.Source → a.reads_fail)
    → (f ≡ make.Target → a.writes_fail) → IsFileUnmade a g dump.now out.now told
told_unmade a dump out g known f told is opened why reads writes = subst (λ it. IsFileUnmade a g dump.now out.now it) (sym is) (unmade a dump out g known f opened why reads writes)
