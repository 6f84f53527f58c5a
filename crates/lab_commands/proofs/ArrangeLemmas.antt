-- What the command `arrange` comes to where it isn't done.
use Rattle.std.proofs.Common.{◌≡◌, inl, inr, ℕ, List, Option, refl}
use Rattle.std.specs.Borrow.{Bor}
use Rattle.page_layout.specs.declared.geometry.Geometry.{Geometry}
use Rattle.lab_arrange.specs.declared.arrangement.Arrangement.{Arrangement}
use Rattle.lab_arrange.specs.declared.arrange.ArrangeFault.{ArrangeFault}
use Rattle.lab_arrange.specs.declared.arrange.ArrangeFault.TheVariants as arrange
use Rattle.lab_arrange.specs.Arranged.{IsUnarranged}
use Rattle.lab_commands.specs.Files.{IsFileOpened, StoreAnswers}
use Rattle.lab_commands.specs.Arrange.{IsUnordered, unordered_as}

-- no dump in order was made of one that was opened
pub unordered : (s : StoreAnswers) (dump out : Bor (List ℕ)) (g : Geometry) (a : Arrangement) (known : Option (List ℕ)) (f : ArrangeFault) → IsFileOpened s dump.now known → IsUnarranged g a known f
    → (f ≡ arrange.Source → s.reads_fail) → (f ≡ arrange.Target → s.writes_fail) → IsUnordered s g a dump.now out.now (unordered_as f dump out)
unordered s dump out g a known (arrange.WrongLength wanted found) opened h reads writes = inr (inl (record { known = known; opened = opened; lengths = h }))
unordered s dump out g a known arrange.Source opened h reads writes = inr (inl (refl, record { known = known; opened = opened }, reads refl))
unordered s dump out g a known arrange.Target opened h reads writes = inr (inr (inr (refl, record { known = known; opened = opened }, writes refl)))
