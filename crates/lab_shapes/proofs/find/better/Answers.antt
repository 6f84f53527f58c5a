use Rattle.std.proofs.Common.{◌≡◌, ◌∙◌, sym, subst, Some}
use Rattle.lab_shapes.specs.Better.{Improves}
use Rattle.lab_shapes.proofs.BetterLemmas.{better_found, better_none, better_stays}
use Rattle.lab_shapes.proofs.find.better.Goals as goal

pub returns-in_default-clause-better : goal.returns-in_default-clause-better
returns-in_default-clause-better c =
    subst (λ o. Improves (λ y. y ≡ c.args.found) o (Some c.args.found)) (sym c.in_default.is) (better_none c.args.found)

pub returns-then-comes_before-clause-better : goal.returns-then-comes_before-clause-better
returns-then-comes_before-clause-better c =
    subst (λ o. Improves (λ y. y ≡ c.args.found) o (Some c.args.found)) (sym c.in-Some.is) (better_found c.in-Some.best c.args.found (sym c.comes_before.ensures ∙ c.if-comes_before.true))

pub returns-else-comes_before-clause-better : goal.returns-else-comes_before-clause-better
returns-else-comes_before-clause-better c =
    subst (λ o. Improves (λ y. y ≡ c.args.found) o (Some c.in-Some.best)) (sym c.in-Some.is) (better_stays c.in-Some.best c.args.found (sym c.comes_before.ensures ∙ c.if-comes_before.false))
