use Rattle.std.proofs.Common.{◌∙◌, refl, sym, subst, true, false}
use Rattle.lab_mend.specs.declared.choice.Origin.TheVariants.{Majority}
use Rattle.lab_mend.specs.Choice.{Choice}
use Rattle.lab_mend.specs.Found.{WritesChoice}
use Rattle.lab_mend.proofs.FoundLemmas.{majority_test}
use Rattle.lab_mend.proofs.choice.choose_majority.Goals as goal

pub returns-then-has_majority : goal.returns-then-has_majority
returns-then-has_majority c = record {
  writes =
      let test = majority_test c.args.geometry.now c.args.pages.now c.args.count true (sym c.if-has_majority.true ∙ c.has_majority.ensures.is) in
      subst (λ (x : Choice). WritesChoice x Majority c.has_majority.new.out) (sym test) (record { origin_is = refl; bytes_are = c.has_majority.ensures.page c.if-has_majority.true });
  room = c.requires.room;
}

pub returns-else-has_majority : goal.returns-else-has_majority
returns-else-has_majority c = record {
  writes =
      let test = majority_test c.args.geometry.now c.args.pages.now c.args.count false (sym c.if-has_majority.false ∙ c.has_majority.ensures.is) in
      subst (λ (x : Choice). WritesChoice x c.choose_programmed.result c.choose_programmed.new.out) (sym test) c.choose_programmed.ensures.writes;
  room = c.choose_programmed.ensures.room;
}
