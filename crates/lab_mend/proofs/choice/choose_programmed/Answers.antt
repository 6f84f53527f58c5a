use Rattle.std.proofs.Common.{◌≡◌, ◌∙◌, length, sym, subst, arith}
use Rattle.std.specs.Vec.{vec_len}
use Rattle.std.proofs.lemmas.Bool.{eqb-true, eqb-false}
use Rattle.lab_mend.specs.Pages.{pages_in}
use Rattle.lab_mend.specs.Choice.{Choice}
use Rattle.lab_mend.specs.Found.{WritesChoice, programmed_below}
use Rattle.lab_mend.proofs.FoundLemmas.{erased_written}
use Rattle.lab_mend.proofs.TriedLemmas.{no_places, programmed_first}
use Rattle.lab_mend.proofs.choice.choose_programmed.Goals as goal

pub returns-then-is_empty-clause-writes : goal.returns-then-is_empty-clause-writes
returns-then-is_empty-clause-writes c =
    let places = c.list_programmed.new.places in
    let none = eqb-true (vec_len places) 0 (sym c.is_empty.ensures ∙ c.if-is_empty.true) in
    let empty : length places.items ≡ 0 = omega (arith, none, places.ok.0) in
    erased_written c.args.geometry.now c.args.pages.now _ c.args.count c.requires.some (sym c.list_programmed.ensures.are ∙ no_places c.args.geometry.now c.args.pages.now places.items empty) c.copy_page.ensures

pub returns-clause-writes : goal.returns-clause-writes
returns-clause-writes c =
    let geo = c.args.geometry.now in
    let pages = c.args.pages.now in
    let places = c.list_programmed.new.places in
    let some = eqb-false (vec_len places) 0 (sym c.is_empty.ensures ∙ c.if-is_empty.false) in
    let is = programmed_first geo pages places.items (pages_in geo pages c.args.count) (programmed_below geo pages c.args.count) (omega (arith, some, places.ok.0)) c.list_programmed.ensures.are in
    subst (λ (x : Choice). WritesChoice x c.try_readings.result c.try_readings.new.out) (sym is) c.try_readings.ensures.writes
