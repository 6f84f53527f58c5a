use Rattle.std.proofs.Common.{◌∙◌, [], ◌∷◌, true, false, refl}
use Rattle.page_layout.specs.Flash.{Erase, Steps, block_at}
use Rattle.page_layout.specs.Recording.{Records}
use Rattle.page_layout.proofs.AskedLemmas.{asks_one}
use Rattle.onfi_cycles.specs.declared.nand.Outcome.TheVariants.{Passed, Failed}
use Rattle.onfi_cycles.specs.Outcomes.{is_passed}
use Rattle.allocation.specs.View.{state}
use Rattle.collection.specs.Safe.{ram}
use Rattle.collection.proofs.Programs.{at_outcome}
use Rattle.collection.proofs.Erases.{erase_acts, erase_goes, erase_released, erase_holds, closed_good}
use Rattle.collection.proofs.Stops.{erase_stops}
use Rattle.collection.proofs.Cuts.{erase_cut}
use Rattle.collection.proofs.engine.Engine.erase_block.Goals as goal

pub retire-requires-clause-good : goal.retire-requires-clause-good
retire-requires-clause-good g c = closed_good (state c.args.self.now.blocks) c.args.block c.requires.closed

-- ---- it passed

pub returns-in-Ok-Passed-clause-acts : goal.returns-in-Ok-Passed-clause-acts
returns-in-Ok-Passed-clause-acts g c =
    let before = g.N.PageSource.view.flash c.args.self.now.nand in
    let after = g.N.PageSource.view.flash c.erase.new.self in
    let o = c.in-Ok-Passed.field-0 in
    erase_acts g.N.PageSource.view true c.args.block c.args.self.now c.erase.new.self c.freed.new.self c.clear_marks.new.marks
    c.requires.safe c.requires.block c.requires.closed c.freed.ensures.is c.clear_marks.ensures c.erase.ensures.geometry
    c.erase.ensures.honest c.erase.ensures.calm (asks_one g.N.PageSource.view.called c.args.self.now.nand c.erase.new.self _ c.erase.ensures.called) c.erase.ensures.failed
    (λ honest. at_outcome (λ z. Steps before (Erase c.args.block (is_passed z) (block_at after c.args.block)) after) o Passed (c.in-Ok-Passed.ensures.step honest) c.in-Ok-Passed.field-0-is)
    (λ honest. at_outcome (λ z. Records (g.N.PageSource.view.recorded c.args.self.now.nand) (Erase c.args.block (is_passed z) (block_at after c.args.block) ∷ []) (g.N.PageSource.view.recorded c.erase.new.self)) o Passed (c.in-Ok-Passed.ensures.recorded honest) c.in-Ok-Passed.field-0-is)

pub returns-in-Ok-Passed-clause-goes : goal.returns-in-Ok-Passed-clause-goes
returns-in-Ok-Passed-clause-goes g c =
    erase_goes g.N.PageSource.view true c.args.block c.args.self.now c.erase.new.self c.freed.new.self c.clear_marks.new.marks
    c.requires.safe c.requires.block c.requires.closed c.freed.ensures.is c.clear_marks.ensures c.erase.ensures.geometry

pub returns-in-Ok-Passed-clause-released : goal.returns-in-Ok-Passed-clause-released
returns-in-Ok-Passed-clause-released g c =
    erase_released g.N.PageSource.view true c.args.block c.args.self.now c.erase.new.self c.freed.new.self c.clear_marks.new.marks
    c.requires.safe c.requires.block c.requires.closed c.freed.ensures.is c.clear_marks.ensures c.erase.ensures.geometry

pub returns-in-Ok-Passed-clause-truth : goal.returns-in-Ok-Passed-clause-truth
returns-in-Ok-Passed-clause-truth g c = λ honest w none.
    let after = g.N.PageSource.view.flash c.erase.new.self in
    let step = at_outcome (λ z. Steps (g.N.PageSource.view.flash c.args.self.now.nand) (Erase c.args.block (is_passed z) (block_at after c.args.block)) after) c.in-Ok-Passed.field-0 Passed (c.in-Ok-Passed.ensures.step honest) c.in-Ok-Passed.field-0-is in
    erase_holds g.N.PageSource.view true c.args.block c.args.self.now c.erase.new.self c.freed.new.self c.clear_marks.new.marks
    c.requires.safe c.requires.block c.requires.closed c.freed.ensures.is c.clear_marks.ensures c.erase.ensures.geometry step (c.in-Ok-Passed.ensures.whole honest) w none

pub returns-in-Ok-Passed-clause-stops : goal.returns-in-Ok-Passed-clause-stops
returns-in-Ok-Passed-clause-stops g c = λ honest w none ne. erase_stops (ram c.args.self.now) _ c.args.block _ _ _ _ _ _ c.requires.safe.geometry
    c.requires.safe.memory w none (c.in-Ok-Passed.ensures.step honest) (c.in-Ok-Passed.ensures.recorded honest)
    (returns-in-Ok-Passed-clause-truth g c honest w none)

-- ---- it failed

pub returns-in-Ok-Failed-clause-acts : goal.returns-in-Ok-Failed-clause-acts
returns-in-Ok-Failed-clause-acts g c =
    let before = g.N.PageSource.view.flash c.args.self.now.nand in
    let after = g.N.PageSource.view.flash c.erase.new.self in
    let o = c.in-Ok-Failed.field-0 in
    erase_acts g.N.PageSource.view false c.args.block c.args.self.now c.erase.new.self c.retire.new.self c.clear_marks-in-Ok-Failed.new.marks
    c.requires.safe c.requires.block c.requires.closed c.retire.ensures.is c.clear_marks-in-Ok-Failed.ensures c.erase.ensures.geometry
    c.erase.ensures.honest c.erase.ensures.calm (asks_one g.N.PageSource.view.called c.args.self.now.nand c.erase.new.self _ c.erase.ensures.called) c.erase.ensures.failed
    (λ honest. at_outcome (λ z. Steps before (Erase c.args.block (is_passed z) (block_at after c.args.block)) after) o Failed (c.in-Ok-Failed.ensures.step honest) c.in-Ok-Failed.field-0-is)
    (λ honest. at_outcome (λ z. Records (g.N.PageSource.view.recorded c.args.self.now.nand) (Erase c.args.block (is_passed z) (block_at after c.args.block) ∷ []) (g.N.PageSource.view.recorded c.erase.new.self)) o Failed (c.in-Ok-Failed.ensures.recorded honest) c.in-Ok-Failed.field-0-is)

pub returns-in-Ok-Failed-clause-goes : goal.returns-in-Ok-Failed-clause-goes
returns-in-Ok-Failed-clause-goes g c =
    erase_goes g.N.PageSource.view false c.args.block c.args.self.now c.erase.new.self c.retire.new.self c.clear_marks-in-Ok-Failed.new.marks
    c.requires.safe c.requires.block c.requires.closed c.retire.ensures.is c.clear_marks-in-Ok-Failed.ensures c.erase.ensures.geometry

pub returns-in-Ok-Failed-clause-released : goal.returns-in-Ok-Failed-clause-released
returns-in-Ok-Failed-clause-released g c =
    erase_released g.N.PageSource.view false c.args.block c.args.self.now c.erase.new.self c.retire.new.self c.clear_marks-in-Ok-Failed.new.marks
    c.requires.safe c.requires.block c.requires.closed c.retire.ensures.is c.clear_marks-in-Ok-Failed.ensures c.erase.ensures.geometry

pub returns-in-Ok-Failed-clause-truth : goal.returns-in-Ok-Failed-clause-truth
returns-in-Ok-Failed-clause-truth g c = λ honest w none.
    let after = g.N.PageSource.view.flash c.erase.new.self in
    let step = at_outcome (λ z. Steps (g.N.PageSource.view.flash c.args.self.now.nand) (Erase c.args.block (is_passed z) (block_at after c.args.block)) after) c.in-Ok-Failed.field-0 Failed (c.in-Ok-Failed.ensures.step honest) c.in-Ok-Failed.field-0-is in
    erase_holds g.N.PageSource.view false c.args.block c.args.self.now c.erase.new.self c.retire.new.self c.clear_marks-in-Ok-Failed.new.marks
    c.requires.safe c.requires.block c.requires.closed c.retire.ensures.is c.clear_marks-in-Ok-Failed.ensures c.erase.ensures.geometry step (c.in-Ok-Failed.ensures.whole honest) w none

pub returns-in-Ok-Failed-clause-stops : goal.returns-in-Ok-Failed-clause-stops
returns-in-Ok-Failed-clause-stops g c = λ honest w none ne. erase_stops (ram c.args.self.now) _ c.args.block _ _ _ _ _ _ c.requires.safe.geometry
    c.requires.safe.memory w none (c.in-Ok-Failed.ensures.step honest) (c.in-Ok-Failed.ensures.recorded honest)
    (returns-in-Ok-Failed-clause-truth g c honest w none)

-- ---- the die gave a fault

pub returns-in-Err-clause-stops : goal.returns-in-Err-clause-stops
returns-in-Err-clause-stops g c = λ honest w none ne. absurd (ne refl)

-- ---- what a fault of the die leaves

pub returns-in-Err-clause-cut : goal.returns-in-Err-clause-cut
returns-in-Err-clause-cut g c = λ honest w none is. erase_cut (ram c.args.self.now) c.args.block _ _ _ c.requires.safe.geometry c.requires.block c.requires.safe.memory w none (c.in-Err.ensures.cut honest)

pub returns-in-Err-clause-acts : goal.returns-in-Err-clause-acts
returns-in-Err-clause-acts g c = record {
  safe = record { memory = c.requires.safe.memory; geometry = c.erase.ensures.geometry ∙ c.requires.safe.geometry; page = c.requires.safe.page; scratch = c.requires.safe.scratch };
  fault = refl;
  honest_is = c.erase.ensures.honest;
  calm_is = c.erase.ensures.calm;
  asked = asks_one g.N.PageSource.view.called c.args.self.now.nand c.erase.new.self _ c.erase.ensures.called;
  failed_is = c.erase.ensures.failed;
  rose = λ e. c.in-Err.ensures.rose;
  went = λ honest ne. absurd (ne refl);
}
