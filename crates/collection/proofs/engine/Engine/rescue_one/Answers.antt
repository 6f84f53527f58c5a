use Rattle.std.proofs.lemmas.Result.{err_from_is_err_and}
use Rattle.collection.specs.Safe.{ram}
use Rattle.collection.proofs.Gates.{goes_noted}
use Rattle.collection.proofs.Beside.{beside_noted_ok}
use Rattle.collection.proofs.Acts.{acts_noted, not_standing, stands_still, is_standing}
use Rattle.collection.proofs.Noted.{rescued_noted, rescue_cost_noted}
use Rattle.collection.proofs.engine.Engine.rescue_one.Goals as goal

pub returns-clause-stands : goal.returns-clause-stands
returns-clause-stands g c = rw (c.noted.ensures.same, c.noted.ensures.noted) (acts_noted _ _ _ (not_standing _ _ c.in_ok-standing.ensures) c.rescue-answer.ensures.moves.acts)

pub returns-clause-goes : goal.returns-clause-goes
returns-clause-goes g c = rw c.noted.ensures.noted (goes_noted _ _ (ram c.rescue-answer.new.self) c.rescue-answer.ensures.moves.goes)

pub returns-clause-cost : goal.returns-clause-cost
returns-clause-cost g c = λ none. rw (c.noted.ensures.same, c.noted.ensures.noted) (rescue_cost_noted _ (ram c.rescue-answer.new.self) c.rescue-answer.result c.rescue-answer.ensures.cost)

pub returns-clause-truth : goal.returns-clause-truth
returns-clause-truth g c = λ honest none w room. rw (c.noted.ensures.same, c.noted.ensures.noted) (rescued_noted _ _ (ram c.rescue-answer.new.self) _ _ c.rescue-answer.result (c.rescue-answer.ensures.truth honest w room))

pub returns-clause-beside : goal.returns-clause-beside
returns-clause-beside g c = rw (c.noted.ensures.same, c.noted.ensures.noted) (beside_noted_ok _ _ (ram c.rescue-answer.new.self) c.rescue-answer.result c.rescue-answer.ensures.moves.beside)

-- ---- what a stop leaves

pub returns-clause-stops : goal.returns-clause-stops
returns-clause-stops g c = λ honest none w. rw (c.noted.ensures.same, c.noted.ensures.noted) (λ ne. c.rescue-answer.ensures.stops honest w ne)

-- ---- a fault stands

pub returns-in_err-standing-clause-stands : goal.returns-in_err-standing-clause-stands
returns-in_err-standing-clause-stands g c =
    let p = err_from_is_err_and c.from_residual.result c.from_residual.ensures.1 in
    rw (p.1, p.2) (stands_still _ _ c.requires.safe (is_standing _ _ c.in_err-standing.ensures))

-- ---- what a fault of the die leaves

pub returns-clause-cut : goal.returns-clause-cut
returns-clause-cut g c = λ honest none w. rw (c.noted.ensures.same, c.noted.ensures.noted) (λ is. c.rescue-answer.ensures.cut honest w is)
