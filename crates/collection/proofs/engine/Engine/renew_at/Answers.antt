use Rattle.std.proofs.lemmas.Result.{err_from_is_err_and}
use Rattle.collection.specs.Safe.{ram}
use Rattle.collection.proofs.Gates.{goes_noted}
use Rattle.collection.proofs.Beside.{beside_noted_ok}
use Rattle.collection.proofs.Acts.{acts_noted, not_standing, stands_still, is_standing}
use Rattle.collection.proofs.Noted.{renewed_noted, rescue_cost_noted}
use Rattle.collection.proofs.engine.Engine.renew_at.Goals as goal

pub returns-clause-stands : goal.returns-clause-stands
returns-clause-stands g c = rw (c.noted.ensures.same, c.noted.ensures.noted) (acts_noted _ _ _ (not_standing _ _ c.in_ok-standing.ensures) c.renew-answer.ensures.moves.moves.acts)

pub returns-clause-goes : goal.returns-clause-goes
returns-clause-goes g c = rw c.noted.ensures.noted (goes_noted _ _ (ram c.renew-answer.new.self) c.renew-answer.ensures.moves.moves.goes)

pub returns-clause-cost : goal.returns-clause-cost
returns-clause-cost g c = λ none. rw (c.noted.ensures.same, c.noted.ensures.noted) (rescue_cost_noted _ (ram c.renew-answer.new.self) c.renew-answer.result c.renew-answer.ensures.moves.cost)

pub returns-clause-truth : goal.returns-clause-truth
returns-clause-truth g c = λ honest none w room. rw (c.noted.ensures.same, c.noted.ensures.noted) (renewed_noted _ c.args.row _ (ram c.renew-answer.new.self) _ _ c.renew-answer.result (c.renew-answer.ensures.moves.truth honest w room))

pub returns-clause-beside : goal.returns-clause-beside
returns-clause-beside g c = rw (c.noted.ensures.same, c.noted.ensures.noted) (beside_noted_ok _ _ (ram c.renew-answer.new.self) c.renew-answer.result c.renew-answer.ensures.moves.moves.beside)

-- ---- what a stop leaves

pub returns-clause-stops : goal.returns-clause-stops
returns-clause-stops g c = λ honest none w. rw (c.noted.ensures.same, c.noted.ensures.noted) (λ ne. c.renew-answer.ensures.moves.stops honest w ne)

pub returns-in_err-standing-clause-stands : goal.returns-in_err-standing-clause-stands
returns-in_err-standing-clause-stands g c =
    let p = err_from_is_err_and c.from_residual.result c.from_residual.ensures.1 in
    rw (p.1, p.2) (stands_still _ _ c.requires.safe (is_standing _ _ c.in_err-standing.ensures))

-- ---- what a fault of the die leaves

pub returns-clause-cut : goal.returns-clause-cut
returns-clause-cut g c = λ honest none w. rw (c.noted.ensures.same, c.noted.ensures.noted) (λ is. c.renew-answer.ensures.moves.cut honest w is)

-- ---- why it was not renewed

pub returns-clause-unfound : goal.returns-clause-unfound
returns-clause-unfound g c = rw (c.noted.ensures.same, c.noted.ensures.noted) (λ is. c.renew-answer.ensures.unfound is)
