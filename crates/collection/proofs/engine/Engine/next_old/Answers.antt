use Rattle.std.proofs.lemmas.Result.{err_from_is_err_and}
use Rattle.collection.proofs.Acts.{acts_noted, not_standing, stands_still, is_standing, looked}
use Rattle.collection.specs.Safe.{ram}
use Rattle.collection.proofs.Stops.{leaves_still, same_left}
use Rattle.collection.proofs.Cuts.{cut_read}
use Rattle.collection.proofs.engine.Engine.next_old.Goals as goal

pub returns-in_err-standing-clause-stands : goal.returns-in_err-standing-clause-stands
returns-in_err-standing-clause-stands g c =
    let p = err_from_is_err_and c.from_residual.result c.from_residual.ensures.1 in
    rw (p.1, p.2) (stands_still _ _ c.requires.safe (is_standing _ _ c.in_err-standing.ensures))

pub returns-clause-stands : goal.returns-clause-stands
returns-clause-stands g c = rw (c.noted.ensures.same, c.noted.ensures.noted) (acts_noted _ _ _ (not_standing _ _ c.in_ok-standing.ensures) (looked _ _ _ c.look_for_due-answer.ensures.looks))

-- ---- what a stop leaves

pub returns-clause-stops : goal.returns-clause-stops
returns-clause-stops g c = λ honest none w. rw (c.noted.ensures.same, c.noted.ensures.noted) (λ ne.
    let looks = c.look_for_due-answer.ensures.looks in
    leaves_still _ _ _ _ _ (looks.same honest ne) (looks.told honest ne) (same_left (ram c.args.self.now) _ _ c.requires.safe.memory w))

-- ---- what a fault of the die leaves

pub returns-clause-cut : goal.returns-clause-cut
returns-clause-cut g c = λ honest none w. rw (c.noted.ensures.same, c.noted.ensures.noted) (λ is.
    cut_read (ram c.args.self.now) _ _ _ c.requires.safe.memory w (c.look_for_due-answer.ensures.looks.cut honest is))
