use Rattle.std.proofs.Common.{refl}
use Rattle.crash_recovery.proofs.dead.erase_dead.Goals as goal

pub erase_found-requires-clause-claim : goal.erase_found-requires-clause-claim
erase_found-requires-clause-claim g c = record { sizes = c.requires.sizes; whole = c.requires.whole }

pub returns-in_err-erased-clause-takes : goal.returns-in_err-erased-clause-takes
returns-in_err-erased-clause-takes g c h = (c.in_err-erased.ensures.away h).takes

pub returns-in_err-erased-clause-rose : goal.returns-in_err-erased-clause-rose
returns-in_err-erased-clause-rose g c e = c.in_err-erased.ensures.keeps.rose refl

pub returns-clause-takes : goal.returns-clause-takes
returns-clause-takes g c h = (c.in_ok-erased.ensures.away h).takes

pub returns-clause-erased : goal.returns-clause-erased
returns-clause-erased g c h = (c.in_ok-erased.ensures.away h).taken

pub returns-clause-untouched : goal.returns-clause-untouched
returns-clause-untouched g c h = (c.in_ok-erased.ensures.away h).untouched

pub returns-clause-none : goal.returns-clause-none
returns-clause-none g c h = (c.in_ok-erased.ensures.away h).none_is

pub returns-clause-settled : goal.returns-clause-settled
returns-clause-settled g c = c.in_ok-erased.ensures.keeps.settled refl
