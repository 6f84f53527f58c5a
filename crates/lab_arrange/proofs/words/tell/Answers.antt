use Rattle.std.proofs.Common.{refl}
use Rattle.lab_arrange.proofs.words.tell.Goals as goal

pub returns-in_default-clause-bad : goal.returns-in_default-clause-bad
returns-in_default-clause-bad c = (refl, λ t says. absurd (c.in_default.not-Some t (c.told_by.ensures.all t says)))
