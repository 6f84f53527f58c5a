use Rattle.image_check.proofs.PartLemmas.{numbers_hold, numbers_wrong}
use Rattle.image_check.proofs.parts.check_numbers.Goals as goal

pub returns-in-None-clause-ok : goal.returns-in-None-clause-ok
returns-in-None-clause-ok c = λ image h. numbers_hold c.args.survey.now.geometry image c.args.survey.now.outside h.whole h.survey.outside c.in-None.is

pub returns-in-Some-clause-err : goal.returns-in-Some-clause-err
returns-in-Some-clause-err c = λ capacity image claim h. numbers_wrong c.args.survey.now.geometry capacity image claim c.args.survey.now.outside c.in-Some.row h.survey.outside c.in-Some.is
