use Rattle.command_queue.proofs.AskedLemmas.{told_asked, asked_join, asked_run, asked_forward}
use Rattle.command_queue.proofs.laws.asked_laws.Goals as goal

pub returns-clause-told : goal.returns-clause-told
returns-clause-told g c = told_asked g.N.PageSource.view

pub returns-clause-join : goal.returns-clause-join
returns-clause-join g c = asked_join g.N.PageSource.view

pub returns-clause-run : goal.returns-clause-run
returns-clause-run g c = asked_run g.N.PageSource.view

pub returns-clause-forward : goal.returns-clause-forward
returns-clause-forward g c = asked_forward g.N.PageSource.view
