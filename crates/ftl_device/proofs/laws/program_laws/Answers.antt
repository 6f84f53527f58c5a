use Rattle.ftl_device.proofs.FlushStepLemmas.{one_kind, write_or_trim, clean_flush, failed_flush, lacking_page}
use Rattle.ftl_device.proofs.laws.program_laws.Goals as goal

pub returns-clause-kind : goal.returns-clause-kind
returns-clause-kind g c = one_kind

pub returns-clause-apart : goal.returns-clause-apart
returns-clause-apart g c = write_or_trim

pub returns-clause-clean : goal.returns-clause-clean
returns-clause-clean g c = clean_flush g.N.PageSource.view

pub returns-clause-again : goal.returns-clause-again
returns-clause-again g c = failed_flush g.N.PageSource.view

pub returns-clause-lacking : goal.returns-clause-lacking
returns-clause-lacking g c = lacking_page g.N.PageSource.view
