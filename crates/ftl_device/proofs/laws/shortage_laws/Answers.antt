use Rattle.ftl_device.proofs.ShortageLemmas.{leaves_five, tables_leave}
use Rattle.ftl_device.proofs.laws.shortage_laws.Goals as goal

pub returns-clause-five : goal.returns-clause-five
returns-clause-five c = leaves_five

pub returns-clause-tables : goal.returns-clause-tables
returns-clause-tables c = tables_leave
