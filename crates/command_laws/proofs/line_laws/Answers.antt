use Rattle.command_laws.proofs.CommandLemmas.{told, whole_line, unprinted, failed_store, in_order, unstored}
use Rattle.command_laws.proofs.line_laws.Goals as goal

pub returns-clause-told : goal.returns-clause-told
returns-clause-told c = told

pub returns-clause-whole : goal.returns-clause-whole
returns-clause-whole c = whole_line

pub returns-clause-unprinted : goal.returns-clause-unprinted
returns-clause-unprinted c = unprinted

pub returns-clause-failed : goal.returns-clause-failed
returns-clause-failed c = failed_store

pub returns-clause-order : goal.returns-clause-order
returns-clause-order c = in_order

pub returns-clause-stopped : goal.returns-clause-stopped
returns-clause-stopped c = unstored
