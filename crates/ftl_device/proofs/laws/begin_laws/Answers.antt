use Rattle.ftl_device.proofs.BlockLemmas.{free_counted, good_counted, begun_accounts}
use Rattle.ftl_device.proofs.BeginLemmas.{true_from_agreement}
use Rattle.ftl_device.proofs.laws.begin_laws.Goals as goal

pub returns-clause-truth : goal.returns-clause-truth
returns-clause-truth c = λ g share capacity image claim whole agrees. true_from_agreement g share capacity image claim whole agrees

pub returns-clause-free : goal.returns-clause-free
returns-clause-free c = λ g capacity image claim whole agrees. free_counted g capacity image claim agrees

pub returns-clause-good : goal.returns-clause-good
returns-clause-good c = λ g claim fits. good_counted claim.blocks fits.blocks

pub returns-clause-accounts : goal.returns-clause-accounts
returns-clause-accounts c = λ g capacity image claim whole agrees. begun_accounts g capacity image claim agrees
