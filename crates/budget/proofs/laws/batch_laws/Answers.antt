use Rattle.budget.proofs.CopyLemmas.{account_begins, copy_account, write_back_account, write_backs, batch_fits, some_over}
use Rattle.budget.proofs.laws.batch_laws.Goals as goal

pub returns : goal.returns
returns c = record {
  begins = account_begins;
  copied = copy_account;
  written_back = write_back_account;
  few = write_backs;
  fit = batch_fits;
  some_over = some_over;
}
