use Rattle.file_die.proofs.RowLemmas.{plain_reading}
use Rattle.file_die.proofs.file_store.DieFileStore.geometry.Goals as goal

pub returns-clause-whole : goal.returns-clause-whole
returns-clause-whole g c e =
    let now = c.args.self.now in
    c.geometry.ensures.images _ (plain_reading now.rows.geometry now.rows.size now.sized) e
