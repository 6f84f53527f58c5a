use Rattle.coded_store.specs.Reading.{page_as_read}
use Rattle.coded_store.proofs.StoreLemmas.{coded_reading}
use Rattle.coded_store.proofs.coded.CodedStoreStore.geometry.Goals as goal

pub returns-clause-whole : goal.returns-clause-whole
returns-clause-whole g c e =
    let rows = c.self.inside.rows in
    rw (← c.self.view_is) (c.geometry.ensures.images (page_as_read rows.geometry) (coded_reading rows.geometry rows.size c.self.invariant.sized) (rw (← c.self.view_is) at e))
