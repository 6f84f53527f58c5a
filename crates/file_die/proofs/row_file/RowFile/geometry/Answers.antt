use Rattle.file_die.proofs.RowLemmas.{images_of, rows_of}
use Rattle.file_die.proofs.row_file.RowFile.geometry.Goals as goal

pub returns-clause-images : goal.returns-clause-images
returns-clause-images g c reads r e =
    let i = c.self.inside in
    let held = g.F.ByteFile.held in
    rw (← c.self.view_is) (images_of reads i.geometry i.size (held i.file) (rw (← c.self.view_is) at r)
    (rows_of held g.F.ByteFile.honest g.F.ByteFile.tells reads _ i.erased.items c.self.invariant (rw (← c.self.view_is) at e)))
