use Rattle.std.proofs.Common.{ℕ, ◌*◌, replicate, sym, subst}
use Rattle.std.specs.Prelude.{OnOk, OnErr}
use Rattle.std.specs.Result.{is_ok}
use Rattle.page_layout.specs.declared.geometry.Geometry.{Geometry}
use Rattle.file_die.specs.Bytes.{TakesBytes, TakesFewer}
use Rattle.file_die.specs.Store.{Clears}
use Rattle.file_die.specs.Rows.{held_in}
use Rattle.file_die.proofs.RowLemmas.{where_ok}
use Rattle.onfi_cycles.specs.Cycles.{page_of}
use Rattle.coded_store.specs.Reading.{page_as_read}
use Rattle.coded_store.proofs.StoreLemmas.{clears_with_codes, coded_reading}
use Rattle.coded_store.proofs.coded.CodedStoreStore.clear.Goals as goal

pub returns-clause-clears : goal.returns-clause-clears
returns-clause-clears g c e =
    let old = c.self.inside.rows in
    let held = g.F.ByteFile.held in
    rw (← c.self.view_is) (subst (λ (z : Geometry). Clears (held_in held (page_as_read old.geometry) old) c.args.block (is_ok c.erase.result) (held_in held (page_as_read z) c.erase.new.self)) (sym c.erase.ensures.counts.geometry)
    (c.erase.ensures.clears (page_as_read old.geometry) (coded_reading old.geometry old.size c.self.invariant.sized) (rw (← c.self.view_is) at e)))

pub returns-clause-stands : goal.returns-clause-stands
returns-clause-stands g c =
    let old = c.self.inside.rows in
    rw (← c.self.view_is) (where_ok c.erase.result (λ done h.
    clears_with_codes g.F.ByteFile.held old c.erase.new.self c.args.block c.self.invariant.sized c.erase.ensures.counts.geometry c.erase.ensures.counts.size (c.erase.ensures.cleared done h (page_of old.geometry))))

pub returns-clause-taken : goal.returns-clause-taken
returns-clause-taken g c =
    let old = c.self.inside.rows in
    let pages = old.geometry.pages in
    rw (← c.self.view_is) (subst (λ k. OnOk c.erase.result (let n : ℕ = pages * k in TakesBytes g.F.ByteFile.wrote old.file (c.args.block * pages * k) (replicate n 255) n c.erase.new.self.file)) c.self.invariant.sized c.erase.ensures.taken)

pub returns-clause-stopped : goal.returns-clause-stopped
returns-clause-stopped g c =
    let old = c.self.inside.rows in
    let pages = old.geometry.pages in
    rw (← c.self.view_is) (subst (λ k. OnErr c.erase.result (let n : ℕ = pages * k in TakesFewer g.F.ByteFile.wrote old.file (c.args.block * pages * k) (replicate n 255) c.erase.new.self.file)) c.self.invariant.sized c.erase.ensures.stopped)
