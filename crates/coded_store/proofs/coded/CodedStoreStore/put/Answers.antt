use Rattle.std.proofs.Common.{◌≡◌, ◌∙◌, ap, sym, subst}
use Rattle.std.proofs.Math.Facts.{Fits-lt-pow}
use Rattle.std.proofs.lemmas.List.{with_items_is}
use Rattle.page_layout.specs.declared.geometry.Geometry.{Geometry}
use Rattle.onfi_cycles.specs.Cycles.{page_of}
use Rattle.page_code.specs.Layout.{coded}
use Rattle.coded_store.specs.Reading.{page_as_read}
use Rattle.coded_store.proofs.StoreLemmas.{coded_reading, puts_shown, takes_with_codes, takes_fewer_with_codes}
use Rattle.coded_store.proofs.ShowLemmas.{spelled_reads}
use Rattle.coded_store.proofs.coded.CodedStoreStore.put.Goals as goal

pub returns-clause-puts : goal.returns-clause-puts
returns-clause-puts g c e =
    let i = c.self.inside in
    let old = i.rows in
    let stood = c.deref.ensures.value ∙ with_items_is i.stands c.spell.new.stands (c.spell.auto.stands ∙ c.deref_mut.ensures.len) in
    let reads = ap (page_as_read old.geometry) stood
    ∙ spelled_reads c.geometry.result old.geometry c.args.page.now c.spell.new.stands (sym c.geometry.ensures.geometry) (rw (← c.self.view_is) at c.requires.whole) (λ k. Fits-lt-pow (c.type_inv.page k)) c.spell.ensures in
    rw (← c.self.view_is) (puts_shown g.F.ByteFile.held old c.write.new.self c.args.row c.deref.result.now (page_of old.geometry c.args.page.now) _ c.write.ensures.counts.geometry reads
    (c.write.ensures.puts (page_as_read old.geometry) (coded_reading old.geometry old.size c.self.invariant.sized) (rw (← c.self.view_is) at e)))

pub returns-clause-taken : goal.returns-clause-taken
returns-clause-taken g c =
    let i = c.self.inside in
    let old = i.rows in
    let stood = c.deref.ensures.value ∙ with_items_is i.stands c.spell.new.stands (c.spell.auto.stands ∙ c.deref_mut.ensures.len) in
    let spelled = subst (λ (z : Geometry). page_of z c.spell.new.stands ≡ coded z (page_of z c.args.page.now)) c.geometry.ensures.geometry c.spell.ensures in
    rw (← c.self.view_is) (takes_with_codes g.F.ByteFile.wrote old.geometry c.args.row old.size (page_of old.geometry c.args.page.now) c.deref.result.now old c.write.new.self c.write.result c.self.invariant.sized (ap (page_of old.geometry) stood ∙ spelled)
    c.write.ensures.taken)

pub returns-clause-stopped : goal.returns-clause-stopped
returns-clause-stopped g c =
    let i = c.self.inside in
    let old = i.rows in
    let stood = c.deref.ensures.value ∙ with_items_is i.stands c.spell.new.stands (c.spell.auto.stands ∙ c.deref_mut.ensures.len) in
    let spelled = subst (λ (z : Geometry). page_of z c.spell.new.stands ≡ coded z (page_of z c.args.page.now)) c.geometry.ensures.geometry c.spell.ensures in
    rw (← c.self.view_is) (takes_fewer_with_codes g.F.ByteFile.wrote old.geometry c.args.row old.size (page_of old.geometry c.args.page.now) c.deref.result.now old c.write.new.self c.write.result c.self.invariant.sized (ap (page_of old.geometry) stood ∙ spelled)
    c.write.ensures.stopped)
