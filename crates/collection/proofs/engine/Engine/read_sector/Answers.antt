use Rattle.std.proofs.Common.{slice_get, Some, refl, ap, sym, subst, ◌∙◌, ◌<◌, ◌≡◌, None, Ok, Err, inl, inr}
use Rattle.std.proofs.lemmas.Result.{err_from_is_err_and}
use Rattle.page_layout.specs.Page.{page}
use Rattle.collection.specs.Safe.{ram, page_in_buffer}
use Rattle.collection.specs.Looks.{FindsRow}
use Rattle.collection.proofs.Acts.{looks_read, looks_then, looks_ok, looks_err}
use Rattle.collection.proofs.Looks.{fault_is, none_from, ok_not_bus, ok_not_damaged, read_none, read_some, gives_none, gives_some, finds_row}
use Rattle.page_layout.specs.Geometry.{row_count}
use Rattle.page_layout.specs.declared.record.Key.TheVariants.{Sector}
use Rattle.collection.specs.Pages.{newest_row}
use Rattle.collection.proofs.Afters.{reads_two, reads_more, hit_reads, found_apart, err_not_ok, for_some, for_none}
use Rattle.mapping_cache.specs.Mapping.{known}
use Rattle.collection.proofs.engine.Engine.read_sector.Goals as goal

pub returns-in_default : goal.returns-in_default
returns-in_default g c = record {
  looks = looks_ok _ _ _ _ c.in_ok-found.ensures.looks;
  reads = reads_more _ _ c.row_of_sector.ensures.reads;
  row = for_none (λ r. r < row_count c.args.self.now.geometry);
  hit = λ _. c.row_of_sector.ensures.reads;
  unwritten = λ is. (refl, (c.in_ok-found.ensures.hit None is).1);
  unmapped = λ unknown is. (refl, (c.in_ok-found.ensures.unmapped unknown is).1);
  looked_up =
      let none = none_from c.in_ok-found.found c.in_default.not-Some in
      rw (← none) (finds_row (ram c.args.self.now) c.args.sector (page_in_buffer c.row_of_sector.new.self.scratch) c.in_ok-found.found c.in_ok-found.ensures.hit c.in_ok-found.ensures.checked);
  refused = tt;
  damaged = λ e. absurd (ok_not_damaged _ e);
  checked = gives_none c.args.self.now.geometry c.args.sector _ (page_in_buffer c.row_of_sector.new.self.page) _ c.clear.ensures c.requires.whole;
  truth = λ honest w. read_none c.args.self.now.geometry _ c.args.sector c.in_ok-found.found _ _ (c.in_ok-found.ensures.truth honest w) (none_from c.in_ok-found.found c.in_default.not-Some) c.clear.ensures c.requires.whole;
}

pub returns : goal.returns
returns g c = record {
  looks = looks_then _ _ _ _ _ c.in_ok-found.ensures.looks (looks_ok _ _ _ _
      (looks_read c.row_of_sector.new.self c.read_of.new.nand c.read_of.new.buffer _ c.row_of_sector.ensures.looks.safe c.read_of.ensures.buffer
      c.read_of.ensures.only_reads c.read_of.ensures.asked c.in_ok-written.ensures.faults c.in_ok-written.ensures.rose c.in_ok-written.ensures.same c.in_ok-written.ensures.told c.in_ok-written.ensures.cut));
  reads = reads_two _ _ _ c.row_of_sector.ensures.reads c.read_of.ensures.reads;
  row = for_some (λ r. r < row_count c.args.self.now.geometry) c.in-Some.row (c.in_ok-found.ensures.row _ c.in-Some.is);
  hit = λ some. hit_reads (λ s. g.N.PageSource.view.reads s.nand) c.args.self.now c.row_of_sector.new.self (known c.args.self.now.mapping c.args.sector) (λ row. c.row_of_sector.result ≡ Ok row) _
      c.row_of_sector.ensures.hit some c.read_of.ensures.reads;
  unwritten = λ is. found_apart c.in_ok-found.found c.in-Some.row (c.in_ok-found.ensures.hit None is).0 c.in-Some.is;
  unmapped = λ unknown is. found_apart c.in_ok-found.found c.in-Some.row (c.in_ok-found.ensures.unmapped unknown is).0 c.in-Some.is;
  looked_up =
      let found = finds_row (ram c.args.self.now) c.args.sector (page_in_buffer c.row_of_sector.new.self.scratch) c.in_ok-found.found c.in_ok-found.ensures.hit c.in_ok-found.ensures.checked in
      subst (FindsRow (ram c.args.self.now) c.args.sector (page_in_buffer c.row_of_sector.new.self.scratch)) c.in-Some.is found;
  refused = tt;
  damaged = λ e. absurd (ok_not_damaged _ e);
  checked = gives_some c.args.self.now.geometry c.args.sector c.in-Some.row (Some c.in-Some.row) (page_in_buffer c.read_of.new.buffer)
      c.in_ok-written.written _ c.deref.result.now _ refl c.in_ok-written.ensures.checked c.deref.ensures.value c.copy_sector.ensures.sector
      c.copy_sector.ensures.others c.requires.whole;
  truth = λ honest w.
      let read = ap (λ f. slice_get f.image c.in-Some.row) (sym (c.in_ok-found.ensures.looks.same honest (ok_not_bus c.in_ok-found.found))) ∙ c.in_ok-written.ensures.page (c.row_of_sector.ensures.looks.only_reads.honest_is ∙ honest) in
      read_some c.args.self.now.geometry _ c.args.sector c.in-Some.row c.in_ok-found.found
      (page c.read_of.new.buffer.body.items c.read_of.new.buffer.spare.items) c.in_ok-written.written _ c.deref.result.now _
      (c.in_ok-found.ensures.truth honest w) c.in-Some.is read c.in_ok-written.ensures.checked c.deref.ensures.value c.copy_sector.ensures.sector
      c.copy_sector.ensures.others c.requires.whole;
}

-- ---- the row was found, and then its page read

pub returns-in_err-written : goal.returns-in_err-written
returns-in_err-written g c =
    let p = err_from_is_err_and c.from_residual-in_err-written.result c.from_residual-in_err-written.ensures.1 in
    rw (p.1, p.2) (record {
      looks = looks_then _ _ _ _ _ c.in_ok-found.ensures.looks (looks_err _ _ _
          (looks_read c.row_of_sector.new.self c.read_of.new.nand c.read_of.new.buffer _ c.row_of_sector.ensures.looks.safe c.read_of.ensures.buffer
          c.read_of.ensures.only_reads c.read_of.ensures.asked c.in_err-written.ensures.faults c.in_err-written.ensures.rose c.in_err-written.ensures.same c.in_err-written.ensures.told c.in_err-written.ensures.cut));
      reads = reads_two _ _ _ c.row_of_sector.ensures.reads c.read_of.ensures.reads;
      row = tt;
      hit = λ some. hit_reads (λ s. g.N.PageSource.view.reads s.nand) c.args.self.now c.row_of_sector.new.self (known c.args.self.now.mapping c.args.sector) (λ row. c.row_of_sector.result ≡ Ok row) _
          c.row_of_sector.ensures.hit some c.read_of.ensures.reads;
      unwritten = λ is. found_apart c.in_ok-found.found c.in-Some.row (c.in_ok-found.ensures.hit None is).0 c.in-Some.is;
      unmapped = λ unknown is. found_apart c.in_ok-found.found c.in-Some.row (c.in_ok-found.ensures.unmapped unknown is).0 c.in-Some.is;
      looked_up = tt;
      refused = refl;
      damaged = λ e.
          let found = finds_row (ram c.args.self.now) c.args.sector (page_in_buffer c.row_of_sector.new.self.scratch) c.in_ok-found.found c.in_ok-found.ensures.hit c.in_ok-found.ensures.checked in
          inr (c.in-Some.row, subst (FindsRow (ram c.args.self.now) c.args.sector (page_in_buffer c.row_of_sector.new.self.scratch)) c.in-Some.is found, c.read_of.ensures.damaged (c.in_err-written.was ∙ ap Err (fault_is _ _ _ refl e)));
      checked = tt;
      truth = λ honest w. c.in_err-written.ensures.undamaged (c.row_of_sector.ensures.looks.only_reads.honest_is ∙ honest)
          (ap (λ f. newest_row f.image (Sector c.args.sector)) (c.in_ok-found.ensures.looks.same honest (ok_not_bus c.in_ok-found.found))
          ∙ (sym (c.in_ok-found.ensures.truth honest w) ∙ c.in-Some.is));
    })

pub returns-in_err-found : goal.returns-in_err-found
returns-in_err-found g c =
    let p = err_from_is_err_and c.from_residual.result c.from_residual.ensures.1 in
    rw (p.1, p.2) (record {
      looks = c.in_err-found.ensures.looks;
      reads = reads_more _ _ c.row_of_sector.ensures.reads;
      row = tt;
      hit = λ _. c.row_of_sector.ensures.reads;
      unwritten = λ is. err_not_ok _ _ (c.in_err-found.ensures.hit None is).0;
      unmapped = c.in_err-found.ensures.unmapped;
      looked_up = tt;
      refused = refl;
      damaged = λ e. inl (c.in_err-found.ensures.damaged e);
      checked = tt;
      truth = c.in_err-found.ensures.truth;
    })

pub row_of_sector-requires-clause-safe : goal.row_of_sector-requires-clause-safe
row_of_sector-requires-clause-safe g c = c.requires.safe

pub row_of_sector-requires-clause-sector : goal.row_of_sector-requires-clause-sector
row_of_sector-requires-clause-sector g c = c.requires.sector

pub read_of-requires-clause-row_in : goal.read_of-requires-clause-row_in
read_of-requires-clause-row_in g c = subst (λ r. c.in-Some.row < row_count r.geometry) (sym c.row_of_sector.ensures.looks.memory) (c.in_ok-found.ensures.row _ c.in-Some.is)

pub read_of-requires-clause-same_geometry : goal.read_of-requires-clause-same_geometry
read_of-requires-clause-same_geometry g c = c.row_of_sector.ensures.looks.safe.geometry

pub read_of-requires-clause-buffer : goal.read_of-requires-clause-buffer
read_of-requires-clause-buffer g c = c.row_of_sector.ensures.looks.safe.page
