use Rattle.std.proofs.Common.{Err, Some, None, refl, ◌∙◌, ap}
use Rattle.std.proofs.lemmas.Result.{err_from_is_err_and}
use Rattle.page_layout.specs.Page.{page}
use Rattle.collection.proofs.Acts.{looks_same, looks_ok, looks_err}
use Rattle.collection.proofs.Looks.{fault_is, found_none, found_by, newest_at, none_from, has_place, ok_not_damaged, unlisted_row, unread_row}
use Rattle.collection.proofs.Exits.{none_not_some, no_more, reads_counted, gives_nothing, gives_checked, is_mapped, looks_scratch, looks_tested}
use Rattle.collection.proofs.engine.Engine.row_on_page.Goals as goal

pub row_of-found-requires : goal.row_of-found-requires
row_of-found-requires g c = has_place c.args.self.now.geometry c.args.sector c.entries-entries.result _ c.requires.sector c.entries-entries.ensures c.requires.safe.memory.directory

pub returns-in_default : goal.returns-in_default
returns-in_default g c = record {
  looks = looks_ok _ _ tt _ (looks_same c.args.self.now c.requires.safe);
  page = refl;
  reads = no_more _ _;
  row = λ _ is. absurd (none_not_some _ is);
  unmapped = λ _. (refl, refl);
  checked = gives_nothing c.args.self.now.geometry c.args.self.now.directory c.args.sector c.entries-entries.result _ c.entries-entries.ensures c.row_of-found.result c.row_of-found.ensures.value (none_from c.row_of-found.result c.in_default.not-Some);
  damaged = λ e. absurd (ok_not_damaged _ e);
  truth = λ honest w. found_none c.args.self.now.geometry _ c.args.self.now.directory c.args.self.now.mapping
      c.args.sector c.entries-entries.result w.maps c.requires.sector c.entries-entries.ensures c.requires.unknown
      (newest_at c.args.self.now.geometry _ c.args.self.now.directory c.args.self.now.mapping c.args.sector c.entries-entries.result
      c.row_of-found.result None w.maps c.requires.sector c.entries-entries.ensures c.row_of-found.ensures.value
      (none_from c.row_of-found.result c.in_default.not-Some));
}

pub returns-in_err-read_of : goal.returns-in_err-read_of
returns-in_err-read_of g c =
    let p = err_from_is_err_and c.from_residual.result c.from_residual.ensures.1 in
    rw (p.1, p.2) (record {
      looks = looks_err _ _ _ (looks_scratch c.args.self.now c.read_of.new.nand c.read_of.new.buffer _ c.requires.safe c.read_of.ensures.buffer c.read_of.ensures.only_reads c.read_of.ensures.asked
          c.in_err-read_of.ensures.faults c.in_err-read_of.ensures.rose c.in_err-read_of.ensures.same c.in_err-read_of.ensures.told c.in_err-read_of.ensures.cut);
      page = refl;
      reads = reads_counted _ _ c.read_of.ensures.reads;
      row = tt;
      unmapped = λ none. absurd (is_mapped c.args.self.now.geometry c.args.self.now.directory c.args.sector c.entries-entries.result c.in-Some.at c.row_of-found.result c.entries-entries.ensures c.row_of-found.ensures.value c.in-Some.is none);
      checked = tt;
      damaged = λ e. record {
        unknown = c.requires.unknown;
        listed = is_mapped c.args.self.now.geometry c.args.self.now.directory c.args.sector c.entries-entries.result c.in-Some.at c.row_of-found.result c.entries-entries.ensures c.row_of-found.ensures.value c.in-Some.is;
        gives = unread_row c.args.self.now.geometry c.args.sector c.entries-entries.result _ c.entries-entries.ensures (c.read_of.ensures.damaged (c.in_err-read_of.was ∙ ap Err (fault_is _ _ _ refl e)));
      };
      truth = λ honest w.
          c.in_err-read_of.ensures.undamaged honest
          (newest_at c.args.self.now.geometry _ c.args.self.now.directory c.args.self.now.mapping c.args.sector c.entries-entries.result
          c.row_of-found.result (Some c.in-Some.at) w.maps c.requires.sector c.entries-entries.ensures c.row_of-found.ensures.value c.in-Some.is);
    })

pub returns : goal.returns
returns g c = record {
  looks = looks_tested _ _ _ _ c.checked_entry.ensures.damaged (looks_scratch c.args.self.now c.read_of.new.nand c.read_of.new.buffer _ c.requires.safe c.read_of.ensures.buffer c.read_of.ensures.only_reads c.read_of.ensures.asked
      c.in_ok-read_of.ensures.faults c.in_ok-read_of.ensures.rose c.in_ok-read_of.ensures.same c.in_ok-read_of.ensures.told c.in_ok-read_of.ensures.cut);
  page = refl;
  reads = reads_counted _ _ c.read_of.ensures.reads;
  row = c.checked_entry.ensures.row;
  unmapped = λ none. absurd (is_mapped c.args.self.now.geometry c.args.self.now.directory c.args.sector c.entries-entries.result c.in-Some.at c.row_of-found.result c.entries-entries.ensures c.row_of-found.ensures.value c.in-Some.is none);
  checked = gives_checked c.args.self.now.geometry c.args.self.now.directory c.args.sector c.entries-entries.result _ c.entries-entries.ensures _ _ c.checked_entry.result c.in_ok-read_of.ensures.checked c.deref.ensures.value c.checked_entry.ensures.entry;
  damaged = λ e. record {
    unknown = c.requires.unknown;
    listed = is_mapped c.args.self.now.geometry c.args.self.now.directory c.args.sector c.entries-entries.result c.in-Some.at c.row_of-found.result c.entries-entries.ensures c.row_of-found.ensures.value c.in-Some.is;
    gives = unlisted_row c.args.self.now.geometry c.args.sector c.entries-entries.result _ _ c.checked_entry.result c.entries-entries.ensures c.deref.ensures.value c.checked_entry.ensures.undamaged e;
  };
  truth = λ honest w.
      let at = newest_at c.args.self.now.geometry _ c.args.self.now.directory c.args.self.now.mapping c.args.sector c.entries-entries.result c.row_of-found.result (Some c.in-Some.at) w.maps c.requires.sector c.entries-entries.ensures c.row_of-found.ensures.value c.in-Some.is in
      found_by c.args.self.now.geometry _ c.args.self.now.directory c.args.self.now.mapping c.args.sector c.entries-entries.result w.maps
      c.requires.sector c.entries-entries.ensures c.requires.unknown c.in-Some.at
      (page c.read_of.new.buffer.body.items c.read_of.new.buffer.spare.items) c.deref.result.now c.checked_entry.result w.whole.rows at
      (c.in_ok-read_of.ensures.page honest) c.deref.ensures.value c.checked_entry.ensures.entry c.checked_entry.ensures.undamaged;
}

pub read_of-requires-clause-row_in : goal.read_of-requires-clause-row_in
read_of-requires-clause-row_in g c = c.requires.safe.memory.directory_rows _ _ (c.row_of-found.ensures.value ∙ ap (λ o. Some o) c.in-Some.is)

pub read_of-requires-clause-same_geometry : goal.read_of-requires-clause-same_geometry
read_of-requires-clause-same_geometry g c = c.requires.safe.geometry

pub read_of-requires-clause-buffer : goal.read_of-requires-clause-buffer
read_of-requires-clause-buffer g c = c.requires.safe.scratch
