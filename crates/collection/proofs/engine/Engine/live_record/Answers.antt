use Rattle.std.proofs.Common.{◌∙◌, ap, Some, subst, sym, refl}
use Rattle.std.proofs.lemmas.Bool.{false≢true}
use Rattle.std.proofs.lemmas.Result.{err_from_is_err_and}
use Rattle.page_layout.specs.Live.{IsKeyOf}
use Rattle.collection.specs.Safe.{ram, page_in_buffer}
use Rattle.collection.specs.Pages.{newest_row}
use Rattle.collection.proofs.Acts.{looks_then, looks_ok, looks_err}
use Rattle.collection.proofs.Looks.{none_from, ok_not_bus}
use Rattle.collection.proofs.Finds.{err_not_unfound, gone_none, gone_other, not_same, some_not_unfound, still_newest, unlive_key, unlive_other, unlive_unsound}
use Rattle.collection.proofs.Rescues.{true_over}
use Rattle.collection.proofs.Exits.{none_not_some, reads_one, reads_two, live_here, found_here}
use Rattle.collection.proofs.engine.Engine.live_record.Goals as goal

pub returns-in_default : goal.returns-in_default
returns-in_default g c = record {
  looks = looks_ok _ _ _ _ c.in_ok-taken.ensures.looks;
  reads = reads_one _ _ c.take_page.ensures.reads;
  checked = λ _ is. absurd (none_not_some _ is);
  unfound = λ _. unlive_unsound (ram c.args.self.now) _ _ c.args.row c.in_ok-taken.taken c.in_ok-taken.ensures.sound (none_from c.in_ok-taken.taken c.in_default.not-Some);
  stands = c.in_ok-taken.ensures.stands;
  truth = λ honest w. gone_none _ c.args.row ((c.in_ok-taken.ensures.truth honest).mark ∙ none_from c.in_ok-taken.taken c.in_default.not-Some);
}

pub returns-else-eq : goal.returns-else-eq
returns-else-eq g c = record {
  looks = looks_then _ _ _ _ _ c.in_ok-taken.ensures.looks (looks_ok _ _ _ _ c.in_ok-newest.ensures.looks);
  reads = reads_two _ _ _ c.take_page.ensures.reads c.find_newest.ensures.reads;
  checked = λ _ is. absurd (none_not_some _ is);
  unfound = λ _. unlive_other (ram c.args.self.now) _ _ c.args.row c.in_ok-taken.taken c.in-Some.found c.key-key.result c.in-Some.is c.key-key.ensures (ram c.take_page.new.self) _ c.in_ok-newest.newest
      c.in_ok-taken.ensures.sound (ap (λ b. page_in_buffer b) c.find_newest.ensures.page) c.take_page.ensures.looks.memory c.in_ok-newest.ensures.points (not_same c.in_ok-newest.newest c.args.row c.eq.result c.eq.ensures c.if-eq.false);
  stands = λ honest. c.in_ok-taken.ensures.stands honest ∙ ap (λ b. Some (page_in_buffer b)) (sym c.find_newest.ensures.page);
  truth = λ honest w.
      let taken = c.in_ok-taken.ensures.truth honest in
      let still = ap (λ f. f.image) (c.in_ok-taken.ensures.looks.same honest (ok_not_bus _)) in
      let found = still_newest (ram c.args.self.now) (ram c.take_page.new.self) _ _ c.key-key.result c.in_ok-newest.newest w c.take_page.ensures.looks.memory still (c.in_ok-newest.ensures.truth (c.take_page.ensures.looks.only_reads.honest_is ∙ honest)) in
      gone_other _ c.args.row c.in-Some.found (taken.mark ∙ c.in-Some.is) (λ e. not_same c.in_ok-newest.newest c.args.row c.eq.result c.eq.ensures c.if-eq.false (found ∙ (ap (newest_row (g.N.PageSource.view.flash c.args.self.now.nand).image) c.key-key.ensures ∙ e)));
}

-- ---- the page was taken, and then the key's row found

pub returns-in_err-newest : goal.returns-in_err-newest
returns-in_err-newest g c =
    let p = err_from_is_err_and c.from_residual-in_err-newest.result c.from_residual-in_err-newest.ensures.1 in
    rw (p.1, p.2) (record {
      looks = looks_then _ _ _ _ _ c.in_ok-taken.ensures.looks (looks_err _ _ _ c.in_err-newest.ensures.looks);
      reads = reads_two _ _ _ c.take_page.ensures.reads c.find_newest.ensures.reads;
      checked = tt;
      unfound = λ is. absurd (err_not_unfound _ _ _ refl is);
      stands = λ _. tt;
      truth = λ honest w.
          let still = ap (λ f. f.image) (c.in_ok-taken.ensures.looks.same honest (ok_not_bus _)) in
          c.in_err-newest.ensures.truth (c.take_page.ensures.looks.only_reads.honest_is ∙ honest) (true_over (ram c.args.self.now) (ram c.take_page.new.self) _ _ w c.take_page.ensures.looks.memory still);
    })

pub returns-then-eq : goal.returns-then-eq
returns-then-eq g c = record {
  looks = looks_then _ _ _ _ _ c.in_ok-taken.ensures.looks (looks_ok _ _ _ _ c.in_ok-newest.ensures.looks);
  reads = reads_two _ _ _ c.take_page.ensures.reads c.find_newest.ensures.reads;
  checked = found_here c.args.row c.in-Some.found c.in_ok-taken.taken c.key-key.result c.in_ok-newest.newest c.eq.result c.in-Some.is c.key-key.ensures c.eq.ensures c.if-eq.true
      (ram c.args.self.now) (ram c.take_page.new.self) _ _ _ c.take_page.ensures.looks.memory c.in_ok-taken.ensures.sound (ap (λ b. page_in_buffer b) c.find_newest.ensures.page)
      (c.if-not-has_key.ensures.0 refl) c.in_ok-newest.ensures.points;
  unfound = λ is. absurd (some_not_unfound _ _ refl is);
  stands = λ honest. c.in_ok-taken.ensures.stands honest ∙ ap (λ b. Some (page_in_buffer b)) (sym c.find_newest.ensures.page);
  truth = λ honest w.
      let still = ap (λ f. f.image) (c.in_ok-taken.ensures.looks.same honest (ok_not_bus _)) in
      let found = still_newest (ram c.args.self.now) (ram c.take_page.new.self) _ _ c.key-key.result c.in_ok-newest.newest w c.take_page.ensures.looks.memory still (c.in_ok-newest.ensures.truth (c.take_page.ensures.looks.only_reads.honest_is ∙ honest)) in
      live_here c.args.row c.in-Some.found c.in_ok-taken.taken c.key-key.result c.in_ok-newest.newest c.eq.result c.in-Some.is c.key-key.ensures c.eq.ensures c.if-eq.true
      _ _ _ (c.in_ok-taken.ensures.truth honest) (ap (λ b. b.body.items) c.find_newest.ensures.page) found;
}

pub returns-in_err-taken : goal.returns-in_err-taken
returns-in_err-taken g c =
    let p = err_from_is_err_and c.from_residual.result c.from_residual.ensures.1 in
    rw (p.1, p.2) (record {
      looks = c.in_err-taken.ensures.looks;
      reads = reads_one _ _ c.take_page.ensures.reads;
      checked = tt;
      unfound = λ is. absurd (err_not_unfound _ _ _ refl is);
      stands = λ _. tt;
      truth = λ _ _. c.in_err-taken.ensures.faults;
    })

pub returns-then-not-has_key-clause-unfound : goal.returns-then-not-has_key-clause-unfound
returns-then-not-has_key-clause-unfound g c = λ _. unlive_key (ram c.args.self.now) _ _ c.args.row c.in_ok-taken.taken c.in-Some.found c.key-key.result c.in-Some.is c.key-key.ensures c.in_ok-taken.ensures.sound
    (λ within. false≢true (c.if-not-has_key.ensures.1 (subst (λ r. IsKeyOf r.geometry c.key-key.result) (sym c.take_page.ensures.looks.memory) within)))

pub returns-then-not-has_key-clause-stands : goal.returns-then-not-has_key-clause-stands
returns-then-not-has_key-clause-stands g c = c.in_ok-taken.ensures.stands

pub returns-then-not-has_key-clause-looks : goal.returns-then-not-has_key-clause-looks
returns-then-not-has_key-clause-looks g c = looks_ok _ _ _ _ c.in_ok-taken.ensures.looks

pub returns-then-not-has_key-clause-reads : goal.returns-then-not-has_key-clause-reads
returns-then-not-has_key-clause-reads g c = reads_one _ _ c.take_page.ensures.reads

pub returns-then-not-has_key-clause-checked : goal.returns-then-not-has_key-clause-checked
returns-then-not-has_key-clause-checked g c = λ _ is. absurd (none_not_some _ is)

pub take_page-requires-clause-safe : goal.take_page-requires-clause-safe
take_page-requires-clause-safe g c = c.requires.safe

pub take_page-requires-clause-row : goal.take_page-requires-clause-row
take_page-requires-clause-row g c = c.requires.row

pub find_newest-requires-clause-safe : goal.find_newest-requires-clause-safe
find_newest-requires-clause-safe g c = c.take_page.ensures.looks.safe

pub find_newest-requires-clause-key : goal.find_newest-requires-clause-key
find_newest-requires-clause-key g c = c.if-not-has_key.ensures.0 refl
