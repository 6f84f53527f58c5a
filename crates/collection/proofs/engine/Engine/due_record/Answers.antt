use Rattle.std.proofs.Common.{◌∙◌, Ok, ap, inl, inr, refl, sym, subst}
use Rattle.collection.specs.Safe.{page_in_buffer}
use Rattle.collection.specs.Live.{LooksAt}
use Rattle.collection.proofs.Renews.{due_page, no_due_page, none_at}
use Rattle.std.proofs.lemmas.Result.{err_from_is_err_and}
use Rattle.collection.proofs.Acts.{looks_ok}
use Rattle.collection.proofs.Looks.{none_from}
use Rattle.collection.proofs.Finds.{at_none, err_not_unfound, some_not_unfound}
use Rattle.collection.proofs.Exits.{none_not_some}
use Rattle.collection.proofs.engine.Engine.due_record.Goals as goal

pub returns-then-is_due : goal.returns-then-is_due
returns-then-is_due g c = record {
  looks = looks_ok _ _ _ _ c.in_ok-live.ensures.looks;
  checked = λ x is. c.in_ok-live.ensures.checked x (c.in-Some.is ∙ is);
  unfound = λ is. absurd (some_not_unfound _ _ refl is);
  truth = λ honest w.
      let image = (g.N.PageSource.view.flash c.args.self.now.nand).image in
      let page = c.live_record.new.self.page in
      let live = subst (LooksAt c.args.row page.body.items image) c.in-Some.is (c.in_ok-live.ensures.truth honest w) in
      due_page image c.args.row (page_in_buffer page) c.in-Some.found page.body.items (c.in_ok-live.ensures.stands honest) live (sym c.is_due.ensures ∙ c.if-is_due.true);
}

pub returns-else-is_due : goal.returns-else-is_due
returns-else-is_due g c = record {
  looks = looks_ok _ _ _ _ c.in_ok-live.ensures.looks;
  checked = λ _ is. absurd (none_not_some _ is);
  unfound = λ _. inr (c.in-Some.found, (c.in_ok-live.ensures.checked _ c.in-Some.is).sound.sound, sym c.is_due.ensures ∙ c.if-is_due.false);
  truth = λ honest w.
      let image = (g.N.PageSource.view.flash c.args.self.now.nand).image in
      let page = c.live_record.new.self.page in
      let live = subst (LooksAt c.args.row page.body.items image) c.in-Some.is (c.in_ok-live.ensures.truth honest w) in
      no_due_page image c.args.row (page_in_buffer page) c.in-Some.found page.body.items (c.in_ok-live.ensures.stands honest) live (sym c.is_due.ensures ∙ c.if-is_due.false);
}

pub returns-in_err-live : goal.returns-in_err-live
returns-in_err-live g c =
    let p = err_from_is_err_and c.from_residual.result c.from_residual.ensures.1 in
    rw (p.1, p.2) (record {
      looks = c.in_err-live.ensures.looks;
      checked = tt;
      unfound = λ is. absurd (err_not_unfound _ _ _ refl is);
      truth = c.in_err-live.ensures.truth;
    })

pub returns-in_default : goal.returns-in_default
returns-in_default g c = record {
  looks = looks_ok _ _ _ _ c.in_ok-live.ensures.looks;
  checked = λ _ is. absurd (none_not_some _ is);
  unfound = λ _. inl (c.in_ok-live.ensures.unfound (ap Ok (none_from c.in_ok-live.live c.in_default.not-Some)));
  truth = λ honest w. none_at _ c.args.row (at_none c.args.row _ _ c.in_ok-live.live (c.in_ok-live.ensures.truth honest w) (none_from c.in_ok-live.live c.in_default.not-Some));
}

pub live_record-requires-clause-safe : goal.live_record-requires-clause-safe
live_record-requires-clause-safe g c = c.requires.safe

pub live_record-requires-clause-row : goal.live_record-requires-clause-row
live_record-requires-clause-row g c = c.requires.row
