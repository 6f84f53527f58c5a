use Rattle.std.proofs.Common.{◌∙◌, ap, sym, subst, ◌<◌}
use Rattle.std.proofs.lemmas.Result.{err_from_is_err_and}
use Rattle.collection.specs.Safe.{ram}
use Rattle.collection.proofs.Acts.{looks_same, looks_then, looks_ok, looks_err}
use Rattle.collection.proofs.Finds.{none_yet}
use Rattle.collection.proofs.Looks.{ok_not_bus}
use Rattle.collection.proofs.Rescues.{true_over, none_further}
use Rattle.collection.proofs.Exits.{none_not_some, no_more, reads_next, reads_all, reads_found, found_reads, within_found, found_in, first_live_by, none_to}
use Rattle.collection.specs.State.{Ram}
use Rattle.collection.proofs.engine.Engine.first_live.Goals as goal

pub candidates-init : goal.candidates-init
candidates-init g c = record {
  looks = looks_same c.args.self.now c.requires.safe;
  reads = no_more _ _;
  truth = λ honest w. none_yet c.args.self.now.geometry.pages c.args.block (g.N.PageSource.view.flash c.args.self.now.nand).image c.args.first;
}

pub candidates-preserved : goal.candidates-preserved
candidates-preserved g c =
    let i = c.candidates.invariant in
    let old = ram c.args.self.now in
    let now = ram c.candidates.self in
    record {
      looks = looks_then _ _ _ tt _ i.looks (looks_ok _ _ _ _ c.in_ok-live.ensures.looks);
      reads = reads_next _ _ _ _ _ _ _ c.candidates.auto.page c.pages-page-end.ensures c.candidates-test.true i.reads c.live_record.ensures.reads;
      truth = λ honest w.
          let still = ap (λ f. f.image) (i.looks.same honest (ok_not_bus _)) in
          let looked = c.in_ok-live.ensures.truth (i.looks.only_reads.honest_is ∙ honest) (true_over old now _ _ w i.looks.memory still) in
          none_further old now _ _ c.args.block c.args.first c.candidates.page c.row-row.result _ _ i.looks.memory still c.row-row.ensures.is (i.truth honest w) looked c.in-None.is;
    }

pub returns-in_err-live : goal.returns-in_err-live
returns-in_err-live g c =
    let p = err_from_is_err_and c.from_residual.result c.from_residual.ensures.1 in
    rw (p.1, p.2) (record {
      looks = looks_then _ _ _ tt _ c.candidates.invariant.looks (looks_err _ _ _ c.in_err-live.ensures.looks);
      reads = reads_found _ _ _ _ c.candidates.auto.page c.pages-page-end.ensures c.candidates-test.true _ _ _ c.candidates.invariant.reads c.live_record.ensures.reads;
      found_reads = tt;
      within = tt;
      checked = tt;
      truth = λ honest w.
          let i = c.candidates.invariant in
          let still = ap (λ f. f.image) (i.looks.same honest (ok_not_bus _)) in
          c.in_err-live.ensures.truth (i.looks.only_reads.honest_is ∙ honest) (true_over (ram c.args.self.now) (ram c.candidates.self) _ _ w i.looks.memory still);
    })

pub returns-in-Some : goal.returns-in-Some
returns-in-Some g c = record {
  looks = looks_then _ _ _ tt _ c.candidates.invariant.looks (looks_ok _ _ _ _ c.in_ok-live.ensures.looks);
  reads = reads_found _ _ _ _ c.candidates.auto.page c.pages-page-end.ensures c.candidates-test.true _ _ _ c.candidates.invariant.reads c.live_record.ensures.reads;
  found_reads = found_reads _ _ _ _ c.candidates.auto.page c.pages-page-end.ensures c.candidates-test.true _ _ _ _ c.candidates.invariant.reads c.live_record.ensures.reads;
  within = within_found _ _ _ _ c.candidates.auto.page c.pages-page-end.ensures c.candidates-test.true _;
  checked = found_in (ram c.args.self.now) (ram c.candidates.self) _ _ c.args.block c.candidates.page c.row-row.result c.in-Some.found
      c.candidates.invariant.looks.memory c.row-row.ensures.is (c.in_ok-live.ensures.checked _ c.in-Some.is);
  truth = λ honest w.
      let i = c.candidates.invariant in
      let still = ap (λ f. f.image) (i.looks.same honest (ok_not_bus _)) in
      let looked = c.in_ok-live.ensures.truth (i.looks.only_reads.honest_is ∙ honest) (true_over (ram c.args.self.now) (ram c.candidates.self) _ _ w i.looks.memory still) in
      first_live_by (ram c.args.self.now) (ram c.candidates.self) _ _ c.args.block c.args.first c.candidates.page c.row-row.result c.in-Some.found _ _ i.looks.memory still c.row-row.ensures.is (i.truth honest w) looked c.in-Some.is;
}

pub returns : goal.returns
returns g c = record {
  looks = looks_ok _ _ tt _ c.candidates.invariant.looks;
  reads = reads_all _ _ _ _ _ c.candidates.invariant.reads;
  found_reads = λ _ is. absurd (none_not_some _ is);
  within = λ _ is. absurd (none_not_some _ is);
  checked = λ _ is. absurd (none_not_some _ is);
  truth = λ honest w. none_to _ _ _ _ _ _ c.pages-page-end.ensures c.candidates-test.false (c.candidates.invariant.truth honest w);
}

pub live_record-requires-clause-safe : goal.live_record-requires-clause-safe
live_record-requires-clause-safe g c = c.candidates.invariant.looks.safe

pub live_record-requires-clause-row : goal.live_record-requires-clause-row
live_record-requires-clause-row g c = c.row-row.ensures.within

pub row-row-requires-clause-block_in : goal.row-row-requires-clause-block_in
row-row-requires-clause-block_in g c = subst (λ (z : Ram). c.args.block < z.geometry.blocks) (sym c.candidates.invariant.looks.memory) c.requires.block

pub row-row-requires-clause-page_in : goal.row-row-requires-clause-page_in
row-row-requires-clause-page_in g c = subst (λ (z : Ram). c.candidates.page < z.geometry.pages) (sym c.candidates.invariant.looks.memory) (subst (λ k. c.candidates.page < k) c.pages-page-end.ensures c.candidates-test.true)
