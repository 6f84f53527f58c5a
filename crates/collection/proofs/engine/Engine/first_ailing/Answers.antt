use Rattle.std.proofs.Common.{◌∙◌, ◌+◌, ◌*◌, ap, sym, subst, ◌<◌}
use Rattle.std.proofs.lemmas.Result.{err_from_is_err_and}
use Rattle.collection.specs.Safe.{ram}
use Rattle.collection.proofs.Rescues.{found_at, true_over, looked_through, ailing_more, first_by, row_found}
use Rattle.bad_blocks.specs.Table.{is_good_at}
use Rattle.collection.specs.Collect.{IsFirstAiling}
use Rattle.allocation.specs.State.{live_at}
use Rattle.collection.proofs.Acts.{looks_same, looks_then, looks_ok, looks_err}
use Rattle.collection.proofs.Looks.{ok_not_bus}
use Rattle.collection.proofs.Exits.{none_not_some, none_below, none_ailing}
use Rattle.collection.specs.State.{Ram}
use Rattle.collection.proofs.engine.Engine.first_ailing.Goals as goal

pub returns-in-Some : goal.returns-in-Some
returns-in-Some g c =
    let i = c.numbers.invariant in
    record {
      looks = looks_then _ _ _ tt _ c.numbers.invariant.looks (looks_ok _ _ _ _ c.in_ok-live.ensures.looks);
      row = λ x e.
          let pages = ap (λ r. r.geometry.pages) i.looks.memory in
          row_found (ram c.args.self.now) (ram c.numbers.self) c.numbers.block c.in-Some.page c.row.result c.in-Some.found x i.looks.memory
          (subst (λ k. c.numbers.block < k) c.blocks-block-end.ensures c.numbers-test.true)
          (subst (λ k. c.in-Some.page < k) pages (c.in_ok-live.ensures.within _ c.in-Some.is).1)
          (c.row.ensures.is ∙ ap (λ r. c.numbers.block * r.geometry.pages + c.in-Some.page) c.first_live.ensures.looks.memory) e;
      checked = found_at (ram c.args.self.now) (ram c.numbers.self) _ _ c.row.result _ c.in-Some.found
          c.numbers.invariant.looks.memory
          (c.row.ensures.is ∙ ap (λ r. c.numbers.block * r.geometry.pages + c.in-Some.page) c.first_live.ensures.looks.memory)
          (c.in_ok-live.ensures.checked _ c.in-Some.is);
      truth = λ honest w.
          let old = ram c.args.self.now in
          let now = ram c.numbers.self in
          let still = ap (λ f. f.image) (i.looks.same honest (ok_not_bus _)) in
          let w_now = true_over old now _ _ w i.looks.memory still in
          let first = first_by now _ c.numbers.block c.in-Some.page c.row.result c.in-Some.found _ c.in_ok-live.live i.looks.safe.memory w_now
          (c.row.ensures.is ∙ ap (λ r. c.numbers.block * r.geometry.pages + c.in-Some.page) c.first_live.ensures.looks.memory)
          (c.in_ok-live.ensures.within _ c.in-Some.is).1 c.if-not-is_ailing.ensures.some
          (λ b lt bad. ap (λ r. live_at r.blocks b) i.looks.memory ∙ i.truth honest w b lt
          (sym (ap (λ r. is_good_at r.blocks.table b) i.looks.memory) ∙ bad))
          (c.in_ok-live.ensures.truth (i.looks.only_reads.honest_is ∙ honest) w_now) c.in-Some.is in
          subst (λ x. IsFirstAiling old.blocks c.row.result c.first_live.new.self.page.body.items c.in-Some.found x) still
          (subst
          (λ z. IsFirstAiling z.blocks c.row.result c.first_live.new.self.page.body.items c.in-Some.found
          (g.N.PageSource.view.flash c.numbers.self.nand).image) i.looks.memory first);
    }

pub numbers-preserved : goal.numbers-preserved
numbers-preserved g c =
    let i = c.numbers.invariant in
    let old = ram c.args.self.now in
    let now = ram c.numbers.self in
    record {
      looks = looks_then _ _ _ tt _ i.looks (looks_ok _ _ _ _ c.in_ok-live.ensures.looks);
      truth = λ honest w.
          let w_now = true_over old now _ _ w i.looks.memory (ap (λ f. f.image) (i.looks.same honest (ok_not_bus _))) in
          let blocks = ap (λ r. r.geometry.blocks) i.looks.memory in
          let zero = looked_through now _ c.numbers.block _ c.in_ok-live.live i.looks.safe.memory w_now (subst (λ k. c.numbers.block < k) (c.blocks-block-end.ensures ∙ sym blocks) c.numbers-test.true) (c.in_ok-live.ensures.truth (i.looks.only_reads.honest_is ∙ honest) w_now) c.in-None.is in
          ailing_more old (g.N.PageSource.view.flash c.args.self.now.nand).image c.numbers.block (i.truth honest w) (λ bad. ap (λ r. live_at r.blocks c.numbers.block) (sym i.looks.memory) ∙ zero);
    }

-- ---- the looks of each block, one after another

pub numbers-init : goal.numbers-init
numbers-init g c = record { looks = looks_same c.args.self.now c.requires.safe; truth = λ honest w b lt. absurd (none_below b lt) }

pub returns-in_err-live : goal.returns-in_err-live
returns-in_err-live g c =
    let p = err_from_is_err_and c.from_residual.result c.from_residual.ensures.1 in
    rw (p.1, p.2) (record {
      looks = looks_then _ _ _ tt _ c.numbers.invariant.looks (looks_err _ _ _ c.in_err-live.ensures.looks);
      row = tt;
      checked = tt;
      truth = λ honest w.
          let i = c.numbers.invariant in
          c.in_err-live.ensures.truth (i.looks.only_reads.honest_is ∙ honest) (true_over (ram c.args.self.now) (ram c.numbers.self) _ _ w i.looks.memory (ap (λ f. f.image) (i.looks.same honest (ok_not_bus _))));
    })

pub returns : goal.returns
returns g c = record {
  looks = looks_ok _ _ tt _ c.numbers.invariant.looks;
  row = λ _ is. absurd (none_not_some _ is);
  checked = λ _ is. absurd (none_not_some _ is);
  truth = λ honest w. none_ailing (ram c.args.self.now) c.numbers.block _ c.requires.safe.memory c.blocks-block-end.ensures c.numbers-test.false (c.numbers.invariant.truth honest w);
}

pub is_ailing-requires-clause-safe : goal.is_ailing-requires-clause-safe
is_ailing-requires-clause-safe g c = c.numbers.invariant.looks.safe

pub is_ailing-requires-clause-block : goal.is_ailing-requires-clause-block
is_ailing-requires-clause-block g c = subst (λ k. c.numbers.block < k) (c.blocks-block-end.ensures ∙ sym (ap (λ (z : Ram). z.geometry.blocks) c.numbers.invariant.looks.memory)) c.numbers-test.true

pub first_live-requires-clause-safe : goal.first_live-requires-clause-safe
first_live-requires-clause-safe g c = c.numbers.invariant.looks.safe

pub first_live-requires-clause-block : goal.first_live-requires-clause-block
first_live-requires-clause-block g c = subst (λ k. c.numbers.block < k) (c.blocks-block-end.ensures ∙ sym (ap (λ (z : Ram). z.geometry.blocks) c.numbers.invariant.looks.memory)) c.numbers-test.true

pub row-requires-clause-block_in : goal.row-requires-clause-block_in
row-requires-clause-block_in g c = subst (λ k. c.numbers.block < k)
    (c.blocks-block-end.ensures ∙ sym (ap (λ (z : Ram). z.geometry.blocks) (c.first_live.ensures.looks.memory ∙ c.numbers.invariant.looks.memory))) c.numbers-test.true

pub row-requires-clause-page_in : goal.row-requires-clause-page_in
row-requires-clause-page_in g c = subst (λ (z : Ram). c.in-Some.page < z.geometry.pages) (sym c.first_live.ensures.looks.memory) (c.in_ok-live.ensures.within _ c.in-Some.is).1
