use Rattle.std.proofs.Common.{◌∙◌, ◌+◌, ◌*◌, min, sym, subst, arith, rules}
use Rattle.page_layout.specs.Geometry.{entries}
use Rattle.file_die.specs.Store.{Held}
use Rattle.image_check.specs.Agrees.{Agrees}
use Rattle.lost_sectors.specs.Lost.{Adds, AddsUpTo, is_lost}
use Rattle.lost_sectors.proofs.FindLemmas.{drops_then, pages_all, pages_more, pages_up_to, up_to}
use Rattle.lost_sectors.proofs.find.list_pages.Goals as goal

pub loop-t-preserved : goal.loop-t-preserved
loop-t-preserved g c =
    let loop = c.loop-t.invariant in
    let geo = c.args.geometry.now in
    let t = c.loop-t.t in
    record {
      looks = search rules;
      settled = search rules;
      adds = λ h capacity agrees. pages_more (is_lost geo (g.S.Store.held c.args.store.now).pages c.args.mark) geo t _ c.loop-t.lost c.list_page.new.lost (loop.adds h capacity agrees)
          (subst (λ (s : Held). Adds (is_lost geo s.pages c.args.mark) (min (t * entries geo) geo.sectors) (min ((t + 1) * entries geo) geo.sectors) c.loop-t.lost c.list_page.new.lost) (loop.looks.same h)
          (c.in_ok-list_page.ensures.adds (loop.looks.as_honest ∙ h) capacity (subst (λ (s : Held). Agrees geo capacity s.pages c.args.certificate.now) (sym (loop.looks.same h)) agrees)));
      kept = drops_then _ c.loop-t.lost c.list_page.new.lost loop.kept c.list_page.ensures.kept;
    }

pub returns-clause-adds : goal.returns-clause-adds
returns-clause-adds g c h capacity agrees = pages_all _ c.args.geometry.now c.loop-t.t _ _ (omega (arith, c.loop-t-test.false, c.translation_pages-t-end.ensures, c.loop-t.auto.t-end)) (c.loop-t.invariant.adds h capacity agrees)

pub returns-in_err-list_page-clause-only : goal.returns-in_err-list_page-clause-only
returns-in_err-list_page-clause-only g c h capacity agrees =
    let loop = c.loop-t.invariant in
    let geo = c.args.geometry.now in
    let t = c.loop-t.t in
    pages_up_to (is_lost geo (g.S.Store.held c.args.store.now).pages c.args.mark) geo t c.args.lost.now c.loop-t.lost c.list_page.new.lost (loop.adds h capacity agrees)
    (subst (λ (s : Held). AddsUpTo (is_lost geo s.pages c.args.mark) (min (t * entries geo) geo.sectors) (min ((t + 1) * entries geo) geo.sectors) c.loop-t.lost c.list_page.new.lost) (loop.looks.same h)
    (c.list_page.ensures.only (loop.looks.as_honest ∙ h) capacity (subst (λ (s : Held). Agrees geo capacity s.pages c.args.certificate.now) (sym (loop.looks.same h)) agrees)))

pub returns-clause-only : goal.returns-clause-only
returns-clause-only g c h capacity agrees =
    up_to _ 0 c.args.geometry.now.sectors c.args.geometry.now.sectors _ _ (omega arith) (omega arith)
    (pages_all _ c.args.geometry.now c.loop-t.t _ _ (omega (arith, c.loop-t-test.false, c.loop-t.auto.t-end, c.translation_pages-t-end.ensures)) (c.loop-t.invariant.adds h capacity agrees))
