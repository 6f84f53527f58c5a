use Rattle.std.proofs.Common.{◌≡◌, ℕ, ◌+◌, ◌<◌, ◌∙◌, Ok, Err, refl, sym, subst}
use Rattle.std.proofs.lemmas.Result.{err_from_is_err_and}
use Rattle.page_layout.specs.Geometry.{translation_pages}
use Rattle.collection.specs.Safe.{ram}
use Rattle.ftl_device.specs.Flush.{IsClean, AddsAtMost}
use Rattle.ftl_device.specs.FlushSteps.{FlushesPages}
use Rattle.ftl_device.proofs.FlushRooms.{adds_none, spends_then, spends_most}
use Rattle.ftl_device.proofs.FlushStepLemmas.{pages_then}
use Rattle.ftl_device.proofs.FlushLoops.{clean_more}
use Rattle.ftl_device.proofs.FlushRuns.{flushes_then}
use Rattle.ftl_device.proofs.SpentLemmas.{funded_here, counts_then}
use Rattle.ftl_device.proofs.AnswerLemmas.{not_below_0, below_end, loop_end, next_most, flushes_none}
use Rattle.page_layout.specs.declared.geometry.Geometry.{Geometry}
use Rattle.ftl_device.proofs.flush.flush_translations.Goals as goal

pub translations-init : goal.translations-init
translations-init g c = record {
  flushes = flushes_none g.N.PageSource.view c.args.engine.now c.requires.safe c.requires.going c.requires.calm;
  clean = λ t lt. absurd (not_below_0 t lt);
  pages = refl;
  spends = λ some. adds_none 0 (ram c.args.engine.now);
  count = λ none honest w failures funded. funded_here failures (ram c.args.engine.now) funded;
}

pub translations-preserved : goal.translations-preserved
translations-preserved g c =
    let before = c.translations.invariant.flushes in
    record {
      flushes = flushes_then g.N.PageSource.view c.args.engine.now c.translations.engine c.flush_translation.new.engine before (Ok tt) c.in_ok-flush_translation.ensures.flushes;
      clean = clean_more c.translations.t _ _ _ _ before.leaves.geometry (below_end _ _ _ c.translation_pages-t-end.ensures c.translations-test.true) c.translations.invariant.clean c.in_ok-flush_translation.ensures.cleans c.in_ok-flush_translation.ensures.clean;
      pages = pages_then g.N.PageSource.view c.translations.t
          c.args.engine.now c.translations.engine c.flush_translation.new.engine c.translations.invariant.pages c.in_ok-flush_translation.ensures.page;
      spends = λ some. spends_then c.translations.t 1 (Ok tt) (ram c.args.engine.now) (ram c.translations.engine) (ram c.flush_translation.new.engine) before.leaves.geometry
          (c.translations.invariant.spends some) (c.in_ok-flush_translation.ensures.spends (subst (λ n. 0 < n) (sym before.keys.limits.share) some));
      count = λ none honest w failures funded.
          counts_then failures (Ok tt) (ram c.args.engine.now) (ram c.translations.engine) (ram c.flush_translation.new.engine) before.leaves.geometry
          before.keys.limits.share c.in_ok-flush_translation.ensures.flushes.leaves.tells (c.translations.invariant.count none honest w failures funded)
          (c.in_ok-flush_translation.ensures.count (before.keys.limits.share ∙ none) (before.leaves.die.honest_is ∙ honest) (before.truth honest w).truth);
    }

pub returns-clause-pages : goal.returns-clause-pages
returns-clause-pages g c =
    let end : c.translations.t ≡ translation_pages c.args.engine.now.geometry = loop_end _ _ _ c.translation_pages-t-end.ensures c.translations.auto.t-end c.translations-test.false in
    subst (λ n. FlushesPages g.N.PageSource.view n c.args.engine.now c.translations.engine) end c.translations.invariant.pages

pub returns-in_err-flush_translation-clause-count : goal.returns-in_err-flush_translation-clause-count
returns-in_err-flush_translation-clause-count g c =
    let p = err_from_is_err_and c.from_residual.result c.from_residual.ensures.1 in
    rw (p.1, p.2)
    (λ none honest w failures funded. counts_then failures (Err _) (ram c.args.engine.now) (ram c.translations.engine)
    (ram c.flush_translation.new.engine) c.translations.invariant.flushes.leaves.geometry c.translations.invariant.flushes.keys.limits.share c.in_err-flush_translation.ensures.flushes.leaves.tells
    (c.translations.invariant.count none honest w failures funded)
    (c.in_err-flush_translation.ensures.count (c.translations.invariant.flushes.keys.limits.share ∙ none) (c.translations.invariant.flushes.leaves.die.honest_is ∙ honest) (c.translations.invariant.flushes.truth honest w).truth))

pub returns-clause-spends : goal.returns-clause-spends
returns-clause-spends g c = λ some.
    let end : c.translations.t ≡ translation_pages c.args.engine.now.geometry = loop_end _ _ _ c.translation_pages-t-end.ensures c.translations.auto.t-end c.translations-test.false in
    subst (λ n. AddsAtMost n (ram c.args.engine.now) (ram c.translations.engine)) end (c.translations.invariant.spends some)

pub returns-in_err-flush_translation-clause-spends : goal.returns-in_err-flush_translation-clause-spends
returns-in_err-flush_translation-clause-spends g c =
    let p = err_from_is_err_and c.from_residual.result c.from_residual.ensures.1 in
    rw (p.1, p.2) (λ some.
    spends_most (c.translations.t + 1) (translation_pages c.args.engine.now.geometry) (Err _) (ram c.args.engine.now) (ram c.flush_translation.new.engine) (next_most _ _ _ c.translation_pages-t-end.ensures c.translations-test.true)
    (spends_then c.translations.t 1 (Err _) (ram c.args.engine.now) (ram c.translations.engine) (ram c.flush_translation.new.engine) c.translations.invariant.flushes.leaves.geometry
    (c.translations.invariant.spends some) (c.in_err-flush_translation.ensures.spends (subst (λ n. 0 < n) (sym c.translations.invariant.flushes.keys.limits.share) some))))

pub returns-in_err-flush_translation-clause-flushes : goal.returns-in_err-flush_translation-clause-flushes
returns-in_err-flush_translation-clause-flushes g c =
    let p = err_from_is_err_and c.from_residual.result c.from_residual.ensures.1 in
    rw (p.1, p.2) (flushes_then g.N.PageSource.view c.args.engine.now c.translations.engine c.flush_translation.new.engine c.translations.invariant.flushes (Err _) c.in_err-flush_translation.ensures.flushes)

-- ---- the rest

pub returns-in_err-flush_translation-clause-clean : goal.returns-in_err-flush_translation-clause-clean
returns-in_err-flush_translation-clause-clean g c =
    let p = err_from_is_err_and c.from_residual.result c.from_residual.ensures.1 in
    rw p.1 tt

pub returns-in_err-flush_translation-clause-pages : goal.returns-in_err-flush_translation-clause-pages
returns-in_err-flush_translation-clause-pages g c =
    let p = err_from_is_err_and c.from_residual.result c.from_residual.ensures.1 in
    rw p.1 tt

pub returns-clause-clean : goal.returns-clause-clean
returns-clause-clean g c =
    let end : c.translations.t ≡ translation_pages c.args.engine.now.geometry = loop_end _ _ _ c.translation_pages-t-end.ensures c.translations.auto.t-end c.translations-test.false in
    subst (λ n. (t : ℕ) → t < n → IsClean c.args.engine.now.geometry t c.translations.engine.mapping) end c.translations.invariant.clean

pub returns-clause-count : goal.returns-clause-count
returns-clause-count g c = c.translations.invariant.count

pub returns-clause-flushes : goal.returns-clause-flushes
returns-clause-flushes g c = c.translations.invariant.flushes

-- ---- what the calls want

pub flush_translation-requires : goal.flush_translation-requires
flush_translation-requires g c = record {
  safe = c.translations.invariant.flushes.leaves.safe;
  going = c.translations.invariant.flushes.leaves.fault;
  calm = c.translations.invariant.flushes.calm;
  page = subst (λ (geometry : Geometry). c.translations.t < translation_pages geometry) (sym c.translations.invariant.flushes.leaves.geometry) (below_end _ _ _ c.translation_pages-t-end.ensures c.translations-test.true);
}
