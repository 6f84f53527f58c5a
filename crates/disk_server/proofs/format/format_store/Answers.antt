use Rattle.std.proofs.Common.{◌≡◌, ◌<◌, true, Err, Ok, refl, sym, ap, ◌∙◌, subst}
use Rattle.page_layout.specs.Counter.{HasRisen}
use Rattle.disk_server.proofs.MadeLemmas.{formatted_from}
use Rattle.disk_server.proofs.OpenedLemmas.{risen_some}
use Rattle.disk_server.proofs.format.format_store.Goals as goal

pub returns-in-Err-formatted-clause-unmade : goal.returns-in-Err-formatted-clause-unmade
returns-in-Err-formatted-clause-unmade g c =
    let held = g.S.Store.held in
    let failed = g.S.Store.failed in
    let driver = c.format_at-formatted.new.nand in
    let pages = ap (λ d. (held d.store).pages) (sym c.into_bus-die.ensures.bus) ∙ ap (λ s. (held s).pages) (sym c.into_store.ensures) in
    record {
      from = λ honest. formatted_from c.args.share held (held c.args.store) (held c.into_store.result) c.geometry-geometry.result c.in-Ok.driver driver (Err c.in-Err-formatted.fault)
          c.geometry-geometry.ensures.geometry (c.in-Ok.ensures.flash honest) (c.in-Err-formatted.ensures.formats (c.in-Ok.ensures.honest ∙ honest)) pages;
      counted = λ is honest. subst (λ s. 0 < failed s) (sym c.into_store.ensures)
          (risen_some c.in-Ok.driver.failures driver.failures (failed c.into_bus-die.result.store) (c.in-Err-formatted.ensures.bus (ap Err is))
          (c.into_bus-die.ensures.counted (c.in-Err-formatted.ensures.honest ∙ c.in-Ok.ensures.honest ∙ honest)));
    }

pub returns-in-Ok-sync-clause-made : goal.returns-in-Ok-sync-clause-made
returns-in-Ok-sync-clause-made g c = λ honest.
    let held = g.S.Store.held in
    let begun = c.in-Ok.ensures.honest ∙ honest in
    let kept = ap (λ d. g.S.Store.honest d.store) c.into_bus-die.ensures.bus ∙ c.in-Ok-formatted.ensures.honest ∙ begun in
    let synced = c.in-Ok-sync.ensures.syncs kept in
    let store = sym c.into_store-in-Ok-sync.ensures in
    let pages = ap (λ d. (held d.store).pages) (sym c.into_bus-die.ensures.bus) ∙ sym synced.same ∙ ap (λ s. (held s).pages) store in
    record {
      formatted = formatted_from c.args.share held (held c.args.store) (held c.into_store-in-Ok-sync.result) c.geometry-geometry.result c.in-Ok.driver c.format_at-formatted.new.nand (Ok c.in-Ok-formatted.good)
          c.geometry-geometry.ensures.geometry (c.in-Ok.ensures.flash honest) (c.in-Ok-formatted.ensures.formats begun) pages;
      lasts = subst (λ s. (held s).durable ≡ (held s).pages) store (synced.synced refl ∙ sym synced.same);
    }

pub returns-in-Err-sync-clause-unmade : goal.returns-in-Err-sync-clause-unmade
returns-in-Err-sync-clause-unmade g c =
    let held = g.S.Store.held in
    let failed = g.S.Store.failed in
    let made = c.into_bus-die.result.store in
    let kept : g.S.Store.honest c.args.store ≡ true → g.S.Store.honest made ≡ true = λ honest. ap (λ d. g.S.Store.honest d.store) c.into_bus-die.ensures.bus ∙ c.in-Ok-formatted.ensures.honest ∙ c.in-Ok.ensures.honest ∙ honest in
    let same : g.S.Store.honest c.args.store ≡ true → (held made).pages ≡ (held c.into_store-in-Err-sync.result).pages = λ honest. sym (c.in-Err-sync.ensures.syncs (kept honest)).same ∙ ap (λ s. (held s).pages) (sym c.into_store-in-Err-sync.ensures) in
    record {
      formatted = λ honest. (
        c.in-Ok-formatted.good,
        formatted_from c.args.share held (held c.args.store) (held c.into_store-in-Err-sync.result) c.geometry-geometry.result c.in-Ok.driver c.format_at-formatted.new.nand (Ok c.in-Ok-formatted.good)
            c.geometry-geometry.ensures.geometry (c.in-Ok.ensures.flash honest) (c.in-Ok-formatted.ensures.formats (c.in-Ok.ensures.honest ∙ honest))
            (ap (λ d. (held d.store).pages) (sym c.into_bus-die.ensures.bus) ∙ same honest),
      );
      made = made;
      same = same;
      rose = subst (λ s. HasRisen (failed made) (failed s)) (sym c.into_store-in-Err-sync.ensures) c.in-Err-sync.ensures.asks.rose;
    }
