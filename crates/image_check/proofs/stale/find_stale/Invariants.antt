use Rattle.std.proofs.Common.{◌≡◌, ◌≤◌, ◌+◌, ◌*◌, true, min}
use Rattle.page_layout.specs.Geometry.{entries}
use Rattle.page_layout.specs.OnlyReads.{OnlyReads}
use Rattle.image_check.specs.Surveyed.{SurveysKeys}
use Rattle.image_check.specs.Rising.{IsRisingBelow}
use Rattle.image_check.proofs.StaleLemmas.{AreStaleBelow}
use Rattle.image_check.proofs.stale.find_stale.Given as goal

abbrev pub invariant-loop-page : goal.invariant-loop-page
invariant-loop-page g l =
    let source = g.S.PageSource in
    record {
      only_reads : OnlyReads source.view l.fn.source l.source;
      same : source.view.honest l.fn.source ≡ true → source.view.flash l.source ≡ source.view.flash l.fn.source;
      told : source.view.honest l.fn.source ≡ true → source.view.recorded l.source ≡ source.view.recorded l.fn.source;
      noted : source.view.honest l.fn.source ≡ true → SurveysKeys l.geometry (source.view.flash l.fn.source).image l.newest → AreStaleBelow l.geometry (source.view.flash l.fn.source).image (min (l.page * entries l.geometry) l.geometry.sectors) l.stale.items;
      rising : IsRisingBelow (min (l.page * entries l.geometry) l.geometry.sectors) l.stale.items;
      reads : source.view.reads l.source ≤ source.view.reads l.fn.source + l.page;
    }
