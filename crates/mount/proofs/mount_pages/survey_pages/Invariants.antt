use Rattle.std.proofs.Common.{◌≡◌, ◌≤◌, ◌<◌, ◌+◌, true}
use Rattle.page_layout.specs.Page.{IsImage}
use Rattle.page_layout.specs.OnlyReads.{OnlyReads}
use Rattle.image_check.specs.Surveyed.{IsSized, IsSurvey}
use Rattle.mount.proofs.mount_pages.survey_pages.Given as goal

abbrev pub invariant-loop-row : goal.invariant-loop-row
invariant-loop-row g l =
    let source = g.S.PageSource in
    record {
      only_reads : OnlyReads source.view l.fn.source l.source;
      sized : IsSized l.geometry l.row l.survey;
      same : source.view.honest l.fn.source ≡ true → source.view.flash l.source ≡ source.view.flash l.fn.source;
      told : source.view.honest l.fn.source ≡ true → source.view.recorded l.source ≡ source.view.recorded l.fn.source;
      whole : 0 < l.row → source.view.honest l.fn.source ≡ true → IsImage l.geometry (source.view.flash l.source).image;
      reads : source.view.reads l.source ≤ source.view.reads l.fn.source + l.row;
      seen : source.view.honest l.fn.source ≡ true → IsSurvey l.geometry (source.view.flash l.fn.source).image l.row l.survey;
    }
