use Rattle.std.proofs.Common.{◌≡◌, ◌+◌, ◌^◌, ◌≤◌, ◌<◌, true}
use Rattle.page_layout.specs.Page.{IsImage}
use Rattle.page_layout.specs.Newest.{latest_below}
use Rattle.page_layout.specs.Array.{marks}
use Rattle.page_layout.specs.OnlyReads.{OnlyReads}
use Rattle.image_check.specs.Sector.{IsBelow}
use Rattle.image_check.proofs.scan.latest_of.Given as goal

abbrev pub invariant-loop-row : goal.invariant-loop-row
invariant-loop-row g l =
    let source = g.S.PageSource in
    record {
      only_reads : OnlyReads source.view l.fn.source l.source;
      same : source.view.honest l.fn.source ≡ true → source.view.flash l.source ≡ source.view.flash l.fn.source;
      whole : 0 < l.row → source.view.honest l.fn.source ≡ true → IsImage l.geometry (source.view.flash l.source).image;
      read_few : source.view.reads l.source ≤ source.view.reads l.fn.source + l.row;
      read_on : source.view.reads l.fn.source < 2 ^ 64 → (source.view.reads l.fn.source ≤ source.view.reads l.source) × (source.view.reads l.source < 2 ^ 64);
      found : source.view.honest l.fn.source ≡ true → l.newest ≡ latest_below (marks (source.view.flash l.fn.source).image) l.key l.row;
      below : IsBelow l.row l.newest;
    }
