use Rattle.std.proofs.Common.{◌≡◌}
use Rattle.page_layout.specs.Newest.{latest_below}
use Rattle.page_layout.specs.Array.{marks}
use Rattle.image_check.proofs.scan.latest.Given as goal

abbrev pub invariant-loop-row : goal.invariant-loop-row
invariant-loop-row l = l.latest ≡ latest_below (marks l.image.flash.image) l.key l.row
