use Rattle.std.proofs.Common.{◌≡◌, ◌-◌, ◌++◌, []}
use Rattle.std.specs.Prelude.{filter}
use Rattle.std.specs.List.{range_with_len}
use Rattle.page_layout.specs.Page.{Image}
use Rattle.image_check.specs.Noted.{is_noted, IsKept}
use Rattle.image_check.proofs.stale_notes.note_absent.Given as goal

abbrev pub invariant-loop-sector : goal.invariant-loop-sector
invariant-loop-sector l = record {
  kept : (image : Image) → IsKept ([] ++ filter (is_noted l.geometry image l.certificate 0) (range_with_len 0 (l.sector - 0))) l.noted;
  most : l.noted.most ≡ l.fn.noted.most;
}
