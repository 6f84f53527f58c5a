use Rattle.std.proofs.Common.{◌≡◌, ◌≤◌, count_by, length, take}
use Rattle.page_layout.specs.Geometry.{row_count}
use Rattle.page_layout.specs.Page.{Image}
use Rattle.lab_dump.specs.Concluding.{IsSeen}
use Rattle.lab_dump.proofs.ConcludeLemmas.{is_open_page}
use Rattle.lab_dump.proofs.concluding.count_legible.Given as goal

abbrev pub invariant-loop-i : goal.invariant-loop-i
invariant-loop-i l = record {
  few : l.legible ≤ l.i;
  counted : (image : Image) → length image ≡ row_count l.geometry → IsSeen l.geometry image l.doubting l.plain → l.legible ≡ count_by (is_open_page l.geometry image) (take l.i l.doubting.said.items);
}
