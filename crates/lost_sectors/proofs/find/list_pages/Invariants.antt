use Rattle.std.proofs.Common.{◌≡◌, ◌*◌, ℕ, min, true}
use Rattle.page_layout.specs.Geometry.{entries}
use Rattle.file_die.specs.Open.{OnlyLooks}
use Rattle.image_check.specs.Agrees.{Agrees}
use Rattle.lost_sectors.specs.Lost.{Adds, DropsNone, is_lost}
use Rattle.lost_sectors.proofs.find.list_pages.Given as goal

abbrev pub invariant-loop-t : goal.invariant-loop-t
invariant-loop-t g l = record {
  looks : OnlyLooks g.S.Store.held g.S.Store.honest l.fn.store l.store;
  settled : g.S.Store.failed l.store ≡ g.S.Store.failed l.fn.store;
  adds : g.S.Store.honest l.fn.store ≡ true → (capacity : ℕ) → Agrees l.geometry capacity (g.S.Store.held l.fn.store).pages l.certificate
      → Adds (is_lost l.geometry (g.S.Store.held l.fn.store).pages l.mark) 0 (min (l.t * entries l.geometry) l.geometry.sectors) l.fn.lost l.lost;
  kept : DropsNone l.fn.lost l.lost;
}
