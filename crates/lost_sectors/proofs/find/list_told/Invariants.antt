use Rattle.std.proofs.Common.{◌≡◌, ◌-◌, ℕ, true}
use Rattle.translation_pages.specs.TranslationPage.{entry_at}
use Rattle.file_die.specs.Open.{OnlyLooks}
use Rattle.image_check.specs.Agrees.{Agrees}
use Rattle.lost_sectors.specs.Lost.{Adds, DropsNone, is_told}
use Rattle.lost_sectors.proofs.find.list_told.Given as goal

abbrev pub invariant-loop-sector : goal.invariant-loop-sector
invariant-loop-sector g l = record {
  looks : OnlyLooks g.S.Store.held g.S.Store.honest l.fn.store l.store;
  settled : g.S.Store.failed l.store ≡ g.S.Store.failed l.fn.store;
  adds : g.S.Store.honest l.fn.store ≡ true → (capacity : ℕ) → Agrees l.geometry capacity (g.S.Store.held l.fn.store).pages l.certificate
      → Adds (λ n. is_told (g.S.Store.held l.fn.store).pages l.sequence (entry_at l.body (n - l.first)) n) l.first l.sector l.fn.lost l.lost;
  kept : DropsNone l.fn.lost l.lost;
}
