use Rattle.std.proofs.Common.{◌≡◌, ◌+◌, ◌*◌, ◌<◌, ℕ, eqb, unwrap_or}
use Rattle.std.specs.Map.{lookup}
use Rattle.translation_pages.specs.TranslationPage.{entry_at}
use Rattle.mapping_cache.specs.Mapping.{AreRowsOf}
use Rattle.mapping_cache.proofs.pages.write_rows.Given as goal

abbrev pub invariant-loop-sector : goal.invariant-loop-sector
invariant-loop-sector l = record {
  rows : AreRowsOf l.per_page l.t l.sector-iterator;
  written : (i : ℕ) → i < l.per_page → unwrap_or (lookup (eqb (l.t * l.per_page + i)) l.sector-iterator) (entry_at l.page i) ≡ unwrap_or (lookup (eqb (l.t * l.per_page + i)) l.fn.rows) (entry_at l.initial.page i);
}
