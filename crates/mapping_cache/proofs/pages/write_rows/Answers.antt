use Rattle.std.proofs.Common.{◌∙◌}
use Rattle.translation_pages.specs.TranslationPage.{entry_at}
use Rattle.mapping_cache.proofs.Rows.{row_written, rows_left}
use Rattle.mapping_cache.proofs.pages.write_rows.Goals as goal

pub loop-sector-preserved : goal.loop-sector-preserved
loop-sector-preserved c =
    let rows = rw c.in-Some.ensures.steps at c.loop-sector.invariant.rows in
    record {
      rows = rows_left _ _ _ _ rows;
      written = λ i within. row_written c.args.per_page c.args.t c.in-Some.sector c.in-Some.row c.next.new.self (entry_at c.loop-sector.page)
          (entry_at c.patch.new.page) rows c.patch.ensures.written c.patch.ensures.others i within ∙
          (rw c.in-Some.ensures.steps at c.loop-sector.invariant.written) i within;
    }
