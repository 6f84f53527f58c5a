use Rattle.std.proofs.Common.{◌≡◌, ◌/◌, length, arith, ap, ◌∙◌, subst}
use Rattle.page_layout.specs.Geometry.{entries, table_pages}
use Rattle.bad_blocks.specs.TablePage as table
use Rattle.image_check.proofs.TablesLemmas.{AreTaken, taken_more, tables_hold, table_of, tables_damaged, tables_missing, keys_of, damage_of}
use Rattle.image_check.proofs.tables.check_tables.Goals as goal

pub returns-then-not-is_formatted-clause-err : goal.returns-then-not-is_formatted-clause-err
returns-then-not-is_formatted-clause-err c = λ capacity image claim h distinct.
    let g = c.args.survey.now.geometry in
    let keys = keys_of g image c.args.survey.now.newest.items c.deref.result.now c.args.survey.now.tables.items h c.deref.ensures.value in
    tables_missing g capacity image claim (c.is_formatted.ensures.no c.if-not-is_formatted.true image keys distinct)

pub returns-clause-ok : goal.returns-clause-ok
returns-clause-ok c = λ image h.
    let g = c.args.survey.now.geometry in
    let whole : c.loop-page.page ≡ table_pages g = omega arith in
    tables_hold g image c.loop-page.table (c.is_formatted.ensures.yes c.if-not-is_formatted.false image (keys_of g image c.args.survey.now.newest.items c.deref.result.now c.args.survey.now.tables.items h c.deref.ensures.value))
    (subst (λ n. AreTaken g image n c.loop-page.table) whole (c.loop-page.invariant.taken image h))

pub returns-clause-rows : goal.returns-clause-rows
returns-clause-rows c = λ image h.
    let g = c.args.survey.now.geometry in
    let whole : c.loop-page.page ≡ table_pages g = omega arith in
    table_of g image c.loop-page.table c.loop-page.invariant.size (subst (λ n. AreTaken g image n c.loop-page.table) whole (c.loop-page.invariant.taken image h))

pub returns-in-Err-clause-err : goal.returns-in-Err-clause-err
returns-in-Err-clause-err c = λ capacity image claim h distinct.
    let g = c.args.survey.now.geometry in
    let formatted = c.is_formatted.ensures.yes c.if-not-is_formatted.false image (keys_of g image c.args.survey.now.newest.items c.deref.result.now c.args.survey.now.tables.items h c.deref.ensures.value) in
    let body = c.bytes_of.result.now in
    tables_damaged g capacity image claim c.loop-page.page c.loop-page.table body c.in-Err.field-0 formatted (c.loop-page.invariant.taken image h) (omega arith) (c.bytes_of.ensures.kept image h (formatted c.loop-page.page (omega arith)))
    (damage_of (length body / 4) (entries g) g.blocks (length c.loop-page.table) c.loop-page.page body c.in-Err.field-0 (ap (λ n. n / 4) c.bytes_of.ensures.size) c.loop-page.invariant.size c.in-Err.ensures.err)

pub loop-page-preserved : goal.loop-page-preserved
loop-page-preserved c =
    let g = c.args.survey.now.geometry in
    let body = c.bytes_of.result.now in
    let done = c.in_default.ensures in
    let size : length body / 4 ≡ entries g = ap (λ n. n / 4) c.bytes_of.ensures.size in
    record {
      size = done.others.length_same ∙ c.loop-page.invariant.size;
      taken = λ image h.
          let formatted = c.is_formatted.ensures.yes c.if-not-is_formatted.false image (keys_of g image c.args.survey.now.newest.items c.deref.result.now c.args.survey.now.tables.items h c.deref.ensures.value) in
          taken_more g image c.loop-page.page c.loop-page.table c.read_table_page.new.table body c.loop-page.invariant.size (c.loop-page.invariant.taken image h) (c.bytes_of.ensures.kept image h (formatted c.loop-page.page (omega arith)))
          (subst (λ k. table.IsTablePage k c.read_table_page.new.table c.loop-page.page body) size done.words) (subst (λ k. table.KeepsOthers k c.loop-page.page c.loop-page.table c.read_table_page.new.table) size done.others);
    }
