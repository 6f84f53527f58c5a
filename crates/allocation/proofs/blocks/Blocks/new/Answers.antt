use Rattle.std.proofs.Common.{◌≡◌, ◌∙◌, ap, sym, subst, List, length}
use Rattle.std.specs.Prelude.{All, count_by}
use Rattle.std.specs.List.{range_with_len}
use Rattle.allocation.specs.declared.fill.Fill.{Fill}
use Rattle.bad_blocks.specs.declared.table.TableRow.{TableRow}
use Rattle.bad_blocks.specs.Table.{HasFittingWear}
use Rattle.allocation.specs.Begun.{unused}
use Rattle.allocation.proofs.BegunLemmas.{counted_rows, safe_begun_read}
use Rattle.allocation.proofs.blocks.Blocks.new.Goals as goal

pub new-requires-clause-counted : goal.new-requires-clause-counted
new-requires-clause-counted c =
    subst (λ (x : List TableRow). All HasFittingWear x) (sym (c.deref.ensures.value ∙ c.in_ok-begun_rows.ensures)) (counted_rows c.args.states.now)

pub invariant_of-result : goal.invariant_of-result
invariant_of-result c =
    let free : c.count_free-free.result ≡ count_by (unused c.in_ok-table.table c.in_ok-fills.fills.items) (range_with_len 0 (length c.in_ok-fills.fills.items)) =
    c.count_free-free.ensures ∙ ap (λ (x : List Fill). count_by (unused c.in_ok-table.table x) (range_with_len 0 (length x))) c.deref-2.ensures.value in
    record {
      safe = safe_begun_read c.count_free-free.result c.pages-pages.result c.args.geometry.now c.args.states.now c.in_ok-table.table c.in_ok-fills.fills.items c.first_data.result c.first_meta.result c.requires c.pages-pages.ensures
          (c.in_ok-table.ensures ∙ c.deref.ensures.value ∙ c.in_ok-begun_rows.ensures) c.in_ok-fills.ensures free c.first_data.ensures c.first_meta.ensures;
    }
