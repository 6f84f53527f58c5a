use Rattle.std.proofs.Common.{◌+◌, arith, ap, sym, ◌∙◌, subst, true, false}
use Rattle.std.proofs.lemmas.Option.{slice_get-get_or}
use Rattle.image_check.specs.States.{IsTop}
use Rattle.image_check.proofs.StateLemmas.{row_at, tops_kept, data_raised, meta_raised}
use Rattle.image_check.proofs.states.tops_of.Goals.{then-is_partial, else-is_partial}
use Rattle.image_check.proofs.states.tops_of.Goals as goal

pub loop-block-preserved : goal.loop-block-preserved
loop-block-preserved c =
    let n = c.loop-block.block in
    let rows = c.args.table.now in
    let looks = c.args.looks.now in
    let inv = c.loop-block.invariant in
    let row = row_at rows n c.class.result (omega arith) c.class.ensures in
    elim c.if-is_partial.branch [
      | then-is_partial w ↦
          let at = slice_get-get_or looks n _ (omega arith) in
          let partial = sym c.is_partial.ensures ∙ w.if-is_partial.true in
          record {
            «data» = subst (λ t. IsTop rows looks (n + 1) true t) (ap (λ x. x.data) (sym w.tops-is)) (data_raised rows looks n _ _ c.class.result _ inv.data row at partial w.raised-tops.ensures.of_data);
            meta = subst (λ t. IsTop rows looks (n + 1) false t) (ap (λ x. x.meta) (sym w.tops-is)) (meta_raised rows looks n _ _ c.class.result _ inv.meta row at partial w.raised-tops.ensures.of_meta);
          }
      | else-is_partial w ↦
          let at = slice_get-get_or looks n _ (omega arith) in
          let none = sym c.is_partial.ensures ∙ w.if-is_partial.false in
          record {
            «data» = subst (λ t. IsTop rows looks (n + 1) true t) (ap (λ x. x.data) (sym w.tops-is)) (tops_kept rows looks n true _ c.class.result _ inv.data row at none);
            meta = subst (λ t. IsTop rows looks (n + 1) false t) (ap (λ x. x.meta) (sym w.tops-is)) (tops_kept rows looks n false _ c.class.result _ inv.meta row at none);
          }
    ]
