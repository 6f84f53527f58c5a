use Rattle.std.proofs.Common.{sym, ◌∙◌, subst, All}
use Rattle.bad_blocks.specs.Table.{HasFittingWear}
use Rattle.image_check.proofs.TablesLemmas.{blank_counted}
use Rattle.image_check.proofs.scratch.blank_table.Goals as goal

pub new-requires-clause-counted : goal.new-requires-clause-counted
new-requires-clause-counted c = subst (λ xs. All HasFittingWear xs) (sym (c.deref.ensures.value ∙ c.in_ok-rows.ensures.items_if_clones_equal (λ y e. e))) (blank_counted c.args.blocks)
