use Rattle.std.proofs.Common.{◌∙◌, sym}
use Rattle.page_layout.proofs.CountLemmas.{count_by-map}
use Rattle.lab_dump.specs.Held.{damaged_of, is_damaged, shown_in}
use Rattle.lab_dump.proofs.held.damaged_count.Goals as goal

pub returns : goal.returns
unfolding damaged_of
returns c = c.count_damaged.ensures ∙ sym (count_by-map is_damaged shown_in c.args.held.now)
