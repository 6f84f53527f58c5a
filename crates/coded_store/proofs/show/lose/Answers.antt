use Rattle.std.proofs.Common.{◌∙◌, ap, length}
use Rattle.onfi_cycles.specs.Cycles.{page_of}
use Rattle.coded_store.proofs.ShowLemmas.{lost_of}
use Rattle.coded_store.proofs.show.lose.Goals as goal

pub returns : goal.returns
returns c = ap (page_of c.args.geometry.now) (c.fill.ensures.after (λ y e. e)) ∙ lost_of c.args.geometry.now (length c.args.page.now) c.requires.room
