use Rattle.std.proofs.Common.{rules}
use Rattle.commands.proofs.ImageLemmas.{page_unshown}
use Rattle.commands.proofs.show.print_page.Goals as goal

pub returns-clause-fault : goal.returns-clause-fault
returns-clause-fault g c =
    page_unshown _ _ c.args.row _ _ _ c.look_at-look.result c.record_version.result c.print_look.result c.page.ensures.page (search rules) c.look_at-look.ensures c.record_version.ensures c.print_look.ensures.fault
