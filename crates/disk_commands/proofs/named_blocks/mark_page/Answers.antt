use Rattle.std.proofs.Common.{rules, ◌≡◌, ◌+◌, replicate, arith}
use Rattle.disk_commands.proofs.BadLemmas.{mark_is}
use Rattle.disk_commands.proofs.named_blocks.mark_page.Goals as goal

pub returns-clause-page : goal.returns-clause-page
returns-clause-page c =
    let erased : c.in-Ok.page.items ≡ replicate (c.data_bytes-data.result + c.spare_bytes.result) 255 = search rules in
    mark_is c.args.geometry.now c.in-Ok.page.items c.data_bytes-data.result (c.data_bytes-data.result + c.spare_bytes.result) c.data_bytes-data.ensures
    (omega (arith, c.data_bytes-data.ensures, c.spare_bytes.ensures)) erased
