use Rattle.std.proofs.Common.{◌∙◌, sym, ap}
use Rattle.page_layout.specs.PageLook.{look_of}
use Rattle.lab_dump.specs.PageBytes.{page_from_bytes}
use Rattle.lab_shapes.proofs.OrderLemmas.{ordered_page}
use Rattle.lab_shapes.proofs.looking.look_in_order.Goals as goal

pub returns-clause-look : goal.returns-clause-look
returns-clause-look g c = λ all told size.
    let geo = c.args.geometry.now in
    c.look_in.ensures ∙ ap look_of (ap (page_from_bytes geo.data_bytes) (c.in_ok-read_page.ensures.read all told size) ∙ sym (ordered_page geo c.args.arrangement.now all c.args.row c.requires.row))
