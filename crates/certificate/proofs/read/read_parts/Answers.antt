use Rattle.std.proofs.Common.{◌∙◌, arith}
use Rattle.certificate.proofs.PartLemmas.{parts_together, parts_say}
use Rattle.certificate.proofs.read.read_parts.Goals as goal

pub new-requires : goal.new-requires
new-requires c =
    let classes = rw (c.if-has_other_class.false, c.deref.ensures.value) at c.has_other_class.ensures.within in
    let directory_words = rw (c.if-has_row_past.false, c.deref-2.ensures.value, c.rows-rows.ensures) at c.has_row_past.ensures.within in
    let sector_words = rw (c.if-has_row_past-2.false, c.deref-else-has_row_past.ensures.value, c.rows-rows.ensures) at c.has_row_past-else-has_row_past.ensures.within in
    parts_together c.args.bytes.now c.args.head c.in_ok-body.body (λ i. omega (arith, c.type_inv.bytes i)) c.requires c.in_ok-body.ensures classes directory_words sector_words

pub returns-clause-ok : goal.returns-clause-ok
returns-clause-ok c = c.new.ensures.is ∙ parts_say c.args.bytes.now c.args.head c.in_ok-body.body c.requires c.in_ok-body.ensures
