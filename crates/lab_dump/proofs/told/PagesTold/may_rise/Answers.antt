use Rattle.std.proofs.Common.{◌≡◌, ◌/◌, sym, ap, ◌∙◌, slice_index}
use Rattle.page_layout.specs.Page.{page}
use Rattle.lab_dump.specs.Told.{may_raise, most_by, most_in}
use Rattle.lab_dump.proofs.ToldLemmas.{told_same}
use Rattle.lab_dump.proofs.told.PagesTold.may_rise.Goals as goal

pub returns-clause-is : goal.returns-clause-is
returns-clause-is c =
    let d = c.args.geometry.now.data_bytes in
    let spare = c.args.spare.now in
    let most : c.most_by-most.result ≡ most_in d spare =
    c.most_by-most.ensures ∙ (ap (λ e. most_by (slice_index spare 3) c.read_u32-number.result e) c.entries.ensures ∙ ap (λ n. most_by (slice_index spare 3) n (d / 4)) c.read_u32-number.ensures) in
    c.may_raise.ensures ∙ ap (may_raise c.args.self) most

pub returns-clause-same : goal.returns-clause-same
returns-clause-same c = λ less body size.
    told_same c.args.self c.args.geometry.now.data_bytes (page body c.args.spare.now) size (sym (returns-clause-is c) ∙ less)
