use Rattle.std.proofs.Common.{◌≡◌, ◌∙◌, None, rules}
use Rattle.page_layout.specs.Sound.{record_of}
use Rattle.lab_dump.specs.PageBytes.{page_from_bytes}
use Rattle.lab_dump.specs.Until.{record_until}
use Rattle.lab_dump.proofs.WritingLemmas.{unmarked_none}
use Rattle.lab_origin.proofs.TracingLemmas.{not_taken}
use Rattle.lab_origin.proofs.trace.Tracing.take_row.Goals as goal

pub returns-in-None-clause-shows : goal.returns-in-None-clause-shows
returns-in-None-clause-shows g c = λ records read files told shown at here.
    let geo = c.args.geometry.now in
    let none : record_until c.args.self.now.until (record_of (page_from_bytes geo.data_bytes c.args.page.now)) ≡ None = search rules in
    not_taken geo records read c.args.row _ _ shown (unmarked_none geo records c.args.row (at ∙ none))
