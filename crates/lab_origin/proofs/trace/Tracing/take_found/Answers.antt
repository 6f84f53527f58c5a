use Rattle.std.proofs.Common.{◌≡◌, ◌*◌, ◌<◌, ◌∙◌, length, get_or, sym, ap, subst, arith}
use Rattle.std.proofs.lemmas.List.{get_or_default}
use Rattle.page_layout.specs.Geometry.{page_bytes}
use Rattle.lab_dump.proofs.WritingLemmas.{other_none, within_is}
use Rattle.lab_dump.specs.declared.mark.MapMark.TheVariants as mark
use Rattle.lab_origin.specs.Origin.{read_mark}
use Rattle.lab_origin.specs.Tracing.{have_at}
use Rattle.lab_origin.proofs.TracingLemmas.{MarkIs, not_taken, taken}
use Rattle.lab_origin.proofs.trace.Tracing.take_found.Goals.{in-Stays, in-Newest+in_ok-mark-in-Newest, in-Tie}
use Rattle.lab_origin.proofs.trace.Tracing.take_found.Goals as goal

pub returns-in_default-clause-shows : goal.returns-in_default-clause-shows
returns-in_default-clause-shows g c = λ records read files told shown at here.
    let geo = c.args.geometry.now in
    not_taken geo records read c.args.row _ _ shown (other_none geo records c.args.row c.args.found.now at (sym c.sector_in.ensures ∙ c.in_default.is))

pub returns-clause-shows : goal.returns-clause-shows
returns-clause-shows g c = λ records read files told shown at here.
    let geo = c.args.geometry.now in
    let n = c.in-Some.sector in
    let r = c.args.found.now in
    let page = c.args.page.now in
    let ls = c.args.self.now.latest.items in
    let ms = c.args.self.now.marks.items in
    let in_die = sym c.sector_in.ensures ∙ c.in-Some.is in
    let its = within_is geo r n in_die in
    let in_range : n < geo.sectors = its.1 in
    let size : length ms ≡ geo.sectors = c.requires.sized.marks_size in
    let is : MarkIs c.step-latest.result.1 (read c.args.row) (get_or ms n mark.Untried) c.match-change.mark = elim c.match-change.branch [
      | in-Stays w ↦ subst (λ ch. MarkIs ch (read c.args.row) (get_or ms n mark.Untried) c.match-change.mark) (sym w.in-Stays.is) (w.mark-is ∙ (w.index-in-Stays.ensures ∙ get_or_default ms n _ mark.Untried (omega arith)))
      | in-Newest+in_ok-mark-in-Newest w ↦
          let same : read c.args.row ≡ have_at (w.from.result * length page) page files =
          here ∙ ap (λ k. have_at k page files) (ap (λ k. k * page_bytes geo) (sym w.from.ensures) ∙ ap (λ k. w.from.result * k) (sym c.requires.page_whole)) in
          subst (λ ch. MarkIs ch (read c.args.row) (get_or ms n mark.Untried) c.match-change.mark) (sym w.in-Newest.is) (w.mark-is ∙ (w.in_ok-mark-in-Newest.ensures.mark files told ∙ ap read_mark (sym same)))
      | in-Tie w ↦ subst (λ ch. MarkIs ch (read c.args.row) (get_or ms n mark.Untried) c.match-change.mark) (sym w.in-Tie.is) w.mark-is
    ] in
    taken geo records read c.args.row n r ls ms c.index.result.now c.step-latest.result.0 c.match-change.mark c.step-latest.result.1 shown c.requires.sized in_die at c.index.ensures c.step-latest.ensures.latest c.step-latest.ensures.does is
