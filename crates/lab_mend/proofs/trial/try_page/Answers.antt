use Rattle.std.proofs.Common.{sym, ◌∙◌}
use Rattle.lab_dump.specs.PageBytes.{page_from_bytes}
use Rattle.lab_mend.proofs.TriedLemmas.{met_page, met_other}
use Rattle.lab_mend.proofs.trial.try_page.Goals as goal

pub returns-then-is_sound : goal.returns-then-is_sound
returns-then-is_sound c = λ sound before.
    let size = c.args.geometry.now.data_bytes in
    met_page size sound c.meet.new.kept c.meet.result (page_from_bytes size c.args.bytes.now) (sym c.is_sound.ensures ∙ c.if-is_sound.true) (c.meet.ensures size sound before)

pub returns-else-is_sound : goal.returns-else-is_sound
returns-else-is_sound c = λ sound before.
    let size = c.args.geometry.now.data_bytes in
    met_other size sound c.args.kept.now c.args.met (page_from_bytes size c.args.bytes.now) (sym c.is_sound.ensures ∙ c.if-is_sound.false) before
