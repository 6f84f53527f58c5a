use Rattle.std.proofs.Common.{◌≡◌, ◌∙◌, ◌+◌, sym, ap, refl, false, is_some}
use Rattle.page_layout.specs.Block.{is_broken}
use Rattle.image_check.proofs.PageReaderLemmas.{one_beyond}
use Rattle.lab_dump.proofs.CountLemmas.{few_rows, unsound_none, unsound_set, whole_erased, whole_sound, broken_of}
use Rattle.lab_dump.proofs.counts.note_unsound.Goals.{then-erased-via-then-erased, then-erased-via-else-erased+then-is_some}
use Rattle.lab_dump.proofs.counts.note_unsound.Goals as goal

pub returns-then-erased : goal.returns-then-erased
returns-then-erased c = record {
  noted = λ image p h at er fo.
      let whole : is_broken p ≡ false = elim c.then-erased.branch [
        | then-erased-via-then-erased w ↦ whole_erased p (sym er ∙ w.if-erased.true)
        | then-erased-via-else-erased+then-is_some w ↦ whole_sound p (ap is_some (sym fo) ∙ (sym w.is_some.ensures ∙ w.if-is_some.true))
      ] in
      unsound_none c.args.geometry.now image c.args.row p c.args.unsound.now h at whole;
  few = few_rows c.args.row (c.args.row + 1) c.args.unsound.now (one_beyond _) c.requires.few;
}

pub returns-clause-noted : goal.returns-clause-noted
returns-clause-noted c = λ image p h at er fo.
    unsound_set c.args.geometry.now image c.args.row c.split_row-block.result.0 0 _ p c.args.unsound.now h at
    (broken_of p (sym er ∙ c.if-erased.false) (ap is_some (sym fo) ∙ (sym c.is_some.ensures ∙ c.if-is_some.false)))
    c.split_row-block.ensures.block_is c.split_row-block.ensures.block refl
