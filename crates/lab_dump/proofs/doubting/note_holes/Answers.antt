use Rattle.std.proofs.Common.{◌∙◌, ◌+◌, ap, get_or, sym}
use Rattle.lab_dump.proofs.DoubtLemmas.{ending_erased, ending_other, few_erased, holes_none, holes_set, one_more}
use Rattle.lab_dump.proofs.doubting.note_holes.Goals as goal

pub returns-then-erased : goal.returns-then-erased
returns-then-erased c = record {
  ending = λ image p end at er.
      ending_erased c.args.geometry.now image c.args.row c.carried-carried.result p at (sym er ∙ c.if-erased.true) (c.carried-carried.ensures.is image end);
  noted = λ image p h end at er.
      holes_none c.args.geometry.now image c.args.row p c.args.holes.now h at (sym er ∙ c.if-erased.true);
  few = few_erased _ _ _ _ c.requires.few c.carried-carried.ensures.few;
  end = one_more _ _ _ c.carried-carried.ensures.few c.requires.end;
}

pub returns-clause-ending : goal.returns-clause-ending
returns-clause-ending c = λ image p end at er. ending_other c.args.geometry.now image c.args.row p at (sym er ∙ c.if-erased.false)

pub returns-clause-noted : goal.returns-clause-noted
returns-clause-noted c = λ image p h end at er.
    holes_set c.args.geometry.now image c.args.row c.split_row-block.result.0 0 _ p c.args.holes.now h at (sym er ∙ c.if-erased.false)
    c.split_row-block.ensures.block_is c.split_row-block.ensures.block (ap (λ k. get_or c.args.holes.now c.split_row-block.result.0 0 + k) (c.carried-carried.ensures.is image end))
