use Rattle.std.proofs.Common.{sym, subst}
use Rattle.lab_mend.specs.Choice.{Choice}
use Rattle.lab_mend.specs.Found.{WritesChoice}
use Rattle.lab_mend.proofs.FoundLemmas.{sound_written, apart_written, choice_unsound}
use Rattle.lab_mend.proofs.choice.choose.Goals as goal

pub returns-in-One : goal.returns-in-One
returns-in-One c = record {
  writes = sound_written c.args.geometry.now c.args.pages.now _ c.args.count c.in-One.i c.in-One.ensures c.copy_page.ensures;
  room = c.requires.room;
}

pub returns-in-Apart : goal.returns-in-Apart
returns-in-Apart c = record {
  writes = apart_written c.args.geometry.now c.args.pages.now _ c.args.count c.in-Apart.ensures c.blank_page.ensures;
  room = c.requires.room;
}

pub returns-in-Never : goal.returns-in-Never
returns-in-Never c = record {
  writes =
      subst (λ (x : Choice). WritesChoice x c.choose_majority.result c.choose_majority.new.out) (sym (choice_unsound c.args.geometry.now c.args.pages.now c.args.count c.in-Never.ensures)) c.choose_majority.ensures.writes;
  room = c.choose_majority.ensures.room;
}
