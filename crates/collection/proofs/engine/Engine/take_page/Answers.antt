use Rattle.std.proofs.Common.{◌∙◌, refl, arith, rules}
use Rattle.std.proofs.lemmas.List.{with_items_is}
use Rattle.page_layout.specs.Page.{page}
use Rattle.page_layout.proofs.AskedLemmas.{asks_one}
use Rattle.collection.proofs.Acts.{looks_read}
use Rattle.collection.proofs.Looks.{ok_not_bus}
use Rattle.collection.proofs.Finds.{taken_page}
use Rattle.collection.proofs.Programs.{buffer_both}
use Rattle.std.proofs.lemmas.Grind.{common_steps}
use Rattle.collection.proofs.engine.Engine.take_page.Goals as goal

pub returns-in-Ok : goal.returns-in-Ok
returns-in-Ok g c = record {
  looks = looks_read c.args.self.now c.read_sound.new.nand _ _ c.requires.safe (buffer_both c.args.self.now.geometry c.args.self.now.page c.read_sound.new.body c.read_sound.new.spare c.requires.safe.page)
      c.read_sound.ensures.only_reads (asks_one g.N.PageSource.view.called c.args.self.now.nand c.read_sound.new.nand _ c.read_sound.ensures.called) tt
      (λ is. absurd (ok_not_bus _ is)) (λ honest ne. c.in-Ok.ensures.same honest) (λ honest ne. c.in-Ok.ensures.told honest) (λ honest is. absurd (ok_not_bus _ is));
  reads = search rules;
  faults = tt;
  sound = grind (arith, common_steps);
  stands = grind (arith, common_steps);
  truth = λ honest. rw
      (with_items_is c.args.self.now.page.body c.read_sound.new.body (c.read_sound.auto.body ∙ c.deref_mut.ensures.len))
      (taken_page _ c.args.row (page c.read_sound.new.body c.read_sound.new.spare) c.in-Ok.found (c.in-Ok.ensures.page honest) c.in-Ok.ensures.record);
}

pub returns-in-Err : goal.returns-in-Err
returns-in-Err g c = record {
  looks = looks_read c.args.self.now c.read_sound.new.nand _ _ c.requires.safe (buffer_both c.args.self.now.geometry c.args.self.now.page c.read_sound.new.body c.read_sound.new.spare c.requires.safe.page)
      c.read_sound.ensures.only_reads (asks_one g.N.PageSource.view.called c.args.self.now.nand c.read_sound.new.nand _ c.read_sound.ensures.called) tt
      (λ is. c.in-Err.ensures.rose) (λ honest ne. absurd (ne refl)) (λ honest ne. absurd (ne refl)) (λ honest is. c.in-Err.ensures.cut honest);
  reads = search rules;
  faults = refl;
  sound = tt;
  stands = λ _. tt;
  truth = λ _. tt;
}
