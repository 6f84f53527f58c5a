use Rattle.std.proofs.Common.{◌∙◌, ap, rules, get_or, arith, ◌<◌, length, false}
use Rattle.std.proofs.lemmas.List.{get_or_default}
use Rattle.nand_die.specs.declared.change.NextPage.{NextPage}
use Rattle.nand_die.specs.Made.{next_in}
use Rattle.file_die.specs.Store.{Held}
use Rattle.file_die.proofs.OpenLemmas.{next_none, next_more, next_all}
use Rattle.file_die.proofs.open.find_next_pages.Goals as goal

pub loop-block-init : goal.loop-block-init
loop-block-init g c = record {
  looks = search rules;
  settled = search rules;
  next_pages = λ h bad start. next_none c.args.geometry.now _ bad _ start;
}

pub loop-block-preserved : goal.loop-block-preserved
loop-block-preserved g c =
    let loop = c.loop-block.invariant in
    let k = c.loop-block.block in
    let none : NextPage = record { next = 0; barred = false; programs = 0; erases = 0 } in
    let in_turns : k < length c.loop-block.next_pages = omega (arith, c.loop-block.auto.next_pages, c.requires.blocks, c.loop-block-test.true, c.blocks-block-end.ensures) in
    record {
      looks = search rules;
      settled = search rules;
      next_pages = λ h bad start. next_more c.args.geometry.now _ bad k c.in_ok-next_pages.field-0 c.loop-block.next_pages (get_or c.loop-block.next_pages k none) (loop.next_pages h bad start) (omega (arith, c.loop-block-test.true, c.blocks-block-end.ensures))
          (c.in_ok-next_pages.ensures.next (loop.looks.as_honest ∙ h) ∙ ap (λ (s : Held). next_in c.args.geometry.now s.pages k) (loop.looks.same h)) (get_or_default c.loop-block.next_pages k none (get_or c.loop-block.next_pages k none) in_turns);
    }

pub returns-clause-next_pages : goal.returns-clause-next_pages
returns-clause-next_pages g c h bad start = next_all c.args.geometry.now _ bad c.loop-block.block _ (c.loop-block.invariant.next_pages h bad start) (omega (arith, c.loop-block-test.false, c.blocks-block-end.ensures))
