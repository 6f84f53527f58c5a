use Rattle.std.proofs.Common.{◌∙◌, ap, sym, subst, ◌<◌, length, not, ◌&&◌, get_or, false}
use Rattle.std.proofs.lemmas.List.{get_or_default}
use Rattle.page_layout.specs.Flash.{NextState, block_at}
use Rattle.nand_die.specs.declared.change.NextPage.{NextPage}
use Rattle.nand_die.specs.NextPages.{flash_of, left_block}
use Rattle.nand_die.proofs.StepLemmas.{erases_so, turn_here}
use Rattle.nand_die.proofs.change.erase_into.Goals as goal

pub returns-clause-legal : goal.returns-clause-legal
returns-clause-legal c abuse =
    let block = c.args.block in
    let none : NextPage = record { next = 0; barred = false; programs = 0; erases = 0 } in
    let t : NextPage = get_or c.args.next_pages.now block none in
    let in_turns : block < length c.args.next_pages.now = subst (λ n. block < n) (sym c.requires.blocks) c.requires.in_range in
    c.change_of-change.ensures.legal
    ∙ sym (ap (λ (u : NextState). not u.barred) (turn_here c.args.geometry.now c.args.bytes.now c.args.next_pages.now abuse block t in_turns (get_or_default c.args.next_pages.now block none t in_turns)))

pub returns-clause-passed : goal.returns-clause-passed
returns-clause-passed c = c.change_of-change.ensures.passed ∙ ap (λ b. b && not c.args.strike.comes) (sym c.change_of-change.ensures.legal)

pub returns-clause-flash : goal.returns-clause-flash
returns-clause-flash c abuse =
    let g = c.args.geometry.now in
    let block = c.args.block in
    let none : NextPage = record { next = 0; barred = false; programs = 0; erases = 0 } in
    let t : NextPage = get_or c.args.next_pages.now block none in
    let in_turns : block < length c.args.next_pages.now = subst (λ n. block < n) (sym c.requires.blocks) c.requires.in_range in
    let change = c.change_of-change.result in
    erases_so g c.args.bytes.now c.leave_block.new.bytes c.args.next_pages.now abuse block t c.erased.result
    (left_block g (block_at (flash_of g c.args.bytes.now c.args.next_pages.now abuse) block) change.legal change.passed c.args.strike.page_left.now) change.legal change.passed
    in_turns (get_or_default c.args.next_pages.now block none t in_turns) c.erased.ensures c.change_of-change.ensures.legal c.leave_block.ensures
