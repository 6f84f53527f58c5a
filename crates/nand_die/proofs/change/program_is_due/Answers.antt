use Rattle.std.proofs.Common.{◌∙◌, ap, sym, ◌<◌, ◌/◌, length, not, ◌&&◌, ◌==◌, ◌%◌, get_or, false}
use Rattle.std.proofs.lemmas.List.{get_or_default}
use Rattle.nand_die.specs.declared.change.NextPage.{NextPage}
use Rattle.nand_die.proofs.StepLemmas.{may_here, block_in}
use Rattle.nand_die.proofs.change.program_is_due.Goals as goal

pub bounds-next_pages-block : goal.bounds-next_pages-block
bounds-next_pages-block c = block_in c.args.geometry.now c.args.row c.pages.result (length c.args.next_pages.now) c.pages.ensures c.requires.blocks c.requires.in_range

pub returns : goal.returns
returns c bytes abuse =
    let block = c.args.row / c.pages.result in
    let none : NextPage = record { next = 0; barred = false; programs = 0; erases = 0 } in
    let t : NextPage = get_or c.args.next_pages.now block none in
    let in_turns : block < length c.args.next_pages.now = block_in c.args.geometry.now c.args.row c.pages.result (length c.args.next_pages.now) c.pages.ensures c.requires.blocks c.requires.in_range in
    (c.is_due.ensures ∙ ap (λ n. not t.barred && (t.next == c.args.row % n)) c.pages-2.ensures)
    ∙ sym (may_here c.args.geometry.now bytes c.args.next_pages.now abuse c.args.row block t (ap (λ n. c.args.row / n) (sym c.pages.ensures)) in_turns (get_or_default c.args.next_pages.now block none t in_turns))
