use Rattle.std.proofs.Common.{◌∙◌, ap, sym, ◌<◌, ◌/◌, length, not, ◌&&◌, ◌==◌, ◌%◌, get_or, false}
use Rattle.std.proofs.lemmas.List.{get_or_default}
use Rattle.page_layout.specs.Flash.{page_at}
use Rattle.onfi_cycles.specs.Cycles.{page_of}
use Rattle.nand_die.specs.declared.change.NextPage.{NextPage}
use Rattle.nand_die.specs.NextPages.{flash_of, left_page}
use Rattle.nand_die.proofs.StepLemmas.{programs_so, may_here, block_in}
use Rattle.nand_die.proofs.change.program_into.Goals as goal

pub slice_copy_out-next_page : goal.slice_copy_out-next_page
slice_copy_out-next_page c = block_in c.args.geometry.now c.args.row c.pages.result (length c.args.next_pages.now) c.pages.ensures c.requires.blocks c.requires.in_range

pub bounds-next_pages-block : goal.bounds-next_pages-block
bounds-next_pages-block c = block_in c.args.geometry.now c.args.row c.pages.result (length c.args.next_pages.now) c.pages.ensures c.requires.blocks c.requires.in_range

pub leave_page-requires : goal.leave_page-requires
leave_page-requires c = record { in_range = c.requires.in_range; whole = c.requires.whole; page = c.requires.page; left = c.requires.left }

pub returns-clause-legal : goal.returns-clause-legal
returns-clause-legal c abuse =
    let block = c.args.row / c.pages.result in
    let none : NextPage = record { next = 0; barred = false; programs = 0; erases = 0 } in
    let t : NextPage = get_or c.args.next_pages.now block none in
    let in_turns : block < length c.args.next_pages.now = block_in c.args.geometry.now c.args.row c.pages.result (length c.args.next_pages.now) c.pages.ensures c.requires.blocks c.requires.in_range in
    c.change_of-change.ensures.legal ∙ ((c.is_due-legal.ensures ∙ ap (λ n. not t.barred && (t.next == c.args.row % n)) c.pages-2.ensures)
    ∙ sym (may_here c.args.geometry.now c.args.bytes.now c.args.next_pages.now abuse c.args.row block t (ap (λ n. c.args.row / n) (sym c.pages.ensures)) in_turns (get_or_default c.args.next_pages.now block none t in_turns)))

pub returns-clause-passed : goal.returns-clause-passed
returns-clause-passed c = c.change_of-change.ensures.passed ∙ ap (λ b. b && not c.args.strike.comes) (sym c.change_of-change.ensures.legal)

pub returns-clause-flash : goal.returns-clause-flash
returns-clause-flash c abuse =
    let g = c.args.geometry.now in
    let block = c.args.row / c.pages.result in
    let none : NextPage = record { next = 0; barred = false; programs = 0; erases = 0 } in
    let t : NextPage = get_or c.args.next_pages.now block none in
    let in_turns : block < length c.args.next_pages.now = block_in g c.args.row c.pages.result (length c.args.next_pages.now) c.pages.ensures c.requires.blocks c.requires.in_range in
    let change = c.change_of-change.result in
    programs_so g c.args.bytes.now c.leave_page.new.bytes c.args.next_pages.now abuse c.args.row block t c.programmed.result (page_of g c.args.page.now)
    (left_page g (page_at (flash_of g c.args.bytes.now c.args.next_pages.now abuse) c.args.row) change.legal change.passed (page_of g c.args.page.now) c.args.strike.page_left.now) change.legal change.passed
    (ap (λ n. c.args.row / n) (sym c.pages.ensures)) in_turns (get_or_default c.args.next_pages.now block none t in_turns) c.programmed.ensures
    (c.change_of-change.ensures.legal ∙ (c.is_due-legal.ensures ∙ ap (λ n. not t.barred && (t.next == c.args.row % n)) c.pages-2.ensures)) c.leave_page.ensures
