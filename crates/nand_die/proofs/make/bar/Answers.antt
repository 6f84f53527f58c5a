use Rattle.std.proofs.Common.{◌≡◌, ◌∙◌, ap, sym, ◌<◌, length, map, get_or, true, false, arith}
use Rattle.std.specs.Prelude.{slice_set}
use Rattle.std.proofs.lemmas.List.{get_or-map, map-set}
use Rattle.page_layout.specs.Flash.{NextState, no_next_page}
use Rattle.nand_die.specs.declared.change.NextPage.{NextPage}
use Rattle.nand_die.specs.NextPages.{next_page_of}
use Rattle.nand_die.specs.Made.{barred_next_page}
use Rattle.nand_die.proofs.make.bar.Goals as goal

pub returns-clause-named : goal.returns-clause-named
returns-clause-named c _ =
    let next_pages = c.args.next_pages.now in
    let block = c.args.block in
    let none : NextPage = record { next = 0; barred = false; programs = 0; erases = 0 } in
    let t : NextPage = get_or next_pages block none in
    let lt : block < length next_pages = omega arith in
    let here : get_or (map next_page_of next_pages) block no_next_page ≡ next_page_of t = get_or-map next_page_of next_pages block none no_next_page lt in (
      lt,
      ap (λ (u : NextState). u.barred) here ∙ c.if-next_page.false,
      map-set next_page_of next_pages block (record { next = t.next; barred = true; programs = t.programs; erases = t.erases }) ∙ ap (λ u. slice_set (map next_page_of next_pages) block (barred_next_page u)) (sym here),
    )
