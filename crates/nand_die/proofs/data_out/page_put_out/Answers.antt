use Rattle.std.proofs.Common.{◌≡◌, ◌∙◌, ap, refl, sym, subst, ℕ, List, get_or}
use Rattle.std.proofs.lemmas.List.{take-append-drop}
use Rattle.page_layout.specs.declared.geometry.Geometry.{Geometry}
use Rattle.page_layout.specs.Raw.{raw_image, bytes_of_page}
use Rattle.page_layout.specs.Flash.{no_page}
use Rattle.onfi_cycles.specs.Cycles.{page_of}
use Rattle.nand_die.specs.declared.bus_state.OutputSource.{OutputSource}
use Rattle.nand_die.specs.declared.bus_state.OutputSource.TheVariants as source
use Rattle.nand_die.specs.declared.change.NextPage.{NextPage}
use Rattle.nand_die.specs.BusState.{ShowsPagePutOut}
use Rattle.nand_die.specs.NextPages.{flash_of}
use Rattle.nand_die.proofs.data_out.page_put_out.Goals as goal

shows_page : (g : Geometry) (bytes page : List ℕ) (next_pages : List NextPage) (abuse here : ℕ) (out : OutputSource) → ((row column : ℕ) → out ≡ source.Page row column → here ≡ row)
    → get_or (raw_image g bytes) here no_page ≡ page_of g page → ShowsPagePutOut (flash_of g bytes next_pages abuse) out page
shows_page g bytes page next_pages abuse here source.Nothing is read = tt
shows_page g bytes page next_pages abuse here (source.Page row column) is read =
    ap (λ r. bytes_of_page (get_or (raw_image g bytes) r no_page)) (sym (is row column refl)) ∙ (ap bytes_of_page read ∙ take-append-drop g.data_bytes page)
shows_page g bytes page next_pages abuse here source.Status is read = tt
shows_page g bytes page next_pages abuse here (source.Identity taken) is read = tt
shows_page g bytes page next_pages abuse here (source.Zeros taken) is read = tt

pub returns-in-Ready-clause-shows : goal.returns-in-Ready-clause-shows
returns-in-Ready-clause-shows c next_pages abuse out at =
    let g = c.args.geometry.now in
    let same : c.in-Ready.source ≡ out = cc in
    subst (λ s. ShowsPagePutOut (flash_of g c.args.bytes.now next_pages abuse) s c.page_slice.result.now) same
    (shows_page g c.args.bytes.now c.page_slice.result.now next_pages abuse c.row_put_out.result c.in-Ready.source c.row_put_out.ensures.is c.page_slice.ensures.page)
