use Rattle.std.proofs.Common.{refl, subst, ℕ, List, length}
use Rattle.onfi_cycles.specs.Cycles.{Ready, data_out_due}
use Rattle.nand_die.specs.contracts.chip.Chip.{the_view}
use Rattle.nand_die.specs.BusState.{ShowsPagePutOut, phase_of, output_of}
use Rattle.nand_die.specs.NextPages.{flash_of}
use Rattle.nand_die.proofs.ActLemmas.{acts_moves, fields_whole}
use Rattle.nand_die.proofs.chip.Chip.data_out.Goals as goal

pub returns-in-Ok-clause-acts : goal.returns-in-Ok-clause-acts
returns-in-Ok-clause-acts c =
    let i = c.self.inside in
    let r : List ℕ = i.register.items in
    rw (← c.self.view_is) (acts_moves (data_out_due i.geometry (phase_of r i.bus_state) (length c.args.bytes.now)) (the_view i) _ (Ready (output_of c.in-Ok.next)) tt (c.in-Ok.ensures.due r) refl (fields_whole i c.self.invariant))

pub returns-in-Ok-clause-out : goal.returns-in-Ok-clause-out
returns-in-Ok-clause-out c =
    let i = c.self.inside in
    let next_pages = i.next_pages.items in
    rw (← c.self.view_is) (c.in-Ok.ensures.bytes i.register.items (flash_of i.geometry i.bytes.items next_pages i.counts.abuse) (phase_of i.register.items i.bus_state) (λ out at.
    subst (λ bytes. ShowsPagePutOut (flash_of i.geometry bytes next_pages i.counts.abuse) out c.page_put_out.result.now) c.as_slice.ensures.value (c.page_put_out.ensures.shows next_pages i.counts.abuse out at)))
