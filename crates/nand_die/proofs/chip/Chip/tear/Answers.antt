use Rattle.std.proofs.Common.{◌≡◌, ◌∙◌, ap, true, false, List, if◌then◌else◌}
use Rattle.std.specs.Prelude.{slice_set}
use Rattle.std.proofs.lemmas.List.{with_items_is}
use Rattle.std.specs.Vec.{with_items}
use Rattle.page_layout.specs.Raw.{raw_image}
use Rattle.page_layout.specs.Flash.{may_program}
use Rattle.onfi_cycles.specs.Cycles.{page_of}
use Rattle.nand_die.specs.declared.change.NextPage.{NextPage}
use Rattle.nand_die.specs.contracts.chip.Chip.{the_view}
use Rattle.nand_die.specs.NextPages.{flash_of}
use Rattle.nand_die.specs.ChipValue.{ChipValue}
use Rattle.nand_die.specs.Stopping.{torn_image, with_image}
use Rattle.nand_die.proofs.ActLemmas.{pages_changed}
use Rattle.nand_die.proofs.chip.Chip.tear.Goals as goal

pub invariant_of-self : goal.invariant_of-self
invariant_of-self c =
    let i = c.self.inside in
    let torn = c.write_page in
    pages_changed i torn.new.bytes _ c.self.invariant (with_items_is i.bytes torn.new.bytes (torn.auto.bytes ∙ c.deref_mut.ensures.len)) torn.ensures.raw

pub invariant_of-self-then-not-index : goal.invariant_of-self-then-not-index
invariant_of-self-then-not-index c =
    let i = c.self.inside in
    let torn = c.write_page-then-not-index in
    pages_changed i torn.new.bytes _ c.self.invariant (with_items_is i.bytes torn.new.bytes (torn.auto.bytes ∙ c.deref_mut-then-not-index.ensures.len)) torn.ensures.raw

pub returns-then-program_is_due : goal.returns-then-program_is_due
returns-then-program_is_due c =
    let i = c.self.inside in
    let g = i.geometry in
    let d : ChipValue = the_view i in
    let torn = c.write_page in
    let left = page_of g c.args.page.now in
    let is_bytes = with_items_is i.bytes torn.new.bytes (torn.auto.bytes ∙ c.deref_mut.ensures.len) in
    let now : raw_image g (with_items i.bytes torn.new.bytes).items ≡ slice_set (raw_image g i.bytes.items) c.in-Programs.row left
    = ap (raw_image g) is_bytes ∙ (torn.ensures.image ∙ ap (λ bs. slice_set (raw_image g bs) c.in-Programs.row left) c.deref_mut.ensures.value) in
    let may : true ≡ may_program d.state.flash c.in-Programs.row
    = c.if-program_is_due.ensures i.bytes.items i.counts.abuse ∙ ap (λ (ts : List NextPage). may_program (flash_of g i.bytes.items ts i.counts.abuse) c.in-Programs.row) c.deref.ensures.value in
    let due = c.in-Programs.ensures.due i.register.items in
    let is = ap (λ b. if b then slice_set d.state.flash.image c.in-Programs.row left else d.state.flash.image) may ∙ ap (λ u. torn_image u d.state.flash left) due in
    rw (← c.self.view_is) (ap (λ image. with_image image d) (now ∙ is))

pub returns-else-program_is_due : goal.returns-else-program_is_due
returns-else-program_is_due c =
    let i = c.self.inside in
    let g = i.geometry in
    let d : ChipValue = the_view i in
    let left = page_of g c.args.page.now in
    let may : false ≡ may_program d.state.flash c.in-Programs.row
    = c.if-program_is_due.ensures i.bytes.items i.counts.abuse ∙ ap (λ (ts : List NextPage). may_program (flash_of g i.bytes.items ts i.counts.abuse) c.in-Programs.row) c.deref.ensures.value in
    let due = c.in-Programs.ensures.due i.register.items in
    let is = ap (λ b. if b then slice_set d.state.flash.image c.in-Programs.row left else d.state.flash.image) may ∙ ap (λ u. torn_image u d.state.flash left) due in
    rw (← c.self.view_is) (ap (λ image. with_image image d) is)

pub returns-in-Moves : goal.returns-in-Moves
returns-in-Moves c =
    let d : ChipValue = the_view c.self.inside in
    rw (← c.self.view_is) (ap (λ u. with_image (torn_image u d.state.flash (page_of d.state.flash.geometry c.args.page.now)) d) (c.in-Moves.ensures.due c.self.inside.register.items))

pub returns-in-Resets : goal.returns-in-Resets
returns-in-Resets c =
    let d : ChipValue = the_view c.self.inside in
    rw (← c.self.view_is) (ap (λ u. with_image (torn_image u d.state.flash (page_of d.state.flash.geometry c.args.page.now)) d) (c.in-Resets.ensures.due c.self.inside.register.items))

pub returns-in-Refuses : goal.returns-in-Refuses
returns-in-Refuses c =
    let d : ChipValue = the_view c.self.inside in
    rw (← c.self.view_is) (ap (λ u. with_image (torn_image u d.state.flash (page_of d.state.flash.geometry c.args.page.now)) d) (c.in-Refuses.ensures.due c.self.inside.register.items))
