use Rattle.std.proofs.Common.{◌≡◌, ◌∙◌, ap, sym, subst, ◌-◌, length}
use Rattle.std.proofs.lemmas.List.{with_items_is}
use Rattle.page_layout.specs.Geometry.{page_bytes}
use Rattle.page_layout.specs.Raw.{raw_image}
use Rattle.nand_die.specs.Tape.{TapeValue, noted_log}
use Rattle.nand_die.proofs.TapeLemmas.{tape_value}
use Rattle.nand_die.proofs.tape.Tape.keep.Goals as goal

pub copy_from_slice-requires : goal.copy_from_slice-requires
copy_from_slice-requires c =
    let whole : length c.args.page.now ≡ page_bytes c.self.inside.geometry = subst (λ (t : TapeValue). length c.args.page.now ≡ page_bytes t.geometry) (sym c.self.view_is) c.requires in
    ap length c.as_mut_slice.ensures.value ∙ (c.self.invariant.kept_whole ∙ sym whole)

pub invariant_of-self : goal.invariant_of-self
invariant_of-self c =
    let i = c.self.inside in
    let inv = c.self.invariant in
    let is = with_items_is i.kept c.copy_from_slice.new.self (c.copy_from_slice.auto.self ∙ c.as_mut_slice.ensures.len) in
    record {
      kept_whole = ap length is ∙ (c.copy_from_slice.auto.self ∙ (ap length c.as_mut_slice.ensures.value ∙ inv.kept_whole));
      notes_counted = inv.notes_counted;
      bytes_counted = inv.bytes_counted;
      bytes_whole = inv.bytes_whole;
      within = inv.within;
      notes_room = inv.notes_room;
      bytes_room = inv.bytes_room;
    }

pub returns : goal.returns
returns c =
    let i = c.self.inside in
    let is = with_items_is i.kept c.copy_from_slice.new.self (c.copy_from_slice.auto.self ∙ c.as_mut_slice.ensures.len) in
    rw (← c.self.view_is) (ap (λ kept. tape_value i.geometry (raw_image i.geometry i.image.items) kept (i.room - length i.notes.items) (noted_log i.geometry i.notes.items i.bytes.items)) (is ∙ c.copy_from_slice.ensures.after))
