use Rattle.std.proofs.Common.{◌≡◌, ◌∙◌, ◌*◌, ap, arith, length, sym}
use Rattle.std.proofs.lemmas.List.{length-replicate}
use Rattle.page_layout.specs.Geometry.{page_bytes}
use Rattle.nand_die.specs.Tape.{width_of}
use Rattle.nand_die.proofs.tape.Tape.new.Goals as goal

pub invariant_of-result : goal.invariant_of-result
invariant_of-result c =
    let g = c.args.geometry in
    let no_notes = ap length c.in_ok-notes.ensures.items in
    let no_bytes = ap length c.in_ok-bytes.ensures.items in
    let none : 0 * page_bytes g ≡ 0 = omega arith in
    record {
      kept_whole = ap length c.in_ok-kept.ensures.ok ∙ (length-replicate c.page_length.result 255 ∙ c.page_length.ensures);
      notes_counted = c.in_ok-notes.ensures.len ∙ sym no_notes;
      bytes_counted = c.in_ok-bytes.ensures.len ∙ sym no_bytes;
      bytes_whole = no_bytes ∙ sym (ap (λ notes. width_of g.pages notes * page_bytes g) c.in_ok-notes.ensures.items ∙ none);
      within = omega (arith, no_notes);
      notes_room = c.in_ok-notes.ensures.room;
      bytes_room = omega (arith, c.in_ok-bytes.ensures.room, c.in_ok-total.ensures.ok);
    }
