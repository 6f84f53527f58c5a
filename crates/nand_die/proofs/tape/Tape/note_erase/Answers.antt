use Rattle.std.proofs.Common.{◌≡◌, ◌∙◌, ap, sym, subst, ℕ, ◌*◌, ◌-◌, ◌<◌, List, [], ◌∷◌, ◌++◌, length, arith}
use Rattle.page_layout.specs.Geometry.{page_bytes}
use Rattle.page_layout.specs.Raw.{raw_image}
use Rattle.page_layout.specs.Flash.{Erase}
use Rattle.nand_die.specs.declared.tape.Note.TheVariants as note
use Rattle.nand_die.specs.Tape.{TapeValue, noted_log, pages_of}
use Rattle.nand_die.proofs.TapeLemmas.{one_fits, tape_more, tape_told, tape_value, noted_erase}
use Rattle.onfi_cycles.specs.Driver.{gained}
use Rattle.nand_die.proofs.tape.Tape.note_erase.Goals as goal

pub append-requires : goal.append-requires
append-requires c =
    let i = c.self.inside in
    let inv = c.self.invariant in
    let free : 0 < i.room - length i.notes.items = subst (λ (t : TapeValue). 0 < t.free) (sym c.self.view_is) c.requires.room in
    let whole : length c.args.left.now ≡ i.geometry.pages * page_bytes i.geometry = subst (λ (t : TapeValue). length c.args.left.now ≡ t.geometry.pages * page_bytes t.geometry) (sym c.self.view_is) c.requires.whole in
    let fits = one_fits i.geometry.pages (page_bytes i.geometry) i.room i.notes.items (note.Erase c.args.block c.args.passed) (omega (arith, free)) in
    omega (arith, inv.bytes_counted, inv.bytes_whole, inv.bytes_room, whole, fits)

pub invariant_of-self : goal.invariant_of-self
invariant_of-self c =
    let i = c.self.inside in
    let free : 0 < i.room - length i.notes.items = subst (λ (t : TapeValue). 0 < t.free) (sym c.self.view_is) c.requires.room in
    let whole : length c.args.left.now ≡ i.geometry.pages * page_bytes i.geometry = subst (λ (t : TapeValue). length c.args.left.now ≡ t.geometry.pages * page_bytes t.geometry) (sym c.self.view_is) c.requires.whole in
    tape_more i.geometry i.kept.items i.bytes.items c.args.left.now c.append.new.bytes.items i.notes.items c.append_note.new.notes.items (note.Erase c.args.block c.args.passed) _ _ _ _ i.room _ _ _ _
    c.self.invariant (omega (arith, free)) c.append_note.ensures.items c.append_note.ensures.len c.append_note.ensures.room c.append.ensures.items c.append.ensures.len c.append.ensures.room whole

pub returns : goal.returns
returns c =
    let i = c.self.inside in
    let log = ap (λ (xs : List ℕ). noted_log i.geometry (i.notes.items ++ note.Erase c.args.block c.args.passed ∷ []) xs) c.append.ensures.items
    ∙ noted_erase i.geometry i.notes.items i.bytes.items c.args.left.now c.args.block c.args.passed c.self.invariant.bytes_whole in
    subst (λ (t : TapeValue). tape_value i.geometry (raw_image i.geometry i.image.items) i.kept.items (i.room - length c.append_note.new.notes.items) (noted_log i.geometry c.append_note.new.notes.items c.append.new.bytes.items)
    ≡ record {
      geometry = t.geometry;
      recording = gained (Erase c.args.block c.args.passed (pages_of t.geometry t.geometry.pages c.args.left.now)) t.recording;
      free = t.free - 1;
      kept = t.kept;
    }) c.self.view_is
    (tape_told i.geometry (raw_image i.geometry i.image.items) i.kept.items i.bytes.items c.append.new.bytes.items i.room i.notes.items c.append_note.new.notes.items (note.Erase c.args.block c.args.passed)
    (Erase c.args.block c.args.passed (pages_of i.geometry i.geometry.pages c.args.left.now)) c.append_note.ensures.items log)
