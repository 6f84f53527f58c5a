use Rattle.std.proofs.Common.{◌≡◌, ◌∙◌, ap, sym, subst, ℕ, ◌+◌, ◌-◌, ◌<◌, List, [], ◌∷◌, ◌++◌, length, arith, append_assoc, length-append}
use Rattle.page_layout.specs.Geometry.{page_bytes}
use Rattle.page_layout.specs.Raw.{raw_image}
use Rattle.page_layout.specs.Flash.{Program}
use Rattle.onfi_cycles.specs.Cycles.{page_of}
use Rattle.nand_die.specs.declared.tape.Note.TheVariants as note
use Rattle.nand_die.specs.Tape.{TapeValue, noted_log}
use Rattle.nand_die.proofs.TapeLemmas.{one_fits, tape_more, tape_told, noted_program}
use Rattle.nand_die.proofs.tape.Tape.note_program.Goals as goal

pub append-requires : goal.append-requires
append-requires c =
    let i = c.self.inside in
    let inv = c.self.invariant in
    let free : 0 < i.room - length i.notes.items = subst (λ (t : TapeValue). 0 < t.free) (sym c.self.view_is) c.requires.room in
    let kept = ap length c.as_slice.ensures.value ∙ inv.kept_whole in
    let fits = one_fits i.geometry.pages (page_bytes i.geometry) i.room i.notes.items (note.Program c.args.row c.args.passed) (omega (arith, free)) in
    omega (arith, inv.bytes_counted, inv.bytes_whole, inv.bytes_room, kept, fits)

pub append-requires-2 : goal.append-requires-2
append-requires-2 c =
    let i = c.self.inside in
    let inv = c.self.invariant in
    let free : 0 < i.room - length i.notes.items = subst (λ (t : TapeValue). 0 < t.free) (sym c.self.view_is) c.requires.room in
    let whole : length c.args.left.now ≡ page_bytes i.geometry = subst (λ (t : TapeValue). length c.args.left.now ≡ page_bytes t.geometry) (sym c.self.view_is) c.requires.whole in
    let kept = ap length c.as_slice.ensures.value ∙ inv.kept_whole in
    let fits = one_fits i.geometry.pages (page_bytes i.geometry) i.room i.notes.items (note.Program c.args.row c.args.passed) (omega (arith, free)) in
    omega (arith, inv.bytes_counted, inv.bytes_whole, inv.bytes_room, kept, whole, fits, c.append.ensures.len, c.append.ensures.room)

pub invariant_of-self : goal.invariant_of-self
invariant_of-self c =
    let i = c.self.inside in
    let inv = c.self.invariant in
    let free : 0 < i.room - length i.notes.items = subst (λ (t : TapeValue). 0 < t.free) (sym c.self.view_is) c.requires.room in
    let whole : length c.args.left.now ≡ page_bytes i.geometry = subst (λ (t : TapeValue). length c.args.left.now ≡ page_bytes t.geometry) (sym c.self.view_is) c.requires.whole in
    let kept : List ℕ = i.kept.items in
    let left : List ℕ = c.args.left.now in
    let both : length (kept ++ left) ≡ length kept + length left = length-append kept left in
    let is_bytes = c.append-2.ensures.items ∙ (ap (λ (xs : List ℕ). xs ++ left) (c.append.ensures.items ∙ ap (λ (ys : List ℕ). i.bytes.items ++ ys) c.as_slice.ensures.value) ∙ append_assoc i.bytes.items kept left) in
    let value = ap length c.as_slice.ensures.value in
    tape_more i.geometry kept i.bytes.items (kept ++ left) c.append-2.new.bytes.items i.notes.items c.append_note.new.notes.items (note.Program c.args.row c.args.passed) _ _ _ _ i.room _ _ _ _
    inv (omega (arith, free)) c.append_note.ensures.items c.append_note.ensures.len c.append_note.ensures.room is_bytes (omega (arith, c.append-2.ensures.len, c.append.ensures.len, value, both))
    (omega (arith, c.append-2.ensures.room, c.append.ensures.room)) (omega (arith, both, inv.kept_whole, whole))

pub returns : goal.returns
returns c =
    let i = c.self.inside in
    let inv = c.self.invariant in
    let whole : length c.args.left.now ≡ page_bytes i.geometry = subst (λ (t : TapeValue). length c.args.left.now ≡ page_bytes t.geometry) (sym c.self.view_is) c.requires.whole in
    let kept : List ℕ = i.kept.items in
    let left : List ℕ = c.args.left.now in
    let is_bytes = c.append-2.ensures.items ∙ ap (λ (xs : List ℕ). xs ++ left) (c.append.ensures.items ∙ ap (λ (ys : List ℕ). i.bytes.items ++ ys) c.as_slice.ensures.value) in
    let log = ap (λ (xs : List ℕ). noted_log i.geometry (i.notes.items ++ note.Program c.args.row c.args.passed ∷ []) xs) is_bytes
    ∙ noted_program i.geometry i.notes.items i.bytes.items kept left c.args.row c.args.passed inv.bytes_whole inv.kept_whole whole in
    rw (← c.self.view_is) (tape_told i.geometry (raw_image i.geometry i.image.items) kept i.bytes.items c.append-2.new.bytes.items i.room i.notes.items c.append_note.new.notes.items (note.Program c.args.row c.args.passed)
    (Program c.args.row (page_of i.geometry kept) c.args.passed (page_of i.geometry left)) c.append_note.ensures.items log)
