use Rattle.std.proofs.Common.{◌≡◌, ◌∙◌, ℕ, ◌<◌, ◌-◌, ◌+◌, ◌*◌, List, ap, sym, map, take, length, arith, get_or, false, if◌then◌else◌}
use Rattle.std.specs.Prelude.{slice_set}
use Rattle.std.proofs.lemmas.List.{get_or-map, length-map, take_more}
use Rattle.page_layout.specs.Flash.{no_page}
use Rattle.nand_die.specs.declared.fault.Mark.{Mark}
use Rattle.nand_die.specs.NextPages.{next_page_of}
use Rattle.nand_die.specs.Made.{marked_blocks, marked_row, new_image, with_mark}
use Rattle.nand_die.proofs.MakeLemmas.{named_more, named_all, named_stop, image_more}
use Rattle.nand_die.proofs.make.mark_all.Goals as goal
use Rattle.nand_die.proofs.make.mark_all.Goals.{then-mark, else-mark}

none : Mark
none = record { block = 0; last = false }

-- the block of a mark, in the list of blocks
marked_here : (marks : List Mark) (k : ℕ) → k < length marks → (k < length (marked_blocks marks)) × ((get_or marks k none).block ≡ get_or (marked_blocks marks) k (get_or marks k none).block)
marked_here marks k lt = (omega (arith, length-map marks (λ (m : Mark). m.block)), sym (get_or-map (λ (m : Mark). m.block) marks k none (get_or marks k none).block lt))

pub returns-then-not-bar-clause-err : goal.returns-then-not-bar-clause-err
unfolding none
returns-then-not-bar-clause-err c =
    let loop = c.loop-mark in
    let marks : List Mark = c.args.marks.now in
    let at = marked_here marks loop.mark-index c.loop-mark-test.true in
    let blocks : length loop.next_pages ≡ c.args.geometry.now.blocks = omega (arith, loop.auto.next_pages, c.requires.blocks) in
    named_stop c.args.geometry.now (λ block. 0) (marked_blocks marks) loop.mark-index (get_or marks loop.mark-index none).block (length loop.next_pages) (map next_page_of loop.next_pages) loop.invariant.named at.0 at.1 blocks
    (c.bar.ensures.misnamed c.if-not-bar.true)

pub loop-mark-preserved : goal.loop-mark-preserved
unfolding none
loop-mark-preserved c =
    let g = c.args.geometry.now in
    let marks : List Mark = c.args.marks.now in
    let k = c.loop-mark.mark-index in
    let m : Mark = get_or marks k none in
    let at = marked_here marks k c.loop-mark-test.true in
    let blocks : length c.loop-mark.next_pages ≡ g.blocks = omega (arith, c.loop-mark.auto.next_pages, c.requires.blocks) in
    let h = c.bar.ensures.named c.if-not-bar.false in
    let page : c.if-mark.page ≡ (if m.last then g.pages - 1 else 0) = elim c.if-mark.branch [
      | then-mark w ↦ w.page-is ∙ (ap (λ p. p - 1) w.pages.ensures ∙ sym (ap (λ b. if b then g.pages - 1 else 0) w.if-mark.true))
      | else-mark w ↦ w.page-is ∙ sym (ap (λ b. if b then g.pages - 1 else 0) w.if-mark.false)
    ] in
    let is_row : c.row.result ≡ marked_row g m = c.row.ensures.is ∙ ap (λ p. m.block * g.pages + p) page in
    record {
      named = named_more g (λ block. 0) (marked_blocks marks) k m.block (length c.loop-mark.next_pages) (map next_page_of c.loop-mark.next_pages) (map next_page_of c.bar.new.next_pages) c.loop-mark.invariant.named at.0 at.1 blocks h.0 h.1 h.2;
      image = c.mark_page.ensures ∙ (ap (λ ps. slice_set ps c.row.result (with_mark (get_or ps c.row.result no_page))) c.loop-mark.invariant.image
          ∙ (image_more g (take k marks) m c.row.result is_row c.row.ensures.within ∙ ap (new_image g) (sym (take_more marks k none c.loop-mark-test.true))));
    }

pub returns-clause-named : goal.returns-clause-named
returns-clause-named c = named_all c.args.geometry.now _ (marked_blocks c.args.marks.now) c.loop-mark.mark-index _ c.loop-mark.invariant.named (omega (arith, length-map c.args.marks.now (λ (x : Mark). x.block), c.loop-mark-test.false))
