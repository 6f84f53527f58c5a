use Rattle.std.proofs.Common.{◌≡◌, ◌∙◌, ℕ, List, ap, sym, map, length, arith, get_or}
use Rattle.std.proofs.lemmas.List.{get_or_default, length-map, take_all}
use Rattle.page_layout.specs.Flash.{NextState}
use Rattle.nand_die.specs.NextPages.{next_page_of}
use Rattle.nand_die.specs.Made.{first_next_pages}
use Rattle.nand_die.proofs.MakeLemmas.{named_none, named_more, named_all, named_stop, barred_none, barred_then, barred_all, barred_stop}
use Rattle.nand_die.proofs.make.bar_all.Goals as goal

pub loop-block-init : goal.loop-block-init
loop-block-init c = record {
  any = barred_none (map next_page_of c.args.next_pages.now) c.args.bad.now;
  fresh = λ next fresh. named_none c.args.geometry.now next c.args.bad.now _ fresh;
}

pub returns-then-not-bar-clause-misnamed : goal.returns-then-not-bar-clause-misnamed
returns-then-not-bar-clause-misnamed c next fresh =
    let k = c.loop-block.block-index in
    let blocks : length c.loop-block.next_pages ≡ c.args.geometry.now.blocks = omega (arith, c.loop-block.auto.next_pages, c.requires.blocks) in
    named_stop c.args.geometry.now next c.args.bad.now k (get_or c.args.bad.now k 0) (length c.loop-block.next_pages) (map next_page_of c.loop-block.next_pages) (c.loop-block.invariant.fresh next fresh) c.loop-block-test.true
    (get_or_default c.args.bad.now k 0 (get_or c.args.bad.now k 0) c.loop-block-test.true) blocks (c.bar.ensures.misnamed c.if-not-bar.true)

pub returns-then-not-bar-clause-stops : goal.returns-then-not-bar-clause-stops
returns-then-not-bar-clause-stops c =
    let k = c.loop-block.block-index in
    let old : List NextState = map next_page_of c.args.next_pages.now in
    let long : length c.loop-block.next_pages ≡ length old = omega (arith, c.loop-block.auto.next_pages, length-map c.args.next_pages.now next_page_of) in
    barred_stop old c.args.bad.now k (get_or c.args.bad.now k 0) (length c.loop-block.next_pages) (map next_page_of c.loop-block.next_pages) (map next_page_of c.bar.new.next_pages) c.loop-block.invariant.any
    c.loop-block-test.true (get_or_default c.args.bad.now k 0 (get_or c.args.bad.now k 0) c.loop-block-test.true) long (c.bar.ensures.misnamed c.if-not-bar.true) (ap (map next_page_of) (c.bar.ensures.same c.if-not-bar.true))

pub loop-block-preserved : goal.loop-block-preserved
loop-block-preserved c =
    let k = c.loop-block.block-index in
    let old : List NextState = map next_page_of c.args.next_pages.now in
    let blocks : length c.loop-block.next_pages ≡ c.args.geometry.now.blocks = omega (arith, c.loop-block.auto.next_pages, c.requires.blocks) in
    let long : length c.loop-block.next_pages ≡ length old = omega (arith, c.loop-block.auto.next_pages, length-map c.args.next_pages.now next_page_of) in
    let is = get_or_default c.args.bad.now k 0 (get_or c.args.bad.now k 0) c.loop-block-test.true in
    let h = c.bar.ensures.named c.if-not-bar.false in
    record {
      any = barred_then old c.args.bad.now k (get_or c.args.bad.now k 0) (length c.loop-block.next_pages) (map next_page_of c.loop-block.next_pages) (map next_page_of c.bar.new.next_pages) c.loop-block.invariant.any c.loop-block-test.true
          is long h.0 h.1 h.2;
      fresh = λ next fresh. named_more c.args.geometry.now next c.args.bad.now k (get_or c.args.bad.now k 0) (length c.loop-block.next_pages) (map next_page_of c.loop-block.next_pages) (map next_page_of c.bar.new.next_pages)
          (c.loop-block.invariant.fresh next fresh) c.loop-block-test.true is blocks h.0 h.1 h.2;
    }

pub returns-clause-named : goal.returns-clause-named
returns-clause-named c next fresh = named_all c.args.geometry.now next c.args.bad.now c.loop-block.block-index _ (c.loop-block.invariant.fresh next fresh) c.loop-block-test.false

pub returns-clause-next_pages : goal.returns-clause-next_pages
returns-clause-next_pages c next fresh = (c.loop-block.invariant.fresh next fresh).turns_so ∙ ap (first_next_pages c.args.geometry.now next) (take_all c.loop-block.block-index c.args.bad.now c.loop-block-test.false)

pub returns-clause-all : goal.returns-clause-all
returns-clause-all c =
    let k = c.loop-block.block-index in
    barred_all (map next_page_of c.args.next_pages.now) c.args.bad.now k _ c.loop-block.invariant.any c.loop-block-test.false (take_all k c.args.bad.now c.loop-block-test.false)
