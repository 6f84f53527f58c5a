use Rattle.std.proofs.Common.{◌≡◌, ℕ, ◌*◌, length, map, refl, sym, subst, ◌∙◌, arith}
use Rattle.std.proofs.lemmas.Result.{err_from_is_err_and}
use Rattle.std.proofs.lemmas.List.{length-map}
use Rattle.page_layout.specs.Geometry.{page_bytes}
use Rattle.lab_mend.specs.InStep.{AreAt}
use Rattle.lab_mend.specs.Merged.{pages_of_row}
use Rattle.lab_mend.specs.Merging.{AreRowsListed, AreTried}
use Rattle.lab_mend.proofs.MergingLemmas.{none_listed, none_tried, none_tried_listed, none_unsound}
use Rattle.lab_mend.proofs.MergedLemmas.{pinned_cut, row_read, row_next, unmerged_row_cut}
use Rattle.lab_mend.proofs.merge.merge_rows.Goals as goal

pub returns-in_err-read_row-clause-unmerged : goal.returns-in_err-read_row-clause-unmerged
returns-in_err-read_row-clause-unmerged g c =
    let p = err_from_is_err_and c.from_residual.result c.from_residual.ensures.1 in
    let inv = c.loop-row.invariant in
    let geo = c.args.geometry.now in
    let row = c.loop-row.row in
    rw p.1 (λ files at. unmerged_row_cut geo files row _ _ _ _ (omega arith) (omega arith) (c.in_err-read_row.ensures.cut files (row * page_bytes geo) (inv.read files at)) p.2)

pub returns-in_err-read_row-clause-pinned : goal.returns-in_err-read_row-clause-pinned
returns-in_err-read_row-clause-pinned g c =
    let p = err_from_is_err_and c.from_residual.result c.from_residual.ensures.1 in
    rw p.1 (pinned_cut _ _ _ _ _ c.in_err-read_row.ensures.failed p.2)

pub loop-row-preserved : goal.loop-row-preserved
loop-row-preserved g c =
    let inv = c.loop-row.invariant in
    let geo = c.args.geometry.now in
    let row = c.loop-row.row in
    let known = map g.R.DumpReader.remaining c.read_row.new.readers in
    record {
      count = omega arith;
      room = omega arith;
      stands = c.in_ok-take_row.ensures.stands;
      shows = λ files at. c.in_ok-take_row.ensures.shows (pages_of_row geo files)
          (row_read geo known files row (length c.read_row.new.readers) _ c.read_row.new.pieces (omega arith) (sym (length-map c.read_row.new.readers g.R.DumpReader.remaining)) (c.in_ok-read_row.ensures.read files (row * page_bytes geo) (inv.read files at)))
          (inv.shows files at);
      unsound = λ files at. c.in_ok-take_row.ensures.unsound (pages_of_row geo files)
          (row_read geo known files row (length c.read_row.new.readers) _ c.read_row.new.pieces (omega arith) (sym (length-map c.read_row.new.readers g.R.DumpReader.remaining)) (c.in_ok-read_row.ensures.read files (row * page_bytes geo) (inv.read files at)))
          (inv.unsound files at);
      listed = c.in_ok-take_row.ensures.listed inv.listed;
      tried = λ files at. c.in_ok-take_row.ensures.tried (pages_of_row geo files)
          (row_read geo known files row (length c.read_row.new.readers) _ c.read_row.new.pieces (omega arith) (sym (length-map c.read_row.new.readers g.R.DumpReader.remaining)) (c.in_ok-read_row.ensures.read files (row * page_bytes geo) (inv.read files at)))
          (inv.tried files at);
      tried_listed = c.in_ok-take_row.ensures.tried_listed inv.tried_listed;
      tried_room = c.take_row.ensures.tried_room;
      trial_room = c.take_row.ensures.room;
      conflicts_room = c.take_row.ensures.conflicts_room;
      unsound_room = c.take_row.ensures.unsound_room;
      read = λ files at. row_next geo known files row _ c.read_row.new.pieces (omega arith) (c.in_ok-read_row.ensures.read files (row * page_bytes geo) (inv.read files at));
    }

pub loop-row-init : goal.loop-row-init
loop-row-init g c = record {
  count = refl;
  room = refl;
  stands = c.requires.stands;
  shows = λ files at. c.requires.shows (pages_of_row c.args.geometry.now files);
  unsound = λ files at. c.requires.none ∙ none_unsound c.args.geometry.now (pages_of_row c.args.geometry.now files);
  listed = subst (AreRowsListed 0) (sym c.requires.none) none_listed;
  tried = λ files at. c.requires.none_tried ∙ none_tried c.args.geometry.now (pages_of_row c.args.geometry.now files);
  tried_listed = subst (AreTried 0) (sym c.requires.none_tried) none_tried_listed;
  tried_room = c.requires.tried_room;
  trial_room = c.requires.room;
  conflicts_room = c.requires.conflicts_room;
  unsound_room = c.requires.unsound_room;
  read = λ files at. (let none : 0 ≡ 0 * page_bytes c.args.geometry.now = omega arith in subst (λ (n : ℕ). AreAt (map g.R.DumpReader.remaining c.args.readers.now) files n) none at);
}
