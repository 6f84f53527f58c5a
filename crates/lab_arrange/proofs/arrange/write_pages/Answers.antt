use Rattle.std.proofs.Common.{◌<◌, ◌∙◌, arith, rules}
use Rattle.page_layout.specs.Geometry.{page_bytes, row_count}
use Rattle.lab_arrange.specs.Arranged.{arranged_piece}
use Rattle.lab_arrange.proofs.PieceLemmas.{sized_all, sized_more, sized_none, written_all, written_more, written_none}
use Rattle.lab_arrange.proofs.arrange.write_pages.Goals as goal

pub loop-row-init : goal.loop-row-init
loop-row-init g c =
    let geo = c.args.geometry.now in
    record {
      raw_room = c.requires.raw_room;
      page_room = c.requires.page_room;
      same = search rules;
      sized = sized_none (g.T.Pieces.pieces c.args.target.now) (page_bytes geo) (row_count geo) c.requires.pieces;
      written = λ all told size. written_none (g.T.Pieces.pieces c.args.target.now) (arranged_piece geo c.args.arrangement.now all) (row_count geo) c.requires.pieces;
    }

pub loop-row-preserved : goal.loop-row-preserved
loop-row-preserved g c =
    let inv = c.loop-row.invariant in
    let geo = c.args.geometry.now in
    let row = c.loop-row.row in
    let page = c.read_page.new.page in
    let within : row < row_count geo = omega (arith, c.loop-row-test.true, c.rows-row-end.ensures) in
    record {
      raw_room = omega (arith, inv.raw_room, c.read_page.auto.raw);
      page_room = omega (arith, inv.page_room, c.read_page.auto.page);
      same = c.read_page.ensures.same ∙ inv.same;
      sized = sized_more (g.T.Pieces.pieces c.loop-row.target) (g.T.Pieces.pieces c.put_page.new.self) (page_bytes geo) row (row_count geo) page within c.in-Ok-put_page.ensures.written (omega (arith, inv.page_room, c.read_page.auto.page)) inv.sized;
      written = λ all told size. written_more (g.T.Pieces.pieces c.loop-row.target) (g.T.Pieces.pieces c.put_page.new.self) (arranged_piece geo c.args.arrangement.now all) row (row_count geo) page within c.in-Ok-put_page.ensures.written
          (c.in-Ok.ensures.read all (inv.same ∙ told) size) (inv.written all told size);
    }

pub returns-clause-written : goal.returns-clause-written
returns-clause-written g c = λ all told size.
    let geo = c.args.geometry.now in
    written_all (g.T.Pieces.pieces c.loop-row.target) (arranged_piece geo c.args.arrangement.now all) (row_count geo) c.loop-row.row (omega (arith, c.loop-row-test.false, c.loop-row.auto.row-end, c.rows-row-end.ensures)) (c.loop-row.invariant.written all told size)

pub returns-clause-sized : goal.returns-clause-sized
returns-clause-sized g c =
    sized_all (g.T.Pieces.pieces c.loop-row.target) c.args.geometry.now c.loop-row.row (omega (arith, c.loop-row-test.false, c.loop-row.auto.row-end, c.rows-row-end.ensures)) c.loop-row.invariant.sized
