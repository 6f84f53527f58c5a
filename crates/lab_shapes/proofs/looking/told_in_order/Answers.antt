use Rattle.std.proofs.Common.{◌≡◌, ◌<◌, ap, ◌∙◌, sym, arith, rules, length, take, length-take-le}
use Rattle.page_layout.specs.Geometry.{row_count}
use Rattle.page_layout.specs.Page.{page}
use Rattle.page_layout.specs.PageLook.{look_of}
use Rattle.lab_dump.specs.PageBytes.{page_from_bytes}
use Rattle.lab_dump.specs.Pages.{dump_page_at}
use Rattle.lab_dump.specs.Told.{told_with_page}
use Rattle.lab_dump.proofs.ToldLemmas.{told_none, told_more}
use Rattle.lab_arrange.specs.Arranged.{arranged_piece}
use Rattle.lab_shapes.specs.Ordered.{ordered}
use Rattle.lab_shapes.proofs.OrderLemmas.{ordered_page, piece_size}
use Rattle.lab_shapes.proofs.looking.told_in_order.Goals.{then-may_rise+in_ok-read_page, else-may_rise}
use Rattle.lab_shapes.proofs.looking.told_in_order.Goals as goal

pub loop-row-init : goal.loop-row-init
loop-row-init g c = record {
  raw_room = c.requires.raw_room;
  page_room = c.requires.page_room;
  same = search rules;
  told = λ all told size. told_none _ _ _ _ (search rules);
}

pub loop-row-preserved : goal.loop-row-preserved
loop-row-preserved g c =
    let inv = c.loop-row.invariant in
    let geo = c.args.geometry.now in
    let a = c.args.arrangement.now in
    let d = geo.data_bytes in
    let s = geo.spare_bytes in
    let row = c.loop-row.row in
    let within : row < row_count geo = omega (arith, c.loop-row-test.true, c.rows-row-end.ensures) in
    elim c.if-may_rise.branch [
      | then-may_rise+in_ok-read_page w ↦
          let page = w.read_page.new.page in
          record {
            raw_room = rw w.raw-is (omega (arith, inv.raw_room, c.read_spare.auto.raw, w.read_page.auto.raw));
            page_room = rw w.page-is (omega (arith, inv.page_room, w.read_page.auto.page));
            same = ap g.D.Dump.bytes w.dump-is ∙ (w.read_page.ensures.same ∙ (c.read_spare.ensures.same ∙ inv.same));
            told = λ all told size.
                let there : page_from_bytes d page ≡ dump_page_at d s (ordered geo a all) row = ap (page_from_bytes d) (w.in_ok-read_page.ensures.read all (c.read_spare.ensures.same ∙ (inv.same ∙ told)) size) ∙ sym (ordered_page geo a all row within) in
                w.told-is ∙ told_more d s row (ordered geo a all) (take d page) c.loop-row.told _ (look_of (page_from_bytes d page)) (inv.told all told size) (ap look_of there) (ap (λ p. p.body) there)
                (length-take-le d page (omega (arith, inv.page_room, w.read_page.auto.page))) w.noted-told.ensures;
          }
      | else-may_rise w ↦
          record {
            raw_room = rw w.raw-is (omega (arith, inv.raw_room, c.read_spare.auto.raw));
            page_room = rw w.page-is (omega (arith, inv.page_room));
            same = ap g.D.Dump.bytes w.dump-is ∙ (c.read_spare.ensures.same ∙ inv.same);
            told = λ all told size.
                let bytes = arranged_piece geo a all row in
                let there : page_from_bytes d bytes ≡ dump_page_at d s (ordered geo a all) row = sym (ordered_page geo a all row within) in
                let spare = c.in_ok-read_spare.ensures.read all (inv.same ∙ told) size in
                let whole : length (take d bytes) ≡ d = length-take-le d bytes (omega (arith, piece_size geo a all row)) in
                let kept = c.may_rise.ensures.same w.if-may_rise.false (take d bytes) whole ∙ ap (λ p. told_with_page c.loop-row.told (look_of (page (take d bytes) p)) (take d bytes)) spare in
                w.told-is ∙ told_more d s row (ordered geo a all) (take d bytes) c.loop-row.told _ (look_of (page_from_bytes d bytes)) (inv.told all told size) (ap look_of there) (ap (λ p. p.body) there) whole kept;
          }
    ]
