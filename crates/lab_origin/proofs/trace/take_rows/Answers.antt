use Rattle.std.proofs.Common.{◌≡◌, ◌+◌, ◌*◌, ◌∙◌, ℕ, length, slice_range, sym, ap, subst, arith}
use Rattle.page_layout.specs.Geometry.{page_bytes, row_count}
use Rattle.page_layout.specs.Sound.{record_of}
use Rattle.page_layout.specs.Array.{marks}
use Rattle.lab_dump.specs.PageBytes.{page_from_bytes}
use Rattle.lab_dump.specs.Until.{record_until}
use Rattle.lab_origin.specs.Origin.{image_of, is_in_a_reading, row_bytes}
use Rattle.lab_origin.specs.Tracing.{ShowsOrigins}
use Rattle.lab_origin.proofs.OriginLemmas.{read_is}
use Rattle.lab_origin.proofs.TracingLemmas.{record_at}
use Rattle.lab_origin.proofs.trace.take_rows.Goals as goal

pub loop-row-preserved : goal.loop-row-preserved
loop-row-preserved g c =
    let geo = c.args.geometry.now in
    let row = c.loop-row.row in
    let inv = c.loop-row.invariant in
    let last = c.args.tracing.now.until in
    let piece = c.read_row.new.page in
    let size : length piece ≡ page_bytes geo = c.read_row.ensures.size ∙ inv.page_whole in
    record {
      page_whole = size;
      other_whole = c.take_row.ensures.size ∙ inv.other_whole;
      sized = c.in_ok-take_row.ensures.sized;
      until = c.take_row.ensures.until ∙ inv.until;
      dump_same = c.read_row.ensures.same ∙ inv.dump_same;
      same = c.take_row.ensures.same ∙ inv.same;
      shows = λ all files dumped told.
          let is : piece ≡ row_bytes geo all row = c.in_ok-read_row.ensures.read all (inv.dump_same ∙ dumped) ∙ ap (λ (k : ℕ). slice_range all (row * k) (row * k + k)) size in
          c.in_ok-take_row.ensures.shows (marks (image_of geo last all)) (is_in_a_reading geo all files) files (inv.same ∙ told) (inv.shows all files dumped told)
          (record_at geo last all piece row (omega arith) is ∙ ap (λ u. record_until u (record_of (page_from_bytes geo.data_bytes piece))) (sym inv.until)) (read_is geo all piece files row is size);
    }

pub returns-clause-shows : goal.returns-clause-shows
returns-clause-shows g c = λ all files dumped told.
    let geo = c.args.geometry.now in
    let end : c.loop-row.row ≡ row_count geo = omega arith in
    subst (λ (k : ℕ). ShowsOrigins geo (marks (image_of geo c.args.tracing.now.until all)) (is_in_a_reading geo all files) k c.loop-row.tracing.latest.items c.loop-row.tracing.marks.items) end (c.loop-row.invariant.shows all files dumped told)
