use Rattle.std.proofs.Common.{◌≡◌, ap, length, refl, sym, ◌∙◌, arith}
use Rattle.std.specs.Vec.{with_items}
use Rattle.std.proofs.lemmas.Bool.{false≢true}
use Rattle.std.proofs.lemmas.List.{with_items_is}
use Rattle.std.proofs.lemmas.Result.{err_from_is_err_and}
use Rattle.page_layout.specs.Geometry.{row_count}
use Rattle.page_layout.specs.Page.{Image}
use Rattle.page_layout.specs.Raw.{raw_image}
use Rattle.page_layout.proofs.RawLemmas.{length-raw_image}
use Rattle.lab_dump.specs.Scan.{IsTaken}
use Rattle.lab_dump.specs.Doubting.{IsDoubting}
use Rattle.lab_dump.proofs.ScanLemmas.{compare_no_differs, compare_source, differs_no_source, if_all, if_more, never_err, uncompared}
use Rattle.lab_dump.proofs.ComparingLemmas.{lost_told}
use Rattle.lab_dump.proofs.compare.compare_dump.Goals as goal

pub scan-requires : goal.scan-requires
scan-requires g c =
    let page = c.requires.page in
    record { stands = c.requires.stands; shows = c.requires.shows; body_whole = ap length c.deref_mut.ensures.value ∙ page.body_size; spare_whole = ap length c.deref_mut-2.ensures.value ∙ page.spare_size }

pub returns-then-not-is_of : goal.returns-then-not-is_of
returns-then-not-is_of g c = record {
  ok = tt;
  sized = tt;
  err = if_all _ _ (λ bytes. tt);
  differs = (λ is same. false≢true (sym c.if-not-is_of.true ∙ c.is_of.ensures.same.1 same), λ other. refl);
  unread = λ is. refl;
  source = λ is. absurd (differs_no_source _ refl is);
}

pub returns-in_err-scan : goal.returns-in_err-scan
returns-in_err-scan g c =
    let p = err_from_is_err_and c.from_residual.result c.from_residual.ensures.1 in
    let scan = c.scan.ensures in
    rw (p.1, p.2) (record {
      ok = tt;
      sized = tt;
      err = uncompared c.args.geometry.now _ _ c.in_err-scan.ensures.untaken;
      differs = (λ is. absurd (compare_no_differs _ _ refl is), λ other. absurd (other (c.is_of.ensures.same.0 c.if-not-is_of.false)));
      unread = λ is. absurd (compare_no_differs _ _ refl is);
      source = λ is. compare_source _ c.scan.result _ _ c.in_err-scan.was scan.source scan.stopped refl is;
    })

pub returns : goal.returns
returns g c =
    let geo = c.args.geometry.now in
    let claim = c.args.certificate.now in
    let taker = c.scan.new.taker in
    let traces_is = c.deref.ensures.value in
    let lost_is : (with_items c.args.room.lost c.note_lost.new.lost).items ≡ c.note_lost.new.lost = with_items_is c.args.room.lost c.note_lost.new.lost (c.note_lost.auto.lost ∙ c.deref_mut-3.ensures.len) in
    let few : length c.note_lost.new.lost ≡ geo.sectors = c.note_lost.ensures.size ∙ (ap length c.deref_mut-3.ensures.value ∙ c.requires.lost) in
    record {
      ok = if_more (g.R.DumpReader.remaining c.args.reader.now) (IsTaken geo (λ image. IsDoubting geo (row_count geo) image taker)) _ c.in_ok-scan.ensures.taken (λ bytes taken.
          let image : Image = raw_image geo bytes in
          let size : length image ≡ row_count geo = length-raw_image geo bytes in
          record {
            whole = taken.whole;
            lost_are = lost_is ∙ lost_told geo claim image taker.traces.items c.note_lost.new.lost size few
                (λ n l. rw (← traces_is) (c.note_lost.ensures.each n (omega (arith, l, c.note_lost.ensures.size)))) taken.shown.traces;
            said_is = c.conclude-doubts.ensures.said image size taken.shown;
            legible_is = c.conclude-doubts.ensures.legible image size taken.shown;
            doubts_is = c.conclude-doubts.ensures.is image size taken.shown;
          });
      sized = ap length lost_is ∙ few;
      err = tt;
      differs = (λ is. absurd (never_err _ _ _ refl is), λ other. absurd (other (c.is_of.ensures.same.0 c.if-not-is_of.false)));
      unread = λ is. absurd (never_err _ _ _ refl is);
      source = λ is. absurd (never_err _ _ _ refl is);
    }
