use Rattle.std.proofs.Common.{ap, length, refl, ◌∙◌}
use Rattle.std.proofs.lemmas.Result.{err_from_is_err_and}
use Rattle.page_layout.specs.Geometry.{row_count}
use Rattle.page_layout.specs.Raw.{raw_image}
use Rattle.page_layout.proofs.RawLemmas.{length-raw_image}
use Rattle.lab_dump.specs.Scan.{IsTaken}
use Rattle.lab_dump.specs.Rows.{within}
use Rattle.lab_dump.proofs.RowLemmas.{within_size}
use Rattle.lab_dump.proofs.ScanLemmas.{if_more, never_err, survey_source, unsurveyed}
use Rattle.lab_dump.specs.Noted.{ShowsDump}
use Rattle.lab_dump.specs.Surveyed.{IsSurveyOf}
use Rattle.lab_dump.proofs.survey.survey_dump.Goals as goal

pub scan_rows-requires : goal.scan_rows-requires
scan_rows-requires g c =
    let page = c.requires.page in
    record { stands = c.requires.stands; shows = c.requires.shows; body_whole = ap length c.deref_mut.ensures.value ∙ page.body_size; spare_whole = ap length c.deref_mut-2.ensures.value ∙ page.spare_size }

pub returns-in_err-scan_rows : goal.returns-in_err-scan_rows
returns-in_err-scan_rows g c =
    let p = err_from_is_err_and c.from_residual.result c.from_residual.ensures.1 in
    let scan = c.scan_rows.ensures in
    rw (p.1, p.2) (record {
      whole = tt;
      ok = tt;
      err = unsurveyed c.args.geometry.now _ _ c.in_err-scan_rows.ensures.untaken;
      source = λ is. survey_source _ c.scan_rows.result _ _ c.in_err-scan_rows.was scan.source scan.stopped refl is;
    })

pub returns : goal.returns
returns g c =
    let geo = c.args.geometry.now in
    let rows = c.args.rows in
    let s = c.scan_rows.new.taker in
    record {
      whole = c.conclude.ensures.whole;
      ok = if_more (g.R.DumpReader.remaining c.args.reader.now) (IsTaken geo (λ image. ShowsDump geo (row_count geo) (within geo rows image) s)) (IsSurveyOf geo rows c.conclude.result) c.in_ok-scan_rows.ensures.taken (λ bytes taken.
          let image = within geo rows (raw_image geo bytes) in
          record { whole = taken.whole; survey = c.conclude.ensures.survey image (within_size geo rows (raw_image geo bytes) ∙ length-raw_image geo bytes) taken.shown });
      err = tt;
      source = λ is. absurd (never_err _ _ _ refl is);
    }
