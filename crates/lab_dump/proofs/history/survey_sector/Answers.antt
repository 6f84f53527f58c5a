use Rattle.std.proofs.Common.{◌≡◌, ◌∙◌, ℕ, IfSome, ap, length, refl, sym, subst}
use Rattle.std.proofs.lemmas.Option.{same_Some}
use Rattle.std.proofs.lemmas.Result.{err_from_is_err_and}
use Rattle.page_layout.specs.Geometry.{row_count}
use Rattle.lab_dump.specs.Scan.{IsTaken}
use Rattle.lab_dump.specs.declared.history.History.{History}
use Rattle.lab_dump.specs.History.{IsHistoryOf, ShowsHistory}
use Rattle.lab_dump.proofs.HistoryLemmas.{history_of, newest_first, nothing_listed, pages_none}
use Rattle.lab_dump.proofs.ScanLemmas.{if_more, never_err, survey_source, unsurveyed}
use Rattle.lab_dump.proofs.history.survey_sector.Goals as goal

pub scan-requires : goal.scan-requires
scan-requires g c = record {
  stands = nothing_listed _ _ _ c.requires.none c.requires.places;
  shows = λ image. record { pages_are = c.requires.none ∙ sym (pages_none image c.args.sector); unsound_is = refl };
  body_whole = ap length c.deref_mut.ensures.value ∙ c.requires.page.body_size;
  spare_whole = ap length c.deref_mut-2.ensures.value ∙ c.requires.page.spare_size;
}

pub returns-in_err-scan : goal.returns-in_err-scan
returns-in_err-scan g c =
    let p = err_from_is_err_and c.from_residual.result c.from_residual.ensures.1 in
    let scan = c.scan.ensures in
    rw (p.1, p.2) (record {
      ok = tt;
      err = unsurveyed c.args.geometry.now _ _ c.in_err-scan.ensures.untaken;
      source = λ is. survey_source _ c.scan.result _ _ c.in_err-scan.was scan.source scan.stopped refl is;
    })

pub returns : goal.returns
returns g c =
    let geo = c.args.geometry.now in
    let taker = c.scan.new.taker in
    let n = c.args.sector in
    let remaining = g.R.DumpReader.remaining c.args.reader.now in
    let same : taker.sector ≡ n = same_Some taker.sector n c.in_ok-scan.ensures.fixed in
    let taken = subst (λ (m : ℕ). IfSome remaining (IsTaken geo (λ image. ShowsHistory m (row_count geo) image taker.pages.items taker.unsound))) same c.in_ok-scan.ensures.taken in
    let made : History = record { pages = c.sort_unstable.new.self; unsound = taker.unsound } in
    record {
      ok = if_more remaining (IsTaken geo (λ image. ShowsHistory n (row_count geo) image taker.pages.items taker.unsound)) (IsHistoryOf geo n made) taken
          (λ bytes whole. history_of geo n taker.pages.items made bytes whole c.sort_unstable.ensures.permutation (newest_first made.pages.items c.sort_unstable.ensures.sorted));
      err = tt;
      source = λ is. absurd (never_err _ _ _ refl is);
    }
