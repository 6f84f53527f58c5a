use Rattle.std.proofs.Common.{refl, sym}
use Rattle.std.proofs.lemmas.Result.{err_from_is_err_and}
use Rattle.image_check.specs.Refused.{Directory, Sectors, HoldBetween}
use Rattle.image_check.proofs.ChainLemmas.{hold_none, hold_one, hold_more, fails_here}
use Rattle.image_check.proofs.judge.judge_rows.Goals as goal

pub check_directory-requires : goal.check_directory-requires
check_directory-requires c = record { sized = c.requires.newest; directory = c.requires.directory }

pub check_sectors-requires : goal.check_sectors-requires
check_sectors-requires c = record { sized = c.requires.newest; sectors = c.requires.sectors }

pub returns-in_err-check_directory : goal.returns-in_err-check_directory
returns-in_err-check_directory c =
    let p = err_from_is_err_and c.from_residual.result c.from_residual.ensures.1 in
    let bad = c.in_err-check_directory.ensures in
    rw (p.1, p.2) (record {
      ok = tt;
      err = λ capacity image keys passes distinct.
          let g = c.args.survey.now.geometry in
          fails_here g capacity image c.args.certificate.now Directory 4 _ (hold_none g capacity image c.args.certificate.now 4) (bad.err capacity image keys);
      named = bad.named;
    })

pub returns-in_err-check_claims : goal.returns-in_err-check_claims
returns-in_err-check_claims c =
    let p = err_from_is_err_and c.from_residual-in_err-check_claims.result c.from_residual-in_err-check_claims.ensures.1 in
    let bad = c.in_err-check_claims.ensures in
    rw (p.1, p.2) (record {
      ok = tt;
      err = λ capacity image keys passes distinct.
          let g = c.args.survey.now.geometry in
          let directory : HoldBetween g capacity image c.args.certificate.now 4 5 = hold_one g capacity image c.args.certificate.now Directory 4 5 refl refl (c.in_ok-check_directory.ensures.ok image keys) in
          fails_here g capacity image c.args.certificate.now Sectors 4 _ directory (bad.err g capacity image keys.whole (sym c.requires.sectors) passes);
      named = bad.named;
    })

pub returns-in_err-check_sectors : goal.returns-in_err-check_sectors
returns-in_err-check_sectors c =
    let p = err_from_is_err_and c.from_residual-in_err-check_sectors.result c.from_residual-in_err-check_sectors.ensures.1 in
    let bad = c.in_err-check_sectors.ensures in
    rw (p.1, p.2) (record {
      ok = tt;
      err = λ capacity image keys passes distinct.
          let g = c.args.survey.now.geometry in
          let directory : HoldBetween g capacity image c.args.certificate.now 4 5 = hold_one g capacity image c.args.certificate.now Directory 4 5 refl refl (c.in_ok-check_directory.ensures.ok image keys) in
          fails_here g capacity image c.args.certificate.now Sectors 4 _ directory (bad.err capacity image keys distinct (c.in_ok-check_claims.ensures.ok g image keys.whole passes));
      named = bad.named;
    })

pub returns : goal.returns
returns c = record {
  ok = λ capacity image keys passes.
      let g = c.args.survey.now.geometry in
      let directory : HoldBetween g capacity image c.args.certificate.now 4 5 = hold_one g capacity image c.args.certificate.now Directory 4 5 refl refl (c.in_ok-check_directory.ensures.ok image keys) in
      hold_more g capacity image c.args.certificate.now Sectors 4 5 6 refl refl directory (c.in_ok-check_sectors.ensures.ok image keys);
  err = tt;
  named = tt;
}
