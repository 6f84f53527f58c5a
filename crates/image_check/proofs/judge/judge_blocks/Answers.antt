use Rattle.std.proofs.Common.{refl}
use Rattle.std.proofs.lemmas.Result.{err_from_is_err_and}
use Rattle.image_check.specs.Refused.{BadSet, States, Live, Wear, HoldBetween}
use Rattle.image_check.proofs.ChainLemmas.{hold_none, hold_one, hold_more, fails_here}
use Rattle.image_check.proofs.judge.judge_blocks.Goals as goal

pub check_blocks-requires : goal.check_blocks-requires
check_blocks-requires c = record { few = c.requires.few; sized = c.requires.sized }

pub check_blocks-requires-2 : goal.check_blocks-requires-2
check_blocks-requires-2 c = record { few = c.requires.few; sized = c.requires.sized }

pub check_blocks-requires-3 : goal.check_blocks-requires-3
check_blocks-requires-3 c = record { few = c.requires.few; sized = c.requires.sized }

pub check_blocks-requires-4 : goal.check_blocks-requires-4
check_blocks-requires-4 c = record { few = c.requires.few; sized = c.requires.sized }

pub returns-in_err-check_blocks : goal.returns-in_err-check_blocks
returns-in_err-check_blocks c =
    let p = err_from_is_err_and c.from_residual.result c.from_residual.ensures.1 in
    let bad = c.in_err-check_blocks.ensures in
    rw (p.1, p.2) (record {
      ok = tt;
      err = λ g capacity image states.
          fails_here g capacity image c.args.certificate.now BadSet 6 _ (hold_none g capacity image c.args.certificate.now 6) (bad.err g capacity image states);
      named = bad.named;
    })

pub returns-in_err-check_blocks-2 : goal.returns-in_err-check_blocks-2
returns-in_err-check_blocks-2 c =
    let p = err_from_is_err_and c.from_residual-in_err-check_blocks-2.result c.from_residual-in_err-check_blocks-2.ensures.1 in
    let bad = c.in_err-check_blocks-2.ensures in
    rw (p.1, p.2) (record {
      ok = tt;
      err = λ g capacity image states.
          let bad_set : HoldBetween g capacity image c.args.certificate.now 6 7 = hold_one g capacity image c.args.certificate.now BadSet 6 7 refl refl (c.in_ok-check_blocks.ensures.ok g capacity image states) in
          fails_here g capacity image c.args.certificate.now States 6 _ bad_set (bad.err g capacity image states);
      named = bad.named;
    })

pub returns-in_err-check_blocks-3 : goal.returns-in_err-check_blocks-3
returns-in_err-check_blocks-3 c =
    let p = err_from_is_err_and c.from_residual-in_err-check_blocks-3.result c.from_residual-in_err-check_blocks-3.ensures.1 in
    let bad = c.in_err-check_blocks-3.ensures in
    rw (p.1, p.2) (record {
      ok = tt;
      err = λ g capacity image states.
          let bad_set : HoldBetween g capacity image c.args.certificate.now 6 7 = hold_one g capacity image c.args.certificate.now BadSet 6 7 refl refl (c.in_ok-check_blocks.ensures.ok g capacity image states) in
          let classes : HoldBetween g capacity image c.args.certificate.now 6 8 = hold_more g capacity image c.args.certificate.now States 6 7 8 refl refl bad_set (c.in_ok-check_blocks-2.ensures.ok g capacity image states) in
          fails_here g capacity image c.args.certificate.now Live 6 _ classes (bad.err g capacity image states);
      named = bad.named;
    })

pub returns-in_err-check_blocks-4 : goal.returns-in_err-check_blocks-4
returns-in_err-check_blocks-4 c =
    let p = err_from_is_err_and c.from_residual-in_err-check_blocks-4.result c.from_residual-in_err-check_blocks-4.ensures.1 in
    let bad = c.in_err-check_blocks-4.ensures in
    rw (p.1, p.2) (record {
      ok = tt;
      err = λ g capacity image states.
          let bad_set : HoldBetween g capacity image c.args.certificate.now 6 7 = hold_one g capacity image c.args.certificate.now BadSet 6 7 refl refl (c.in_ok-check_blocks.ensures.ok g capacity image states) in
          let classes : HoldBetween g capacity image c.args.certificate.now 6 8 = hold_more g capacity image c.args.certificate.now States 6 7 8 refl refl bad_set (c.in_ok-check_blocks-2.ensures.ok g capacity image states) in
          let lives : HoldBetween g capacity image c.args.certificate.now 6 9 = hold_more g capacity image c.args.certificate.now Live 6 8 9 refl refl classes (c.in_ok-check_blocks-3.ensures.ok g capacity image states) in
          fails_here g capacity image c.args.certificate.now Wear 6 _ lives (bad.err g capacity image states);
      named = bad.named;
    })

pub returns : goal.returns
returns c = record {
  ok = λ g capacity image states.
      let bad_set : HoldBetween g capacity image c.args.certificate.now 6 7 = hold_one g capacity image c.args.certificate.now BadSet 6 7 refl refl (c.in_ok-check_blocks.ensures.ok g capacity image states) in
      let classes : HoldBetween g capacity image c.args.certificate.now 6 8 = hold_more g capacity image c.args.certificate.now States 6 7 8 refl refl bad_set (c.in_ok-check_blocks-2.ensures.ok g capacity image states) in
      let lives : HoldBetween g capacity image c.args.certificate.now 6 9 = hold_more g capacity image c.args.certificate.now Live 6 8 9 refl refl classes (c.in_ok-check_blocks-3.ensures.ok g capacity image states) in
      hold_more g capacity image c.args.certificate.now Wear 6 9 10 refl refl lives (c.in_ok-check_blocks-4.ensures.ok g capacity image states);
  err = tt;
  named = tt;
}
