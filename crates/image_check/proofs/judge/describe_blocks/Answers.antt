use Rattle.std.proofs.Common.{refl, inl, inr}
use Rattle.std.proofs.lemmas.List.Sorted.{IsPermutation-refl}
use Rattle.std.proofs.lemmas.Result.{err_from_is_err_and}
use Rattle.image_check.proofs.judge.describe_blocks.Goals as goal

pub describe-requires : goal.describe-requires
describe-requires c = record { sized = c.requires; scratch = c.in_ok-scratch.ensures }

pub returns-in_err-scratch : goal.returns-in_err-scratch
returns-in_err-scratch c =
    let p = err_from_is_err_and c.from_residual.result c.from_residual.ensures.1 in
    rw (p.1, p.2) (record {
      ok = tt;
      states = tt;
      size = tt;
      fits = tt;
      err = λ capacity image claim h. inl refl;
      kind = tt;
      permutation = IsPermutation-refl _;
      others = refl;
    })

pub returns-in_err-describe : goal.returns-in_err-describe
returns-in_err-describe c =
    let p = err_from_is_err_and c.from_residual-in_err-describe.result c.from_residual-in_err-describe.ensures.1 in
    let bad = c.in_err-describe.ensures in
    rw (p.1, p.2) (record {
      ok = tt;
      states = tt;
      size = tt;
      fits = tt;
      permutation = c.describe.ensures.permutation;
      others = c.describe.ensures.others;
      err = λ capacity image claim h. inr (bad.err capacity image claim h);
      kind = bad.kind;
    })

pub returns : goal.returns
returns c =
    let done = c.in_ok-describe.ensures in
    record {
      ok = done.ok;
      states = done.states;
      size = done.size;
      fits = done.fits;
      err = tt;
      kind = tt;
      permutation = done.permutation;
      others = done.others;
    }
