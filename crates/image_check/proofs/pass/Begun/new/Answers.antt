use Rattle.std.proofs.Common.{arith}
use Rattle.std.proofs.lemmas.Result.{err_from_is_err_and}
use Rattle.image_check.proofs.pass.Begun.new.Goals as goal

pub new-requires : goal.new-requires
new-requires c = record { asked = c.requires.asked; certificate = c.requires.certificate }

pub returns-in_err-vec : goal.returns-in_err-vec
returns-in_err-vec c = let p = err_from_is_err_and c.from_residual.result c.from_residual.ensures.1 in rw p.1 (tt)

pub returns-in_err-vec-2 : goal.returns-in_err-vec-2
returns-in_err-vec-2 c = let p = err_from_is_err_and c.from_residual-in_err-vec-2.result c.from_residual-in_err-vec-2.ensures.1 in rw p.1 (tt)

pub returns-in_err-new : goal.returns-in_err-new
returns-in_err-new c = let p = err_from_is_err_and c.from_residual-in_err-new.result c.from_residual-in_err-new.ensures.1 in rw p.1 (tt)

pub returns : goal.returns
returns c =
    let made = c.in_ok-new.ensures in
    record {
      pass = made.pass;
      shows = made.shows;
      geometry = made.geometry;
      claim = made.claim;
      body = omega (arith, c.in_ok-vec.ensures.len);
      spare = omega (arith, c.in_ok-vec-2.ensures.len);
    }
