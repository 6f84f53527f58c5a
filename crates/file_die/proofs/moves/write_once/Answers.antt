use Rattle.std.proofs.Common.{◌+◌, ◌≤◌, inl, inr, refl, arith, length, length-drop}
use Rattle.file_die.proofs.BytesLemmas.{going_on, going_still, rest_is, takes_more, tells_next}
use Rattle.file_die.proofs.moves.write_once.Goals as goal

pub returns-in-Ok-eq0 : goal.returns-in-Ok-eq0
returns-in-Ok-eq0 g c = record {
  next = tt;
  taken = λ first before. takes_more g.F.ByteFile.wrote first c.args.file.now c.write_at.new.self c.args.at c.args.done c.args.done c.args.bytes.now _ _ (rest_is c.args.done c.args.bytes.now) (omega arith) before (rw c.in-Ok-eq0.field-0-test at c.in-Ok-eq0.ensures.wrote);
  fails = inr (refl, (c.args.file.now, _, _, omega (arith, length-drop c.args.done c.args.bytes.now, c.requires.unfinished), rw c.in-Ok-eq0.field-0-test at c.in-Ok-eq0.ensures.wrote));
  interrupted = λ is. (let no : ⊥ = cc in absurd no);
  goes = λ h first l going. going_still first c.args.at c.args.bytes.now c.args.done _ _ _ _ (rest_is c.args.done c.args.bytes.now) l (omega (arith, c.requires.unfinished)) going (c.write_at.ensures.writes h going.reaches);
  told = λ h first l going size reads tells. tells_next size reads first c.args.at c.args.bytes.now c.args.done _ _ _ (rest_is c.args.done c.args.bytes.now) l (omega (arith, c.requires.unfinished)) going (c.write_at.ensures.told h going.reaches size reads tells);
  honest = c.write_at.ensures.honest;
  tells = c.write_at.ensures.tells;
}

pub returns-in-Ok : goal.returns-in-Ok
returns-in-Ok g c =
    let most : c.args.done + c.in-Ok.moved ≤ length c.args.bytes.now = omega (arith, c.in-Ok.ensures.bound, length-drop c.args.done c.args.bytes.now, c.requires.unfinished) in
    record {
      next = (omega arith, most);
      taken = λ first before. takes_more g.F.ByteFile.wrote first c.args.file.now c.write_at.new.self c.args.at c.args.done _ c.args.bytes.now _ _ (rest_is c.args.done c.args.bytes.now) refl before c.in-Ok.ensures.wrote;
      fails = tt;
      interrupted = tt;
      goes = λ h first l going. going_on first c.args.at c.args.bytes.now c.args.done c.in-Ok.moved _ _ _ (rest_is c.args.done c.args.bytes.now) l most going (c.in-Ok.ensures.writes h going.reaches);
      told = λ h first l going size reads tells. tells_next size reads first c.args.at c.args.bytes.now c.args.done _ _ _ (rest_is c.args.done c.args.bytes.now) l (omega (arith, c.requires.unfinished)) going (c.write_at.ensures.told h going.reaches size reads tells);
      honest = c.write_at.ensures.honest;
      tells = c.write_at.ensures.tells;
    }

pub returns-in-Err : goal.returns-in-Err
returns-in-Err g c = record {
  next = tt;
  taken = λ first before. takes_more g.F.ByteFile.wrote first c.args.file.now c.write_at.new.self c.args.at c.args.done _ c.args.bytes.now _ _ (rest_is c.args.done c.args.bytes.now) refl before c.in-Err.ensures.wrote;
  fails = inl (c.args.file.now, _, _, c.in-Err.ensures.wrote);
  interrupted = λ is. (_, _, rw is at c.in-Err.ensures.wrote);
  goes = λ h first l going. going_still first c.args.at c.args.bytes.now c.args.done _ _ _ _ (rest_is c.args.done c.args.bytes.now) l (omega (arith, c.requires.unfinished)) going (c.write_at.ensures.writes h going.reaches);
  told = λ h first l going size reads tells. tells_next size reads first c.args.at c.args.bytes.now c.args.done _ _ _ (rest_is c.args.done c.args.bytes.now) l (omega (arith, c.requires.unfinished)) going (c.write_at.ensures.told h going.reaches size reads tells);
  honest = c.write_at.ensures.honest;
  tells = c.write_at.ensures.tells;
}
