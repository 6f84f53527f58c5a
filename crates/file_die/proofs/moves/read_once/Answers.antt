use Rattle.std.proofs.Common.{arith, inl, inr, refl, length-drop}
use Rattle.file_die.proofs.BytesLemmas.{ended_here, gives_more, gives_still, filled_more, filled_still}
use Rattle.file_die.proofs.moves.read_once.Goals as goal

pub returns-in-Ok-eq0 : goal.returns-in-Ok-eq0
returns-in-Ok-eq0 g c =
    let none = rw c.in-Ok-eq0.field-0-test at c.in-Ok-eq0.ensures.gave in
    record {
      next = tt;
      gave = λ first before. gives_still g.F.ByteFile.gave first c.args.file.now c.read_at.new.self c.args.at c.args.done _ _ c.args.to.now c.read_at.new.to _ refl (omega (arith, c.requires.unfinished)) before none;
      ended = λ first before. ended_here g.F.ByteFile.gave first c.args.file.now c.read_at.new.self c.args.at c.args.done _ _ c.args.to.now c.requires.unfinished (omega (arith, length-drop c.args.done c.args.to.now)) before (inr (refl, none));
      interrupted = λ is. (let no : ⊥ = cc in absurd no);
      reads = λ h before. filled_still _ c.args.at c.args.done c.args.to.now c.read_at.new.to _ (omega (arith, c.requires.unfinished)) before;
      same = λ h. (c.read_at.ensures.reads h).same;
      honest = c.read_at.ensures.honest;
      tells = c.read_at.ensures.tells;
    }

pub returns-in-Ok : goal.returns-in-Ok
returns-in-Ok g c = record {
  next = (omega arith, omega (arith, c.in-Ok.ensures.bound, c.read_at.auto.to, length-drop c.args.done c.args.to.now, c.requires.unfinished));
  gave = λ first before. gives_more g.F.ByteFile.gave first c.args.file.now c.read_at.new.self c.args.at c.args.done c.in-Ok.moved _ c.args.to.now c.read_at.new.to _ (omega (arith, c.requires.unfinished)) c.in-Ok.ensures.bound before c.in-Ok.ensures.gave;
  ended = tt;
  interrupted = tt;
  reads = λ h before. filled_more _ c.args.at c.args.done c.in-Ok.moved c.args.to.now c.read_at.new.to _ (omega (arith, c.requires.unfinished)) c.in-Ok.ensures.bound before (c.in-Ok.ensures.reads h).gave;
  same = λ h. (c.in-Ok.ensures.reads h).same;
  honest = c.read_at.ensures.honest;
  tells = c.read_at.ensures.tells;
}

pub returns-in-Err : goal.returns-in-Err
returns-in-Err g c = record {
  next = tt;
  gave = λ first before. gives_still g.F.ByteFile.gave first c.args.file.now c.read_at.new.self c.args.at c.args.done _ _ c.args.to.now c.read_at.new.to _ refl (omega (arith, c.requires.unfinished)) before c.in-Err.ensures.gave;
  ended = λ first before. ended_here g.F.ByteFile.gave first c.args.file.now c.read_at.new.self c.args.at c.args.done _ _ c.args.to.now c.requires.unfinished (omega (arith, length-drop c.args.done c.args.to.now)) before (inl c.in-Err.ensures.gave);
  interrupted = λ is. (_, _, rw is at c.in-Err.ensures.gave);
  reads = λ h before. filled_still _ c.args.at c.args.done c.args.to.now c.read_at.new.to _ (omega (arith, c.requires.unfinished)) before;
  same = λ h. (c.in-Err.ensures.reads h).same;
  honest = c.read_at.ensures.honest;
  tells = c.read_at.ensures.tells;
}
