use Rattle.std.proofs.Common.{◌∙◌, ◌<◌, ◌≤◌, IfOk, arith, refl, subst, sym}
use Rattle.std.proofs.lemmas.Result.{IfErr-weaker}
use Rattle.file_die.specs.Bytes.{Bytes, HasEnded, NoCall, ReadInterrupted}
use Rattle.file_die.specs.Rows.{IsFilled, moved_by}
use Rattle.file_die.proofs.BytesLemmas.{is_patient, one_more_call}
use Rattle.file_die.proofs.moves.read_next.Goals as goal

pub loop-tries-init : goal.loop-tries-init
loop-tries-init g c = record {
  long = refl;
  tried = NoCall c.args.file.now;
  honest = refl;
  tells = λ size reads. refl;
  gave = λ first before. before;
  same = λ h. refl;
  reads = λ h before. before;
}

pub loop-tries-preserved : goal.loop-tries-preserved
loop-tries-preserved g c =
    let was = c.loop-tries.invariant in
    let made = c.in-Err-Interrupted.ensures in
    record {
      tried = one_more_call (ReadInterrupted g.F.ByteFile.gave) c.loop-tries._tries _ c.loop-tries.file c.read_once.new.file refl was.tried (made.interrupted c.in-Err-Interrupted.field-0-is);
      long = c.read_once.auto.to ∙ was.long;
      honest = made.honest ∙ was.honest;
      tells = λ size reads. made.tells size reads ∙ was.tells size reads;
      gave = λ first before. made.gave first (was.gave first before);
      same = λ h. made.same (was.honest ∙ h) ∙ was.same h;
      reads = λ h before. subst (λ (s : Bytes). IsFilled s.bytes c.args.at c.args.done c.read_once.new.to) (was.same h)
          (made.reads (was.honest ∙ h) (subst (λ (s : Bytes). IsFilled s.bytes c.args.at c.args.done c.loop-tries.to) (sym (was.same h)) (was.reads h before)));
    }

pub returns : goal.returns
returns g c =
    let was = c.loop-tries.invariant in
    let made = c.read_once-2.ensures in
    let left = c.read_once-2.new.file in
    let answer = c.read_once-2.result in
    let gave = g.F.ByteFile.gave in
    record {
      next = subst (λ n. IfOk answer (λ next. (c.args.done < next) × (next ≤ n))) was.long made.next;
      gave = λ first before. made.gave first (was.gave first before);
      ended = IfErr-weaker answer _ _ (λ why told first before. subst (λ n. HasEnded gave first c.args.at n why left) was.long (told first (was.gave first before))) made.ended;
      patient = is_patient (ReadInterrupted gave) c.loop-tries._tries c.loop-tries.file left answer (omega (arith, c.loop-tries-test.false, c.loop-tries.auto._tries-end)) was.tried made.interrupted;
      reads = λ h before. subst (λ (s : Bytes). IsFilled s.bytes c.args.at (moved_by c.args.done answer) c.read_once-2.new.to) (was.same h)
          (made.reads (was.honest ∙ h) (subst (λ (s : Bytes). IsFilled s.bytes c.args.at c.args.done c.loop-tries.to) (sym (was.same h)) (was.reads h before)));
      same = λ h. made.same (was.honest ∙ h) ∙ was.same h;
      honest = made.honest ∙ was.honest;
      tells = λ size reads. made.tells size reads ∙ was.tells size reads;
    }
