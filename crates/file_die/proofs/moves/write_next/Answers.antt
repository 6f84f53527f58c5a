use Rattle.std.proofs.Common.{◌∙◌, arith, refl}
use Rattle.file_die.specs.Bytes.{NoCall, WriteInterrupted, over}
use Rattle.file_die.proofs.BytesLemmas.{is_patient, one_more_call, tells_on}
use Rattle.file_die.proofs.moves.write_next.Goals as goal

pub loop-tries-init : goal.loop-tries-init
loop-tries-init g c = record {
  taken = λ first before. before;
  tried = NoCall c.args.file.now;
  honest = refl;
  tells = λ size reads. refl;
  going = λ h first l going. going;
  told = λ h first l going size reads tells since told. told;
}

pub loop-tries-preserved : goal.loop-tries-preserved
loop-tries-preserved g c =
    let was = c.loop-tries.invariant in
    let made = c.in-Err-Interrupted.ensures in
    record {
      taken = λ first before. made.taken first (was.taken first before);
      tried = one_more_call (WriteInterrupted g.F.ByteFile.wrote) c.loop-tries._tries _ c.loop-tries.file c.write_once.new.file refl was.tried (made.interrupted c.in-Err-Interrupted.field-0-is);
      honest = made.honest ∙ was.honest;
      tells = λ size reads. made.tells size reads ∙ was.tells size reads;
      going = λ h first l going. made.goes (was.honest ∙ h) first l (was.going h first l going);
      told = λ h first l going size reads tells.
          tells_on size reads (over c.args.at c.args.bytes.now first.bytes) (g.F.ByteFile.held c.args.file.now) (g.F.ByteFile.held c.loop-tries.file) (g.F.ByteFile.held c.write_once.new.file)
          (was.told h first l going size reads tells) (made.told (was.honest ∙ h) first l (was.going h first l going) size reads (was.tells size reads ∙ tells));
    }

pub returns : goal.returns
returns g c =
    let was = c.loop-tries.invariant in
    let made = c.write_once-2.ensures in
    let left = c.write_once-2.new.file in
    let held = g.F.ByteFile.held in
    record {
      next = made.next;
      taken = λ first before. made.taken first (was.taken first before);
      fails = made.fails;
      patient = is_patient (WriteInterrupted g.F.ByteFile.wrote) c.loop-tries._tries c.loop-tries.file left c.write_once-2.result (omega (arith, c.loop-tries-test.false, c.loop-tries.auto._tries-end)) was.tried made.interrupted;
      goes = λ h first l going. made.goes (was.honest ∙ h) first l (was.going h first l going);
      told = λ h first l going size reads tells.
          tells_on size reads (over c.args.at c.args.bytes.now first.bytes) (held c.args.file.now) (held c.loop-tries.file) (held left)
          (was.told h first l going size reads tells) (made.told (was.honest ∙ h) first l (was.going h first l going) size reads (was.tells size reads ∙ tells));
      honest = made.honest ∙ was.honest;
      tells = λ size reads. made.tells size reads ∙ was.tells size reads;
    }
