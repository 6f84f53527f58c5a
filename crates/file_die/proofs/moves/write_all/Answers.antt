use Rattle.std.proofs.Common.{◌≡◌, ◌∙◌, ℕ, List, arith, length, refl, subst, false}
use Rattle.std.proofs.lemmas.Result.{err_from_is_err_and}
use Rattle.file_die.specs.Bytes.{Bytes, NoWrite, TakesBytes, over}
use Rattle.file_die.specs.Rows.{Going, WritesAll}
use Rattle.file_die.proofs.BytesLemmas.{going_first, all_written, tells_on}
use Rattle.file_die.proofs.moves.write_all.Goals as goal

part_written : (s : Bytes) (at : ℕ) (given : List ℕ) (done : ℕ) (t : Bytes) → Going s at given done t → WritesAll s at given false t
part_written s at given done t going = record { mixes = going.mixes; written = λ d. (let no : ⊥ = cc in absurd no); lasts = going.lasts; syncs = going.syncs }

pub loop-done-init : goal.loop-done-init
loop-done-init g c = record {
  most = omega arith;
  taken = NoWrite;
  honest = refl;
  tells = λ size reads. refl;
  going = λ h l. going_first _ _ _ l;
  told = λ h l size reads tells since told. told;
}

pub loop-done-preserved : goal.loop-done-preserved
loop-done-preserved g c =
    let held = g.F.ByteFile.held in
    let first = held c.args.file.now in
    let was = c.loop-done.invariant in
    let made = c.in_ok-done.ensures in
    record {
      most = made.next.1;
      taken = made.taken c.args.file.now was.taken;
      honest = made.honest ∙ was.honest;
      tells = λ size reads. made.tells size reads ∙ was.tells size reads;
      going = λ h l. made.goes (was.honest ∙ h) first l (was.going h l);
      told = λ h l size reads tells. tells_on size reads (over c.args.at c.args.bytes.now first.bytes) first (held c.loop-done.file) _ (was.told h l size reads tells)
          (made.told (was.honest ∙ h) first l (was.going h l) size reads (was.tells size reads ∙ tells));
    }

pub returns-in_err-done : goal.returns-in_err-done
returns-in_err-done g c =
    let held = g.F.ByteFile.held in
    let first = held c.args.file.now in
    let was = c.loop-done.invariant in
    let made = c.in_err-done.ensures in
    let p = err_from_is_err_and c.from_residual.result c.from_residual.ensures.1 in
    rw (p.1, p.2) (record {
      taken = λ d. (let no : ⊥ = cc in absurd no);
      stopped = (c.loop-done.done, omega (arith, c.loop-done-test.true), made.taken c.args.file.now was.taken);
      fails = made.fails;
      patient = made.patient;
      writes = λ h l. part_written first c.args.at c.args.bytes.now c.loop-done.done _ (made.goes (was.honest ∙ h) first l (was.going h l));
      told = λ h l size reads tells. tells_on size reads (over c.args.at c.args.bytes.now first.bytes) first (held c.loop-done.file) _ (was.told h l size reads tells)
          (made.told (was.honest ∙ h) first l (was.going h l) size reads (was.tells size reads ∙ tells));
      honest = made.honest ∙ was.honest;
      tells = λ size reads. made.tells size reads ∙ was.tells size reads;
    })

pub returns : goal.returns
returns g c =
    let was = c.loop-done.invariant in
    record {
      honest = was.honest;
      taken = λ d. subst (λ n. TakesBytes g.F.ByteFile.wrote c.args.file.now c.args.at c.args.bytes.now n c.loop-done.file) (let all : c.loop-done.done ≡ length c.args.bytes.now = omega (arith, c.loop-done-test.false, was.most) in all) was.taken;
      stopped = tt;
      fails = tt;
      tells = was.tells;
      patient = tt;
      writes = λ h l. all_written _ c.args.at c.args.bytes.now c.loop-done.done _ l (omega (arith, c.loop-done-test.false)) (was.going h l);
      told = was.told;
    }
