use Rattle.std.proofs.Common.{◌≡◌, ◌∙◌, ap, subst, sym, ℕ, List, Result, length, take, arith, refl}
use Rattle.std.proofs.Math.Seq.{take-length}
use Rattle.std.proofs.lemmas.Result.{err_from_is_err_and}
use Rattle.file_die.specs.declared.bytes.ByteFault.{ByteFault}
use Rattle.file_die.specs.Bytes.{Bytes, Gives, HasEnded, NoRead}
use Rattle.file_die.specs.Rows.{IsFilled}
use Rattle.file_die.proofs.moves.read_all.Goals as goal

gives_all : {F : Type 0} (gave : F → ℕ → ℕ → Result (List ℕ) ByteFault → F → Type 0) (first new : F) (at done : ℕ) (to : List ℕ) → done ≡ length to → Gives gave first at (take done to) new → Gives gave first at to new
gives_all gave first new at done to e gives = subst (λ xs. Gives gave first at xs new) (ap (λ n. take n to) e ∙ take-length to) gives

ended_long : {F : Type 0} (gave : F → ℕ → ℕ → Result (List ℕ) ByteFault → F → Type 0) (first new : F) (at n m : ℕ) (why : ByteFault) → n ≡ m → HasEnded gave first at n why new → HasEnded gave first at m why new
ended_long gave first new at n m why e ended = subst (λ k. HasEnded gave first at k why new) e ended

pub loop-done-init : goal.loop-done-init
loop-done-init g c = record {
  long = refl;
  most = omega arith;
  honest = refl;
  tells = λ size reads. refl;
  gave = NoRead;
  same = λ h. refl;
  reads = λ h i lt. absurd (omega (arith, lt));
}

pub loop-done-preserved : goal.loop-done-preserved
loop-done-preserved g c =
    let was = c.loop-done.invariant in
    let made = c.in_ok-done.ensures in
    record {
      long = c.read_next.auto.to ∙ was.long;
      most = omega (arith, made.next.1, was.long);
      honest = made.honest ∙ was.honest;
      tells = λ size reads. made.tells size reads ∙ was.tells size reads;
      gave = made.gave c.args.file.now was.gave;
      same = λ h. made.same (was.honest ∙ h) ∙ was.same h;
      reads = λ h. subst (λ (s : Bytes). IsFilled s.bytes c.args.at c.in_ok-done.done c.read_next.new.to) (was.same h)
          (made.reads (was.honest ∙ h) (subst (λ (s : Bytes). IsFilled s.bytes c.args.at c.loop-done.done c.loop-done.to) (sym (was.same h)) (was.reads h)));
    }

pub returns-in_err-done : goal.returns-in_err-done
returns-in_err-done g c =
    let was = c.loop-done.invariant in
    let made = c.in_err-done.ensures in
    let p = err_from_is_err_and c.from_residual.result c.from_residual.ensures.1 in
    rw (p.1, p.2) (record {
      gave = λ d. (let no : ⊥ = cc in absurd no);
      ended = ended_long g.F.ByteFile.gave c.args.file.now _ c.args.at _ _ _ was.long (made.ended c.args.file.now was.gave);
      patient = made.patient;
      reads = λ d. (let no : ⊥ = cc in absurd no);
      same = λ h. made.same (was.honest ∙ h) ∙ was.same h;
      honest = made.honest ∙ was.honest;
      tells = λ size reads. made.tells size reads ∙ was.tells size reads;
    })

pub returns : goal.returns
returns g c =
    let was = c.loop-done.invariant in
    record {
      gave = λ d. gives_all g.F.ByteFile.gave c.args.file.now c.loop-done.file c.args.at c.loop-done.done c.loop-done.to (omega (arith, c.loop-done-test.false, was.most, was.long)) was.gave;
      ended = tt;
      patient = tt;
      reads = λ d h. subst (λ n. IsFilled (g.F.ByteFile.held c.args.file.now).bytes c.args.at n c.loop-done.to) (let all : c.loop-done.done ≡ length c.args.to.now = omega (arith, c.loop-done-test.false, was.most, was.long) in all) (was.reads h);
      same = was.same;
      honest = was.honest;
      tells = was.tells;
    }
