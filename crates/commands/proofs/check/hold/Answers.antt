use Rattle.std.proofs.Common.{Err, IfErr, OnOk, Result, ap, subst, sym}
use Rattle.commands.specs.declared.text.CommandFault.{CommandFault}
use Rattle.commands.specs.Check.{IsHeldAs, IsUnheld}
use Rattle.commands.proofs.CheckLemmas.{differs_as, held_of, told_unheld}
use Rattle.commands.proofs.check.hold.Goals as goal
use Rattle.commands.proofs.check.hold.Goals.{in-Ok, in-Err}

pub returns-clause-ok : goal.returns-clause-ok
returns-clause-ok g c =
    let asked = c.args.asked.now in
    let known = g.R.Read.remaining c.args.image.now in
    let claim = c.args.certificate.now in
    let P : Result (Unit {0}) CommandFault → Type 0 = λ r. OnOk r (IsHeldAs asked.geometry asked.capacity known claim) in
    elim c.match-check_stream.branch [
      | in-Ok w ↦ subst P (sym w.result-is) (held_of asked.geometry asked.capacity known claim w.in-Ok.field-0 w.in-Ok.ensures.accepted.1 w.in-Ok.ensures.whole w.in-Ok.ensures.ok)
      | in-Err w ↦ subst P (sym w.result-is) tt
    ]

pub returns-clause-fault : goal.returns-clause-fault
returns-clause-fault g c =
    let asked = c.args.asked.now in
    let known = g.R.Read.remaining c.args.image.now in
    let claim = c.args.certificate.now in
    let P : Result (Unit {0}) CommandFault → Type 0 = λ r. IfErr r (IsUnheld asked.geometry asked.capacity c.args.path.now known claim) in
    elim c.match-check_stream.branch [
      | in-Ok w ↦ subst P (sym w.result-is) tt
      | in-Err w ↦ let differs = differs_as asked.geometry asked.capacity claim w.in-Err.refusal (λ e. w.in-Err.ensures.asked.0 (ap Err e)) (λ other. let same = w.in-Err.ensures.asked.1 other in cc) in
          subst P (sym w.result-is) (told_unheld asked.geometry asked.capacity c.args.path.now known claim w.in-Err.refusal w.told.result w.told.ensures differs w.in-Err.ensures.err)
    ]
