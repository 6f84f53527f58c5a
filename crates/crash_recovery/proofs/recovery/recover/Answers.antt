use Rattle.std.proofs.Common.{◌∙◌, inl, sym, subst}
use Rattle.image_check.specs.Agrees.{Agrees}
use Rattle.file_die.specs.Store.{Held}
use Rattle.crash_recovery.proofs.CutLemmas.{recovers_end, recovers_some}
use Rattle.crash_recovery.proofs.LookLemmas.{if_ok_all, on_err}
use Rattle.crash_recovery.proofs.recovery.recover.Goals as goal

pub returns-in_err-cut-clause-some : goal.returns-in_err-cut-clause-some
returns-in_err-cut-clause-some g c = on_err c.from_residual.result _ (λ h capacity agrees. inl (c.cut_back.ensures.takes h capacity agrees))

pub returns-clause-recovers : goal.returns-clause-recovers
returns-clause-recovers g c = if_ok_all c.erase_dead.result _ _ _ _ (λ changed erased untouched none h capacity agrees.
    let same = c.in_ok-cut.ensures.uncut h c.if-cut.false in
    let there = subst (λ (s : Held). Agrees s.geometry capacity s.pages c.args.certificate.now) (sym same) agrees in
    let honest = c.cut_back.ensures.honest ∙ h in
    recovers_end c.args.mark _ _ _ changed same (c.in_ok-cut.ensures.none h capacity agrees c.if-cut.false) (erased honest capacity there) (untouched honest) (none honest capacity there))
    c.erase_dead.ensures.erased c.erase_dead.ensures.untouched c.erase_dead.ensures.none

pub returns-clause-some : goal.returns-clause-some
returns-clause-some g c = on_err c.erase_dead.result _ (λ h capacity agrees.
    let same = c.in_ok-cut.ensures.uncut h c.if-cut.false in
    let there = subst (λ (s : Held). Agrees s.geometry capacity s.pages c.args.certificate.now) (sym same) agrees in
    recovers_some c.args.mark _ _ _ same (c.erase_dead.ensures.takes (c.cut_back.ensures.honest ∙ h) capacity there))
