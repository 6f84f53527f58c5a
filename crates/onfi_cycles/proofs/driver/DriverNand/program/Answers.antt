use Rattle.std.proofs.Common.{◌∙◌, refl, Ok, Err}
use Rattle.page_layout.specs.Flash.{Program, page_at}
use Rattle.page_layout.specs.Page.{page}
use Rattle.onfi_cycles.specs.Outcomes.{is_passed}
use Rattle.onfi_cycles.proofs.Calling.{programs_so}
use Rattle.onfi_cycles.proofs.Stepping.{seen_steps}
use Rattle.onfi_cycles.proofs.driver.DriverNand.program.Goals as goal

pub returns-in-Ok-clause-called : goal.returns-in-Ok-clause-called
returns-in-Ok-clause-called g c =
    rw (← c.self.view_is) (programs_so _ _ _ _ _ _ _ (Ok c.in-Ok.outcome) (rw (← c.self.view_is) at c.requires.row_in) (rw (← c.self.view_is) at c.requires.body_whole) (rw (← c.self.view_is) at c.requires.spare_whole) c.in-Ok.ensures.sends
    (λ h. seen_steps _ _ _ (λ s. Program c.args.row (page c.args.body.now c.args.spare.now) (is_passed c.in-Ok.outcome) (page_at s c.args.row))
    (c.self.invariant h).0 (c.program_page.ensures.geometry h ∙ (c.self.invariant h).0) (c.in-Ok.ensures.did h (c.self.invariant h).1).step)
    c.of-history.ensures refl)

pub returns-in-Err-clause-called : goal.returns-in-Err-clause-called
returns-in-Err-clause-called g c =
    rw (← c.self.view_is) (programs_so _ _ _ _ _ _ _ (Err c.in-Err.fault) (rw (← c.self.view_is) at c.requires.row_in) (rw (← c.self.view_is) at c.requires.body_whole) (rw (← c.self.view_is) at c.requires.spare_whole) c.in-Err.ensures.sends
    tt c.of-history-in-Err.ensures refl)

pub returns-in-Ok-clause-spells : goal.returns-in-Ok-clause-spells
returns-in-Ok-clause-spells g c = rw (← c.self.view_is) (λ h. (c.in-Ok.ensures.did h (c.self.invariant h).1).spells)

pub returns-in-Err-clause-spells : goal.returns-in-Err-clause-spells
returns-in-Err-clause-spells g c = rw (← c.self.view_is) (λ h. (c.in-Err.ensures.did h (c.self.invariant h).1).spells)
