use Rattle.std.proofs.Common.{◌++◌, [], refl, Ok, Err}
use Rattle.onfi_cycles.proofs.Calling.{reads_so}
use Rattle.onfi_cycles.proofs.driver.DriverPageSource.read_page.Goals as goal

pub returns-in-Ok-clause-called : goal.returns-in-Ok-clause-called
returns-in-Ok-clause-called g c =
    let body_whole = rw (← c.self.view_is) at c.requires.body_whole in
    let spare_whole = rw (← c.self.view_is) at c.requires.spare_whole in
    rw (← c.self.view_is) (reads_so _ _ _ _ (c.fetch_page.new.body ++ c.fetch_page.new.spare) (Ok c.in-Ok.field-0) (rw (← c.self.view_is) at c.requires.row_in) (rw (← body_whole, ← spare_whole) c.in-Ok.ensures.sends) refl refl)

pub returns-in-Err-clause-called : goal.returns-in-Err-clause-called
returns-in-Err-clause-called g c =
    let body_whole = rw (← c.self.view_is) at c.requires.body_whole in
    let spare_whole = rw (← c.self.view_is) at c.requires.spare_whole in
    rw (← c.self.view_is) (reads_so _ _ _ _ [] (Err record { 0 = c.number.result }) (rw (← c.self.view_is) at c.requires.row_in) (rw (← body_whole, ← spare_whole) (c.in-Err.fault, c.number.ensures, c.in-Err.ensures.sends)) refl refl)

pub returns-in-Ok-clause-spells : goal.returns-in-Ok-clause-spells
returns-in-Ok-clause-spells g c =
    let body_whole = rw (← c.self.view_is) at c.requires.body_whole in
    let spare_whole = rw (← c.self.view_is) at c.requires.spare_whole in
    rw (← c.self.view_is) (λ h.
    let taken = (c.in-Ok.ensures.did h (c.self.invariant h).1).spells in
    rw (← body_whole, ← spare_whole) taken)

pub returns-in-Err-clause-spells : goal.returns-in-Err-clause-spells
returns-in-Err-clause-spells g c =
    let body_whole = rw (← c.self.view_is) at c.requires.body_whole in
    let spare_whole = rw (← c.self.view_is) at c.requires.spare_whole in
    rw (← c.self.view_is) (λ h.
    let fails = (c.in-Err.ensures.did h (c.self.invariant h).1).spells in
    (c.in-Err.fault, c.number.ensures, rw (← body_whole, ← spare_whole) fails))
