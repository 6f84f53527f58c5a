-- Reset, and the flash behind a driver.
use Rattle.std.proofs.Common.{◌≡◌, refl, sym, ap, subst, Option}
use Rattle.page_layout.specs.declared.geometry.Geometry.{Geometry}
use Rattle.page_layout.specs.Flash.{Flash}
use Rattle.onfi_cycles.specs.Cycles.{DieState, Phase, Ready, NoOutput, Resets, command_due, Does, FailsBy}
use Rattle.onfi_cycles.specs.Driver.{seen}
use Rattle.page_layout.specs.Recording.{Recording}
use Rattle.onfi_cycles.specs.Recorded.{Notes}
use Rattle.onfi_cycles.specs.declared.nand.BusFault.{BusFault}
use Rattle.onfi_cycles.specs.declared.nand.BusFault.TheVariants.{Device}
use Rattle.onfi_cycles.proofs.Leads.{due_fails}

-- Reset is always due
resets : (s : Geometry) (p : Phase) → command_due s p 0xFF ≡ Resets
unfolding command_due
resets s p = refl

pub reset_does : (a b : DieState) → Does (command_due a.flash.geometry a.phase 0xFF) a b → b ≡ record { flash = a.flash; phase = Ready NoOutput; status = 0xE0 }
reset_does a b d = subst (λ x. Does x a b) (resets a.flash.geometry a.phase) d

pub reset_fails : (a b : DieState) (fault : BusFault) → FailsBy (command_due a.flash.geometry a.phase 0xFF) a b fault → fault ≡ Device
reset_fails a b fault h = (due_fails Resets a b fault tt (subst (λ x. FailsBy x a b fault) (resets a.flash.geometry a.phase) h)).0

pub seen_is : (g : Geometry) (s : Flash) → s.geometry ≡ g → seen g s ≡ s
seen_is g s e = ap (λ h. seen h s) (sym e)

-- Reset leaves the record
pub reset_noted : (a b : DieState) (told told' : Option Recording) → Notes (command_due a.flash.geometry a.phase 0xFF) told b told' → told' ≡ told
reset_noted a b told told' n = subst (λ d. Notes d told b told') (resets a.flash.geometry a.phase) n
