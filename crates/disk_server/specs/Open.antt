-- Why there is no disk over a die, and the die that comes back.
use Rattle.std.specs.Prelude.{◌≡◌, ◌≢◌, ℕ, true}
use Rattle.page_layout.specs.View.{View}
use Rattle.page_layout.specs.Counter.{HasRisen}
use Rattle.page_layout.specs.declared.geometry.Geometry.{Geometry}
use Rattle.certificate.specs.Claim.{Claim}
use Rattle.image_check.specs.Agrees.{Agrees}
use Rattle.image_check.specs.Refused.{IsRefusal}
use Rattle.image_check.specs.declared.refusal.Refusal.{Refusal}
use Rattle.image_check.specs.declared.refusal.Refusal.TheVariants.{OutOfMemory, Source}
use Rattle.disk_server.specs.declared.open.OpenFault.{OpenFault}
use Rattle.disk_server.specs.declared.open.OpenFault.TheVariants.{Refused, Start}

abbrev pub nand_of : {N : Type 0} → OpenFault N → N
nand_of (Refused refusal nand) = nand
nand_of (Start nand) = nand

-- the certificate was refused: of an honest die for what is so of its image, which is as it was unless a read failed. That one did was counted, and without memory nothing was asked of the die
pub record IsCertificateRefused {N : Type 0} (view : View N) (nand : N) (g : Geometry) (capacity : ℕ) (c : Claim) (why : Refusal) (given : N) : Type 0 where
  pub refused : view.honest nand ≡ true → IsRefusal g capacity (view.flash nand).image c why
  pub same : why ≢ Source → view.honest nand ≡ true → view.flash given ≡ view.flash nand
  pub rose : why ≡ Source → HasRisen (view.failed nand) (view.failed given)
  pub memory : why ≡ OutOfMemory → given ≡ nand

-- it agrees with the image of an honest die, which is as it was, but no memory was left to start a device
pub record IsCheckedUnstarted {N : Type 0} (view : View N) (nand : N) (g : Geometry) (capacity : ℕ) (c : Claim) (given : N) : Type 0 where
  pub agrees : view.honest nand ≡ true → Agrees g capacity (view.flash nand).image c
  pub same : view.honest nand ≡ true → view.flash given ≡ view.flash nand

abbrev pub IsDeviceUnopened : {N : Type 0} → (view : View N) → N → Geometry → (capacity : ℕ) → Claim → OpenFault N → Type 0
IsDeviceUnopened view nand g capacity c (Refused why given) = IsCertificateRefused view nand g capacity c why given
IsDeviceUnopened view nand g capacity c (Start given) = IsCheckedUnstarted view nand g capacity c given
