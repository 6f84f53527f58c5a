-- WHAT A CALL OF A DISK COMES TO OVER ANY DIE, and by which number.
use Rattle.std.specs.Prelude.{◌≡◌, ◌≢◌, ◌⊎◌, ◌≤◌, ◌+◌, ℕ, true, List, length, Some, None, Result, Ok, Err}
use Rattle.page_layout.specs.View.{View}
use Rattle.page_layout.specs.declared.geometry.Geometry.{Geometry}
use Rattle.page_layout.specs.Geometry.{need, row_count}
use Rattle.page_layout.specs.Array.{array_of}
use Rattle.page_layout.specs.Counter.{HasRisen}
use Rattle.page_layout.specs.OnlyReads.{OnlyReads}
use Rattle.certificate.specs.Claim.{Claim}
use Rattle.certificate.specs.Spelling as spelling
use Rattle.image_check.specs.Agrees.{IsAsked}
use Rattle.image_check.specs.declared.refusal.Refusal.{Refusal}
use Rattle.image_check.specs.declared.refusal.Refusal.TheVariants.{Source}
use Rattle.mount.specs.Formatted.{Answers, Formats}
use Rattle.mount.specs.Mounted.{IsMounted, IsOfMounting, Refuses}
use Rattle.mount.specs.declared.format_fault.FormatFault.{FormatFault}
use Rattle.mount.specs.declared.format_fault.FormatFault.TheVariants.{Bus}
use Rattle.ftl_device.specs.declared.device.Device.{Device}
use Rattle.ftl_device.specs.Calls.{array_in}
use Rattle.device_slot.specs.declared.power.PowerFault.{PowerFault}
use Rattle.device_slot.specs.Begun.{IsDeviceBegun}
use Rattle.device_slot.specs.Power.{HasTriedStart, IsBrought, IsCertificateUnaccepted, IsStarted, IsUnsettled, look_reads, unpowered_nand}
use Rattle.device_slot.specs.Slot.{SlotState}
use Rattle.ftl_disk.specs.Measures.{certificate_length}
use Rattle.ftl_disk.specs.Numbers.{of_formatting, of_power, of_refusal}

-- A FORMAT: its number is that of what the format answered, which an honest die shows, and a failed bus was counted
pub record FormatsBy {N : Type 0} (view : View N) (g : Geometry) (old : N) (number : ℕ) (new : N) : Type 0 where
  pub result : Result ℕ FormatFault
  pub number_is : number ≡ of_formatting result
  pub formats : view.honest old ≡ true → Formats g (need g) (view.flash old) (view.flash new) result
  pub answers : Answers g (need g) (view.programs old) (view.programs new) result
  pub rose : result ≡ Err Bus → HasRisen (view.failed old) (view.failed new)

-- the device that was brought stands in the slot; or the number is that of why there is none, the way is left with the die that came back, and the slot is as it was
abbrev pub IsPutInSlot : {N W : Type 0} → (leaves : W → N → W → Type 0) → Result (Device N) (PowerFault N) → (way : W) → (was : SlotState N) → (number : ℕ) → (way' : W) → (is : SlotState N) → Type 0
IsPutInSlot leaves (Ok device) way was number way' is = (number ≡ 0) × (way' ≡ way) × (is ≡ record { device = Some device; shortage = None })
IsPutInSlot leaves (Err fault) way was number way' is = (number ≡ of_power fault) × leaves way (unpowered_nand fault) way' × (is ≡ was)

-- A DEVICE STANDS IN THE SLOT, which power brought over the die: by one look, or after one flush
pub record IsPutBy {N : Type 0} (view : View N) (g : Geometry) (cache : ℕ) (die : N) (slot : SlotState N) : Type 0 where
  pub device : Device N
  pub stands : slot ≡ record { device = Some device; shortage = None }
  pub brings : IsBrought view die g cache device
  pub started : IsStarted view die g cache device

-- NO DEVICE WAS BROUGHT: the number is that of why, and the way is left with the die, of which no more was asked than such a start asks
pub record IsUnstartedBy {N W : Type 0} (view : View N) (leaves : W → N → W → Type 0) (g : Geometry) (cache : ℕ) (die : N) (number : ℕ) (way way' : W) : Type 0 where
  pub fault : PowerFault N
  pub number_is : number ≡ of_power fault
  pub unsettled : IsUnsettled view die g cache fault
  pub tried : HasTriedStart view g 2 die (unpowered_nand fault)
  pub left : leaves way (unpowered_nand fault) way'

-- A START over a die: the one, and the way stays; or the other, and then the slot is as it was
abbrev pub StartsBy : {N W : Type 0} → View N → (leaves : W → N → W → Type 0) → Geometry → (cache : ℕ) → N → W → SlotState N → (number : ℕ) → W → SlotState N → Type 0
StartsBy view leaves g cache die way was number way' is =
    ((number ≡ 0) × (way' ≡ way) × IsPutBy view g cache die is) ⊎ ((is ≡ was) × IsUnstartedBy view leaves g cache die number way way')

-- a look by a certificate: the die was asked for reads alone, each page at most once
pub record IsReadOnce {N : Type 0} (view : View N) (g : Geometry) (old new : N) : Type 0 where
  pub only_reads : OnlyReads view old new
  pub most_reads : view.reads new ≤ view.reads old + row_count g

-- A DEVICE WAS BROUGHT BY A CERTIFICATE: of an honest die it holds the array that the image holds, and nothing was written
pub record IsBroughtBy {N : Type 0} (view : View N) (die : N) (g : Geometry) (cache : ℕ) (d : Device N) : Type 0 where
  pub begun : IsDeviceBegun view d
  pub sized : d.engine.geometry ≡ g
  pub cache_is : d.engine.mapping.capacity ≡ cache
  pub array : view.honest die ≡ true → array_in view.flash d ≡ array_of g (view.flash die).image
  pub pages : view.honest die ≡ true → view.flash d.engine.nand ≡ view.flash die
  pub checked : IsReadOnce view g die d.engine.nand

pub record IsPutByClaim {N : Type 0} (view : View N) (g : Geometry) (cache : ℕ) (die : N) (slot : SlotState N) : Type 0 where
  pub device : Device N
  pub stands : slot ≡ record { device = Some device; shortage = None }
  pub brings : IsBroughtBy view die g cache device

-- nor by a certificate
pub record IsUncheckedBy {N W : Type 0} (view : View N) (leaves : W → N → W → Type 0) (g : Geometry) (cache : ℕ) (c : Claim) (die : N) (number : ℕ) (way way' : W) : Type 0 where
  pub fault : PowerFault N
  pub number_is : number ≡ of_power fault
  pub unaccepted : IsCertificateUnaccepted view die g cache c fault
  pub checked : IsReadOnce view g die (unpowered_nand fault)
  pub left : leaves way (unpowered_nand fault) way'

abbrev pub StartsByClaim : {N W : Type 0} → View N → (leaves : W → N → W → Type 0) → Geometry → (cache : ℕ) → Claim → N → W → SlotState N → (number : ℕ) → W → SlotState N → Type 0
StartsByClaim view leaves g cache c die way was number way' is =
    ((number ≡ 0) × (way' ≡ way) × IsPutByClaim view g cache die is) ⊎ ((is ≡ was) × IsUncheckedBy view leaves g cache c die number way way')

-- a look at a die: it was asked for reads alone, no more than one look asks for
pub record IsDieLookedAt {N : Type 0} (view : View N) (g : Geometry) (old new : N) : Type 0 where
  pub only_reads : OnlyReads view old new
  pub most_reads : view.reads new ≤ view.reads old + look_reads g

-- THE BYTES OF THE CERTIFICATE of what a die holds, as many as one of its geometry has: of an honest one it agrees with the image, and leaves no sequence out
pub record IsCertifiedBy {N : Type 0} (view : View N) (g : Geometry) (cache : ℕ) (die : N) (bytes : List ℕ) : Type 0 where
  pub claim : Claim
  pub fits : spelling.Fits claim
  pub spelled : bytes ≡ spelling.certificate_bytes claim
  pub sized : length bytes ≡ certificate_length g
  pub asked : IsAsked g cache claim
  pub mounted : view.honest die ≡ true → IsMounted g cache (view.flash die).image claim

-- the pages were refused: of an honest die for what is so of them, and a read that failed was counted
pub record IsRefusedBy {N : Type 0} (view : View N) (g : Geometry) (cache : ℕ) (die : N) (number : ℕ) (given : N) : Type 0 where
  pub why : Refusal
  pub number_is : number ≡ of_refusal why
  pub only : IsOfMounting why
  pub refuses : view.honest die ≡ true → Refuses g cache (view.flash die).image why
  pub rose : why ≡ Source → HasRisen (view.failed die) (view.failed given)

-- THERE IS NO CERTIFICATE: for that, or memory was refused
abbrev pub IsUncertifiedBy : {N : Type 0} → View N → Geometry → (cache : ℕ) → N → (number : ℕ) → N → Type 0
IsUncertifiedBy view g cache die number given = (number ≡ 4) ⊎ IsRefusedBy view g cache die number given

-- A CERTIFICATE IS MADE over a die by one look, or the number says why not, and the bytes stay: 18 where they are not as many
pub record CertifiesBy {N : Type 0} (view : View N) (g : Geometry) (cache : ℕ) (die : N) (given : List ℕ) (number : ℕ) (out : List ℕ) (after : N) : Type 0 where
  pub kept : number ≢ 0 → out ≡ given
  pub why : number ≢ 0 → ((number ≡ 18) × (length given ≢ certificate_length g)) ⊎ IsUncertifiedBy view g cache die number after
  pub made : number ≡ 0 → IsCertifiedBy view g cache die out
  pub looked : IsDieLookedAt view g die after
