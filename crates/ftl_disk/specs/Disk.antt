-- WHAT LIES AT A HANDLE, and what each call makes of it.
use Rattle.std.specs.Prelude.{◌≡◌, ◌≢◌, ◌⊎◌, ⊤, ℕ, ℤ, Bool, true, false, List, [], length, None, Result, is_some}
use Rattle.page_layout.specs.declared.geometry.Geometry.{Geometry}
use Rattle.promises.specs.Step as step
use Rattle.certificate.specs.Claim.{Claim}
use Rattle.certificate.specs.Spelling as spelling
use Rattle.certificate.specs.declared.fault.CertFault.{CertFault}
use Rattle.certificate.specs.Faults.{IsFirstCertificateFault}
use Rattle.device_slot.specs.declared.slot.CallFault.{CallFault}
use Rattle.device_slot.specs.Calls.{IsSlotCall, ToldCommand, ToldSized}
use Rattle.ftl_disk.specs.Dies.{CertifiesBy, FormatsBy, StartsBy, StartsByClaim}
use Rattle.ftl_disk.specs.Way.{GoesOnce, WayWords}
use Rattle.ftl_disk.specs.Measures.{certificate_length}
use Rattle.ftl_disk.specs.Numbers.{of_call, of_certificate}
use Rattle.ftl_disk.specs.Plans.{IsPlanOf}
use Rattle.ftl_disk.specs.declared.shape.Shape.{Shape}
use Rattle.ftl_disk.specs.declared.disk.FtlDisk.{FtlDisk}
use Rattle.ftl_disk.specs.declared.disk.WayDisk.{WayDisk}
use Rattle.ftl_disk.specs.declared.either.EitherDie.{EitherDie}

-- whether it has a device
abbrev pub is_started : {W : Type 0} → WayDisk W → Bool
is_started d = is_some d.slot.device

-- it is made for the same, with the same way to its die
pub record KeepsPlanAndWay {W : Type 0} (was is : WayDisk W) : Type 0 where
  pub plan : is.plan ≡ was.plan
  pub way : is.way ≡ was.way

-- A DISK THAT IS OPENED: of this shape, over these descriptors, with no device
pub record Opens (s : Shape) (input output : ℤ) (d : FtlDisk) : Type 0 where
  pub plan : IsPlanOf s d.over.plan
  pub input_is : d.over.way.input ≡ input
  pub output_is : d.over.way.output ≡ output
  pub empty : d.over.slot ≡ record { device = None; shortage = None }

-- a call that is for a disk without a device: 17 where it has one, and nothing is done
pub record IsForStopped {W : Type 0} (was : WayDisk W) (number : ℕ) (is : WayDisk W) (Then : Type 0) : Type 0 where
  pub refused : is_started was ≡ true → (number ≡ 17) × (is ≡ was)
  pub does : is_started was ≡ false → Then

-- ---- power. Each call goes its way once, and the number is that of what came of the die that the way led to.

-- a format of that die, with which the way was left
pub record IsFormattedBy {W : Type 0} (w : WayWords W) (g : Geometry) (die : EitherDie W) (number : ℕ) (between is : W) : Type 0 where
  pub after : EitherDie W
  pub formats : FormatsBy w.view g die number after
  pub left : w.calls.leaves between after is

-- A FORMAT leaves the disk with no device
pub record IsFormatting {W : Type 0} (w : WayWords W) (was : WayDisk W) (number : ℕ) (is : WayDisk W) : Type 0 where
  pub plan : is.plan ≡ was.plan
  pub slot : is.slot ≡ was.slot
  pub formats : GoesOnce w was.plan was.way is.way number ⊤ (λ between die. IsFormattedBy w was.plan.geometry die number between is.way)

abbrev pub FormatsDisk : {W : Type 0} → WayWords W → WayDisk W → ℕ → WayDisk W → Type 0
FormatsDisk w was number is = IsForStopped was number is (IsFormatting w was number is)

-- A START: 0 with a device that power brought over the die, of the disk's geometry and with at least its cache; or the number of what kept it from one, and the slot as it was
pub record IsStarting {W : Type 0} (w : WayWords W) (was : WayDisk W) (number : ℕ) (is : WayDisk W) : Type 0 where
  pub plan : is.plan ≡ was.plan
  pub starts : GoesOnce w was.plan was.way is.way number (is.slot ≡ was.slot)
      (λ between die. StartsBy w.view w.calls.leaves was.plan.geometry was.plan.cache die between was.slot number is.way is.slot)

abbrev pub Starts : {W : Type 0} → WayWords W → WayDisk W → ℕ → WayDisk W → Type 0
Starts w was number is = IsForStopped was number is (IsStarting w was number is)

-- the same by this certificate
pub record IsStartingBy {W : Type 0} (w : WayWords W) (was : WayDisk W) (c : Claim) (number : ℕ) (is : WayDisk W) : Type 0 where
  pub plan : is.plan ≡ was.plan
  pub starts : GoesOnce w was.plan was.way is.way number (is.slot ≡ was.slot)
      (λ between die. StartsByClaim w.view w.calls.leaves was.plan.geometry was.plan.cache c die between was.slot number is.way is.slot)

-- the bytes are none of a certificate: the first fault that stands in them
pub record FindsNoCertificate {W : Type 0} (was : WayDisk W) (bytes : List ℕ) (number : ℕ) (is : WayDisk W) : Type 0 where
  pub same : is ≡ was
  pub fault : CertFault
  pub first : IsFirstCertificateFault bytes fault
  pub number_is : number ≡ of_certificate fault

-- they are those of a certificate, by which it starts
pub record StartsByOne {W : Type 0} (w : WayWords W) (was : WayDisk W) (bytes : List ℕ) (number : ℕ) (is : WayDisk W) : Type 0 where
  pub claim : Claim
  pub fits : spelling.Fits claim
  pub spelled : spelling.certificate_bytes claim ≡ bytes
  pub starts : IsStartingBy w was claim number is

-- A START BY A CERTIFICATE, which is held against the die: 18 just where the bytes are not as many as one of this disk has
pub record StartsByBytes {W : Type 0} (w : WayWords W) (was : WayDisk W) (bytes : List ℕ) (number : ℕ) (is : WayDisk W) : Type 0 where
  pub sized : length bytes ≢ certificate_length was.plan.geometry → (number ≡ 18) × (is ≡ was)
  pub starts : length bytes ≡ certificate_length was.plan.geometry → FindsNoCertificate was bytes number is ⊎ StartsByOne w was bytes number is

abbrev pub StartsCertified : {W : Type 0} → WayWords W → WayDisk W → List ℕ → ℕ → WayDisk W → Type 0
StartsCertified w was bytes number is = IsForStopped was number is (StartsByBytes w was bytes number is)

-- the certificate of that die is made, into bytes that may be as many, and the way was left with it
pub record IsCertifyingBy {W : Type 0} (w : WayWords W) (g : Geometry) (cache : ℕ) (die : EitherDie W) (given : List ℕ) (number : ℕ) (out : List ℕ) (between is : W) : Type 0 where
  pub after : EitherDie W
  pub certifies : CertifiesBy w.view g cache die given number out after
  pub left : w.calls.leaves between after is

pub record CertifiesDisk {W : Type 0} (w : WayWords W) (was : WayDisk W) (given : List ℕ) (number : ℕ) (out : List ℕ) (is : WayDisk W) : Type 0 where
  pub plan : is.plan ≡ was.plan
  pub slot : is.slot ≡ was.slot
  pub certifies : GoesOnce w was.plan was.way is.way number (out ≡ given)
      (λ between die. IsCertifyingBy w was.plan.geometry was.plan.cache die given number out between is.way)

-- A CERTIFICATE IS MADE, or the number says why not, and the bytes stay: 18 just where they are not as many as one of this disk has, and then nothing is done
pub record IsCertifying {W : Type 0} (w : WayWords W) (was : WayDisk W) (given : List ℕ) (number : ℕ) (out : List ℕ) (is : WayDisk W) : Type 0 where
  pub sized : length given ≢ certificate_length was.plan.geometry → (number ≡ 18) × (out ≡ given) × (is ≡ was)
  pub certifies : length given ≡ certificate_length was.plan.geometry → CertifiesDisk w was given number out is

abbrev pub Certifies : {W : Type 0} → WayWords W → WayDisk W → (given : List ℕ) → ℕ → (out : List ℕ) → WayDisk W → Type 0
Certifies w was given number out is =
    (is_started was ≡ true → (number ≡ 17) × (is ≡ was) × (out ≡ given)) × (is_started was ≡ false → IsCertifying w was given number out is)

-- A STOP: no device stands there afterwards
pub record StopsDisk {W : Type 0} (was : WayDisk W) (number : ℕ) (is : WayDisk W) : Type 0 where
  pub done : number ≡ 0
  pub same : KeepsPlanAndWay was is
  pub empty : is.slot ≡ record { device = None; shortage = None }

-- ---- calls

-- A CALL OF THE SLOT, and its answer's number
pub record AnswersByNumber {W : Type 0} (was : WayDisk W) (number : ℕ) (is : WayDisk W) (Comes : Result (Unit {0}) CallFault → Type 0) : Type 0 where
  pub answer : Result (Unit {0}) CallFault
  pub calls : Comes answer
  pub number_is : number ≡ of_call answer
  pub same : KeepsPlanAndWay was is

-- the device was told a command without bytes
abbrev pub TellsWithoutBytes : {W : Type 0} → WayWords W → WayDisk W → step.Command → ℕ → WayDisk W → Type 0
TellsWithoutBytes w was command number is = AnswersByNumber was number is (λ answer.
    IsSlotCall was.slot (λ d now. ToldCommand w.view d command [] answer [] now is.slot.shortage) [] answer [] is.slot)

abbrev pub ReadsDiskSector : {W : Type 0} → WayWords W → WayDisk W → (sector : ℕ) → (given : List ℕ) → ℕ → (out : List ℕ) → WayDisk W → Type 0
ReadsDiskSector w was sector given number out is = AnswersByNumber was number is (λ answer.
    IsSlotCall was.slot (λ d now. ToldSized w.view d was.slot.shortage (step.Read sector) (length given) given answer out now is.slot.shortage) given answer out is.slot)

abbrev pub WritesDiskSector : {W : Type 0} → WayWords W → WayDisk W → (sector : ℕ) → (body : List ℕ) → ℕ → WayDisk W → Type 0
WritesDiskSector w was sector body number is = AnswersByNumber was number is (λ answer.
    IsSlotCall was.slot (λ d now. ToldSized w.view d was.slot.shortage (step.Write sector body) (length body) [] answer [] now is.slot.shortage) [] answer [] is.slot)

abbrev pub Trims : {W : Type 0} → WayWords W → WayDisk W → (sector : ℕ) → ℕ → WayDisk W → Type 0
Trims w was sector number is = TellsWithoutBytes w was (step.Trim sector) number is

abbrev pub Flushes : {W : Type 0} → WayWords W → WayDisk W → ℕ → WayDisk W → Type 0
Flushes w was number is = TellsWithoutBytes w was step.Flush number is

abbrev pub Turns : {W : Type 0} → WayWords W → WayDisk W → ℕ → WayDisk W → Type 0
Turns w was number is = TellsWithoutBytes w was step.Turn number is
