-- The store behind a driver, once the driver was asked for reads alone.
use Rattle.std.specs.Prelude.{IfErr, IsErrAnd}
use Rattle.std.proofs.Common.{◌≡◌, ◌≢◌, ◌<◌, ◌≤◌, ℕ, Bool, true, arith, inl, inr, Result, Err, sym, ap, ◌∙◌, subst, replicate, if◌then◌else◌}
use Rattle.page_layout.specs.declared.geometry.Geometry.{Geometry}
use Rattle.page_layout.specs.Array.{array_of, zeros}
use Rattle.page_layout.specs.Counter.{HasRisen}
use Rattle.page_layout.specs.Flash.{Flash}
use Rattle.page_layout.specs.Page.{Image}
use Rattle.ftl_device.specs.declared.device.Device.{Device}
use Rattle.ftl_device.specs.Calls.{array_in}
use Rattle.disk_server.specs.Disk.{contents_of, holds}
use Rattle.disk_server.specs.Flat.{flat}
use Rattle.onfi_cycles.specs.Driver.{DriverState}
use Rattle.file_die.specs.Store.{Held}
use Rattle.file_die.specs.Die.{FileState}
use Rattle.image_check.specs.declared.refusal.Refusal.{Refusal}
use Rattle.image_check.specs.declared.refusal.Refusal.TheVariants.{Source}
use Rattle.disk_server.specs.declared.opened.OpenStoreFault.{OpenStoreFault}
use Rattle.disk_server.specs.declared.opened.OpenStoreFault.TheVariants as why
use Rattle.disk_server.specs.declared.open.OpenFault.{OpenFault}
use Rattle.disk_server.specs.declared.open.OpenFault.TheVariants.{Refused, Start}
use Rattle.disk_server.specs.Open.{nand_of}
use Rattle.mount.specs.Mounted.{IsMounted, Refuses}
use Rattle.disk_server.proofs.FaultLemmas.{handed_on}
use Rattle.disk_server.specs.Opened.{ComesBack, HasCome, IsUnmounted, IsStoreRefused, IsStoreUnopened, IsUnopenedAt, IsUnstarted, bytes_of, flash_in, is_honest_in, why_of, view_in}

-- a driver that was made over a store
pub record IsOver {S : Type 0} (held : S → Held) (honest : S → Bool) (store : S) (d : DriverState (FileState S)) : Type 0 where
  pub as_honest : is_honest_in honest d ≡ honest store
  pub geometry : d.geometry ≡ (held store).geometry
  pub pages : honest store ≡ true → (flash_in held d).image ≡ (held store).pages

-- what was asked of it was reads, and this store stood behind it then
pub record IsBehind {S : Type 0} (held : S → Held) (honest : S → Bool) (d e : DriverState (FileState S)) (given : S) : Type 0 where
  pub as_honest : is_honest_in honest e ≡ is_honest_in honest d
  pub geometry : (flash_in held e).geometry ≡ (flash_in held d).geometry
  pub store : given ≡ e.bus.store
  pub its : honest e.bus.store ≡ true → (held given).geometry ≡ e.geometry

as_honest_back : {S : Type 0} (held : S → Held) (honest : S → Bool) (store : S) (d e : DriverState (FileState S)) (given : S)
    → IsOver held honest store d → IsBehind held honest d e given → honest given ≡ honest store
as_honest_back held honest store d e given over behind = ap honest behind.store ∙ behind.as_honest ∙ over.as_honest

geometry_back : {S : Type 0} (held : S → Held) (honest : S → Bool) (store : S) (d e : DriverState (FileState S)) (given : S)
    → IsOver held honest store d → IsBehind held honest d e given → honest store ≡ true → (held given).geometry ≡ (held store).geometry
geometry_back held honest store d e given over behind true_is =
    behind.its (behind.as_honest ∙ over.as_honest ∙ true_is) ∙ behind.geometry ∙ over.geometry

pages_back : {S : Type 0} (held : S → Held) (honest : S → Bool) (store : S) (d e : DriverState (FileState S)) (given : S)
    → IsOver held honest store d → IsBehind held honest d e given → honest store ≡ true → flash_in held e ≡ flash_in held d → (held given).pages ≡ (held store).pages
pages_back held honest store d e given over behind true_is same =
    ap (λ s. (held s).pages) behind.store ∙ ap (λ (f : Flash). f.image) same ∙ over.pages true_is

-- it comes back as it was
pub come : {S : Type 0} (held : S → Held) (honest : S → Bool) (store : S) (d e : DriverState (FileState S)) (given : S)
    → IsOver held honest store d → IsBehind held honest d e given → (is_honest_in honest d ≡ true → flash_in held e ≡ flash_in held d) → HasCome held honest store given
come held honest store d e given over behind same = record {
  as_honest = as_honest_back held honest store d e given over behind;
  geometry = λ is. geometry_back held honest store d e given over behind is;
  pages = λ is. pages_back held honest store d e given over behind is (same (over.as_honest ∙ is));
}

pub comes : {S : Type 0} (held : S → Held) (honest : S → Bool) (store : S) (d e : DriverState (FileState S)) (given : S) (fault : OpenStoreFault)
    → IsOver held honest store d → IsBehind held honest d e given
    → (fault ≢ why.Mount Source → is_honest_in honest d ≡ true → flash_in held e ≡ flash_in held d) → ComesBack held honest store fault given
comes held honest store d e given fault over behind same = record {
  as_honest = as_honest_back held honest store d e given over behind;
  geometry = λ is set. geometry_back held honest store d e given over behind is;
  pages = λ is set read. pages_back held honest store d e given over behind is (same read (over.as_honest ∙ is));
}

-- the bytes of a disk that was started over it
pub opened_bytes : {S : Type 0} (held : S → Held) (honest : S → Bool) (failed : S → ℕ) (store : S) (driver : DriverState (FileState S)) (g : Geometry) (d : Device (DriverState (FileState S)))
    → IsOver held honest store driver → g ≡ (held store).geometry → holds (is_honest_in honest) d ≡ is_honest_in honest driver
    → (is_honest_in honest driver ≡ true → array_in (flash_in held) d ≡ array_of g (flash_in held driver).image)
    → honest store ≡ true → (contents_of (view_in held honest failed) d).bytes ≡ bytes_of (held store)
opened_bytes held honest failed store driver g d over same held_is array is =
    let begun = over.as_honest ∙ is in
    ap (λ (b : Bool). flat (if b then array_in (flash_in held) d else replicate d.engine.geometry.sectors (zeros d.engine.geometry))) (held_is ∙ begun)
    ∙ ap flat (array begun)
    ∙ ap (λ (x : Geometry). flat (array_of x (flash_in held driver).image)) same
    ∙ ap (λ (image : Image). flat (array_of (held store).geometry image)) (over.pages is)

-- the store of a die that was not mounted, or on which no device was started
pub unopened_come : {S : Type 0} (held : S → Held) (honest : S → Bool) (failed : S → ℕ) (store : S) (d : DriverState (FileState S)) (g : Geometry) (capacity : ℕ) (fault : OpenFault (DriverState (FileState S))) (given : S)
    → IsOver held honest store d → IsBehind held honest d (nand_of fault) given → IsUnmounted (view_in held honest failed) d g capacity fault → ComesBack held honest store (why_of fault) given
unopened_come held honest failed store d g capacity (Refused refusal e) given over behind unmounted =
    comes held honest store d e given (why.Mount refusal) over behind (λ other is. unmounted.same (λ source. other (ap why.Mount source)) is)
unopened_come held honest failed store d g capacity (Start e) given over behind unmounted =
    comes held honest store d e given why.OutOfMemory over behind (λ other is. unmounted.same is)

-- a count that rose is some
pub risen_some : (old new most : ℕ) → HasRisen old new → new ≤ most → 0 < most
risen_some old new most (inl rose) within = omega (arith, rose, within)
risen_some old new most (inr greatest) within = omega (arith, greatest, within)

pub refused_so : {S : Type 0} (held : S → Held) (honest : S → Bool) (failed : S → ℕ) (store : S) (d e : DriverState (FileState S)) (capacity : ℕ) (given : S) (refusal : Refusal)
    → IsOver held honest store d → honest e.bus.store ≡ is_honest_in honest d → (honest e.bus.store ≡ true → e.failures ≤ failed given)
    → (is_honest_in honest d ≡ true → Refuses (held store).geometry capacity (flash_in held d).image refusal) → (refusal ≡ Source → HasRisen d.failures e.failures)
    → IsStoreRefused held honest failed store capacity given refusal
refused_so held honest failed store d e capacity given refusal over same counts refuses rose = record {
  refuses = λ is. subst (λ image. Refuses (held store).geometry capacity image refusal) (over.pages is) (refuses (over.as_honest ∙ is));
  counted = λ read is. risen_some d.failures e.failures (failed given) (rose read) (counts (same ∙ over.as_honest ∙ is));
}

pub unopened_so : {S : Type 0} (held : S → Held) (honest : S → Bool) (failed : S → ℕ) (store : S) (d : DriverState (FileState S)) (capacity share : ℕ) (fault : OpenFault (DriverState (FileState S))) (given : S)
    → IsOver held honest store d → honest (nand_of fault).bus.store ≡ is_honest_in honest d → (honest (nand_of fault).bus.store ≡ true → (nand_of fault).failures ≤ failed given)
    → IsUnmounted (view_in held honest failed) d (held store).geometry capacity fault → IsUnstarted held honest failed store capacity share given (why_of fault)
unopened_so held honest failed store d capacity share (Refused refusal e) given over same counts unmounted =
    refused_so held honest failed store d e capacity given refusal over same counts unmounted.refuses unmounted.rose
unopened_so held honest failed store d capacity share (Start e) given over same counts unmounted = inr (
  unmounted.certificate,
  λ is. subst (λ image. IsMounted (held store).geometry capacity image unmounted.certificate) (over.pages is) (unmounted.mounted (over.as_honest ∙ is)),
)

-- what kept a store from being a die is told as it is
pub before : {S : Type 0} (held : S → Held) (honest : S → Bool) (failed : S → ℕ) (store : S) (capacity : ℕ) (given : S) (fault : OpenStoreFault)
    → IsUnopenedAt held honest failed store given fault → IsStoreUnopened held honest failed store capacity given fault
before held honest failed store capacity given why.OutOfMemory is = is
before held honest failed store capacity given why.Device is = is
before held honest failed store capacity given why.Reset is = is
before held honest failed store capacity given why.Flush is = absurd is
before held honest failed store capacity given why.Share is = absurd is
before held honest failed store capacity given (why.Mount refusal) is = absurd is

-- and so where it is handed on
pub unbegun : {S T : Type 0} (held : S → Held) (honest : S → Bool) (failed : S → ℕ) (store : S) (capacity : ℕ) (r : Result T (S × OpenStoreFault)) (told : S × OpenStoreFault) → IsErrAnd r (λ e. e ≡ told)
    → IsUnopenedAt held honest failed store told.0 told.1 → IfErr r (λ e. IsStoreUnopened held honest failed store capacity e.0 e.1)
unbegun held honest failed store capacity r told is unopened = handed_on (λ e. IsStoreUnopened held honest failed store capacity e.0 e.1) r told is (before held honest failed store capacity told.0 told.1 unopened)

-- the same where a device was to be started
before_start : {S : Type 0} (held : S → Held) (honest : S → Bool) (failed : S → ℕ) (store : S) (capacity share : ℕ) (given : S) (fault : OpenStoreFault)
    → IsUnopenedAt held honest failed store given fault → IsUnstarted held honest failed store capacity share given fault
before_start held honest failed store capacity share given why.OutOfMemory is = inl is
before_start held honest failed store capacity share given why.Device is = is
before_start held honest failed store capacity share given why.Reset is = is
before_start held honest failed store capacity share given why.Flush is = absurd is
before_start held honest failed store capacity share given why.Share is = absurd is
before_start held honest failed store capacity share given (why.Mount refusal) is = absurd is

pub unstarted : {S T : Type 0} (held : S → Held) (honest : S → Bool) (failed : S → ℕ) (store : S) (capacity share : ℕ) (r : Result T (S × OpenStoreFault)) (told : S × OpenStoreFault) → IsErrAnd r (λ e. e ≡ told)
    → IsUnopenedAt held honest failed store told.0 told.1 → IfErr r (λ e. IsUnstarted held honest failed store capacity share e.0 e.1)
unstarted held honest failed store capacity share r told is unopened =
    handed_on (λ e. IsUnstarted held honest failed store capacity share e.0 e.1) r told is (before_start held honest failed store capacity share told.0 told.1 unopened)

-- another refusal than that a page could not be read
pub another : {A : Type 0} (answer : Result A Refusal) (refusal : Refusal) → answer ≡ Err refusal → why.Mount refusal ≢ why.Mount Source → answer ≢ Err Source
another answer refusal is other source = let both : Err refusal ≡ Err Source = sym is ∙ source in other (cc)
