-- A DISK AS IT IS OPENED, and why there is none.
use Rattle.std.specs.Prelude.{◌≡◌, ◌≢◌, ◌⊎◌, ◌<◌, ℕ, Bool, true, List, [], Option, Some}
use Rattle.page_layout.specs.View.{View}
use Rattle.page_layout.specs.declared.geometry.Geometry.{Geometry}
use Rattle.page_layout.specs.Array.{array_of}
use Rattle.page_layout.specs.Geometry.{IsShare}
use Rattle.page_layout.specs.Counter.{HasRisen}
use Rattle.page_layout.specs.Flash.{Flash}
use Rattle.page_layout.specs.Recording.{Recording}
use Rattle.onfi_cycles.specs.Called.{driver_called}
use Rattle.onfi_cycles.specs.Driver.{DriverState, flash_by}
use Rattle.file_die.specs.Store.{Held}
use Rattle.nand_die.specs.Made.{first_next_pages, next_in}
use Rattle.file_die.specs.declared.die.SyncWhen.{SyncWhen}
use Rattle.file_die.specs.Die.{ActsOnCycle, FileState, flash_over, shown, syncs_always}
use Rattle.disk_server.specs.Flat.{flat}
use Rattle.certificate.specs.Claim.{Claim}
use Rattle.image_check.specs.declared.refusal.Refusal.{Refusal}
use Rattle.image_check.specs.declared.refusal.Refusal.TheVariants.{Source}
use Rattle.mount.specs.Mounted.{IsMounted, Refuses}
use Rattle.disk_server.specs.declared.open.OpenFault.{OpenFault}
use Rattle.disk_server.specs.declared.open.OpenFault.TheVariants.{Refused, Start}
use Rattle.disk_server.specs.declared.opened.OpenStoreFault.{OpenStoreFault}
use Rattle.disk_server.specs.declared.opened.OpenStoreFault.TheVariants as why

-- the image was not mounted: of an honest die for what is so of it, and it is as it was unless a read failed. That one did was counted
pub record IsMountRefused {N : Type 0} (view : View N) (nand : N) (g : Geometry) (capacity : ℕ) (why : Refusal) (given : N) : Type 0 where
  pub refuses : view.honest nand ≡ true → Refuses g capacity (view.flash nand).image why
  pub same : why ≢ Source → view.honest nand ≡ true → view.flash given ≡ view.flash nand
  pub rose : why ≡ Source → HasRisen (view.failed nand) (view.failed given)

-- it has a certificate, and is as it was, but no memory was left to start a device
pub record IsMountedUnstarted {N : Type 0} (view : View N) (nand : N) (g : Geometry) (capacity : ℕ) (given : N) : Type 0 where
  pub certificate : Claim
  pub mounted : view.honest nand ≡ true → IsMounted g capacity (view.flash nand).image certificate
  pub same : view.honest nand ≡ true → view.flash given ≡ view.flash nand

abbrev pub IsUnmounted : {N : Type 0} → (view : View N) → N → Geometry → (capacity : ℕ) → OpenFault N → Type 0
IsUnmounted view nand g capacity (Refused why given) = IsMountRefused view nand g capacity why given
IsUnmounted view nand g capacity (Start given) = IsMountedUnstarted view nand g capacity given

-- how that is told of a store
abbrev pub why_of : {N : Type 0} → OpenFault N → OpenStoreFault
why_of (Refused refusal given) = why.Mount refusal
why_of (Start given) = why.OutOfMemory

-- ---- over a store

-- what the driver of a die over a store shows, and whether it is honest
abbrev pub flash_in : {S : Type 0} → (S → Held) → DriverState (FileState S) → Flash
flash_in held d = flash_by (shown held) d

abbrev pub is_honest_in : {S : Type 0} → (S → Bool) → DriverState (FileState S) → Bool
is_honest_in honest d = honest d.bus.store

-- what it tells of what it did
abbrev pub recorded_in : {S : Type 0} → DriverState (FileState S) → Option Recording
recorded_in d = Some d.told

-- whether its die syncs the store after each program: no call of a die changes it
abbrev pub always_in : {S : Type 0} → DriverState (FileState S) → Bool
always_in d = syncs_always d.bus.sync_when

-- all of that, with what it counts, and a call of it: the cycles that it sends, each as its die answers it
abbrev pub view_in : {S : Type 0} → (S → Held) → (honest : S → Bool) → (failed : S → ℕ) → View (DriverState (FileState S))
view_in held honest failed = record {
  flash = flash_in held;
  recorded = recorded_in;
  honest = is_honest_in honest;
  calm = always_in;
  reads = λ d. d.reads;
  programs = λ d. d.programs;
  erases = λ d. d.erases;
  failed = λ d. d.failures;
  called = driver_called (shown held) (λ d. honest d.store) (ActsOnCycle held honest failed);
}

-- it syncs as it was to
abbrev pub SyncsWhen : {S : Type 0} → SyncWhen → DriverState (FileState S) → Type 0
SyncsWhen sync_when d = d.bus.sync_when ≡ sync_when

-- THE DISK OF A STORE: the bytes of the array that its pages hold, one sector behind another
abbrev pub bytes_of : Held → List ℕ
bytes_of s = flat (array_of s.geometry s.pages)

-- the flash of its die as it is opened: the next pages of the blocks are what the pages say
abbrev pub flash_as_opened : Held → Flash
flash_as_opened s = flash_over s (first_next_pages s.geometry (next_in s.geometry s.pages) []) 0

-- ---- why there is none

-- A STORE THAT COMES BACK, as honest as it was: of an honest one the geometry and the pages are the same
pub record HasCome {S : Type 0} (held : S → Held) (honest : S → Bool) (store given : S) : Type 0 where
  pub as_honest : honest given ≡ honest store
  pub geometry : honest store ≡ true → (held given).geometry ≡ (held store).geometry
  pub pages : honest store ≡ true → (held given).pages ≡ (held store).pages

-- so after this fault, but that nothing is known of the pages where a page could not be read, or the die took no reset
pub record ComesBack {S : Type 0} (held : S → Held) (honest : S → Bool) (store : S) (fault : OpenStoreFault) (given : S) : Type 0 where
  pub as_honest : honest given ≡ honest store
  pub geometry : honest store ≡ true → fault ≢ why.Reset → (held given).geometry ≡ (held store).geometry
  pub pages : honest store ≡ true → fault ≢ why.Reset → fault ≢ why.Mount Source → (held given).pages ≡ (held store).pages

-- whatever the store is, before it was mounted: a growth was refused, and no load failed; or one failed, and was counted. No honest one refuses a reset uncounted
abbrev pub IsUnopenedAt : {S : Type 0} → (S → Held) → (honest : S → Bool) → (failed : S → ℕ) → S → S → OpenStoreFault → Type 0
IsUnopenedAt held honest failed store given why.OutOfMemory = failed given ≡ failed store
IsUnopenedAt held honest failed store given why.Device = HasRisen (failed store) (failed given)
IsUnopenedAt held honest failed store given why.Reset = honest store ≡ true → HasRisen (failed store) (failed given)
IsUnopenedAt held honest failed store given why.Flush = ⊥
IsUnopenedAt held honest failed store given why.Share = ⊥
IsUnopenedAt held honest failed store given (why.Mount refusal) = ⊥

-- its pages were not mounted: of an honest store for what is so of them; and where a page could not be read it has counted a failure
pub record IsStoreRefused {S : Type 0} (held : S → Held) (honest : S → Bool) (failed : S → ℕ) (store : S) (capacity : ℕ) (given : S) (why : Refusal) : Type 0 where
  pub refuses : honest store ≡ true → Refuses (held store).geometry capacity (held store).pages why
  pub counted : why ≡ Source → honest store ≡ true → 0 < failed given

-- and after: it was not mounted
abbrev pub IsStoreUnopened : {S : Type 0} → (S → Held) → (honest : S → Bool) → (failed : S → ℕ) → S → (capacity : ℕ) → S → OpenStoreFault → Type 0
IsStoreUnopened held honest failed store capacity given (why.Mount refusal) = IsStoreRefused held honest failed store capacity given refusal
IsStoreUnopened held honest failed store capacity given fault = IsUnopenedAt held honest failed store given fault

-- its pages have a certificate: it was mounted
abbrev pub WasMounted : {S : Type 0} → (S → Held) → (honest : S → Bool) → S → (capacity : ℕ) → Type 0
WasMounted held honest store capacity = (certificate : Claim) × (honest store ≡ true → IsMounted (held store).geometry capacity (held store).pages certificate)

-- and where a device was to be started on it: its geometry has no such share; or a growth was refused, before it was mounted and no load had failed, or once it was mounted
abbrev pub IsUnstarted : {S : Type 0} → (S → Held) → (honest : S → Bool) → (failed : S → ℕ) → S → (capacity share : ℕ) → S → OpenStoreFault → Type 0
IsUnstarted held honest failed store capacity share given why.Share = (¬ IsShare (held store).geometry share) × (given ≡ store)
IsUnstarted held honest failed store capacity share given why.OutOfMemory = (failed given ≡ failed store) ⊎ WasMounted held honest store capacity
IsUnstarted held honest failed store capacity share given fault = IsStoreUnopened held honest failed store capacity given fault
