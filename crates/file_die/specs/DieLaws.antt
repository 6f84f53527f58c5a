-- What the cycles of a die come to in its store.
use Rattle.std.specs.Prelude.{◌≡◌, ◌≢◌, ◌<◌, ◌/◌, ◌⊎◌, ℕ, Bool, true, false, List, [], ◌∷◌, Some, None}
use Rattle.page_layout.specs.declared.geometry.Geometry.{Geometry}
use Rattle.page_layout.specs.declared.record.Record.{Record}
use Rattle.page_layout.specs.Geometry.{row_count}
use Rattle.page_layout.specs.Page.{Page, Image}
use Rattle.page_layout.specs.Sound.{record_of}
use Rattle.page_layout.specs.Change.{erased_page}
use Rattle.page_layout.specs.Flash.{Flash, may_program, may_erase}
use Rattle.onfi_cycles.specs.Cycles.{Due, Moves, Resets, Programs, Erases, Refuses}
use Rattle.file_die.specs.declared.die.SyncWhen.{SyncWhen}
use Rattle.file_die.specs.declared.die.SyncWhen.TheVariants.{Always}
use Rattle.file_die.specs.Store.{Held, AreImages, MayBeLeft, page_in}
use Rattle.file_die.specs.Die.{Leaves}

-- a cycle: what was due, the die's flash before it, and whether it was done
pub record StoreCycle : Type 0 where
  pub due : Due
  pub flash : Flash
  pub done : Bool

-- what it leaves in the store
pub record TakesStoreCycle (sync_when : SyncWhen) (s : Held) (cycle : StoreCycle) (t : Held) : Type 0 where
  pub leaves : Leaves cycle.due cycle.flash sync_when s cycle.done t
  pub geometry : t.geometry ≡ s.geometry

-- cycles one after another, done or failed
abbrev pub GoesByCycles : SyncWhen → Held → List StoreCycle → Held → Type 0
GoesByCycles sync_when s [] t = t ≡ s
GoesByCycles sync_when s (cycle ∷ cycles) t = (mid : Held) × TakesStoreCycle sync_when s cycle mid × GoesByCycles sync_when mid cycles t

-- each of them was done
abbrev pub AllDone : List StoreCycle → Type 0
AllDone [] = Unit {0}
AllDone (cycle ∷ cycles) = (cycle.done ≡ true) × AllDone cycles

-- what was due is no program of the row and no erase of its block
abbrev pub DueSpares : Geometry → ℕ → Due → Type 0
DueSpares g row (Programs r page) = row ≢ r
DueSpares g row (Erases block) = row / g.pages ≢ block
DueSpares g row (Moves phase) = Unit {0}
DueSpares g row Resets = Unit {0}
DueSpares g row (Refuses fault) = Unit {0}

abbrev pub AllSpare : Geometry → ℕ → List StoreCycle → Type 0
AllSpare g row [] = Unit {0}
AllSpare g row (cycle ∷ cycles) = DueSpares g row cycle.due × AllSpare g row cycles

-- what was due is no erase that its block's next page allows, and a program that is allowed is of a row whose page has no record
abbrev pub AddsAlone : Held → Flash → Due → Type 0
AddsAlone s flash (Programs row page) = may_program flash row ≡ true → record_of (page_in s.pages row) ≡ None
AddsAlone s flash (Erases block) = may_erase flash block ≡ false
AddsAlone s flash (Moves phase) = Unit {0}
AddsAlone s flash Resets = Unit {0}
AddsAlone s flash (Refuses fault) = Unit {0}

-- such cycles one after another, done or failed
abbrev pub GoesAdding : SyncWhen → Held → List StoreCycle → Held → Type 0
GoesAdding sync_when s [] t = t ≡ s
GoesAdding sync_when s (cycle ∷ cycles) t = (mid : Held) × AddsAlone s cycle.flash cycle.due × TakesStoreCycle sync_when s cycle mid × GoesAdding sync_when mid cycles t

-- ---- laws

-- A program lands just on its row. One that is done and was due leaves the page there; one that failed what was there, the page, or one
-- without a sound record; one that was not due changes nothing
pub record Lands (s : Held) (flash : Flash) (row : ℕ) (page : Page) (done : Bool) (t : Held) : Type 0 where
  pub others : (r : ℕ) → r ≢ row → page_in t.pages r ≡ page_in s.pages r
  pub landed : done ≡ true → may_program flash row ≡ true → page_in t.pages row ≡ page
  pub failed : done ≡ false → MayBeLeft (page_in s.pages row ∷ page ∷ []) (page_in t.pages row)
  pub refused : may_program flash row ≡ false → t ≡ s

abbrev pub LandsLaw : Type 0
LandsLaw = (sync_when : SyncWhen) (s t : Held) (flash : Flash) (row : ℕ) (page : Page) (done : Bool) → AreImages s → row < row_count s.geometry
    → TakesStoreCycle sync_when s (record { due = Programs row page; flash = flash; done = done }) t → Lands s flash row page done t

-- an erase changes the pages of its block alone; one that is done and was due leaves them erased, for good; one that was not due changes
-- nothing
pub record Wipes (s : Held) (flash : Flash) (block : ℕ) (done : Bool) (t : Held) : Type 0 where
  pub others : (row : ℕ) → row / s.geometry.pages ≢ block → page_in t.pages row ≡ page_in s.pages row
  pub wiped : done ≡ true → may_erase flash block ≡ true → (row : ℕ) → row / s.geometry.pages ≡ block → (page_in t.pages row ≡ erased_page s.geometry) × (page_in t.durable row ≡ erased_page s.geometry)
  pub refused : may_erase flash block ≡ false → t ≡ s

abbrev pub WipesLaw : Type 0
WipesLaw = (sync_when : SyncWhen) (s t : Held) (flash : Flash) (block : ℕ) (done : Bool) → AreImages s → block < s.geometry.blocks
    → TakesStoreCycle sync_when s (record { due = Erases block; flash = flash; done = done }) t → Wipes s flash block done t

-- what was copied out of a block lasts before the block is erased: where an erase, done or failed, has changed any page, the pages of all
-- other blocks last
abbrev pub CopiesLaw : Type 0
CopiesLaw = (sync_when : SyncWhen) (s t : Held) (flash : Flash) (block : ℕ) (done : Bool) → TakesStoreCycle sync_when s (record { due = Erases block; flash = flash; done = done }) t
    → (row other : ℕ) → page_in t.pages row ≢ page_in s.pages row → other / s.geometry.pages ≢ block → page_in t.durable other ≡ page_in s.pages other

-- where each program is synced and each cycle was done all pages last, if they did at first
abbrev pub AlwaysLaw : Type 0
AlwaysLaw = (s t : Held) (cycles : List StoreCycle) → GoesByCycles Always s cycles t → AllDone cycles → s.durable ≡ s.pages → t.durable ≡ t.pages

-- a row of which no program was due, and of whose block no erase, holds what it held, and that goes on to last where it did, whatever fails
abbrev pub KeepsLaw : Type 0
KeepsLaw = (sync_when : SyncWhen) (s t : Held) (cycles : List StoreCycle) (row : ℕ) → GoesByCycles sync_when s cycles t → AllSpare s.geometry row cycles
    → (page_in t.pages row ≡ page_in s.pages row) × (page_in s.durable row ≡ page_in s.pages row → page_in t.durable row ≡ page_in s.pages row)

-- a store of images of the die stays one of the same die
abbrev pub ImagesLaw : Type 0
ImagesLaw = (sync_when : SyncWhen) (s t : Held) (cycles : List StoreCycle) → GoesByCycles sync_when s cycles t → (t.geometry ≡ s.geometry) × (AreImages s → AreImages t)

-- WHAT IS FOUND IF THE POWER GOES, since these pages were stored: a page that had a record then is as it was; and each row has what it holds
-- now, or a page without a record where it had none then
pub record LastsSince (stored : Image) (t : Held) : Type 0 where
  pub kept : (row : ℕ) (r : Record) → record_of (page_in stored row) ≡ Some r → page_in t.pages row ≡ page_in stored row
  pub found : (row : ℕ) → (page_in t.durable row ≡ page_in t.pages row) ⊎ ((record_of (page_in stored row) ≡ None) × (record_of (page_in t.durable row) ≡ None))

-- so it is as long as cycles add pages alone, from a moment on when all pages last, as after a sync
abbrev pub SinceSyncLaw : Type 0
SinceSyncLaw = (sync_when : SyncWhen) (s t : Held) (cycles : List StoreCycle) → GoesAdding sync_when s cycles t → s.durable ≡ s.pages → LastsSince s.pages t

-- such cycles are cycles
abbrev pub AddingGoesLaw : Type 0
AddingGoesLaw = (sync_when : SyncWhen) (s t : Held) (cycles : List StoreCycle) → GoesAdding sync_when s cycles t → GoesByCycles sync_when s cycles t
