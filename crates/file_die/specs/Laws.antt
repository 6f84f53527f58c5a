-- What the clauses of a store come to, over any calls.
use Rattle.std.specs.Prelude.{◌≡◌, ◌≢◌, ◌<◌, ◌/◌, ℕ, Bool, true, List, [], ◌∷◌}
use Rattle.page_layout.specs.declared.geometry.Geometry.{Geometry}
use Rattle.page_layout.specs.Geometry.{row_count}
use Rattle.page_layout.specs.Page.{Page}
use Rattle.page_layout.specs.Change.{erased_page}
use Rattle.file_die.specs.Store.{Held, AreImages, page_in, Loads, Puts, Clears, Syncs}

-- a call of a store, with the page that it gave or was given
pub data Call : Type 0 where
  Load : (row : ℕ) (page : Page) → Call
  Put : (row : ℕ) (page : Page) → Call
  Clear : (block : ℕ) → Call
  Sync : Call

-- what the contract says of it
abbrev pub StoreDoes : Held → Call → Bool → Held → Type 0
StoreDoes s (Load row page) done t = Loads s row page done t
StoreDoes s (Put row page) done t = Puts s row page done t
StoreDoes s (Clear block) done t = Clears s block done t
StoreDoes s Sync done t = Syncs s done t

-- ONE CALL OF AN HONEST STORE, done or failed
pub record CallsStore (s : Held) (call : Call) (done : Bool) (t : Held) : Type 0 where
  pub does : StoreDoes s call done t
  pub geometry : t.geometry ≡ s.geometry

-- calls one after another, done or failed
abbrev pub StoreRun : Held → List Call → Held → Type 0
StoreRun s [] t = t ≡ s
StoreRun s (call ∷ calls) t = (mid : Held) × (done : Bool) × CallsStore s call done mid × StoreRun mid calls t

-- the call neither puts at the row nor clears its block
abbrev pub Spares : Geometry → ℕ → Call → Type 0
Spares g row (Load r page) = Unit {0}
Spares g row (Put r page) = row ≢ r
Spares g row (Clear block) = row / g.pages ≢ block
Spares g row Sync = Unit {0}

-- none of them does
abbrev pub SpareAll : Geometry → ℕ → List Call → Type 0
SpareAll g row [] = Unit {0}
SpareAll g row (call ∷ calls) = Spares g row call × SpareAll g row calls

-- ---- laws

-- a row that no call puts at or clears holds what it held
abbrev pub StaysLaw : Type 0
StaysLaw = (s t : Held) (calls : List Call) (row : ℕ) → StoreRun s calls t → SpareAll s.geometry row calls → page_in t.pages row ≡ page_in s.pages row

-- what was put is what a load gives, until the row is put at again or cleared, whatever is done or fails between
abbrev pub PutIsLoadedLaw : Type 0
PutIsLoadedLaw = (s t u v : Held) (calls : List Call) (row : ℕ) (page given : Page) → AreImages s → row < row_count s.geometry
    → CallsStore s (Put row page) true t → StoreRun t calls u → SpareAll s.geometry row calls → CallsStore u (Load row given) true v → given ≡ page

-- the same of a block that was cleared: each of its rows is loaded erased
abbrev pub ClearedLaw : Type 0
ClearedLaw = (s t u v : Held) (calls : List Call) (row block : ℕ) (given : Page) → AreImages s → block < s.geometry.blocks → row / s.geometry.pages ≡ block
    → CallsStore s (Clear block) true t → StoreRun t calls u → SpareAll s.geometry row calls → CallsStore u (Load row given) true v → given ≡ erased_page s.geometry

-- a load, done or failed, changes nothing
abbrev pub LoadLaw : Type 0
LoadLaw = (s t : Held) (row : ℕ) (page : Page) (done : Bool) → CallsStore s (Load row page) done t → t ≡ s

-- after a sync what lasts is what is held, and of a row that no later call puts at or clears it goes on to last, whatever is done or fails
abbrev pub SyncLaw : Type 0
SyncLaw = (s t u : Held) (calls : List Call) (row : ℕ) → CallsStore s Sync true t → StoreRun t calls u → SpareAll s.geometry row calls
    → (t.durable ≡ s.pages) × (page_in u.durable row ≡ page_in s.pages row)

-- a store of images of the die stays one
abbrev pub WholeLaw : Type 0
WholeLaw = (s t : Held) (calls : List Call) → AreImages s → StoreRun s calls t → AreImages t
