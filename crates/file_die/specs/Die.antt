-- A DIE OVER A STORE: what its bus shows, and what a cycle comes to.
use Rattle.std.specs.Prelude.{◌≡◌, ◌≢◌, ◌⊎◌, ◌≤◌, ◌/◌, ℕ, Bool, true, false, List, length, slice_set, if◌then◌else◌, Option, Some, Result, OnOk, OnErr, IfErr, is_ok}
use Rattle.page_layout.specs.declared.geometry.Geometry.{Geometry}
use Rattle.page_layout.specs.Geometry.{page_bytes}
use Rattle.page_layout.specs.Page.{Page}
use Rattle.page_layout.specs.Flash.{Flash, NextState, IsWhole, may_program, may_erase}
use Rattle.page_layout.specs.Counter.{counted, HasRisen}
use Rattle.onfi_cycles.specs.Cycles.{Cycle, DieState, Phase, Due, due_of, Moves, Resets, Programs, Erases, Refuses, Follows, IsCounted, IsUncounted, Ready, NoOutput, page_of, given_up, status_of}
use Rattle.onfi_cycles.specs.declared.nand.BusFault.{BusFault}
use Rattle.onfi_cycles.specs.declared.nand.BusFault.TheVariants.{Device}
use Rattle.nand_die.specs.declared.bus_state.BusState.{BusState}
use Rattle.nand_die.specs.declared.bus_state.BusState.TheVariants as stands
use Rattle.nand_die.specs.declared.bus_state.OutputSource.TheVariants as source
use Rattle.nand_die.specs.declared.change.NextPage.{NextPage}
use Rattle.nand_die.specs.BusState.{IsWithin}
use Rattle.file_die.specs.declared.die.SyncWhen.{SyncWhen}
use Rattle.file_die.specs.declared.die.SyncWhen.TheVariants as sync
use Rattle.file_die.specs.Store.{Held, AreImages, Puts, Clears, page_in}

-- its store; the next page of each block, and how many programs and erases were not due; where it stands, its page register, its status byte; when
-- it syncs
pub record FileState (S : Type 0) : Type 0 where
  pub store : S
  pub next_pages : List NextState
  pub abuse : ℕ
  pub phase : Phase
  pub register : List ℕ
  pub status : ℕ
  pub sync_when : SyncWhen

-- its flash: the pages are the store's
abbrev pub flash_over : Held → List NextState → ℕ → Flash
flash_over s next_pages abuse = record { geometry = s.geometry; image = s.pages; next_pages = next_pages; abuse = abuse }

-- what its bus shows
abbrev pub shown : {S : Type 0} → (S → Held) → FileState S → DieState
shown held d = record { flash = flash_over (held d.store) d.next_pages d.abuse; phase = d.phase; status = d.status }

-- what is true of its parts. The buffer holds the page of a row, or none; while a page is put out it is that page
pub record AreParts (s : Held) (honest : Bool) (g : Geometry) (register buffer : List ℕ) (buffered : Option ℕ) (next_pages : List NextPage) (state : BusState) : Type 0 where
  pub same : s.geometry ≡ g
  pub images : honest ≡ true → AreImages s
  pub register_whole : length register ≡ page_bytes g
  pub buffer_whole : length buffer ≡ page_bytes g
  pub next_pages_whole : length next_pages ≡ g.blocks
  pub within : IsWithin g state
  pub holds : honest ≡ true → (row : ℕ) → buffered ≡ Some row → page_of g buffer ≡ page_in s.pages row
  pub put_out : (row column : ℕ) → state ≡ stands.Ready (source.Page row column) → buffered ≡ Some row

-- what is true of a die between two cycles
pub record IsFit {S : Type 0} (held : S → Held) (honest : S → Bool) (d : FileState S) : Type 0 where
  pub images : honest d.store ≡ true → AreImages (held d.store)
  pub blocks : length d.next_pages ≡ (held d.store).geometry.blocks

-- the die with this store
abbrev pub die_with_store : {S : Type 0} → S → FileState S → FileState S
die_with_store store d = record { store = store; next_pages = d.next_pages; abuse = d.abuse; phase = d.phase; register = d.register; status = d.status; sync_when = d.sync_when }

-- the same, its unfinished command given up
abbrev pub idle : {S : Type 0} → S → FileState S → FileState S
idle store d = record { store = store; next_pages = d.next_pages; abuse = d.abuse; phase = given_up d.phase; register = d.register; status = d.status; sync_when = d.sync_when }

-- the die after a program or an erase of a block, which then has this next page; one that was not due is abuse
abbrev pub change_ended : {S : Type 0} → ℕ → NextState → Bool → Bool → FileState S → FileState S
change_ended block next_page legal passed d = record {
  store = d.store;
  next_pages = slice_set d.next_pages block next_page;
  abuse = if legal then d.abuse else counted d.abuse;
  phase = Ready NoOutput;
  register = d.register;
  status = status_of passed;
  sync_when = d.sync_when;
}

-- whether it syncs after each program, and not about erases alone
abbrev pub syncs_always : SyncWhen → Bool
syncs_always sync.Always = true
syncs_always sync.Erases = false

-- ---- what becomes of the pages

-- A PROGRAM IN A STORE, done or failed: the page is put at its row. Where each program is synced and this one was done, all pages last
pub record ProgramsIn (s : Held) (row : ℕ) (page : Page) (sync_when : SyncWhen) (done : Bool) (t : Held) : Type 0 where
  pub puts : Puts s row page done t
  pub synced : sync_when ≡ sync.Always → done ≡ true → t.durable ≡ t.pages

-- AN ERASE IN A STORE, done or failed: the block is cleared between two syncs. Either no page was changed, or the pages of all other blocks
-- last, as what was copied out of this one; and where it was done all pages last, so that none of its old ones does
pub record ErasesInStore (s : Held) (block : ℕ) (done : Bool) (t : Held) : Type 0 where
  pub clears : Clears s block done t
  pub before : (t.pages ≡ s.pages) ⊎ ((row : ℕ) → row / s.geometry.pages ≢ block → page_in t.durable row ≡ page_in s.pages row)
  pub after : done ≡ true → t.durable ≡ t.pages

-- a change where it is due, and else nothing
abbrev pub IfDue : Bool → Type 0 → Type 0 → Type 0
IfDue true change none = change
IfDue false change none = none

-- WHAT A CYCLE DOES TO THE STORE, by what was due: a program or an erase that its block's next page allows is one in the store, and nothing else
-- changes a page or what lasts
abbrev pub Leaves : Due → Flash → SyncWhen → Held → Bool → Held → Type 0
Leaves (Programs row page) flash sync_when s done t = IfDue (may_program flash row) (ProgramsIn s row page sync_when done t) (t ≡ s)
Leaves (Erases block) flash sync_when s done t = IfDue (may_erase flash block) (ErasesInStore s block done t) (t ≡ s)
Leaves (Moves phase) flash sync_when s done t = t ≡ s
Leaves Resets flash sync_when s done t = t ≡ s
Leaves (Refuses fault) flash sync_when s done t = t ≡ s

-- ---- a cycle

-- CALLS OF THE STORE, done or failed: a failure is the device's fault, and counted
pub record Asks {S : Type 0} (held : S → Held) (honest : S → Bool) (failed : S → ℕ) (old new : S) (result : Result (Unit {0}) BusFault) : Type 0 where
  pub geometry : (held new).geometry ≡ (held old).geometry
  pub as_honest : honest new ≡ honest old
  pub rising : failed old ≤ failed new
  pub settled : OnOk result (failed new ≡ failed old)
  pub rose : OnErr result (HasRisen (failed old) (failed new))
  pub device : IfErr result (λ fault. fault ≡ Device)

-- WHAT A CYCLE COMES TO, by what was due. Over an honest store it is a step of the protocol, and the store has what that leaves. Over any
-- store the device's faults are the store's failures: one comes just where a call of the store failed, and is counted
pub record ActsOverStore {S : Type 0} (held : S → Held) (honest : S → Bool) (failed : S → ℕ) (due : Due) (old new : FileState S) (result : Result (Unit {0}) BusFault) : Type 0 where
  pub follows : honest old.store ≡ true → Follows due (shown held old) (shown held new) result
  pub leaves : honest old.store ≡ true → Leaves due (shown held old).flash old.sync_when (held old.store) (is_ok result) (held new.store)
  pub whole : honest old.store ≡ true → IsWhole (shown held new).flash
  pub geometry : (held new.store).geometry ≡ (held old.store).geometry
  pub sync_when : new.sync_when ≡ old.sync_when
  pub as_honest : honest new.store ≡ honest old.store
  pub rising : failed old.store ≤ failed new.store
  pub rose : IfErr result (IsCounted (failed old.store) (failed new.store))
  pub settled : OnOk result (failed new.store ≡ failed old.store)
  pub uncounted : IfErr result (IsUncounted (failed old.store) (failed new.store))

-- so of a cycle, by its bus's own word of it, `called`
abbrev pub ActsOnCycle : {S : Type 0} → (S → Held) → (honest : S → Bool) → (failed : S → ℕ) → FileState S → Cycle → Result (Unit {0}) BusFault → List ℕ → FileState S → Type 0
ActsOnCycle held honest failed old cycle answer out new = ActsOverStore held honest failed (due_of (held old.store).geometry old.phase cycle) old new answer
