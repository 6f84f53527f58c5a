-- WHAT A LOSS OF POWER LEAVES OF A DISK IN A STORE.
use Rattle.std.specs.Prelude.{◌≡◌, ◌⊎◌, ◌<◌, ◌+◌, ◌*◌, ℕ, List, length, slice_range, Some}
use Rattle.page_layout.specs.declared.record.Key.TheVariants.{Sector}
use Rattle.page_layout.specs.Newest.{newest}
use Rattle.page_layout.specs.Array.{marks, content_at, HasOneArray}
use Rattle.file_die.specs.declared.die.SyncWhen.{SyncWhen}
use Rattle.file_die.specs.Store.{Held, AreImages}
use Rattle.file_die.specs.DieLaws.{StoreCycle, GoesAdding}
use Rattle.image_laws.specs.Power.{LosesPower, IsPageSince}
use Rattle.disk_server.specs.Opened.{bytes_of}

-- SINCE A SYNC THE CYCLES OF A DIE ONLY ADDED PAGES: all pages of a whole store lasted, each cycle since then, done or failed, erased nothing
-- and programmed no page where one had a record, and the pages that are there now hold one array
pub record HasAdded (sync_when : SyncWhen) (synced : Held) (cycles : List StoreCycle) (t : Held) : Type 0 where
  pub images : AreImages synced
  pub lasted : synced.durable ≡ synced.pages
  pub goes : GoesAdding sync_when synced cycles t
  pub one : HasOneArray synced.geometry t.pages

-- the store that is found if the power goes now, between two cycles
abbrev pub found_of : Held → Held
found_of t = record { geometry = t.geometry; pages = t.durable; durable = t.durable }

-- the bytes of a sector of the disk of a store
abbrev pub sector_bytes : Held → ℕ → List ℕ
sector_bytes s n = slice_range (bytes_of s) (n * s.geometry.data_bytes) (n * s.geometry.data_bytes + s.geometry.data_bytes)

-- THE DISK THAT IS FOUND has the size that it had. Each sector has the bytes that it had at the sync, or those of a page of it that was
-- programmed since; and the former where no newer page of it was programmed
pub record FindsDisk (synced t found : Held) : Type 0 where
  pub images : AreImages found
  pub one : HasOneArray found.geometry found.pages
  pub size : length (bytes_of found) ≡ length (bytes_of synced)
  pub sector : (n : ℕ) → n < synced.geometry.sectors
      → (sector_bytes found n ≡ sector_bytes synced n) ⊎ ((row : ℕ) × IsPageSince synced.pages t.pages (Sector n) row × (sector_bytes found n ≡ content_at synced.geometry t.pages (Some row)))
  pub unwritten : (n : ℕ) → n < synced.geometry.sectors → newest (marks t.pages) (Sector n) ≡ newest (marks synced.pages) (Sector n) → sector_bytes found n ≡ sector_bytes synced n

-- ---- laws

-- its pages are what a loss of power leaves of images
abbrev pub LeavesLaw : Type 0
LeavesLaw = (sync_when : SyncWhen) (synced t : Held) (cycles : List StoreCycle) → HasAdded sync_when synced cycles t → LosesPower synced.geometry synced.pages t.pages (found_of t).pages

abbrev pub FoundLaw : Type 0
FoundLaw = (sync_when : SyncWhen) (synced t : Held) (cycles : List StoreCycle) → HasAdded sync_when synced cycles t → FindsDisk synced t (found_of t)
