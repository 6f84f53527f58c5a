-- PAGES ARE TAKEN AWAY FROM A STORE: rows of which each is left erased.
use Rattle.std.specs.Prelude.{◌≡◌, ◌⊎◌, ◌<◌, ◌≤◌, ◌/◌, ◌%◌, ℕ, Bool, true, false, List, get_or, None}
use Rattle.page_layout.specs.declared.geometry.Geometry.{Geometry}
use Rattle.page_layout.specs.Geometry.{row_count}
use Rattle.page_layout.specs.Page.{Page}
use Rattle.page_layout.specs.Sound.{record_of}
use Rattle.page_layout.specs.Change.{erased_page}
use Rattle.file_die.specs.Store.{Held, AreImages, Syncs, page_in}
use Rattle.crash_recovery.specs.Torn.{IsCut, IsDeadRow, NoneCut, NothingTorn, SomeCut, SomeDead}

-- what may last of a row: what lasted, what it held, or a page without a sound record
abbrev pub MayLast : (lasted was now : Page) → Type 0
MayLast lasted was now = (now ≡ lasted) ⊎ ((now ≡ was) ⊎ (record_of now ≡ None))

-- AS FAR AS IT CAME, whatever failed: each row has what it held, or is one that is taken and has no sound record. What lasts of a row lasted, was held or
-- has none either; and a row that is not taken goes on to last where it did
pub record Takes (taken : ℕ → Type 0) (s t : Held) : Type 0 where
  pub geometry : t.geometry ≡ s.geometry
  pub pages : (row : ℕ) → (page_in t.pages row ≡ page_in s.pages row) ⊎ (taken row × (record_of (page_in t.pages row) ≡ None))
  pub durable : (row : ℕ) → MayLast (page_in s.durable row) (page_in s.pages row) (page_in t.durable row)
  pub kept : (row : ℕ) → ¬ taken row → page_in s.durable row ≡ page_in s.pages row → page_in t.durable row ≡ page_in s.pages row
  pub whole : AreImages s → AreImages t

-- each of the rows that are taken is erased
pub record LeavesErased (taken : ℕ → Type 0) (t : Held) : Type 0 where
  pub erased : (row : ℕ) → row < row_count t.geometry → taken row → page_in t.pages row ≡ erased_page t.geometry

-- the rows of a block from a page on
abbrev pub IsInTail : Geometry → (block from : ℕ) → (row : ℕ) → Type 0
IsInTail g block from row = (row / g.pages ≡ block) × (from ≤ row % g.pages)

-- the rows of these blocks
abbrev pub IsOf : Geometry → (blocks : List Bool) → (row : ℕ) → Type 0
IsOf g blocks row = get_or blocks (row / g.pages) false ≡ true

-- the store with all its pages made last
abbrev pub lasting : Held → Held
lasting s = record { geometry = s.geometry; pages = s.pages; durable = s.pages }

-- ALL OF THEM WERE TAKEN, and that lasts: just these rows are erased
pub record HasTaken (taken : ℕ → Type 0) (s t : Held) : Type 0 where
  pub takes : Takes taken s t
  pub left : LeavesErased taken t
  pub others : (row : ℕ) → ¬ taken row → page_in t.pages row ≡ page_in s.pages row
  pub lasts : t.durable ≡ t.pages

-- ---- a store that is opened after a crash

-- ITS TORN BLOCKS WERE CUT BACK: some row was to be cut, and just these are erased
pub record WasCutBack (mark : ℕ) (s t : Held) : Type 0 where
  pub some : SomeCut s.geometry s.pages mark
  pub taken : HasTaken (IsCut s.geometry s.pages mark) s t

-- ITS DEAD BLOCKS WERE ERASED AGAIN: there was one, all pages were made to last, and just the rows of these are erased
pub record WasErasedAgain (s t : Held) : Type 0 where
  pub some : SomeDead s.geometry s.pages
  pub taken : HasTaken (IsDeadRow s.geometry s.pages) (lasting s) t

-- A STORE WAS RECOVERED, by whether anything was torn: it was cut back; or there was nothing to be cut, and it was erased again. Else it is as it was
abbrev pub Recovers : (mark : ℕ) → (s t : Held) → (changed : Bool) → Type 0
Recovers mark s t true = WasCutBack mark s t ⊎ (NoneCut s.geometry s.pages mark × WasErasedAgain s t)
Recovers mark s t false = (t ≡ s) × NothingTorn s.geometry s.pages mark

-- as far as that came, where it failed
abbrev pub RecoversSome : (mark : ℕ) → (s t : Held) → Type 0
RecoversSome mark s t = Takes (IsCut s.geometry s.pages mark) s t ⊎ (Syncs s false t ⊎ Takes (IsDeadRow s.geometry s.pages) (lasting s) t)
