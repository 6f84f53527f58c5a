-- A STORE OF PAGES: what it holds, what it would hold if the power went, and what each call makes of them.
use Rattle.std.specs.Prelude.{◌≡◌, ◌≢◌, ◌/◌, ◌⊎◌, ℕ, Bool, true, false, List, [], ◌∷◌, get_or, replicate, slice_set, None}
use Rattle.std.specs.List.{Contains}
use Rattle.page_layout.specs.declared.geometry.Geometry.{Geometry}
use Rattle.page_layout.specs.Geometry.{row_count}
use Rattle.page_layout.specs.Page.{Image, Page, IsImage}
use Rattle.page_layout.specs.Change.{erased_page}
use Rattle.page_layout.specs.Flash.{no_page, with_block}
use Rattle.page_layout.specs.Sound.{record_of}

-- A STORE BETWEEN TWO CALLS: its geometry, its pages, a page a row, and those that it would have if the power went now
pub record Held : Type 0 where
  pub geometry : Geometry
  pub pages : Image
  pub durable : Image

-- erased pages, which last
abbrev pub blank : Geometry → Held
blank g = record { geometry = g; pages = replicate (row_count g) (erased_page g); durable = replicate (row_count g) (erased_page g) }

-- the page of a row
abbrev pub page_in : Image → ℕ → Page
page_in pages row = get_or pages row no_page

-- both are images of the die
pub record AreImages (s : Held) : Type 0 where
  pub pages_whole : IsImage s.geometry s.pages
  pub durable_whole : IsImage s.geometry s.durable

-- ---- what fails, and the power

-- WHAT MAY BE LEFT OF A ROW where a change of it failed, or the power went: one of these pages, or one without a sound record
abbrev pub MayBeLeft : List Page → Page → Type 0
MayBeLeft pages left = Contains pages left ⊎ (record_of left ≡ None)

-- WHAT LASTS OF A ROW after a call, by what lasted and what it held before and what it holds now: any of these, or a page without a sound
-- record. Where what it held had lasted, and the call has left it, that lasts
pub record LastsOf (lasted was is now : Page) : Type 0 where
  pub left : MayBeLeft (lasted ∷ was ∷ is ∷ []) now
  pub kept : lasted ≡ was → is ≡ was → now ≡ was

-- so of each row
abbrev pub Lasts : Held → Held → Type 0
Lasts s t = (row : ℕ) → LastsOf (page_in s.durable row) (page_in s.pages row) (page_in t.pages row) (page_in t.durable row)

-- ---- one call, and whether it was done

-- a load that is done gives the row's page; it changes nothing
pub record Loads (s : Held) (row : ℕ) (page : Page) (done : Bool) (t : Held) : Type 0 where
  pub gave : done ≡ true → page ≡ page_in s.pages row
  pub same : t ≡ s

-- a put that is done leaves the page at the row; one that fails leaves there what was there, the page, or one without a sound record. All
-- other rows stay
pub record Puts (s : Held) (row : ℕ) (page : Page) (done : Bool) (t : Held) : Type 0 where
  pub put : done ≡ true → t.pages ≡ slice_set s.pages row page
  pub torn : done ≡ false → MayBeLeft (page_in s.pages row ∷ page ∷ []) (page_in t.pages row)
  pub others : (r : ℕ) → r ≢ row → page_in t.pages r ≡ page_in s.pages r
  pub lasts : Lasts s t
  pub whole : AreImages s → AreImages t

-- a clear that is done leaves the block erased; one that fails leaves of each of its rows what was there, an erased page, or one without a
-- sound record. All other rows stay
pub record Clears (s : Held) (block : ℕ) (done : Bool) (t : Held) : Type 0 where
  pub cleared : done ≡ true → t.pages ≡ with_block s.geometry.pages block (replicate s.geometry.pages (erased_page s.geometry)) s.pages
  pub torn : done ≡ false → (row : ℕ) → row / s.geometry.pages ≡ block → MayBeLeft (page_in s.pages row ∷ erased_page s.geometry ∷ []) (page_in t.pages row)
  pub others : (row : ℕ) → row / s.geometry.pages ≢ block → page_in t.pages row ≡ page_in s.pages row
  pub lasts : Lasts s t
  pub whole : AreImages s → AreImages t

-- A SYNC: the pages stay, and where it is done they last
pub record Syncs (s : Held) (done : Bool) (t : Held) : Type 0 where
  pub same : t.pages ≡ s.pages
  pub synced : done ≡ true → t.durable ≡ s.pages
  pub lasts : Lasts s t
  pub whole : AreImages s → AreImages t

-- ALL BLOCKS WERE TO BE ERASED, and a call for it failed: each row has the page that it had, an erased one, or one without a sound record
abbrev pub ErasesSome : Held → Held → Type 0
ErasesSome s t = (row : ℕ) → MayBeLeft (page_in s.pages row ∷ erased_page s.geometry ∷ []) (page_in t.pages row)
