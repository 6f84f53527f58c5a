-- When a certificate agrees with an image.
use Rattle.std.specs.Prelude.{◌≡◌, ◌↔◌, ℕ, ◌+◌, ◌<◌, ◌≤◌, List, length, get_or, slice_get, Option, Some, None}
use Rattle.page_layout.specs.declared.geometry.Geometry.{Geometry}
use Rattle.page_layout.specs.declared.record.Record.{Record}
use Rattle.page_layout.specs.declared.record.Key.TheVariants.{Sector, Translation, Table}
use Rattle.page_layout.specs.Geometry.{entries, translation_pages, table_pages}
use Rattle.page_layout.specs.Page.{Image}
use Rattle.page_layout.specs.Key.{key_of}
use Rattle.page_layout.specs.Newest.{newest}
use Rattle.page_layout.specs.OneArray.{AreDistinct, AreBelow}
use Rattle.page_layout.specs.Live.{IsKeyOf, live}
use Rattle.page_layout.specs.Array.{marks}
use Rattle.bad_blocks.specs.TablePage.{IsWellFormed}
use Rattle.certificate.specs.declared.block_state.BlockState.{BlockState}
use Rattle.certificate.specs.Claim.{Claim, sizes_of}
use Rattle.image_check.specs.Blocks.{table_body, class, pointer, erase_count}
use Rattle.image_check.specs.Stale.{stale_count}

-- a: the certificate is of this geometry and capacity
pub record IsAsked (g : Geometry) (capacity : ℕ) (c : Claim) : Type 0 where
  pub geometry : c.sizes ≡ sizes_of g
  pub capacity_same : c.capacity ≡ capacity

-- the certificate has as many states and rows as a die of this geometry
pub record IsCertificateOf (g : Geometry) (c : Claim) : Type 0 where
  pub blocks : length c.blocks ≡ g.blocks
  pub directory : length c.directory ≡ translation_pages g + table_pages g
  pub sectors : length c.sectors ≡ g.sectors

-- b: every sound page's number is in range
pub record AreInRange (g : Geometry) (marks : List (Option Record)) : Type 0 where
  pub in_range : (row : ℕ) (r : Record) → get_or marks row None ≡ Some r → IsKeyOf g (key_of r)

-- d: every table page has a newest page, and it is well formed
pub record HasNewestTable (image : Image) (u : ℕ) : Type 0 where
  pub row : ℕ
  pub newest_is : newest (marks image) (Table u) ≡ Some row

pub record HasTables (g : Geometry) (image : Image) : Type 0 where
  pub formatted : (u : ℕ) → u < table_pages g → HasNewestTable image u
  pub formed : (u : ℕ) → u < table_pages g → IsWellFormed (entries g) g.blocks u (table_body image u)

-- e: each directory row is that of its key's newest page, or none
pub record IsDirectory (g : Geometry) (image : Image) (rows : List (Option ℕ)) : Type 0 where
  pub translation : (t : ℕ) → t < translation_pages g → slice_get rows t ≡ Some (newest (marks image) (Translation t))
  pub table : (u : ℕ) → u < table_pages g → slice_get rows (translation_pages g + u) ≡ Some (newest (marks image) (Table u))

-- f: each sector row is that of the sector's newest page, or none
pub record AreNewest (g : Geometry) (image : Image) (rows : List (Option ℕ)) : Type 0 where
  pub newest_is : (n : ℕ) → n < g.sectors → slice_get rows n ≡ Some (newest (marks image) (Sector n))

-- g: class 4 and class 5 stand for just the factory and the grown bad blocks
abbrev pub IsBadSet : Geometry → Image → ℕ → BlockState → Type 0
IsBadSet g image b s = ((s.class ≡ 4) ↔ (class g image b ≡ 4)) × ((s.class ≡ 5) ↔ (class g image b ≡ 5))

-- h: the class and the write pointer
abbrev pub IsState : Geometry → Image → ℕ → BlockState → Type 0
IsState g image b s = (s.class ≡ class g image b) × (s.pointer ≡ pointer g image b)

-- i: the live count
abbrev pub IsLive : Geometry → Image → ℕ → BlockState → Type 0
IsLive g image b s = s.live ≡ live g (marks image) b

-- j: the erase count
abbrev pub IsWear : Geometry → Image → ℕ → BlockState → Type 0
IsWear g image b s = s.wear ≡ erase_count g image b

-- the certificate has a state for each of the first n blocks, and it passes
pub record EachState (n : ℕ) (states : List BlockState) (P : ℕ → BlockState → Type 0) : Type 0 where
  pub state : (b : ℕ) → b < n → (s : BlockState) × (slice_get states b ≡ Some s) × P b s

-- the certificate says of the image what is so
pub record Agrees (g : Geometry) (capacity : ℕ) (image : Image) (c : Claim) : Type 0 where
  pub asked : IsAsked g capacity c
  pub numbers : AreInRange g (marks image)
  pub sequences : AreDistinct (marks image)
  pub tables : HasTables g image
  pub directory : IsDirectory g image c.directory
  pub sectors : AreNewest g image c.sectors
  pub bad_set : EachState g.blocks c.blocks (IsBadSet g image)
  pub states : EachState g.blocks c.blocks (IsState g image)
  pub live : EachState g.blocks c.blocks (IsLive g image)
  pub wear : EachState g.blocks c.blocks (IsWear g image)
  pub next : AreBelow (marks image) c.next
  pub fresh : stale_count g image ≤ capacity
