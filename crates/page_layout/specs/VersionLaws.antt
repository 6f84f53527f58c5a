-- What the definitions of versions come to, each law as one statement.
use Rattle.std.specs.Prelude.{◌≡◌, ◌↔◌, ℕ, ◌<◌, ◌≤◌, true, false, List, length, slice_get, Some, None}
use Rattle.page_layout.specs.declared.record.Record.{Record}
use Rattle.page_layout.specs.declared.record.Key.{Key}
use Rattle.page_layout.specs.declared.geometry.Geometry.{Geometry}
use Rattle.page_layout.specs.Page.{Page, Image}
use Rattle.page_layout.specs.Sound.{IsSound, IsSoundV1, IsSoundV2, record_of, version_of, version_for}
use Rattle.page_layout.specs.Key.{key_of}
use Rattle.page_layout.specs.Live.{IsKeyOf}
use Rattle.page_layout.specs.Change.{Keeps, Writes}
use Rattle.page_layout.specs.Version.{version_at, is_old, old_pages, HasOldAt, AddsNoOld}

-- ---- one page

-- no page is sound in both versions
abbrev pub OneVersionLaw : Type 0
OneVersionLaw = (p : Page) (r other : Record) → IsSoundV1 p r → ¬ IsSoundV2 p other

-- with fewer than 40 spare bytes there is version 1 only
abbrev pub ShortSpareLaw : Type 0
ShortSpareLaw = (p : Page) (r : Record) → length p.spare < 40 → IsSound p r → IsSoundV1 p r

-- `version_of` is the version in which the page is sound, and none where it is not sound
abbrev pub VersionLaw : Type 0
VersionLaw = (p : Page) (r : Record) → record_of p ≡ Some r → ((version_of p ≡ Some 1) ↔ IsSoundV1 p r) × ((version_of p ≡ Some 2) ↔ IsSoundV2 p r)

abbrev pub NoVersionLaw : Type 0
NoVersionLaw = (p : Page) → (version_of p ≡ None) ↔ (record_of p ≡ None)

-- ---- the pages of an image

-- a row has a version just where its page is sound in it
abbrev pub RowVersionLaw : Type 0
RowVersionLaw = (image : Image) (row : ℕ) (p : Page) → slice_get image row ≡ Some p → version_at image row ≡ version_of p

-- `is_old` tells just the keys whose newest page is of version 1
abbrev pub OldLaw : Type 0
OldLaw = (image : Image) (key : Key) → (is_old image key ≡ true) ↔ ((row : ℕ) × HasOldAt image key row)

-- ---- old pages only fall

-- what keeps adds none, nor does a write in version 2
abbrev pub KeptVersionsLaw : Type 0
KeptVersionsLaw = (g : Geometry) (old new : Image) → Keeps g old new → AddsNoOld g old new

abbrev pub WrittenVersionsLaw : Type 0
WrittenVersionsLaw = (g : Geometry) (r : Record) (row : ℕ) (body : List ℕ) (old new : Image) → Writes g r row body old new → AddsNoOld g old new

-- and the page that was written is the newest of its key, and no old one
abbrev pub WrittenNewLaw : Type 0
WrittenNewLaw = (g : Geometry) (r : Record) (row : ℕ) (body : List ℕ) (old new : Image) → version_for g ≡ 2 → Writes g r row body old new → is_old new (key_of r) ≡ false

-- where none is added there are no more than before
abbrev pub NoMoreOldLaw : Type 0
NoMoreOldLaw = (g : Geometry) (old new : Image) → version_for g ≡ 2 → AddsNoOld g old new → old_pages g new ≤ old_pages g old

-- and fewer where one is gone
abbrev pub FewerOldLaw : Type 0
FewerOldLaw = (g : Geometry) (old new : Image) (key : Key) → version_for g ≡ 2 → AddsNoOld g old new → IsKeyOf g key
    → is_old old key ≡ true → is_old new key ≡ false → old_pages g new < old_pages g old
