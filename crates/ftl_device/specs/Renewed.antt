-- What becomes of the pages of version 1 over many calls.
use Rattle.std.specs.Prelude.{◌≡◌, ◌↔◌, ℕ, ◌+◌, ◌<◌, ◌≤◌, false}
use Rattle.page_layout.specs.declared.geometry.Geometry.{Geometry}
use Rattle.page_layout.specs.declared.record.Key.{Key}
use Rattle.page_layout.specs.Page.{Image}
use Rattle.page_layout.specs.Sound.{version_for}
use Rattle.page_layout.specs.Array.{HasOneArray}
use Rattle.page_layout.specs.Version.{is_old, old_pages, AddsNoOld}
use Rattle.collection.specs.Renew.{is_table_key}

-- no newest page is of version 1, but table pages: what `migrate_one` leaves that answers `false`
abbrev pub HasOldTablesOnly : Image → Type 0
HasOldTablesOnly image = (key : Key) → is_table_key key ≡ false → is_old image key ≡ false

-- no newest page at all is of version 1
abbrev pub HasNoneOld : Image → Type 0
HasNoneOld image = (key : Key) → is_old image key ≡ false

-- A FLUSH THAT IS DONE, where the die has version 2: with none but table pages of version 1 before it, none at all is after it
abbrev pub Finishes : Geometry → Image → Image → Type 0
Finishes g before after = version_for g ≡ 2 → HasOldTablesOnly before → HasNoneOld after

-- ---- laws

-- none is old just where the count of old pages is 0
abbrev pub NoneOldLaw : Type 0
NoneOldLaw = (g : Geometry) (image : Image) → HasOneArray g image → HasNoneOld image ↔ (old_pages g image ≡ 0)

-- where no old page is added, none is old after that either
abbrev pub StaysNewLaw : Type 0
StaysNewLaw = (g : Geometry) (before after : Image) → version_for g ≡ 2 → AddsNoOld g before after
    → (HasOldTablesOnly before → HasOldTablesOnly after) × (HasNoneOld before → HasNoneOld after)

-- ALL IS BROUGHT FORWARD: where none but table pages was old once (as after `migrate_one` answered `false`), and a later flush was done, none is
-- old after that flush, nor after any call that comes then. `image_at k` is the image after k calls, of which each adds no old page; whatever
-- calls come in between.
abbrev pub BroughtForwardLaw : Type 0
BroughtForwardLaw = (g : Geometry) (image_at : ℕ → Image) (migrated flush last : ℕ) → version_for g ≡ 2
    → HasOldTablesOnly (image_at migrated) → migrated ≤ flush → flush < last
    → ((k : ℕ) → migrated ≤ k → k < last → AddsNoOld g (image_at k) (image_at (k + 1)))
    → Finishes g (image_at flush) (image_at (flush + 1))
    → (k : ℕ) → flush < k → k ≤ last → HasNoneOld (image_at k)
