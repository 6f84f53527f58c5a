-- The image as of a sequence: the pages that were programmed later are as an erase leaves them.
use Rattle.std.specs.Prelude.{◌≡◌, ◌↔◌, ℕ, ◌<◌, ◌≤◌, nat_lt, if◌then◌else◌, Bool, false, length, map, get_or, slice_get, slice_set, Option, Some, None}
use Rattle.page_layout.specs.declared.geometry.Geometry.{Geometry}
use Rattle.page_layout.specs.declared.record.Record.{Record}
use Rattle.page_layout.specs.Page.{Page, Image}
use Rattle.page_layout.specs.Sound.{record_of}
use Rattle.page_layout.specs.Array.{marks, array_of}
use Rattle.page_layout.specs.Change.{erased_page}

-- whether there is a record, and it has a later sequence
abbrev pub is_later : ℕ → Option Record → Bool
is_later last None = false
is_later last (Some r) = nat_lt last r.sequence

-- the record where it has no later sequence, or where none is said
abbrev pub record_until : Option ℕ → Option Record → Option Record
record_until None found = found
record_until (Some last) found = if is_later last found then None else found

-- the page where it was not programmed later, else one as an erase leaves it
abbrev pub page_until : Geometry → Option ℕ → Page → Page
page_until g None p = p
page_until g (Some last) p = if is_later last (record_of p) then erased_page g else p

-- THE IMAGE AS OF A SEQUENCE, or as it is where none is said.
-- Law: it has just the sound pages that have no later sequence (`CountsUntilLaw`).
unfoldable pub until : Geometry → Option ℕ → Image → Image
until g last image = map (page_until g last) image

-- ---- laws

-- As of a sequence those sound pages count that have this sequence or an earlier one, and no others.
abbrev pub CountsUntilLaw : Type 0
CountsUntilLaw = (g : Geometry) (image : Image) (last row : ℕ) (r : Record) → (get_or (marks (until g (Some last) image)) row None ≡ Some r) ↔ ((get_or (marks image) row None ≡ Some r) × (r.sequence ≤ last))

-- As of the greatest sequence, or any above, the image is as it is; so where none is said.
abbrev pub AllCountLaw : Type 0
AllCountLaw = (g : Geometry) (image : Image) → (until g None image ≡ image) × ((last : ℕ) → ((row : ℕ) (r : Record) → get_or (marks image) row None ≡ Some r → r.sequence ≤ last) → until g (Some last) image ≡ image)

-- A die was not collected since it was as in the older image: no sound page of that one is gone, each has this sequence or an earlier one, and each
-- sound page that came since has a later one.
pub record IsUncollected (last : ℕ) (old new : Image) : Type 0 where
  pub size : length new ≡ length old
  pub early : (row : ℕ) (r : Record) → get_or (marks old) row None ≡ Some r → r.sequence ≤ last
  pub kept : (row : ℕ) (r : Record) → get_or (marks old) row None ≡ Some r → slice_get new row ≡ slice_get old row
  pub late : (row : ℕ) (r : Record) → get_or (marks old) row None ≡ None → get_or (marks new) row None ≡ Some r → last < r.sequence

-- Such a die there is: one of which a row that had no sound page got one of a later sequence.
abbrev pub LaterPageLaw : Type 0
LaterPageLaw = (last : ℕ) (old : Image) (row : ℕ) (p : Page) (r : Record) → row < length old → get_or (marks old) row None ≡ None → record_of p ≡ Some r → last < r.sequence
    → ((other : ℕ) (its : Record) → get_or (marks old) other None ≡ Some its → its.sequence ≤ last) → IsUncollected last old (slice_set old row p)

-- Of such a die the array as of that sequence is the array then.
abbrev pub ThenLaw : Type 0
ThenLaw = (g : Geometry) (last : ℕ) (old new : Image) → IsUncollected last old new → array_of g (until g (Some last) new) ≡ array_of g old
