-- What is held of each sector while the rows pass.
use Rattle.std.specs.Prelude.{◌≡◌, ℕ, ◌<◌, Bool, List, length, get_or, replicate, map, Option, Some}
use Rattle.std.specs.List.{list_any}
use Rattle.page_layout.specs.declared.geometry.Geometry.{Geometry}
use Rattle.page_layout.specs.Geometry.{page_bytes}
use Rattle.page_layout.specs.declared.record.Record.{Record}
use Rattle.page_layout.specs.declared.record.Key.TheVariants.{Sector}
use Rattle.page_layout.specs.declared.newest.Latest.{Latest}
use Rattle.page_layout.specs.declared.newest.Latest.TheVariants.{Never, Once, Tied}
use Rattle.page_layout.specs.Newest.{latest_below}
use Rattle.lab_dump.specs.declared.mark.MapMark.{MapMark}
use Rattle.lab_dump.specs.declared.mark.MapMark.TheVariants.{Untried}
use Rattle.lab_origin.specs.declared.newest.Change.{Change}
use Rattle.lab_origin.specs.declared.newest.Change.TheVariants as change
use Rattle.lab_origin.specs.declared.room.OriginRoom.{OriginRoom}
use Rattle.lab_origin.specs.Origin.{has_at, mark_by_latest}

-- what a page of this row does to what was known
abbrev pub PageChanges : Change → ℕ → Latest → Latest → Type 0
PageChanges change.Stays row before after = after ≡ before
PageChanges change.Newest row before after = (s : ℕ) × (after ≡ Once row s)
PageChanges change.Tie row before after = (a b s : ℕ) × (after ≡ Tied a b s)

-- whether one of these files has these bytes from this place on
abbrev pub have_at : ℕ → List ℕ → List (List ℕ) → Bool
have_at at piece files = list_any (has_at at piece) files

-- there is a place for each sector
pub record HasSectorPlaces (g : Geometry) (latest : List Latest) (marks : List MapMark) : Type 0 where
  pub latest_size : length latest ≡ g.sectors
  pub marks_size : length marks ≡ g.sectors

-- what is held of each sector is what the first rows say, where this says of which rows a reading has the page
pub record ShowsOrigins (g : Geometry) (records : List (Option Record)) (read : ℕ → Bool) (rows : ℕ) (latest : List Latest) (marks : List MapMark) : Type 0 where
  pub latest_is : (n : ℕ) → n < g.sectors → get_or latest n Never ≡ latest_below records (Sector n) rows
  pub mark_is : (n : ℕ) → n < g.sectors → get_or marks n Untried ≡ mark_by_latest read (latest_below records (Sector n) rows)

-- a page has room in each of two places, and no sector is held yet
pub record IsOriginRoom (g : Geometry) (room : OriginRoom) : Type 0 where
  pub page : length room.page.items ≡ page_bytes g
  pub other : length room.other.items ≡ page_bytes g
  pub latest : room.latest.items ≡ replicate g.sectors Never
  pub marks : room.marks.items ≡ replicate g.sectors Untried
