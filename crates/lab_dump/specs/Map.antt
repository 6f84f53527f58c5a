-- A map: how each part of what it is of is marked, as the mapfile of GNU ddrescue says it.
use Rattle.std.specs.Prelude.{◌≡◌, ◌≢◌, ◌⊎◌, ◌↔◌, ℕ, zero, suc, ◌+◌, ◌-◌, ◌*◌, ◌<◌, ◌≤◌, ◌==◌, Bool, true, false, not, ◌||◌, if◌then◌else◌, List, [], ◌∷◌, ◌++◌, length, get_or, codes}
use Rattle.std.specs.Fmt.{digits}
use Rattle.page_layout.specs.declared.geometry.Geometry.{Geometry}
use Rattle.lab_dump.specs.declared.map_head.Remark.{Remark}
use Rattle.lab_dump.specs.declared.map_head.Remark.TheVariants.{Array, Readings, Dump}
use Rattle.lab_dump.specs.declared.mark.MapMark.{MapMark}
use Rattle.lab_dump.specs.declared.mark.MapMark.TheVariants.{Untried, Finished, Mended, Bad}

-- ---- the areas

abbrev pub is_like : MapMark → MapMark → Bool
is_like Untried Untried = true
is_like Finished Finished = true
is_like Mended Mended = true
is_like Bad Bad = true
is_like _ _ = false

-- an area ends with sector n: it is the last one, or the next one is marked otherwise
abbrev pub ends_at : List MapMark → ℕ → Bool
ends_at marks n = (n + 1 == length marks) || not (is_like (get_or marks n Untried) (get_or marks (n + 1) Untried))

-- the first sector of the area that sector n is of: that after the last end of an area before it
unfoldable pub first_in_area : List MapMark → ℕ → ℕ
first_in_area marks zero = zero
first_in_area marks (suc n) = if ends_at marks n then suc n else first_in_area marks n

-- ---- the text

-- the character of a mark: finished, not trimmed, a bad sector, not tried
abbrev pub status_words : MapMark → List ℕ
status_words Finished = codes "+"
status_words Mended = codes "*"
status_words Bad = codes "-"
status_words Untried = codes "?"

-- so many bytes, from a position on, that are marked so
abbrev pub area_words : ℕ → ℕ → MapMark → List ℕ
area_words position size mark = codes "0x" ++ (digits 16 false position ++ (codes " 0x" ++ (digits 16 false size ++ (codes " " ++ status_words mark))))

-- the line of the area that ends with sector n, if one does
abbrev pub area_line : Geometry → List MapMark → ℕ → List ℕ
area_line g marks n =
    if ends_at marks n
    then area_words (first_in_area marks n * g.data_bytes) ((n + 1 - first_in_area marks n) * g.data_bytes) (get_or marks n Untried) ++ (10 ∷ [])
    else []

-- those of the areas that end below n
unfoldable pub areas_below : Geometry → List MapMark → ℕ → List ℕ
areas_below g marks zero = []
areas_below g marks (suc n) = areas_below g marks n ++ area_line g marks n

-- what the map is of
unfoldable pub remark_words : Remark → List ℕ
remark_words Array = codes "# Mapfile of an array, made by nandlab"
remark_words Readings = codes "# Mapfile of an array beside its readings, made by nandlab"
remark_words Dump = codes "# Mapfile of a dump, made by nandlab"

-- that the run which made the map has ended
unfoldable pub status_line : List ℕ
status_line = codes "0x0 + 1" ++ (10 ∷ [])

-- the lines before those of the areas
abbrev pub map_head : Remark → List ℕ
map_head remark = (remark_words remark ++ (10 ∷ [])) ++ status_line

-- THE MAP of an array whose sectors are marked so
abbrev pub map_text : Remark → Geometry → List MapMark → List ℕ
map_text remark g marks = map_head remark ++ areas_below g marks (length marks)

-- ---- the law

-- The area of sector n, as far as that sector. Its sectors are marked alike; it begins with the array, or just behind the end of another one.
pub record IsAreaTo (marks : List MapMark) (first n : ℕ) : Type 0 where
  pub rising : first ≤ n
  pub alike : (m : ℕ) → first ≤ m → m ≤ n → get_or marks m Untried ≡ get_or marks n Untried
  pub front : (first ≡ 0) ⊎ ((before : ℕ) × (first ≡ before + 1) × (ends_at marks before ≡ true))
  pub one : (m : ℕ) → first ≤ m → m < n → ends_at marks m ≡ false

-- An area ends with a sector just where it is the last one or the next is marked otherwise. So the areas have each sector once, each begins
-- where the one before it has ended, and neighbours differ.
pub record AreAreas (marks : List MapMark) (n : ℕ) : Type 0 where
  pub area : IsAreaTo marks (first_in_area marks n) n
  pub end : (ends_at marks n ≡ true) ↔ ((n + 1 ≡ length marks) ⊎ (get_or marks (n + 1) Untried ≢ get_or marks n Untried))

abbrev pub AreasLaw : Type 0
AreasLaw = (marks : List MapMark) (n : ℕ) → n < length marks → AreAreas marks n
