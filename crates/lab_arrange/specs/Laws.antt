-- What the words of an arrangement mean, and what the map of places keeps: each law as one statement.
use Rattle.std.specs.Prelude.{◌≡◌, ℕ, ◌+◌, ◌-◌, ◌*◌, ◌/◌, ◌%◌, ◌<◌, ◌≤◌, ◌&&◌, nat_le, nat_lt, if◌then◌else◌, Bool, true, false, All, List, length, map, slice_index, None}
use Rattle.std.specs.List.{concat, range_with_len}
use Rattle.std.specs.Option.{unwrap_or}
use Rattle.page_layout.specs.declared.geometry.Geometry.{Geometry}
use Rattle.page_layout.specs.Geometry.{row_count, page_bytes}
use Rattle.lab_dump.specs.Scan.{image_bytes}
use Rattle.lab_arrange.specs.declared.arrangement.Arrangement.{Arrangement}
use Rattle.lab_arrange.specs.declared.words.Told.{Told}
use Rattle.lab_arrange.specs.declared.words.Told.TheVariants as told
use Rattle.lab_arrange.specs.Place.{IsFitting, byte_at, header_length, length_of, other_in_pair, place_in_dump, row_in_turns, run_of, run_place, swapped_place, value_of}
use Rattle.lab_arrange.specs.Arranged.{pieces_below}
use Rattle.lab_arrange.specs.Words.{in_order, set_told, with_told}

-- ---- what each word means

-- WITH NOTHING TOLD each byte stands in its place, and there are no others.
pub record LeavesBytesInPlace (g : Geometry) : Type 0 where
  pub places : (row column : ℕ) → column < page_bytes g → place_in_dump g in_order row column ≡ row * page_bytes g + column
  pub length_is : length_of g in_order ≡ image_bytes g

abbrev pub BytesInPlaceLaw : Type 0
BytesInPlaceLaw = (g : Geometry) → LeavesBytesInPlace g

-- A header moves all bytes by its size.
abbrev pub HeaderLaw : Type 0
HeaderLaw = (g : Geometry) (a : Arrangement) (bytes row column : ℕ) → place_in_dump g (set_told a (told.Header bytes)) row column ≡ bytes + place_in_dump g (set_told a (told.Header 0)) row column

-- A header and a tail make a dump longer by their bytes, a cut shorter.
pub record AreLengths (g : Geometry) (a : Arrangement) (n : ℕ) : Type 0 where
  pub header : length_of g (set_told a (told.Header n)) ≡ n + length_of g (set_told a (told.Header 0))
  pub tail : length_of g (set_told a (told.Tail n)) ≡ n + length_of g (set_told a (told.Tail 0))
  pub cut : n ≤ image_bytes g → length_of g (set_told a (told.Cut n)) + n ≡ length_of g (set_told a (told.Cut 0))

abbrev pub DumpLengthLaw : Type 0
DumpLengthLaw = (g : Geometry) (a : Arrangement) (n : ℕ) → IsFitting g a → AreLengths g a n

-- What is told is not told again, and of a tail and a cut one alone.
pub record AreToldOnce (a : Arrangement) (n m : ℕ) : Type 0 where
  pub again : (t : Told) → with_told (set_told a t) t ≡ None
  pub cut_behind : with_told (set_told a (told.Tail n)) (told.Cut m) ≡ None
  pub tail_behind : with_told (set_told a (told.Cut n)) (told.Tail m) ≡ None

abbrev pub NotToldAgainLaw : Type 0
NotToldAgainLaw = (a : Arrangement) (n m : ℕ) → AreToldOnce a n m

-- The areas of one sort of n pages stand one behind another, byte by byte, data areas first, or spare areas.
pub record AreStacked (n d s : ℕ) : Type 0 where
  pub data_bytes : (first : Bool) (row c : ℕ) → c < d → run_place n d s first row c ≡ run_place n d s first row 0 + c
  pub spare_bytes : (first : Bool) (row c : ℕ) → run_place n d s first row (d + c) ≡ run_place n d s first row d + c
  pub next_data : (first : Bool) (row : ℕ) → row % n + 1 < n → run_place n d s first (row + 1) 0 ≡ run_place n d s first row 0 + d
  pub next_spare : (first : Bool) (row : ℕ) → row % n + 1 < n → run_place n d s first (row + 1) d ≡ run_place n d s first row d + s
  pub data_first : (run : ℕ) → run_place n d s false (run * n) 0 ≡ run * (n * (d + s))
  pub spare_behind : (run : ℕ) → run_place n d s false (run * n) d ≡ run * (n * (d + s)) + n * d
  pub spare_first : (run : ℕ) → run_place n d s true (run * n) d ≡ run * (n * (d + s))
  pub data_behind : (run : ℕ) → run_place n d s true (run * n) 0 ≡ run * (n * (d + s)) + n * s

abbrev pub StackedLaw : Type 0
StackedLaw = (n d s : ℕ) → 0 < n → 0 < d → AreStacked n d s

-- With two planes page p of block 2k stands right before page p of block 2k + 1.
pub record AreTurns (pages k p : ℕ) : Type 0 where
  pub even : row_in_turns pages true (2 * k * pages + p) ≡ 2 * k * pages + 2 * p
  pub odd : row_in_turns pages true ((2 * k + 1) * pages + p) ≡ 2 * k * pages + 2 * p + 1

abbrev pub TwoPlanesLaw : Type 0
TwoPlanesLaw = (pages k p : ℕ) → p < pages → AreTurns pages k p

-- Of the bytes of a pair each stands in the other one's place.
abbrev pub PairLaw : Type 0
PairLaw = (k : ℕ) → (other_in_pair (2 * k) ≡ 2 * k + 1) × (other_in_pair (2 * k + 1) ≡ 2 * k)

-- An inverted byte and the byte come to FFh together. Past the end of a dump there is a 00h byte.
pub record AreValues (byte : ℕ) : Type 0 where
  pub inverted : byte ≤ 255 → value_of true byte + byte ≡ 255
  pub plain : value_of false byte ≡ byte
  pub past : (inverted : Bool) (all : List ℕ) (place : ℕ) → length all ≤ place → byte_at inverted all place ≡ 0

abbrev pub ValueLaw : Type 0
ValueLaw = (byte : ℕ) → AreValues byte

-- ---- each byte once

-- the row and the column of a byte
pub record Spot : Type 0 where
  pub row : ℕ
  pub column : ℕ

abbrev pub spot : ℕ → ℕ → Spot
spot row column = record { row = row; column = column }

-- the row whose page stands in the place of a row
abbrev pub row_back : ℕ → Bool → ℕ → ℕ
row_back pages planes row = if planes then (row / (2 * pages) * 2 + row % 2) * pages + row % (2 * pages) / 2 else row

-- the page of a run, and its byte, that stands in a place of the run
abbrev pub spot_in : (n d s : ℕ) → (first : Bool) → ℕ → Spot
spot_in n d s false place = if nat_lt place (n * d) then spot (place / d) (place % d) else spot ((place - n * d) / s) (d + (place - n * d) % s)
spot_in n d s true place = if nat_lt place (n * s) then spot (place / s) (d + place % s) else spot ((place - n * s) / d) ((place - n * s) % d)

-- the same of all runs
abbrev pub run_spot : (n d s : ℕ) → (first : Bool) → ℕ → Spot
run_spot n d s first place =
    let inner = spot_in n d s first (place % (n * (d + s))) in
    spot (place / (n * (d + s)) * n + inner.row) inner.column

-- THE BYTE OF THE PAGES that a byte of the dump is, behind its header and before what follows the pages
unfoldable pub spot_of : Geometry → Arrangement → ℕ → Spot
spot_of g a place =
    let found = run_spot (run_of g a.spares) g.data_bytes g.spare_bytes a.spare_first (swapped_place a.swapped (place - header_length a)) in
    spot (row_back g.pages a.planes found.row) found.column

-- a byte of a die
pub record IsOnDie (g : Geometry) (x : Spot) : Type 0 where
  pub row_in : x.row < row_count g
  pub column_in : x.column < page_bytes g

-- a byte of a dump's pages
pub record IsOfPages (g : Geometry) (a : Arrangement) (place : ℕ) : Type 0 where
  pub behind : header_length a ≤ place
  pub before : place < header_length a + image_bytes g

-- EACH BYTE OF THE PAGES STANDS ONCE: two maps, there and back, between the bytes of a die and those of the dump's pages. So nothing is lost or doubled.
pub record IsOnce (g : Geometry) (a : Arrangement) : Type 0 where
  pub there : (x : Spot) → IsOnDie g x → IsOfPages g a (place_in_dump g a x.row x.column) × (spot_of g a (place_in_dump g a x.row x.column) ≡ x)
  pub back : (place : ℕ) → IsOfPages g a place → IsOnDie g (spot_of g a place) × (place_in_dump g a (spot_of g a place).row (spot_of g a place).column ≡ place)

abbrev pub OnceLaw : Type 0
OnceLaw = (g : Geometry) (a : Arrangement) → IsFitting g a → IsOnce g a

-- ---- there and back

-- a byte of the dump into which pages in order are put: of the others anything
abbrev pub put_byte : Geometry → Arrangement → (other : ℕ → ℕ) → List ℕ → ℕ → ℕ
put_byte g a other raw place =
    if nat_le (header_length a) place && nat_lt place (header_length a + image_bytes g) then value_of a.inverted (slice_index raw ((spot_of g a place).row * page_bytes g + (spot_of g a place).column)) else other place

-- the dump
unfoldable pub put_in : Geometry → Arrangement → (other : ℕ → ℕ) → List ℕ → List ℕ
put_in g a other raw = map (put_byte g a other raw) (range_with_len 0 (header_length a + image_bytes g + unwrap_or a.tail 0))

-- PAGES THAT ARE PUT INTO AN ARRANGEMENT ARE TAKEN OUT AGAIN AS THEY WERE, where nothing was cut off.
pub record ComesOutAgain (g : Geometry) (a : Arrangement) (other : ℕ → ℕ) (raw : List ℕ) : Type 0 where
  pub whole : length (put_in g a other raw) ≡ length_of g a
  pub same : concat (pieces_below g a (put_in g a other raw) (row_count g)) ≡ raw

abbrev pub RoundTripLaw : Type 0
RoundTripLaw = (g : Geometry) (a : Arrangement) (other : ℕ → ℕ) (raw : List ℕ) → IsFitting g a → a.cut ≡ None → length raw ≡ image_bytes g → All (λ b. b ≤ 255) raw → ComesOutAgain g a other raw
