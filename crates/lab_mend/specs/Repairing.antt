-- What is written and listed while the pages are taken.
use Rattle.std.specs.Prelude.{◌≡◌, ℕ, ◌<◌, ◌≤◌, ◌==◌, if◌then◌else◌, Bool, true, false, count_by, All, List, [], ◌∷◌, ◌++◌, length, get_or, slice_get, Option, Some, None, IsSome, option_map, IfSome}
use Rattle.std.specs.List.{range_with_len, filter_map, AllPairs}
use Rattle.page_layout.specs.declared.geometry.Geometry.{Geometry}
use Rattle.page_layout.specs.Geometry.{row_count, page_bytes}
use Rattle.page_layout.specs.Page.{Page, Image}
use Rattle.page_layout.specs.Raw.{bytes_of_page}
use Rattle.page_layout.specs.Sound.{record_of}
use Rattle.page_layout.specs.Block.{is_broken}
use Rattle.lab_dump.specs.Rows.{is_asked}
use Rattle.lab_dump.specs.PageBytes.{page_from_bytes, bit_count}
use Rattle.lab_mend.specs.declared.repairing.Mend.{Mend}
use Rattle.lab_mend.specs.declared.repairing.RepairAsked.{RepairAsked}
use Rattle.lab_mend.specs.declared.pairs.BitTurn.{BitTurn}
use Rattle.lab_mend.specs.declared.pairs.BitTurn.TheVariants.{One, Two, Tied, Nothing}
use Rattle.lab_mend.specs.Mend.{IsMendedAs}
use Rattle.lab_mend.specs.Pairs.{page_turn_of, turned_back, repaired}

-- ---- of a row

-- what is turned of a row's page: of a row that isn't asked for nothing
abbrev pub turn_at : RepairAsked → ℕ → Page → Option BitTurn
turn_at asked row p = if is_asked asked.rows row then page_turn_of asked.bits p else None

-- the bytes of the repaired page, of which so many bits may be turned
abbrev pub repaired_bytes : ℕ → Page → List ℕ
repaired_bytes bits p = bytes_of_page (repaired bits p)

-- the bytes that are written of a row's page: of a row that isn't asked for its own
abbrev pub piece_to_write : RepairAsked → ℕ → Page → List ℕ
piece_to_write asked row p = if is_asked asked.rows row then repaired_bytes asked.bits p else bytes_of_page p

-- ---- of an image

-- a row with what is turned of its page
abbrev pub as_mend : ℕ → BitTurn → Mend
as_mend row t = record { row = row; turn = t }

-- the same, if its page was to be mended
abbrev pub mend_in : RepairAsked → ℕ → Option Page → Option Mend
mend_in asked row None = None
mend_in asked row (Some p) = option_map (as_mend row) (turn_at asked row p)

-- a list of mends with one row more, where its page was to be mended
abbrev pub mends_with_row : List Mend → ℕ → Option BitTurn → List Mend
mends_with_row mends row None = mends
mends_with_row mends row (Some t) = mends ++ (as_mend row t ∷ [])

-- those of the first rows, by rising row
unfoldable pub mends_below : RepairAsked → Image → ℕ → List Mend
mends_below asked image rows = filter_map (λ row. mend_in asked row (slice_get image row)) (range_with_len 0 rows)

-- each of the first pieces is what is written of its row's page
abbrev pub AreMendedBelow : RepairAsked → Image → ℕ → List (List ℕ) → Type 0
AreMendedBelow asked image rows pieces = (row : ℕ) (p : Page) → row < rows → slice_get image row ≡ Some p → get_or pieces row [] ≡ piece_to_write asked row p

-- what the first rows of the image say
pub record ShowsRepair (asked : RepairAsked) (rows : ℕ) (image : Image) (mends : List Mend) (pieces : Option (List (List ℕ))) : Type 0 where
  pub mends_are : mends ≡ mends_below asked image rows
  pub pieces_are : IfSome pieces (AreMendedBelow asked image rows)

-- whether bits of the page were turned
abbrev pub has_turned_bits : BitTurn → Bool
has_turned_bits (One t) = true
has_turned_bits (Two b) = true
has_turned_bits Tied = false
has_turned_bits Nothing = false

-- of how many pages bits were turned
abbrev pub mended_count : List Mend → ℕ
mended_count mends = count_by (λ m. has_turned_bits m.turn) mends

-- ---- whatever the pages were

-- what a list names of a row, if it names the row
abbrev pub named_turn : List Mend → ℕ → Option BitTurn
named_turn [] row = None
named_turn (m ∷ ms) row = if m.row == row then Some m.turn else named_turn ms row

-- These are what is written of the row's page which is this with what is named turned back, and just that was turned; where nothing is named they
-- are the page itself, and nothing was to be turned.
pub record IsOwn (g : Geometry) (asked : RepairAsked) (row : ℕ) (named : Option BitTurn) (piece : List ℕ) : Type 0 where
  pub size : length piece ≡ page_bytes g
  pub turn_is : turn_at asked row (turned_back (page_from_bytes g.data_bytes piece) named) ≡ named

-- each of the first pieces is so, by what the list names of its row
pub record AreMendedOwn (g : Geometry) (asked : RepairAsked) (rows : ℕ) (mends : List Mend) (pieces : List (List ℕ)) : Type 0 where
  pub size : length pieces ≡ row_count g
  pub each : (row : ℕ) → row < rows → IsOwn g asked row (named_turn mends row) (get_or pieces row [])

-- the list names rows among the first ones, each once, by rising row
pub record AreMendsListed (rows : ℕ) (mends : List Mend) : Type 0 where
  pub within : All (λ m. m.row < rows) mends
  pub rising : AllPairs (λ a b. a.row < b.row) mends

pub record RepairingStands (g : Geometry) (asked : RepairAsked) (rows : ℕ) (mends : List Mend) (scratch : List ℕ) (pieces : Option (List (List ℕ))) : Type 0 where
  pub scratch_size : length scratch ≡ page_bytes g
  pub listed : AreMendsListed rows mends
  pub own : IfSome pieces (AreMendedOwn g asked rows mends)

-- ---- law

-- what is told of a page that was written: its bits that were turned are bits of it, and it is sound or erased; or it is neither
abbrev pub IsTurnTold : BitTurn → Page → Type 0
IsTurnTold (One t) q = IsMendedAs t.made q × (t.bit < bit_count q)
IsTurnTold (Two b) q = IsSome (record_of q) × (b.low < b.high) × (b.high < bit_count q)
IsTurnTold Tied q = is_broken q ≡ true
IsTurnTold Nothing q = is_broken q ≡ true

-- Whatever the reader gave, a row that the list names was asked for, and what is told of its page is so.
abbrev pub OwnRepairLaw : Type 0
OwnRepairLaw = (g : Geometry) (asked : RepairAsked) (row : ℕ) (piece : List ℕ) (t : BitTurn) → IsOwn g asked row (Some t) piece
    → (is_asked asked.rows row ≡ true) × IsTurnTold t (page_from_bytes g.data_bytes piece)
