-- What is written and told while the rows are taken.
use Rattle.std.specs.Prelude.{◌≡◌, ℕ, ◌+◌, ◌<◌, ◌≤◌, ◌==◌, Bool, All, List, [], ◌∷◌, ◌++◌, length, get_or, replicate, count_by, Option, Some, None, IfSome}
use Rattle.std.specs.List.{range_with_len, filter, filter_map, AllPairs, Contains}
use Rattle.page_layout.specs.declared.geometry.Geometry.{Geometry}
use Rattle.page_layout.specs.Geometry.{row_count, page_bytes}
use Rattle.page_layout.specs.Page.{Page}
use Rattle.page_layout.specs.Raw.{bytes_of_page}
use Rattle.lab_mend.specs.declared.choice.Origin.{Origin}
use Rattle.lab_mend.specs.declared.choice.Origin.TheVariants.{Sound, Conflict, Majority, Tried, Erased, Unsound}
use Rattle.lab_mend.specs.declared.trial.Trial.{Trial}
use Rattle.lab_mend.specs.declared.trial.Trial.TheVariants.{Taken, Tied, Nothing}
use Rattle.lab_mend.specs.declared.merging.RowTally.{RowTally}
use Rattle.lab_mend.specs.declared.merging.TriedRow.{TriedRow}
use Rattle.lab_mend.specs.Choice.{choice}

-- ---- one row more

-- the rows that are named, with one more
abbrev pub named : List ℕ → ℕ → Origin → List ℕ
named rows row Sound = rows
named rows row Conflict = rows ++ (row ∷ [])
named rows row Majority = rows
named rows row (Tried t) = rows
named rows row Erased = rows
named rows row Unsound = rows

-- the rows of which a page is written as it is that is neither erased nor sound, with one more
abbrev pub with_unsound : List ℕ → ℕ → Origin → List ℕ
with_unsound rows row Sound = rows
with_unsound rows row Conflict = rows
with_unsound rows row Majority = rows
with_unsound rows row (Tried (Taken n d)) = rows
with_unsound rows row (Tried (Tied n d)) = rows ++ (row ∷ [])
with_unsound rows row (Tried (Nothing d)) = rows ++ (row ∷ [])
with_unsound rows row Erased = rows
with_unsound rows row Unsound = rows ++ (row ∷ [])

-- a row of which pages were tried
abbrev pub as_tried : ℕ → Trial → TriedRow
as_tried row t = record { row = row; trial = t }

-- it, if pages were tried of the row
abbrev pub tried_row : ℕ → Origin → Option TriedRow
tried_row row Sound = None
tried_row row Conflict = None
tried_row row Majority = None
tried_row row (Tried t) = Some (as_tried row t)
tried_row row Erased = None
tried_row row Unsound = None

-- the rows of which pages were tried, with one more
abbrev pub with_tried : List TriedRow → Option TriedRow → List TriedRow
with_tried rows None = rows
with_tried rows (Some r) = rows ++ (r ∷ [])

abbrev pub with_origin_counted : RowTally → Origin → RowTally
with_origin_counted t Sound = record { sound = t.sound + 1; majority = t.majority; turned = t.turned; erased = t.erased; unsound = t.unsound }
with_origin_counted t Conflict = t
with_origin_counted t Majority = record { sound = t.sound; majority = t.majority + 1; turned = t.turned; erased = t.erased; unsound = t.unsound }
with_origin_counted t (Tried (Taken n d)) = record { sound = t.sound; majority = t.majority; turned = t.turned + 1; erased = t.erased; unsound = t.unsound }
with_origin_counted t (Tried (Tied n d)) = record { sound = t.sound; majority = t.majority; turned = t.turned; erased = t.erased; unsound = t.unsound + 1 }
with_origin_counted t (Tried (Nothing d)) = record { sound = t.sound; majority = t.majority; turned = t.turned; erased = t.erased; unsound = t.unsound + 1 }
with_origin_counted t Erased = record { sound = t.sound; majority = t.majority; turned = t.turned; erased = t.erased + 1; unsound = t.unsound }
with_origin_counted t Unsound = record { sound = t.sound; majority = t.majority; turned = t.turned; erased = t.erased; unsound = t.unsound + 1 }

-- ---- of rows whose pages are known

-- the place of an origin among the six, where one of a trial that took nothing is as the unsound ones
abbrev pub origin_place : Origin → ℕ
origin_place Sound = 0
origin_place Conflict = 1
origin_place Majority = 2
origin_place Erased = 3
origin_place Unsound = 4
origin_place (Tried (Taken n d)) = 5
origin_place (Tried (Tied n d)) = 4
origin_place (Tried (Nothing d)) = 4

-- whether a row's page is of this origin
abbrev pub is_from : Geometry → (ℕ → List Page) → Origin → ℕ → Bool
is_from g rows origin row = origin_place (choice g (rows row)).origin == origin_place origin

-- the first rows of which two sound pages differ
unfoldable pub conflicts_below : Geometry → (ℕ → List Page) → ℕ → List ℕ
conflicts_below g rows n = filter (is_from g rows Conflict) (range_with_len 0 n)

-- the first rows of which no page is sound or taken, nor the majority, and some page is not erased
unfoldable pub unsound_rows_below : Geometry → (ℕ → List Page) → ℕ → List ℕ
unsound_rows_below g rows n = filter (is_from g rows Unsound) (range_with_len 0 n)

-- whether bits were turned of a row's page
abbrev pub is_turned : Geometry → (ℕ → List Page) → ℕ → Bool
is_turned g rows row = origin_place (choice g (rows row)).origin == 5

-- the first rows of which pages were tried, and what came of them
unfoldable pub tried_below : Geometry → (ℕ → List Page) → ℕ → List TriedRow
tried_below g rows n = filter_map (λ row. tried_row row (choice g (rows row)).origin) (range_with_len 0 n)

-- how many of the first rows are of each origin but `Conflict`
unfoldable pub tally_below : Geometry → (ℕ → List Page) → ℕ → RowTally
tally_below g rows n = record {
  sound = count_by (is_from g rows Sound) (range_with_len 0 n);
  majority = count_by (is_from g rows Majority) (range_with_len 0 n);
  turned = count_by (is_turned g rows) (range_with_len 0 n);
  erased = count_by (is_from g rows Erased) (range_with_len 0 n);
  unsound = count_by (is_from g rows Unsound) (range_with_len 0 n);
}

-- the bytes of the page that is written of these pages of a row
abbrev pub piece_of : Geometry → List Page → List ℕ
piece_of g pages = bytes_of_page (choice g pages).its

-- what the first rows come to
pub record ShowsMerge (g : Geometry) (rows : ℕ → List Page) (n : ℕ) (conflicts : List ℕ) (tally : RowTally) (pieces : Option (List (List ℕ))) : Type 0 where
  pub conflicts_are : conflicts ≡ conflicts_below g rows n
  pub tally_is : tally ≡ tally_below g rows n
  pub pieces_are : IfSome pieces (λ ps. (row : ℕ) → row < n → get_or ps row [] ≡ piece_of g (rows row))

-- ---- whatever the pages were

-- each of the first pieces has as many bytes as a page, and those of the rows that are named are 00h bytes
pub record AreMergedPieces (g : Geometry) (n : ℕ) (conflicts : List ℕ) (pieces : List (List ℕ)) : Type 0 where
  pub size : length pieces ≡ row_count g
  pub sized : (row : ℕ) → row < n → length (get_or pieces row []) ≡ page_bytes g
  pub zeros : (row : ℕ) → Contains conflicts row → get_or pieces row [] ≡ replicate (page_bytes g) 0

-- rows among the first ones, each once, by rising row
pub record AreRowsListed (n : ℕ) (conflicts : List ℕ) : Type 0 where
  pub within : All (λ row. row < n) conflicts
  pub rising : AllPairs (λ a b. a < b) conflicts

-- of rows among the first ones, each once, by rising row
pub record AreTried (n : ℕ) (tried : List TriedRow) : Type 0 where
  pub within : All (λ r. r.row < n) tried
  pub rising : AllPairs (λ a b. a.row < b.row) tried

pub record IsTallyWithin (n : ℕ) (tally : RowTally) : Type 0 where
  pub sound : tally.sound ≤ n
  pub majority : tally.majority ≤ n
  pub turned : tally.turned ≤ n
  pub erased : tally.erased ≤ n
  pub unsound : tally.unsound ≤ n

pub record MergingStands (g : Geometry) (n : ℕ) (conflicts : List ℕ) (tally : RowTally) (scratch : List ℕ) (pieces : Option (List (List ℕ))) : Type 0 where
  pub scratch_size : length scratch ≡ page_bytes g
  pub few : IsTallyWithin n tally
  pub listed : AreRowsListed n conflicts
  pub own : IfSome pieces (AreMergedPieces g n conflicts)
