-- What a pass knows of the newest page of a key.
use Rattle.std.specs.Prelude.{◌≡◌, ℕ, ◌<◌, nat_lt, if◌then◌else◌, [], Option, Some, None}
use Rattle.std.specs.Int.{w64, from_le_bytes}
use Rattle.page_layout.specs.declared.newest.Latest.{Latest}
use Rattle.page_layout.specs.declared.newest.Latest.TheVariants.{Never, Once, Tied}
use Rattle.page_layout.specs.Word.{no_row}
use Rattle.image_check.specs.declared.newest.Newest.{Newest}

-- the word that stands for no row where two pages share the greatest sequence
abbrev pub tied : ℕ
tied = 0xffff_fffe

-- the row of the newest page, or none
abbrev pub place_in : Newest → Option ℕ
place_in x = if nat_lt x.row tied then Some x.row else None

-- it says as much, but for the rows of a tie
abbrev pub TellsNewest : Newest → Latest → Type 0
TellsNewest x Never = x.row ≡ no_row
TellsNewest x (Once row s) = (x.row ≡ row) × (row < tied) × (from_le_bytes w64 x.sequence ≡ s)
TellsNewest x (Tied a b s) = (x.row ≡ tied) × (from_le_bytes w64 x.sequence ≡ s)

-- what stands past the end of a list of these
abbrev pub no_newest : Newest
no_newest = record { row = no_row; sequence = [] }
