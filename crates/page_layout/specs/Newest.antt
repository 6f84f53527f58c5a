-- The newest page of a key, of the records that the pages of an image have: `IsNewest` says which page that is, `newest` computes its row,
-- and `latest_below` is what a scan by rising row knows on its way there.
use Rattle.std.specs.Prelude.{ℕ, if◌then◌else◌, List, length, get_or, Option, Some, None}
use Rattle.page_layout.specs.declared.record.Record.{Record}
use Rattle.page_layout.specs.declared.record.Key.{Key}
use Rattle.page_layout.specs.Key.{key_of, key_eq}
use Rattle.page_layout.specs.Greatest.{IsGreatest, SharesGreatest, Describes, best, greatest}
use Rattle.page_layout.specs.declared.newest.Latest.{Latest}

-- the sequence that a page's record has, if the page is sound and of this key
unfoldable pub sequence_of : Key → Option Record → Option ℕ
sequence_of key None = None
sequence_of key (Some r) = if key_eq (key_of r) key then Some r.sequence else None

-- the same for the page of a row
unfoldable pub sequence_at : List (Option Record) → Key → ℕ → Option ℕ
sequence_at marks key row = sequence_of key (get_or marks row None)

-- the row's page is sound, of this key, and of a greater sequence than every other sound page of the key
abbrev pub IsNewest : List (Option Record) → Key → ℕ → Type 0
IsNewest marks key row = IsGreatest (sequence_at marks key) row

-- what is known of the newest page of a key after the first rows
unfoldable pub latest_below : List (Option Record) → Key → ℕ → Latest
latest_below marks key rows = best (sequence_at marks key) rows

-- two sound pages of the key share a sequence that no sound page of the key passes
abbrev pub AreTied : List (Option Record) → Key → ℕ → ℕ → Type 0
AreTied marks key a b = SharesGreatest (sequence_at marks key) a b

-- the row of the newest page of a key, or none
unfoldable pub newest : List (Option Record) → Key → Option ℕ
newest marks key = greatest (sequence_at marks key) (length marks)

-- what stands in an image of whose pages this is known: no sound page of the key, its newest page, or two that share its greatest sequence
abbrev pub TellsLatest : List (Option Record) → Key → Latest → Type 0
TellsLatest marks key latest = Describes (sequence_at marks key) latest
