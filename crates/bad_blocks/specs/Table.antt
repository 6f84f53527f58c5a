-- The table of blocks as a list of rows, one a block.
use Rattle.std.specs.Prelude.{ℕ, ◌+◌, ◌≤◌, Bool, true, false, List, count_by, get_or, map, min, slice_set}
use Rattle.bad_blocks.specs.declared.class.Class.{Class}
use Rattle.bad_blocks.specs.declared.class.Class.TheVariants.{Good, Factory, Grown}
use Rattle.bad_blocks.specs.declared.table.TableRow.{TableRow}

-- the erase count at which counting stops: three bytes of FFh
abbrev pub most_wear : ℕ
most_wear = 16777215

-- the erase count has its three bytes
pub record HasFittingWear (row : TableRow) : Type 0 where
  pub most : row.wear ≤ most_wear

-- what a block past the end counts as
abbrev pub no_table_row : TableRow
no_table_row = record { class = Good; wear = 0 }

abbrev pub table_row_at : List TableRow → ℕ → TableRow
table_row_at rows block = get_or rows block no_table_row

abbrev pub class_at : List TableRow → ℕ → Class
class_at rows block = (table_row_at rows block).class

abbrev pub wear_at : List TableRow → ℕ → ℕ
wear_at rows block = (table_row_at rows block).wear

abbrev pub is_good_class : Class → Bool
is_good_class Good = true
is_good_class Factory = false
is_good_class Grown = false

abbrev pub is_good : TableRow → Bool
is_good row = is_good_class row.class

abbrev pub is_good_at : List TableRow → ℕ → Bool
is_good_at rows block = is_good (table_row_at rows block)

-- how many blocks are good
abbrev pub good_count : List TableRow → ℕ
good_count rows = count_by is_good rows

-- the table of blocks of these classes, none of which was ever erased
abbrev pub unworn : List Class → List TableRow
unworn classes = map (λ class. record { class = class; wear = 0 }) classes

-- the table where a block has failed
abbrev pub retired : List TableRow → ℕ → List TableRow
retired rows block = slice_set rows block (record { class = Grown; wear = wear_at rows block })

-- the table where a block was erased once more
abbrev pub erased_once : List TableRow → ℕ → List TableRow
erased_once rows block = slice_set rows block (record { class = class_at rows block; wear = min (wear_at rows block + 1) most_wear })
