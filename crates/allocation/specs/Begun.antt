-- The blocks as a certificate says that they are.
use Rattle.std.specs.Prelude.{ℕ, ◌==◌, ◌&&◌, nat_lt, Bool, if◌then◌else◌, min, List, map, get_or, position}
use Rattle.page_layout.specs.declared.geometry.Geometry.{Geometry}
use Rattle.bad_blocks.specs.declared.table.TableRow.{TableRow}
use Rattle.bad_blocks.specs.declared.class.Class.{Class}
use Rattle.bad_blocks.specs.declared.class.Class.TheVariants.{Good, Factory, Grown}
use Rattle.bad_blocks.specs.Table.{most_wear, is_good_at}
use Rattle.certificate.specs.declared.block_state.BlockState.{BlockState}
use Rattle.allocation.specs.declared.fill.Fill.{Fill}
use Rattle.allocation.specs.State.{State, no_fill}

-- the class of a certificate's code
abbrev pub class_from : ℕ → Class
class_from code = if code == 4 then Factory else (if code == 5 then Grown else Good)

-- the class and the erase count, up to the greatest that is counted
abbrev pub row_from : BlockState → TableRow
row_from b = record { class = class_from b.class; wear = min b.wear most_wear }

-- a pointer stays within the block
abbrev pub fill_from : ℕ → BlockState → Fill
fill_from pages b = record { pointer = min b.pointer pages; live = b.live }

-- whether a certificate says that a block is open, as class 1 or 2, and it has a page programmed and one over
abbrev pub begins_open : ℕ → ℕ → BlockState → Bool
begins_open code pages b = (b.class == code) && nat_lt 0 b.pointer && nat_lt b.pointer pages

-- Each block as its state says. Of those said to be open in a stream and partly filled the first is.
abbrev pub begun : Geometry → List BlockState → State
begun g states = record {
  geometry = g;
  table = map row_from states;
  fills = map (fill_from g.pages) states;
  data_open = position (begins_open 1 g.pages) states;
  meta_open = position (begins_open 2 g.pages) states;
}

-- whether a block is good and has no page programmed
abbrev pub unused : List TableRow → List Fill → ℕ → Bool
unused table fills block = is_good_at table block && ((get_or fills block no_fill).pointer == 0)
