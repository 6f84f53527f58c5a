-- The state of a block by what its pages showed and what the table says of it.
use Rattle.std.specs.Prelude.{◌≡◌, ◌⊎◌, ℕ, ◌<◌, ◌≤◌, ◌==◌, ◌&&◌, ◌||◌, min, max, not, nat_lt, nat_le, Bool, true, false, if◌then◌else◌, List, slice_get, Some}
use Rattle.bad_blocks.specs.declared.class.Class.{Class}
use Rattle.bad_blocks.specs.declared.class.Class.TheVariants.{Good, Factory, Grown}
use Rattle.bad_blocks.specs.declared.table.TableRow.{TableRow}
use Rattle.certificate.specs.declared.block_state.BlockState.{BlockState}
use Rattle.image_check.specs.declared.look.BlockLook.{BlockLook}

-- its pages show that it is bad
abbrev pub shows_bad : BlockLook → Bool
shows_bad look = look.broken || look.gap

-- it is good, and some of its pages are erased and some not
abbrev pub is_partial_seen : Class → BlockLook → Bool
is_partial_seen Good look = not (shows_bad look) && (look.erased && nat_lt 0 look.written)
is_partial_seen Factory look = false
is_partial_seen Grown look = false

-- where `top` is the greatest last sequence of the partial blocks of its stream
abbrev pub class_seen : Class → BlockLook → ℕ → ℕ
class_seen Factory look top = 4
class_seen Grown look top = 5
class_seen Good look top =
    if shows_bad look then 5 else (if look.written == 0 then 0 else (
    if look.erased && nat_le top look.last then (if look.of_data then 1 else 2) else 3))

abbrev pub pointer_seen : Class → BlockLook → ℕ
pointer_seen Good look = if shows_bad look then 0 else min look.written 65535
pointer_seen Factory look = 0
pointer_seen Grown look = 0

abbrev pub state_seen : Class → ℕ → BlockLook → ℕ → ℕ → BlockState
state_seen class wear look top live = record {
  class = class_seen class look top;
  pointer = pointer_seen class look;
  live = min live 65535;
  wear = min (max wear look.wear) 16777215;
}

-- block c is partial and of this stream
pub record IsPartialAt (rows : List TableRow) (looks : List BlockLook) (of_data : Bool) (c : ℕ) (look : BlockLook) : Type 0 where
  pub row : TableRow
  pub at_row : slice_get rows c ≡ Some row
  pub at_look : slice_get looks c ≡ Some look
  pub partial : is_partial_seen row.class look ≡ true
  pub stream : look.of_data ≡ of_data

pub record IsReached (rows : List TableRow) (looks : List BlockLook) (n : ℕ) (of_data : Bool) (top : ℕ) : Type 0 where
  pub block : ℕ
  pub look : BlockLook
  pub within : block < n
  pub at : IsPartialAt rows looks of_data block look
  pub is : look.last ≡ top

-- the greatest last sequence of the partial blocks of a stream among the first n, or 0
pub record IsTop (rows : List TableRow) (looks : List BlockLook) (n : ℕ) (of_data : Bool) (top : ℕ) : Type 0 where
  pub above : (c : ℕ) (look : BlockLook) → c < n → IsPartialAt rows looks of_data c look → look.last ≤ top
  pub reached : (top ≡ 0) ⊎ IsReached rows looks n of_data top
