-- What the pages of a block tell of its erase count.
use Rattle.std.proofs.Common.{◌≡◌, ℕ, ◌+◌, ◌*◌, ◌/◌, ◌%◌, ◌<◌, ◌≤◌, min, List, length, map, get_or, Some, None, ap, ◌∙◌, inl, inr, arith, slice_get}
use Rattle.std.proofs.lemmas.Bool.{cases_lt}
use Rattle.std.proofs.Math.Nat.{div-lt_iff_lt-mul}
use Rattle.std.proofs.lemmas.List.{get_or-map, get_or_past, length-map}
use Rattle.std.proofs.lemmas.Option.{slice_get_within, get_or_from_slice_get}
use Rattle.page_layout.specs.declared.geometry.Geometry.{Geometry}
use Rattle.page_layout.specs.declared.record.Record.{Record}
use Rattle.page_layout.specs.Page.{Image, IsImage}
use Rattle.page_layout.specs.Array.{marks}
use Rattle.page_layout.specs.Block.{block_pages}
use Rattle.page_layout.proofs.BlockLemmas.{top_is}
use Rattle.page_layout.proofs.ArrayLemmas.{page_of_mark}
use Rattle.bad_blocks.specs.declared.table.TableRow.{TableRow}
use Rattle.bad_blocks.specs.Table.{wear_at, most_wear, no_table_row}
use Rattle.certificate.specs.declared.block_state.BlockState.{BlockState}
use Rattle.certificate.specs.Claim.{Claim}
use Rattle.allocation.specs.Begun.{begun, row_from}
use Rattle.image_check.specs.Blocks.{erase_count}
use Rattle.image_check.specs.Agrees.{Agrees}
use Rattle.image_check.proofs.LookLemmas.{block_page}
use Rattle.ftl_device.specs.Begin.{no_block}

-- ---- the erase counts that a certificate gives

pub begun_wear : (g : Geometry) (states : List BlockState) (b : ℕ) → b < length states → wear_at (begun g states).table b ≡ min (get_or states b no_block).wear most_wear
begun_wear g states b lt = ap (λ (x : TableRow). x.wear) (get_or-map row_from states b no_block no_table_row lt)

pub begun_wear_most : (g : Geometry) (states : List BlockState) (b : ℕ) → wear_at (begun g states).table b ≤ most_wear
begun_wear_most g states b = elim (cases_lt b (length states)) [
  | inl lt ↦ omega (arith, begun_wear g states b lt)
  | inr past ↦ (let none : wear_at (begun g states).table b ≡ 0 = ap (λ (x : TableRow). x.wear) (get_or_past (map row_from states) b no_table_row (omega (arith, length-map states row_from))) in omega arith)
]

-- ---- what pages tell

-- an erase count that an image shows is no less than what a sound page of the block tells
pub told_most : (g : Geometry) (image : Image) (row : ℕ) (x : Record) → IsImage g image → get_or (marks image) row None ≡ Some x → min x.wear most_wear ≤ erase_count g image (row / g.pages)
unfolding erase_count
told_most g image row x whole at =
    let page = page_of_mark image row x at in
    let few : row % g.pages < g.pages = (let least = g.limits.page_count.least in omega arith) in
    let parts : row ≡ row / g.pages * g.pages + row % g.pages = omega arith in
    let there : slice_get (block_pages g image (row / g.pages)) (row % g.pages) ≡ Some page.0 = block_page g image (row / g.pages) (row % g.pages) row parts few ∙ page.1 in
    let most = (top_is (block_pages g image (row / g.pages))).most (row % g.pages) page.0 x there page.2 in
    omega arith

pub told_begun : (g : Geometry) (capacity : ℕ) (image : Image) (c : Claim) (row : ℕ) (x : Record) → IsImage g image → Agrees g capacity image c → get_or (marks image) row None ≡ Some x → min x.wear most_wear ≤ wear_at (begun g c.blocks).table (row / g.pages)
told_begun g capacity image c row x whole agrees at =
    let page = page_of_mark image row x at in
    let within : row < length image = slice_get_within image row page.0 page.1 in
    let rows = whole.rows in
    let lt : row / g.pages < g.blocks = (div-lt_iff_lt-mul {k = g.pages} {x = row} {y = g.blocks} (omega (arith, g.limits.page_count.least))).1 (omega arith) in
    let state = agrees.wear.state (row / g.pages) lt in
    let its : get_or c.blocks (row / g.pages) no_block ≡ state.0 = get_or_from_slice_get c.blocks (row / g.pages) state.0 no_block state.1 in
    let wear : (get_or c.blocks (row / g.pages) no_block).wear ≡ erase_count g image (row / g.pages) = ap (λ (s : BlockState). s.wear) its ∙ state.2 in
    let told = told_most g image row x whole at in
    omega (arith, begun_wear g c.blocks (row / g.pages) (slice_get_within c.blocks (row / g.pages) state.0 state.1))
