-- The dump put in order, page by page.
use Rattle.std.proofs.Common.{◌≡◌, ℕ, ◌+◌, ◌*◌, ◌-◌, ◌<◌, List, length, map, take, drop, ap, ◌∙◌, arith}
use Rattle.std.specs.List.{concat, range_with_len}
use Rattle.std.proofs.lemmas.List.FromFn.{length-map-range_with_len}
use Rattle.page_layout.specs.declared.geometry.Geometry.{Geometry}
use Rattle.page_layout.specs.Geometry.{page_bytes, row_count}
use Rattle.lab_dump.specs.PageBytes.{page_from_bytes}
use Rattle.lab_dump.specs.Pages.{dump_page_at}
use Rattle.lab_dump.specs.Scan.{image_bytes}
use Rattle.lab_dump.proofs.PieceLemmas.{piece_of, pieces_size}
use Rattle.lab_arrange.specs.declared.arrangement.Arrangement.{Arrangement}
use Rattle.lab_arrange.specs.Place.{byte_at, place_in_dump}
use Rattle.lab_arrange.specs.Arranged.{arranged_piece}
use Rattle.lab_shapes.specs.Ordered.{ordered}

pub piece_size : (g : Geometry) (a : Arrangement) (all : List ℕ) (row : ℕ) → length (arranged_piece g a all row) ≡ page_bytes g
unfolding arranged_piece
piece_size g a all row = length-map-range_with_len (λ column. byte_at a.inverted all (place_in_dump g a row column)) 0 (page_bytes g)

-- it has as many bytes as the die's pages
pub ordered_size : (g : Geometry) (a : Arrangement) (all : List ℕ) → length (ordered g a all) ≡ image_bytes g
unfolding ordered
ordered_size g a all = pieces_size (arranged_piece g a all) (page_bytes g) 0 (row_count g) (λ row l. piece_size g a all row)

-- and its page of a row is that of the dump
pub ordered_page : (g : Geometry) (a : Arrangement) (all : List ℕ) (row : ℕ) → row < row_count g → dump_page_at g.data_bytes g.spare_bytes (ordered g a all) row ≡ page_from_bytes g.data_bytes (arranged_piece g a all row)
unfolding ordered dump_page_at
ordered_page g a all row l =
    let n : ℕ = page_bytes g in
    let one : row * n + n - row * n ≡ n = omega arith in
    ap (page_from_bytes g.data_bytes) (ap (λ k. take k (drop (row * n) (concat (map (arranged_piece g a all) (range_with_len 0 (row_count g)))))) one
    ∙ piece_of (arranged_piece g a all) n (row_count g) row (λ r i. piece_size g a all r) l)
