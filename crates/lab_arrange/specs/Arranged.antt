-- What is written of a dump that is not in order.
use Rattle.std.specs.Prelude.{◌≡◌, ◌≢◌, ℕ, All, List, length, map, drop, Option, Some, IfSome}
use Rattle.std.specs.List.{range_with_len}
use Rattle.page_layout.specs.declared.geometry.Geometry.{Geometry}
use Rattle.page_layout.specs.Geometry.{row_count, page_bytes}
use Rattle.lab_arrange.specs.declared.arrangement.Arrangement.{Arrangement}
use Rattle.lab_arrange.specs.declared.arrange.ArrangeFault.{ArrangeFault}
use Rattle.lab_arrange.specs.declared.arrange.ArrangeFault.TheVariants as fault
use Rattle.lab_arrange.specs.Place.{byte_at, length_of, place_in_dump}

-- THE PAGE OF A ROW: each of its bytes is the byte of the dump at its place
unfoldable pub arranged_piece : Geometry → Arrangement → List ℕ → ℕ → List ℕ
arranged_piece g a all row = map (λ column. byte_at a.inverted all (place_in_dump g a row column)) (range_with_len 0 (page_bytes g))

-- its spare area
abbrev pub spare_at : Geometry → Arrangement → List ℕ → ℕ → List ℕ
spare_at g a all row = drop g.data_bytes (arranged_piece g a all row)

-- the pages of the first rows
abbrev pub pieces_below : Geometry → Arrangement → List ℕ → ℕ → List (List ℕ)
pieces_below g a all rows = map (arranged_piece g a all) (range_with_len 0 rows)

-- The dump has as many bytes as the words say, and the pieces are its pages in order, row by row.
pub record IsArranged (g : Geometry) (a : Arrangement) (pieces : Option (List (List ℕ))) (all : List ℕ) : Type 0 where
  pub whole : length all ≡ length_of g a
  pub pieces_are : IfSome pieces (λ ps. ps ≡ pieces_below g a all (row_count g))

-- Whatever the dump gave, there is a piece for each row, of as many bytes as a page has.
pub record AreSized (g : Geometry) (pieces : List (List ℕ)) : Type 0 where
  pub rows : length pieces ≡ row_count g
  pub sizes : All (λ p. length p ≡ page_bytes g) pieces

-- `WrongLength` says how many bytes were wanted, and how many others there are; where the bytes are known, that is how many they are.
abbrev pub IsUnarranged : Geometry → Arrangement → (known : Option (List ℕ)) → ArrangeFault → Type 0
IsUnarranged g a known (fault.WrongLength wanted found) = (wanted ≡ length_of g a) × (found ≢ wanted) × ((all : List ℕ) → known ≡ Some all → found ≡ length all)
IsUnarranged g a known fault.Source = Unit {0}
IsUnarranged g a known fault.Target = Unit {0}
