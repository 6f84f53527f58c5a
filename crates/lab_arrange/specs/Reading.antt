-- Bytes of a dump, read from a place on, as the die had them.
use Rattle.std.specs.Prelude.{ℕ, ◌+◌, Bool, List, map, slice_index}
use Rattle.std.specs.List.{range_with_len}
use Rattle.lab_arrange.specs.Place.{byte_at, swapped_place}

-- so many bytes from a place on
unfoldable pub bytes_from : Bool → List ℕ → (at count : ℕ) → List ℕ
bytes_from inverted all at count = map (λ i. byte_at inverted all (at + i)) (range_with_len 0 count)

-- so many bytes of these from a place on, or the other ones of their pairs where bytes are swapped
unfoldable pub taken_from : Bool → List ℕ → (lead count : ℕ) → List ℕ
taken_from swapped bytes lead count = map (λ i. slice_index bytes (swapped_place swapped (lead + i))) (range_with_len 0 count)

-- so many bytes of the pages, which begin behind a header, from a place on, as if none were swapped
unfoldable pub area_from : (header : ℕ) → (swapped inverted : Bool) → List ℕ → (at count : ℕ) → List ℕ
area_from header swapped inverted all at count = map (λ i. byte_at inverted all (header + swapped_place swapped (at + i))) (range_with_len 0 count)
