-- A page as its bytes, those of the data area and then those of the spare area, and its single bits: bit k is bit k mod 8 of byte k / 8, counted
-- from the lowest.
use Rattle.std.specs.Prelude.{ℕ, ◌*◌, ◌/◌, ◌%◌, Bool, List, length, take, drop, slice_index, is_some}
use Rattle.std.specs.Int.{bit_at}
use Rattle.page_layout.specs.Page.{Page, page}
use Rattle.page_layout.specs.Raw.{bytes_of_page}
use Rattle.page_layout.specs.Sound.{record_of}

-- the page of these bytes, of which so many are its data area
abbrev pub page_from_bytes : ℕ → List ℕ → Page
page_from_bytes size bytes = page (take size bytes) (drop size bytes)

-- whether the page is sound
abbrev pub is_sound : Page → Bool
is_sound p = is_some (record_of p)

-- how many bits bytes have
abbrev pub bits_of : List ℕ → ℕ
bits_of bytes = 8 * length bytes

-- bit k of bytes, 0 or 1
abbrev pub bit_in : List ℕ → ℕ → ℕ
bit_in bytes k = bit_at (slice_index bytes (k / 8)) (k % 8)

-- how many bits a page has
abbrev pub bit_count : Page → ℕ
bit_count p = bits_of (bytes_of_page p)

-- bit k of a page
abbrev pub page_bit : Page → ℕ → ℕ
page_bit p k = bit_in (bytes_of_page p) k
