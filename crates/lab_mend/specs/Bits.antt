-- Pages with a bit turned.
use Rattle.std.specs.Prelude.{◌≡◌, ◌↔◌, ℕ, ◌/◌, ◌%◌, ◌^◌, ◌<◌, List, length, slice_index, slice_set, bit_xor}
use Rattle.page_layout.specs.Page.{Page}
use Rattle.page_layout.specs.Raw.{bytes_of_page}
use Rattle.lab_dump.specs.PageBytes.{page_from_bytes, bit_count, page_bit}

-- bytes with bit k turned
unfoldable pub turned_bytes : List ℕ → ℕ → List ℕ
turned_bytes bytes k = slice_set bytes (k / 8) (bit_xor (slice_index bytes (k / 8)) (2 ^ (k % 8)))

-- a page with bit k turned
abbrev pub with_bit_turned : Page → ℕ → Page
with_bit_turned p k = page_from_bytes (length p.body) (turned_bytes (bytes_of_page p) k)

-- the other page has areas of the same lengths, and differs in this bit and in no other
pub record DiffersAt (p q : Page) (k : ℕ) : Type 0 where
  pub within : k < bit_count p
  pub body_size : length q.body ≡ length p.body
  pub spare_size : length q.spare ≡ length p.spare
  pub others : (j : ℕ) → (page_bit q j ≡ page_bit p j) ↔ (¬ (j ≡ k))

-- A page with a bit turned differs in that bit and in no other.
abbrev pub TurnedLaw : Type 0
TurnedLaw = (p : Page) (k : ℕ) → k < bit_count p → DiffersAt p (with_bit_turned p k) k
