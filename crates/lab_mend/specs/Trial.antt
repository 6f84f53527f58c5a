-- The pages that agree with several readings of a page in each bit in which these agree.
use Rattle.std.specs.Prelude.{◌≡◌, ℕ, zero, suc, ◌<◌, ◌==◌, ◌&&◌, not, nat_le, Bool, false, All, List, [], ◌∷◌, ◌++◌, length, count_by}
use Rattle.std.specs.List.{filter, list_any, range_with_len, Contains}
use Rattle.page_layout.specs.Page.{Page}
use Rattle.page_layout.specs.Raw.{bytes_of_page}
use Rattle.page_layout.specs.Sound.{is_erased_page}
use Rattle.lab_dump.specs.PageBytes.{bit_count, page_bit}
use Rattle.lab_mend.specs.Bits.{with_bit_turned}

-- whether the two pages differ in bit k
abbrev pub differ_in : Page → Page → ℕ → Bool
differ_in p q k = not (page_bit q k == page_bit p k)

-- the bits in which one of these pages differs from this one, by rising bit
unfoldable pub differing_bits : Page → List Page → List ℕ
differing_bits p ps = filter (λ k. list_any (λ q. differ_in p q k) ps) (range_with_len 0 (bit_count p))

-- the pages that have so many of these bits turned, and no other
unfoldable pub with_turned : Page → List ℕ → ℕ → List Page
with_turned p bits zero = p ∷ []
with_turned p [] (suc n) = []
with_turned p (k ∷ ks) (suc n) = with_turned (with_bit_turned p k) ks n ++ with_turned p ks (suc n)

-- whether pages are tried where so many bits differ: up to sixteen
abbrev pub is_tried : ℕ → Bool
is_tried d = nat_le 1 d && nat_le d 16

-- ---- laws

-- in how many bits the two pages differ
abbrev pub turned_count : Page → Page → ℕ
turned_count p q = count_by (differ_in p q) (range_with_len 0 (bit_count p))

-- The page has areas of the first one's lengths, and agrees with it in each bit in which all pages that are not erased do.
pub record IsBetween (pages : List Page) (first q : Page) : Type 0 where
  pub body_size : length q.body ≡ length first.body
  pub spare_size : length q.spare ≡ length first.spare
  pub agrees : (k : ℕ) → k < bit_count first → ((r : Page) → Contains pages r → is_erased_page r ≡ false → page_bit r k ≡ page_bit first k) → page_bit q k ≡ page_bit first k

-- its bytes are bytes
abbrev pub HasBytes : Page → Type 0
HasBytes p = All (λ b. b < 256) (bytes_of_page p)
