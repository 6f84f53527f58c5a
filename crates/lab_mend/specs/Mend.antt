-- What becomes of a page that is neither erased nor sound, and one bit away from a sound one, or from an erased one. The seal decides first.
use Rattle.std.specs.Prelude.{◌≡◌, ◌↔◌, ℕ, ◌<◌, true, false, if◌then◌else◌, Option, Some, None, IsSome}
use Rattle.std.specs.List.{range_with_len, position}
use Rattle.page_layout.specs.Page.{Page}
use Rattle.page_layout.specs.Sound.{record_of, is_erased_page}
use Rattle.page_layout.specs.Block.{is_broken}
use Rattle.lab_dump.specs.PageBytes.{is_sound, bit_count}
use Rattle.lab_mend.specs.declared.mending.Made.{Made}
use Rattle.lab_mend.specs.declared.mending.Made.TheVariants.{Sound, Erased}
use Rattle.lab_mend.specs.declared.mending.Turned.{Turned}
use Rattle.lab_mend.specs.Bits.{with_bit_turned}

-- the lowest bit whose turning makes the page sound, if there is one
unfoldable pub lowest_bit : Page → Option ℕ
lowest_bit p = position (λ k. is_sound (with_bit_turned p k)) (range_with_len 0 (bit_count p))

-- the lowest bit whose turning leaves the page as an erase does, if there is one
unfoldable pub erased_bit : Page → Option ℕ
erased_bit p = position (λ k. is_erased_page (with_bit_turned p k)) (range_with_len 0 (bit_count p))

-- a page with this bit turned, if there is one
abbrev pub turned_at : Page → Option ℕ → Page
turned_at p None = p
turned_at p (Some k) = with_bit_turned p k

-- the bit that makes a page sound, and where there is none the one that leaves it erased
abbrev pub first_turn : Option ℕ → Option ℕ → Option Turned
first_turn (Some k) erased = Some (record { bit = k; made = Sound })
first_turn None (Some k) = Some (record { bit = k; made = Erased })
first_turn None None = None

-- what is turned of a page: of one that is neither erased nor sound that one, of any other none
unfoldable pub mend_of : Page → Option Turned
mend_of p = if is_broken p then first_turn (lowest_bit p) (erased_bit p) else None

-- the page with that bit turned
abbrev pub turned_if : Page → Option Turned → Page
turned_if p None = p
turned_if p (Some t) = with_bit_turned p t.bit

-- ---- laws

-- what the word of a mend says of the page with that bit turned: it is the lowest bit that makes the page sound, or none does, and it is the lowest
-- that leaves the page erased
abbrev pub Makes : Page → Made → ℕ → Type 0
Makes p Sound k = IsSome (record_of (with_bit_turned p k)) × ((j : ℕ) → j < k → record_of (with_bit_turned p j) ≡ None)
Makes p Erased k = ((j : ℕ) → j < bit_count p → record_of (with_bit_turned p j) ≡ None) × (is_erased_page (with_bit_turned p k) ≡ true) × ((j : ℕ) → j < k → is_erased_page (with_bit_turned p j) ≡ false)

-- the page is neither erased nor sound, and this is the bit that is turned
pub record IsMend (p : Page) (t : Turned) : Type 0 where
  pub unsound : record_of p ≡ None
  pub unerased : is_erased_page p ≡ false
  pub within : t.bit < bit_count p
  pub makes : Makes p t.made t.bit

-- `mend_of` is that bit, and none where there is no such bit.
abbrev pub MendLaw : Type 0
MendLaw = (p : Page) (t : Turned) → (mend_of p ≡ Some t) ↔ IsMend p t

-- what the word says of the mended page
abbrev pub IsMendedAs : Made → Page → Type 0
IsMendedAs Sound q = IsSome (record_of q)
IsMendedAs Erased q = is_erased_page q ≡ true
