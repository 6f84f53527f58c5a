-- Which page is written of a row of which several readings of one die have a page each.
use Rattle.std.specs.Prelude.{◌≡◌, ◌≢◌, ◌↔◌, ◌⊎◌, ℕ, ◌<◌, ◌≤◌, nat_le, ◌&&◌, if◌then◌else◌, Bool, true, false, All, List, [], ◌∷◌, length, replicate, get_or, slice_get, Some, None, IsSome}
use Rattle.std.specs.List.{filter, list_all, range_with_len, Contains}
use Rattle.std.specs.Str.{bytes_eq}
use Rattle.page_layout.specs.declared.geometry.Geometry.{Geometry}
use Rattle.page_layout.specs.Page.{Page, page}
use Rattle.page_layout.specs.Raw.{bytes_of_page}
use Rattle.page_layout.specs.Sound.{record_of, is_erased_page}
use Rattle.page_layout.specs.Block.{is_programmed}
use Rattle.lab_dump.specs.PageBytes.{is_sound}
use Rattle.lab_mend.specs.declared.choice.Origin.{Origin}
use Rattle.lab_mend.specs.declared.choice.Origin.TheVariants.{Sound, Conflict, Majority, Tried, Erased, Unsound}
use Rattle.lab_mend.specs.declared.trial.Trial.TheVariants.{Taken, Tied, Nothing}
use Rattle.lab_mend.specs.Majority.{majority}
use Rattle.lab_mend.specs.Trial.{differing_bits, with_turned, is_tried, turned_count, IsBetween, HasBytes}

-- whether the two pages, which have areas of the same lengths, are one
abbrev pub is_same : Page → Page → Bool
is_same p q = bytes_eq (bytes_of_page p) (bytes_of_page q)

-- what is written of a row whose sound pages differ: 00h bytes alone
abbrev pub zero_page : Geometry → Page
zero_page g = page (replicate g.data_bytes 0) (replicate g.spare_bytes 0)

-- a page that is written, and where it is from
pub record Choice : Type 0 where
  pub its : Page
  pub origin : Origin

abbrev pub chosen : Page → Origin → Choice
chosen p origin = record { its = p; origin = origin }

-- what those come to that have n of d bits turned and are sound: where all are one page that page, else none; where there is none, what comes next
abbrev pub by_found : Page → (n d : ℕ) → (sound : List Page) → (next : Choice) → Choice
by_found p n d [] next = next
by_found p n d (q ∷ more) next = if list_all (is_same q) more then chosen q (Tried (Taken n d)) else chosen p (Tried (Tied n d))

-- what comes of turning so many of these bits, each number in turn
unfoldable pub by_turns : Page → List ℕ → List ℕ → Choice
by_turns p bits [] = chosen p (Tried (Nothing (length bits)))
by_turns p bits (n ∷ more) = by_found p n (length bits) (filter is_sound (with_turned p bits n)) (by_turns p bits more)

-- what comes of turning these bits, the least number first, where they are few; else the page as it is
unfoldable pub by_trial : Page → List ℕ → Choice
by_trial p bits = if is_tried (length bits) then by_turns p bits (range_with_len 1 (length bits)) else chosen p Unsound

-- what comes of turning bits of the first of those that are not erased in which they differ; where there is none, an erased page
abbrev pub by_programmed : Geometry → List Page → List Page → Choice
by_programmed g pages [] = chosen (get_or pages 0 (zero_page g)) Erased
by_programmed g pages (p ∷ more) = by_trial p (differing_bits p (p ∷ more))

-- of three or more the majority of each bit, where that is sound
unfoldable pub by_majority : Geometry → List Page → Choice
by_majority g pages = if nat_le 3 (length pages) && is_sound (majority g pages) then chosen (majority g pages) Majority else by_programmed g pages (filter is_programmed pages)

-- the sound one, where all that are sound are one page
abbrev pub by_sound : Geometry → List Page → List Page → Choice
by_sound g pages [] = by_majority g pages
by_sound g pages (p ∷ more) = if list_all (is_same p) more then chosen p Sound else chosen (zero_page g) Conflict

-- what is written of a row with these pages, one of each reading
unfoldable pub choice : Geometry → List Page → Choice
choice g pages = by_sound g pages (filter is_sound pages)

-- ---- laws

abbrev pub NoneSound : List Page → Type 0
NoneSound pages = All (λ p. record_of p ≡ None) pages

abbrev pub AllErased : List Page → Type 0
AllErased pages = All (λ p. is_erased_page p ≡ true) pages

-- the page is the first of these that is not erased
pub record IsFirstProgrammed (pages : List Page) (p : Page) : Type 0 where
  pub place : ℕ
  pub at : slice_get pages place ≡ Some p
  pub programmed : is_erased_page p ≡ false
  pub before : (j : ℕ) (q : Page) → j < place → slice_get pages j ≡ Some q → is_erased_page q ≡ true

-- no page is sound, this is the first that is not erased, and in so many bits, which are few, one that is not erased differs from it
pub record IsTrial (pages : List Page) (first : Page) (d : ℕ) : Type 0 where
  pub none : NoneSound pages
  pub is_first : IsFirstProgrammed pages first
  pub count : d ≡ length (differing_bits first (filter is_programmed pages))
  pub some : 0 < d
  pub few : d ≤ 16

-- the page is sound, agrees with each reading in all bits in which those that are not erased agree, and differs from the first of these in so many bits
pub record IsSoundBetween (pages : List Page) (first q : Page) (n : ℕ) : Type 0 where
  pub sound : IsSome (record_of q)
  pub between : IsBetween pages first q
  pub turns : turned_count first q ≡ n

-- what each origin says of a page that is written
abbrev pub OriginMeans : Geometry → List Page → Page → Origin → Type 0
OriginMeans g pages p Sound = Contains pages p × IsSome (record_of p) × ((q : Page) → Contains pages q → IsSome (record_of q) → q ≡ p)
OriginMeans g pages p Conflict = (p ≡ zero_page g) × (a : Page) × (b : Page) × Contains pages a × Contains pages b × IsSome (record_of a) × IsSome (record_of b) × (a ≢ b)
OriginMeans g pages p Majority = NoneSound pages × (3 ≤ length pages) × (p ≡ majority g pages) × IsSome (record_of p)
OriginMeans g pages p (Tried (Taken n d)) = (first : Page) × IsTrial pages first d × IsSoundBetween pages first p n
OriginMeans g pages p (Tried (Tied n d)) = IsTrial pages p d × (a : Page) × (b : Page) × IsSoundBetween pages p a n × IsSoundBetween pages p b n × (a ≢ b)
OriginMeans g pages p (Tried (Nothing d)) = IsTrial pages p d
OriginMeans g pages p Erased = AllErased pages × (p ≡ get_or pages 0 (zero_page g))
OriginMeans g pages p Unsound = NoneSound pages × IsFirstProgrammed pages p

-- the areas of these pages have the die's lengths
abbrev pub AreDieSized : Geometry → List Page → Type 0
AreDieSized g pages = All (λ p. (length p.body ≡ g.data_bytes) × (length p.spare ≡ g.spare_bytes)) pages

-- Of any pages of the die the origin that is told is true.
abbrev pub ChoiceLaw : Type 0
ChoiceLaw = (g : Geometry) (pages : List Page) → AreDieSized g pages → OriginMeans g pages (choice g pages).its (choice g pages).origin

-- what a trial says of every other page
abbrev pub IsLeast : List Page → Page → Origin → Type 0
IsLeast pages p (Tried (Taken n d)) = (first q : Page) (m : ℕ) → IsFirstProgrammed pages first → HasBytes q → IsSoundBetween pages first q m → (q ≡ p) ⊎ (n < m)
IsLeast pages p (Tried (Tied n d)) = (q : Page) (m : ℕ) → HasBytes q → IsSoundBetween pages p q m → n ≤ m
IsLeast pages p (Tried (Nothing d)) = (q : Page) (m : ℕ) → HasBytes q → IsSoundBetween pages p q m → ⊥
IsLeast pages p _ = Unit {0}

-- Of the sound pages that agree with the readings wherever these agree, each other one than the page that is taken turns more bits; where pages are
-- tied none turns fewer; and where nothing is found there is none.
abbrev pub LeastLaw : Type 0
LeastLaw = (g : Geometry) (pages : List Page) → All HasBytes pages → IsLeast pages (choice g pages).its (choice g pages).origin

-- A row counts as erased just where its page is erased in every reading: one that any of them has programmed never does.
abbrev pub ErasedReadingsLaw : Type 0
ErasedReadingsLaw = (g : Geometry) (pages : List Page) → AreDieSized g pages → 0 < length pages → ((choice g pages).origin ≡ Erased) ↔ AllErased pages

-- each page of the one list is a page of the other
abbrev pub AreAmong : List Page → List Page → Type 0
AreAmong pages others = (p : Page) → Contains pages p → Contains others p

-- Where some page is sound, it doesn't matter in which order the readings come, nor how often one comes.
abbrev pub ReadingOrderLaw : Type 0
ReadingOrderLaw = (g : Geometry) (pages others : List Page) (p : Page) → AreDieSized g pages → AreAmong pages others → AreAmong others pages → Contains pages p → IsSome (record_of p) → choice g pages ≡ choice g others

-- A page of 00h bytes is never sound.
abbrev pub ZeroLaw : Type 0
ZeroLaw = (g : Geometry) → record_of (zero_page g) ≡ None
