-- Which sectors have lost a page since a certificate was made of the die. A page that was the newest of its sector then is erased only once
-- a newer one was programmed, which has a later sequence.
use Rattle.std.specs.Prelude.{◌≡◌, ◌↔◌, ◌⊎◌, ℕ, ◌+◌, ◌<◌, ◌≤◌, ◌==◌, ◌&&◌, nat_lt, not, Bool, true, false, List, [], ◌∷◌, length, get_or, map, Option, Some, None, is_some}
use Rattle.std.specs.List.{range_with_len}
use Rattle.page_layout.specs.declared.geometry.Geometry.{Geometry}
use Rattle.page_layout.specs.declared.record.Record.{Record}
use Rattle.page_layout.specs.declared.record.Key.TheVariants.{Sector}
use Rattle.page_layout.specs.declared.newest.Latest.{Latest}
use Rattle.page_layout.specs.declared.newest.Latest.TheVariants.{Never, Once, Tied}
use Rattle.page_layout.specs.Page.{Page, Image}
use Rattle.page_layout.specs.Sound.{record_of, version_of, version_for}
use Rattle.page_layout.specs.Key.{key_of}
use Rattle.page_layout.specs.Newest.{IsNewest, latest_below, sequence_at}
use Rattle.page_layout.specs.Live.{IsKeyOf}
use Rattle.page_layout.specs.Array.{marks}
use Rattle.page_layout.specs.Change.{IsUnsoundAt, HoldsNone}
use Rattle.page_layout.specs.Flash.{Flash, Operation, Program, Erase, Steps}
use Rattle.certificate.specs.Claim.{Claim}
use Rattle.image_check.specs.Agrees.{Agrees}

-- ---- the criterion

-- the sector's newest page stands in the row that the certificate says; where it says none, there is no sound page of the sector
abbrev pub IsWhereSaid : List (Option Record) → ℕ → Option ℕ → Type 0
IsWhereSaid marks n (Some row) = IsNewest marks (Sector n) row
IsWhereSaid marks n None = (row : ℕ) → sequence_at marks (Sector n) row ≡ None

-- the sector's newest page has this sequence or a later one
pub record IsSectorSince (marks : List (Option Record)) (n next : ℕ) : Type 0 where
  pub row : ℕ
  pub sequence : ℕ
  pub newest_is : IsNewest marks (Sector n) row
  pub at : sequence_at marks (Sector n) row ≡ Some sequence
  pub late : next ≤ sequence

-- ---- the same, computed

-- whether this is the row that is said, if one is
abbrev pub is_there : Option ℕ → ℕ → Bool
is_there None row = false
is_there (Some said) row = said == row

-- by the row that is said, the sequence that was next, and what is known of the sector's newest page
abbrev pub is_lost_by_latest : Option ℕ → ℕ → Latest → Bool
is_lost_by_latest said next Never = is_some said
is_lost_by_latest said next (Once row s) = not (is_there said row) && nat_lt s next
is_lost_by_latest said next (Tied a b s) = true

-- the row that a certificate says for sector n
abbrev pub said_row : Claim → ℕ → Option ℕ
said_row c n = get_or c.sectors n None

-- whether sector n has lost a page
unfoldable pub has_lost_page : Claim → Image → ℕ → Bool
has_lost_page c image n = is_lost_by_latest (said_row c n) c.next (latest_below (marks image) (Sector n) (length image))

-- the sectors in order
unfoldable pub lost_sectors_of : Claim → ℕ → Image → List Bool
lost_sectors_of c sectors image = map (has_lost_page c image) (range_with_len 0 sectors)

-- A sector has lost none just where its newest page stands where the certificate says, or has a sequence from the certificate's next one on.
abbrev pub HasLostPageLaw : Type 0
HasLostPageLaw = (c : Claim) (image : Image) (n : ℕ) → (has_lost_page c image n ≡ false) ↔ (IsWhereSaid (marks image) n (said_row c n) ⊎ IsSectorSince (marks image) n c.next)

-- ---- what goes on in a die

-- The page is sound in the die's version, with a key of the die and this sequence or a later one, and its row has no sound page.
pub record IsDueNext (g : Geometry) (next : ℕ) (image : Image) (row : ℕ) (p : Page) (r : Record) : Type 0 where
  pub free : IsUnsoundAt image row
  pub says : record_of p ≡ Some r
  pub version : version_of p ≡ Some (version_for g)
  pub of_key : IsKeyOf g (key_of r)
  pub late : next ≤ r.sequence

-- The log leads from one state to the other. Its programs take the next sequences in order, each that is next or a later one, and its erases
-- are of blocks in which no key has its newest page. Each may pass or fail.
abbrev pub LeadsInOrder : Geometry → ℕ → Flash → List Operation → Flash → Type 0
LeadsInOrder g next old [] new = new ≡ old
LeadsInOrder g next old (Program row p passed left ∷ log) new =
    (r : Record) × IsDueNext g next old.image row p r × (mid : Flash) × Steps old (Program row p passed left) mid × LeadsInOrder g (r.sequence + 1) mid log new
LeadsInOrder g next old (Erase block passed left ∷ log) new = HoldsNone g.pages block old.image × (mid : Flash) × Steps old (Erase block passed left) mid × LeadsInOrder g next mid log new

-- A log of one program is in order where its page is due.
abbrev pub OneProgramLaw : Type 0
OneProgramLaw = (g : Geometry) (next : ℕ) (old new : Flash) (row : ℕ) (p : Page) (r : Record) (passed : Bool) (left : Page) → IsUnsoundAt old.image row → record_of p ≡ Some r → version_of p ≡ Some (version_for g)
    → IsKeyOf g (key_of r) → next ≤ r.sequence → Steps old (Program row p passed left) new → LeadsInOrder g next old (Program row p passed left ∷ []) new

-- What is in order stays so behind one operation more: a program of a page that is due, or an erase of a block in which no key has its newest page.
pub record LongerLogLaw : Type 0 where
  pub program : (g : Geometry) (next : ℕ) (old mid new : Flash) (row : ℕ) (p : Page) (r : Record) (passed : Bool) (left : Page) (log : List Operation) → IsDueNext g next old.image row p r
      → Steps old (Program row p passed left) mid → LeadsInOrder g (r.sequence + 1) mid log new → LeadsInOrder g next old (Program row p passed left ∷ log) new
  pub erase : (g : Geometry) (next : ℕ) (old mid new : Flash) (block : ℕ) (passed : Bool) (left : List Page) (log : List Operation) → HoldsNone g.pages block old.image
      → Steps old (Erase block passed left) mid → LeadsInOrder g next mid log new → LeadsInOrder g next old (Erase block passed left ∷ log) new

-- Of a die whose certificate agreed with it no sector is told as lost, whatever went on since.
abbrev pub NoneLostLaw : Type 0
NoneLostLaw = (g : Geometry) (capacity : ℕ) (c : Claim) (old new : Flash) (log : List Operation) (n : ℕ) → old.geometry ≡ g → Agrees g capacity old.image c
    → LeadsInOrder g c.next old log new → n < g.sectors → has_lost_page c new.image n ≡ false
