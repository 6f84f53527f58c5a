-- What pages say of themselves that are neither erased nor sound: their records are mostly legible though their seals fail.
use Rattle.std.specs.Prelude.{◌≡◌, ◌↔◌, ℕ, zero, suc, ◌<◌, nat_lt, if◌then◌else◌, Bool, true, false, List, [], ◌∷◌, ◌++◌, length, map, slice_get, slice_index, Option, Some, None}
use Rattle.std.specs.List.{Contains}
use Rattle.page_layout.specs.declared.geometry.Geometry.{Geometry}
use Rattle.page_layout.specs.declared.record.Record.{Record}
use Rattle.page_layout.specs.declared.newest.Latest.{Latest}
use Rattle.page_layout.specs.declared.newest.Latest.TheVariants.{Never, Once, Tied}
use Rattle.page_layout.specs.Page.{Page, Image}
use Rattle.page_layout.specs.Sound.{record_of, seal_size, spelled}
use Rattle.page_layout.specs.Key.{key_of}
use Rattle.page_layout.specs.Newest.{latest_below, sequence_at}
use Rattle.page_layout.specs.Live.{IsKeyOf}
use Rattle.page_layout.specs.Array.{marks}
use Rattle.page_layout.specs.Block.{is_broken}
use Rattle.lab_dump.specs.Count.{is_outside}
use Rattle.lab_dump.specs.declared.said.SaidPage.{SaidPage}

-- ---- one page

-- the record, where its number is of the die
abbrev pub of_die : Geometry → Option Record → Option Record
of_die g found = if is_outside g found then None else found

-- WHAT A PAGE SAYS that is neither erased nor sound: the record that its spare bytes spell, whatever its seal is, where the die has a sector, a
-- translation page or a table page of that number. Any other page says nothing.
-- Laws: a page that was sound says what it was of, whatever its data area and its seal became (`WasLaw`); only what the spare bytes spell is said
-- (`SpelledLaw`).
unfoldable pub says : Geometry → Page → Option Record
says g p = if is_broken p then of_die g (spelled p.spare) else None

-- whether a page of this sequence is newer than all that is known of its key
abbrev pub is_after : ℕ → Latest → Bool
is_after s Never = true
is_after s (Once row t) = nat_lt t s
is_after s (Tied a b t) = nat_lt t s

-- Whether a page that says this is newer than what is shown.
-- Law: just where each sound page of the same key has an earlier sequence (`NewerLaw`).
unfoldable pub is_newer : Image → Record → Bool
is_newer image r = is_after r.sequence (latest_below (marks image) (key_of r) (length image))

-- ---- all pages

-- what the page of a row says, in a list; whether that is newer is known in the end
abbrev pub said_by : ℕ → Option Record → List SaidPage
said_by row None = []
said_by row (Some r) = record { row = row; says = r; newer = false } ∷ []

abbrev pub said_in_row : Geometry → ℕ → Option Page → List SaidPage
said_in_row g row None = []
said_in_row g row (Some p) = said_by row (says g p)

-- those of the first rows
unfoldable pub said_below : Geometry → Image → ℕ → List SaidPage
said_below g image zero = []
said_below g image (suc row) = said_below g image row ++ said_in_row g row (slice_get image row)

-- beside the sound pages
abbrev pub judged : Image → SaidPage → SaidPage
judged image x = record x { newer = is_newer image x.says }

-- WHAT ALL PAGES SAY that are neither erased nor sound, by rising row.
-- Law: what a page says is in the list, and nothing else (`SaidLaw`).
unfoldable pub said_of : Geometry → Image → List SaidPage
said_of g image = map (judged image) (said_below g image (length image))

-- ---- laws

-- the two spare areas have the same bytes but for those of the seal, which has as many as their version says
pub record IsBesideSeal (was now : List ℕ) : Type 0 where
  pub head : List ℕ
  pub seal : List ℕ
  pub other : List ℕ
  pub rest : List ℕ
  pub head_size : length head ≡ 24
  pub seal_size_is : length seal ≡ seal_size (slice_index head 2)
  pub other_size_is : length other ≡ seal_size (slice_index head 2)
  pub was_is : was ≡ head ++ (seal ++ rest)
  pub now_is : now ≡ head ++ (other ++ rest)

-- Such areas there are, of whatever bytes.
abbrev pub OtherSealLaw : Type 0
OtherSealLaw = (head seal other rest : List ℕ) → length head ≡ 24 → length seal ≡ seal_size (slice_index head 2) → length other ≡ seal_size (slice_index head 2) → IsBesideSeal (head ++ (seal ++ rest)) (head ++ (other ++ rest))

-- A page that was sound, of which the data area and the seal alone have changed, and which is not sound any more, says what it was of.
abbrev pub WasLaw : Type 0
WasLaw = (g : Geometry) (was now : Page) (r : Record) → record_of was ≡ Some r → IsKeyOf g (key_of r) → IsBesideSeal was.spare now.spare → is_broken now ≡ true → says g now ≡ Some r

-- what a page says is what its spare bytes spell, it is neither erased nor sound, and the die has that sector, translation page or table page
pub record IsSpelled (g : Geometry) (p : Page) (r : Record) : Type 0 where
  pub broken : is_broken p ≡ true
  pub spelled_is : spelled p.spare ≡ Some r
  pub of_die : IsKeyOf g (key_of r)

abbrev pub SpelledLaw : Type 0
SpelledLaw = (g : Geometry) (p : Page) (r : Record) → (says g p ≡ Some r) ↔ IsSpelled g p r

-- A page is newer just where each sound page of what it says has an earlier sequence.
abbrev pub NewerLaw : Type 0
NewerLaw = (image : Image) (r : Record) → (is_newer image r ≡ true) ↔ ((row s : ℕ) → sequence_at (marks image) (key_of r) row ≡ Some s → s < r.sequence)

-- the page of its row says this, and whether that is newer
pub record IsSaid (g : Geometry) (image : Image) (x : SaidPage) : Type 0 where
  pub page : Page
  pub at : slice_get image x.row ≡ Some page
  pub says_is : says g page ≡ Some x.says
  pub newer_is : x.newer ≡ is_newer image x.says

abbrev pub SaidLaw : Type 0
SaidLaw = (g : Geometry) (image : Image) (x : SaidPage) → Contains (said_of g image) x ↔ IsSaid g image x
