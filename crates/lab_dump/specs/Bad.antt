-- Bad blocks of which a dump may say that their pages leave nothing open: those that the newest table names factory, and those that it names grown
-- and whose content was written again.
use Rattle.std.specs.Prelude.{◌≡◌, ◌↔◌, ℕ, ◌-◌, ◌<◌, ◌/◌, ◌==◌, ◌&&◌, ◌||◌, not, nat_lt, if◌then◌else◌, Bool, true, false, List, length, count_by, get_or, Option, Some, None}
use Rattle.std.specs.List.{list_any, range_with_len}
use Rattle.page_layout.specs.declared.geometry.Geometry.{Geometry}
use Rattle.page_layout.specs.declared.record.Record.{Record}
use Rattle.page_layout.specs.declared.record.Key.{Key}
use Rattle.page_layout.specs.declared.record.Key.TheVariants.{Sector, Translation, Table}
use Rattle.page_layout.specs.declared.newest.Latest.{Latest}
use Rattle.page_layout.specs.declared.newest.Latest.TheVariants.{Never, Once, Tied}
use Rattle.page_layout.specs.Geometry.{key_count, translation_pages}
use Rattle.page_layout.specs.Page.{Image}
use Rattle.page_layout.specs.Key.{key_of}
use Rattle.page_layout.specs.Sound.{record_of}
use Rattle.page_layout.specs.Greatest.{place_of}
use Rattle.page_layout.specs.Newest.{AreTied, latest_below, sequence_at}
use Rattle.page_layout.specs.Live.{IsKeyOf, is_in_block}
use Rattle.page_layout.specs.Array.{marks}
use Rattle.image_check.specs.Blocks.{is_factory, table_class}
use Rattle.lab_dump.specs.Count.{is_outside}

-- ---- what stands in a block

-- some sound page of the record's key has a later sequence
pub record HasNewer (marks : List (Option Record)) (r : Record) : Type 0 where
  pub later : ℕ
  pub sequence : ℕ
  pub at : sequence_at marks (key_of r) later ≡ Some sequence
  pub newer : r.sequence < sequence

-- The newest table names the block grown, and of the key of each sound page in it there is a newer page.
pub record IsRewritten (g : Geometry) (image : Image) (block : ℕ) : Type 0 where
  pub named : table_class g image block ≡ 2
  pub newer : (row : ℕ) (r : Record) → row / g.pages ≡ block → get_or (marks image) row None ≡ Some r → HasNewer (marks image) r

-- every sound page is of a key of the die, and no two share the greatest sequence of theirs
pub record IsPlain (g : Geometry) (image : Image) : Type 0 where
  pub keys : (row : ℕ) (r : Record) → get_or (marks image) row None ≡ Some r → IsKeyOf g (key_of r)
  pub untied : (key : Key) (a b : ℕ) → IsKeyOf g key → ¬ AreTied (marks image) key a b

-- ---- the same, computed

-- the key in a place: the sectors come first, then the translation pages, then the table pages
abbrev pub key_at : Geometry → ℕ → Key
key_at g i =
    if nat_lt i g.sectors then Sector i else (
    if nat_lt (i - g.sectors) (translation_pages g) then Translation (i - g.sectors) else Table (i - g.sectors - translation_pages g))

-- whether two pages share the greatest sequence
abbrev pub is_tied : Latest → Bool
is_tied Never = false
is_tied (Once row s) = false
is_tied (Tied a b s) = true

-- what the first rows say of the newest page of the key in a place
abbrev pub latest_at : Geometry → Image → ℕ → ℕ → Latest
latest_at g image rows i = latest_below (marks image) (key_at g i) rows

-- whether some of the first keys are tied
abbrev pub ties_below : Geometry → Image → ℕ → Bool
ties_below g image n = list_any (λ i. is_tied (latest_at g image (length image) i)) (range_with_len 0 n)

-- whether some of the first keys have their newest page in the block
abbrev pub keeps_below : Geometry → Image → ℕ → ℕ → Bool
keeps_below g image n block = list_any (λ i. is_in_block g.pages block (place_of (latest_at g image (length image) i))) (range_with_len 0 n)

-- how many pages are sound and of a key that the die has not
abbrev pub strange_of : Geometry → Image → ℕ
strange_of g image = count_by (λ p. is_outside g (record_of p)) image

-- whether each sound page is of a key of the die, and none is tied
abbrev pub is_plain : Geometry → Image → Bool
is_plain g image = (strange_of g image == 0) && not (ties_below g image (key_count g))

-- Whether a block was written again.
-- Law: only where it was, and of a plain image just where it was (`RewrittenLaw`).
unfoldable pub is_rewritten : Geometry → Image → ℕ → Bool
is_rewritten g image block = (table_class g image block == 2) && (is_plain g image && not (keeps_below g image (key_count g) block))

-- whether its pages leave nothing open
abbrev pub is_excused : Geometry → Image → ℕ → Bool
is_excused g image block = is_factory g image block || is_rewritten g image block

-- ---- laws

-- A block is told as written again only where it was.
abbrev pub RewrittenLaw : Type 0
RewrittenLaw = (g : Geometry) (image : Image) (block : ℕ) → is_rewritten g image block ≡ true → IsRewritten g image block

-- The test of that is right.
abbrev pub PlainLaw : Type 0
PlainLaw = (g : Geometry) (image : Image) → (is_plain g image ≡ true) ↔ IsPlain g image

-- Where each sound page is of a key of the die and none are tied, each that was written again is told.
abbrev pub RewrittenToldLaw : Type 0
RewrittenToldLaw = (g : Geometry) (image : Image) (block : ℕ) → IsPlain g image → IsRewritten g image block → is_rewritten g image block ≡ true
