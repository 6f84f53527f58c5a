-- What one pass over the pages notes of stale entries, by the rows that a certificate has. An entry is looked at when the page of the
-- certificate's directory row passes, and compared with the certificate's row of the sector: whether those rows are right is known at the end.
use Rattle.std.specs.Prelude.{◌≡◌, ℕ, ◌-◌, ◌/◌, ◌%◌, ◌^◌, ◌==◌, ◌&&◌, not, min, nat_lt, Bool, true, if◌then◌else◌, List, length, take, count_by}
use Rattle.std.specs.Prelude.{get_or, is_some, Option, Some, None}
use Rattle.page_layout.specs.declared.geometry.Geometry.{Geometry}
use Rattle.page_layout.specs.declared.record.Key.TheVariants.{Translation}
use Rattle.page_layout.specs.Geometry.{entries}
use Rattle.page_layout.specs.Page.{Image}
use Rattle.page_layout.specs.Newest.{sequence_at}
use Rattle.page_layout.specs.Array.{marks}
use Rattle.certificate.specs.Claim.{Claim}
use Rattle.translation_pages.specs.Entry.{entry_in}
use Rattle.image_check.specs.declared.noted_sectors.Noted.{Noted}
use Rattle.image_check.specs.Stale.{same_row}

-- the row that a certificate has at a place, or none
abbrev pub claimed : List (Option ℕ) → ℕ → Option ℕ
claimed rows i = get_or rows i None

-- the page of this row is among the first rows, and is sound and of translation page t. Where there is no row there is nothing to wait for
abbrev pub has_come : Image → ℕ → ℕ → Option ℕ → Bool
has_come image rows t None = true
has_come image rows t (Some row) = nat_lt row rows && is_some (sequence_at (marks image) (Translation t) row)

-- the entry of sector n, in the page that the certificate's directory has for it, isn't the row that the certificate has for the sector
abbrev pub differs : Geometry → Image → Claim → ℕ → Bool
differs g image c n = not (same_row (entry_in image (n % entries g) (claimed c.directory (n / entries g))) (claimed c.sectors n))

-- the first rows show that it is so
unfoldable pub is_noted : Geometry → Image → Claim → ℕ → ℕ → Bool
is_noted g image c rows n =
    nat_lt n g.sectors && (has_come image rows (n / entries g) (claimed c.directory (n / entries g)) && differs g image c n)

-- how often a number stands in a list
abbrev pub times : ℕ → List ℕ → ℕ
times n xs = count_by (λ x. x == n) xs

-- of the sectors noted the first are kept, as many as there is room for, and all are counted
pub record IsKept (noted : List ℕ) (x : Noted) : Type 0 where
  pub first : x.kept.items ≡ take x.most noted
  pub counted : x.count ≡ min (length noted) (2 ^ 32 - 1)

-- each sector that the first rows show was noted once, and no other
pub record HasNoted (g : Geometry) (image : Image) (c : Claim) (rows : ℕ) (x : Noted) : Type 0 where
  pub noted : List ℕ
  pub kept : IsKept noted x
  pub each : (n : ℕ) → times n noted ≡ (if is_noted g image c rows n then 1 else 0)

-- the same for some image of so many pages, whatever the source of the pages does
pub record HasSomeNoted (g : Geometry) (c : Claim) (rows : ℕ) (x : Noted) : Type 0 where
  pub image : Image
  pub size : length image ≡ rows
  pub noted : HasNoted g image c rows x
