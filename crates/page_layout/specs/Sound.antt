-- The record that a page's spare area spells, and the seal that makes the page sound. This project's format, in two versions: the seal has 8
-- bytes in version 1 and 16 in version 2, which takes a spare area of at least 40. Of the spare bytes 0 and 1 are FFh; 2 is the version; 3 is
-- the kind's code; 4 to 7 are the number, 8 to 15 the sequence and 16 to 19 the wear, each lowest byte first; 20 to 23 are FFh; from 24 on
-- stands the seal, the first bytes of SHA-256 (FIPS 180-4) over the data area and spare bytes 0 to 23; all after it are FFh.
use Rattle.std.specs.Prelude.{◌≡◌, ◌≤◌, ◌⊎◌, ℕ, ◌==◌, nat_le, ◌&&◌, ◌||◌, ◌+◌, All, Bool, if◌then◌else◌, List, length, ◌++◌, take, slice_index}
use Rattle.std.specs.Prelude.{slice_range, Option, Some, None, option_map, replicate, ◌∷◌, ◌<◌, ◌^◌}
use Rattle.std.specs.List.{list_all}
use Rattle.std.specs.Str.{bytes_eq}
use Rattle.byteorder.specs.Endian.{little_number, little_bytes}
use Rattle.sha2.specs.Sha256.{sha256}
use Rattle.page_layout.specs.declared.record.Record.{Record}
use Rattle.page_layout.specs.declared.record.Kind.{Kind}
use Rattle.page_layout.specs.declared.record.Kind.TheVariants as kind
use Rattle.page_layout.specs.declared.geometry.Geometry.{Geometry}
use Rattle.page_layout.specs.Page.{Page}

-- the kind of a code: 1 a sector's data, 2 a trim, 3 a translation page, 4 a table page, and none else
abbrev pub kind_from : ℕ → Option Kind
kind_from code =
    if code == 1 then Some kind.Sector else (if code == 2 then Some kind.Trim else (
    if code == 3 then Some kind.Translation else (if code == 4 then Some kind.Table else None)))

-- the code of a kind, whose kind it is
abbrev pub code_of_kind : Kind → ℕ
code_of_kind kind.Sector = 1
code_of_kind kind.Trim = 2
code_of_kind kind.Translation = 3
code_of_kind kind.Table = 4

-- all bytes are FFh
abbrev pub AreFill : List ℕ → Type 0
AreFill bytes = All (λ b. b ≡ 255) bytes

-- whether all bytes are FFh
unfoldable pub is_filled : List ℕ → Bool
is_filled bytes = list_all (λ b. b == 255) bytes

-- SHA-256 over the data area and the spare bytes before the seal
abbrev pub hash_of : Page → List ℕ
hash_of p = sha256 (p.body ++ take 24 p.spare)

-- how many bytes the seal of a version has
abbrev pub seal_size : ℕ → ℕ
seal_size version = if version == 2 then 16 else 8

-- where the seal of these spare bytes ends, by the version that they name
abbrev pub seal_end : List ℕ → ℕ
seal_end spare = 24 + seal_size (slice_index spare 2)

-- whether they name a version, and have room for its seal
abbrev pub has_version : List ℕ → Bool
has_version spare = (slice_index spare 2 == 1) || ((slice_index spare 2 == 2) && nat_le 40 (length spare))

-- whether the bytes are as given that are the same for each record of their version
abbrev pub has_form : List ℕ → Bool
has_form spare = is_filled (take 2 spare) && has_version spare && is_filled (slice_range spare 20 24) && is_filled (slice_range spare (seal_end spare) (length spare))

abbrev pub has_seal : Page → Bool
has_seal p = bytes_eq (slice_range p.spare 24 (seal_end p.spare)) (take (seal_size (slice_index p.spare 2)) (hash_of p))

-- the record that these spare bytes give, if they give one
abbrev pub record_in : List ℕ → Kind → Record
record_in spare k = record {
  kind = k;
  number = little_number 4 (slice_range spare 4 8);
  sequence = little_number 8 (slice_range spare 8 16);
  wear = little_number 4 (slice_range spare 16 20);
}

-- the record that a spare area spells, whatever its seal
unfoldable pub spelled : List ℕ → Option Record
spelled spare = if has_form spare then option_map (record_in spare) (kind_from (slice_index spare 3)) else None

-- these spare bytes say this record, in what is the same for both versions
pub record SpellsRecord (spare : List ℕ) (r : Record) : Type 0 where
  pub before_version : AreFill (take 2 spare)
  pub kind_code : slice_index spare 3 ≡ code_of_kind r.kind
  pub number : little_number 4 (slice_range spare 4 8) ≡ r.number
  pub sequence : little_number 8 (slice_range spare 8 16) ≡ r.sequence
  pub wear : little_number 4 (slice_range spare 16 20) ≡ r.wear
  pub before_seal : AreFill (slice_range spare 20 24)

-- the page is sound and has this record, in version 1: its spare bytes say it, and the seal of 8 bytes agrees
pub record IsSoundV1 (p : Page) (r : Record) : Type 0 where
  pub spells : SpellsRecord p.spare r
  pub version : slice_index p.spare 2 ≡ 1
  pub sealed : slice_range p.spare 24 32 ≡ take 8 (hash_of p)
  pub after_seal : AreFill (slice_range p.spare 32 (length p.spare))

-- the same in version 2, with a seal of 16 bytes
pub record IsSoundV2 (p : Page) (r : Record) : Type 0 where
  pub room : 40 ≤ length p.spare
  pub spells : SpellsRecord p.spare r
  pub version : slice_index p.spare 2 ≡ 2
  pub sealed : slice_range p.spare 24 40 ≡ take 16 (hash_of p)
  pub after_seal : AreFill (slice_range p.spare 40 (length p.spare))

-- the page is sound and has this record, in one of the versions
abbrev pub IsSound : Page → Record → Type 0
IsSound p r = IsSoundV1 p r ⊎ IsSoundV2 p r

-- the one record that a page is sound with, or none
unfoldable pub record_of : Page → Option Record
record_of p = if has_form p.spare && has_seal p then option_map (record_in p.spare) (kind_from (slice_index p.spare 3)) else None

-- the version of a page that is sound: its spare byte 2
unfoldable pub version_of : Page → Option ℕ
version_of p = option_map (λ r. slice_index p.spare 2) (record_of p)

-- the version in which this project writes the pages of a die
abbrev pub version_for : Geometry → ℕ
version_for g = if nat_le 40 g.spare_bytes then 2 else 1

-- the first 24 spare bytes of a page with this record in this version: what stands before the seal
abbrev pub head_of : ℕ → Record → List ℕ
head_of version r =
    255 ∷ 255 ∷ version ∷ code_of_kind r.kind ∷ little_bytes 4 r.number ++ little_bytes 8 r.sequence
    ++ little_bytes 4 r.wear ++ replicate 4 255

-- whether the page is as an erase leaves it: all its bytes are FFh
abbrev pub is_erased_page : Page → Bool
is_erased_page p = is_filled p.body && is_filled p.spare

-- the numbers of a record fit their widths
pub record FitsWidths (r : Record) : Type 0 where
  pub number : r.number < 2 ^ 32
  pub sequence : r.sequence < 2 ^ 64
  pub wear : r.wear < 2 ^ 32

-- one of the two versions, for whose seal a spare area of this length has room
abbrev pub IsRoomFor : ℕ → ℕ → Type 0
IsRoomFor version spare_bytes = ((version ≡ 1) × (32 ≤ spare_bytes)) ⊎ ((version ≡ 2) × (40 ≤ spare_bytes))
