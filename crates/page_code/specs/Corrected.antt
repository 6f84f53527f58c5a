-- A page as it was read from a chip, put right chunk by chunk: a chunk of which at most one bit is wrong is as it was stored, any other as it was read.
use Rattle.std.specs.Prelude.{◌≡◌, ◌↔◌, ℕ, zero, suc, ◌+◌, ◌*◌, ◌/◌, ◌%◌, ◌≤◌, nat_le, List, [], ◌∷◌, ◌++◌, length, take, drop, map, Option, Some, None}
use Rattle.std.specs.List.{find, range_with_len}
use Rattle.std.specs.Option.{unwrap_or}
use Rattle.std.specs.Int.{div_ceil}
use Rattle.page_layout.specs.declared.geometry.Geometry.{Geometry}
use Rattle.page_layout.specs.Page.{Page, page, IsPage}
use Rattle.error_correction.specs.Bits.{AreBytes}
use Rattle.error_correction.specs.Correct.{IsChunk, wrong_bits}
use Rattle.error_correction.specs.Flip.{turned}
use Rattle.page_code.specs.Near.{IsNear, HasChipSizes}

-- ---- a chunk

-- a chunk, and the same with one bit of it turned, for each of its bits
abbrev pub candidates : List ℕ → List (List ℕ)
candidates chunk = chunk ∷ map (λ k. turned chunk (k / 8) (k % 8)) (range_with_len 0 (8 * length chunk))

-- the first of them that, with its code, is at most one bit away from what was read, if there is one
unfoldable pub stored : List ℕ → List ℕ → Option (List ℕ)
stored chunk code = find (λ right. nat_le (wrong_bits right chunk code) 1) (candidates chunk)

-- how many bits are wrong, where that one is right
abbrev pub wrong_if : Option (List ℕ) → List ℕ → List ℕ → ℕ
wrong_if None chunk code = 0
wrong_if (Some right) chunk code = wrong_bits right chunk code

-- one chunk is lost where there is none
abbrev pub lost_if : Option (List ℕ) → ℕ
lost_if None = 1
lost_if (Some right) = 0

-- a chunk that is put right, how many of its bits are turned back, and whether it is lost
abbrev pub corrected : List ℕ → List ℕ → List ℕ
corrected chunk code = unwrap_or (stored chunk code) chunk

abbrev pub wrong_in : List ℕ → List ℕ → ℕ
wrong_in chunk code = wrong_if (stored chunk code) chunk code

abbrev pub lost_in : List ℕ → List ℕ → ℕ
lost_in chunk code = lost_if (stored chunk code)

-- ---- chunks one after another

abbrev pub corrected_chunks : ℕ → List ℕ → List ℕ → List ℕ
corrected_chunks zero body codes = []
corrected_chunks (suc n) body codes = corrected (take 256 body) (take 3 codes) ++ corrected_chunks n (drop 256 body) (drop 3 codes)

-- what is counted of each, in all
abbrev pub sum_chunks : (List ℕ → List ℕ → ℕ) → ℕ → List ℕ → List ℕ → ℕ
sum_chunks count zero body codes = 0
sum_chunks count (suc n) body codes = count (take 256 body) (take 3 codes) + sum_chunks count n (drop 256 body) (drop 3 codes)

-- ---- a page, by the bytes of its data area and of its spare area without the codes

-- the spare area without the codes, its code, and the codes of the data area
abbrev pub plain_of : ℕ → Page → List ℕ
plain_of spare_bytes r = take spare_bytes r.spare

abbrev pub plain_code : ℕ → Page → List ℕ
plain_code spare_bytes r = take 3 (drop spare_bytes r.spare)

abbrev pub body_codes : ℕ → Page → List ℕ
body_codes spare_bytes r = drop (spare_bytes + 3) r.spare

-- THE PAGE WITHOUT ITS CODES, put right
unfoldable pub corrected_areas : ℕ → ℕ → Page → Page
corrected_areas data_bytes spare_bytes r = page (corrected_chunks (div_ceil data_bytes 256) r.body (body_codes spare_bytes r)) (corrected (plain_of spare_bytes r) (plain_code spare_bytes r))

-- what is counted of each of its chunks, the spare area being one
abbrev pub sum_areas : (List ℕ → List ℕ → ℕ) → ℕ → ℕ → Page → ℕ
sum_areas count data_bytes spare_bytes r = sum_chunks count (div_ceil data_bytes 256) r.body (body_codes spare_bytes r) + count (plain_of spare_bytes r) (plain_code spare_bytes r)

-- how many of its bits are turned back, and how many of its chunks are lost
unfoldable pub turned_areas : ℕ → ℕ → Page → ℕ
turned_areas data_bytes spare_bytes r = sum_areas wrong_in data_bytes spare_bytes r

unfoldable pub lost_areas : ℕ → ℕ → Page → ℕ
lost_areas data_bytes spare_bytes r = sum_areas lost_in data_bytes spare_bytes r

-- ---- a page of a die

abbrev pub corrected_page : Geometry → Page → Page
corrected_page g r = corrected_areas g.data_bytes g.spare_bytes r

abbrev pub turned_bits : Geometry → Page → ℕ
turned_bits g r = turned_areas g.data_bytes g.spare_bytes r

abbrev pub lost_chunks : Geometry → Page → ℕ
lost_chunks g r = lost_areas g.data_bytes g.spare_bytes r

-- ---- laws

-- what is stored is right: just the one chunk that, with its code, is at most one bit away from what was read
abbrev pub StoredLaw : Type 0
StoredLaw = (size : ℕ) (chunk code right : List ℕ) → size ≤ 256 → IsChunk size chunk → length code ≡ 3
    → (stored chunk code ≡ Some right) ↔ (IsChunk size right × (wrong_bits right chunk code ≤ 1))

-- the page is that one, and no chunk is lost
pub record IsPutRight (g : Geometry) (p r : Page) : Type 0 where
  pub page_is : corrected_page g r ≡ p
  pub none_lost : lost_chunks g r ≡ 0

-- its two areas are bytes
pub record AreBytesOf (r : Page) : Type 0 where
  pub body : AreBytes r.body
  pub spare : AreBytes r.spare

-- A page of which at most one bit is wrong in each chunk with its code is put right.
abbrev pub PutRightLaw : Type 0
PutRightLaw = (g : Geometry) (p r : Page) → IsPage g p → HasChipSizes g r → AreBytesOf r → IsNear g p r → IsPutRight g p r
