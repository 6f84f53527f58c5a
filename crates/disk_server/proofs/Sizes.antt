-- Each sector of an array has the bytes of a data area.
use Rattle.std.proofs.Common.{◌≡◌, ℕ, Bool, true, false, List, [], ◌∷◌, length, map, replicate, zero, suc, Option, Some, None, refl}
use Rattle.std.specs.Prelude.{slice_get, if◌then◌else◌}
use Rattle.std.specs.List.{range_with_len}
use Rattle.std.proofs.lemmas.List.{length-replicate}
use Rattle.std.proofs.lemmas.List.FromFn.{length-map-range_with_len}
use Rattle.page_layout.specs.declared.geometry.Geometry.{Geometry}
use Rattle.page_layout.specs.declared.record.Record.{Record}
use Rattle.page_layout.specs.declared.record.Kind.{Kind}
use Rattle.page_layout.specs.declared.record.Kind.TheVariants as kind
use Rattle.page_layout.specs.declared.record.Key.TheVariants.{Sector}
use Rattle.page_layout.specs.Page.{Page, Image, IsImage, IsPage}
use Rattle.page_layout.specs.Sound.{record_of}
use Rattle.page_layout.specs.Newest.{newest}
use Rattle.page_layout.specs.Array.{array_of, content, content_at, content_of_kind, content_of_record, marks, sector_of, zeros}
use Rattle.disk_server.specs.Flat.{AreSectors}

pub zeros_long : (g : Geometry) → length (zeros g) ≡ g.data_bytes
zeros_long g = length-replicate {A = ℕ} g.data_bytes 0

kind_long : (g : Geometry) (k : Kind) (body : List ℕ) → length body ≡ g.data_bytes → length (content_of_kind g k body) ≡ g.data_bytes
kind_long g kind.Sector body long = long
kind_long g kind.Trim body long = zeros_long g
kind_long g kind.Translation body long = zeros_long g
kind_long g kind.Table body long = zeros_long g

record_long : (g : Geometry) (r : Option Record) (body : List ℕ) → length body ≡ g.data_bytes → length (content_of_record g r body) ≡ g.data_bytes
record_long g None body long = zeros_long g
record_long g (Some r) body long = kind_long g r.kind body long

page_long : (g : Geometry) (o : Option Page) → ((p : Page) → o ≡ Some p → IsPage g p) → length (content g o) ≡ g.data_bytes
unfolding content
page_long g None are = zeros_long g
page_long g (Some p) are = record_long g (record_of p) p.body (are p refl).body_size

row_long : (g : Geometry) (image : Image) (row : Option ℕ) → IsImage g image → length (content_at g image row) ≡ g.data_bytes
row_long g image None whole = zeros_long g
row_long g image (Some row) whole = page_long g (slice_get image row) (λ p is. whole.pages row p is)

sector_long : (g : Geometry) (image : Image) (n : ℕ) → IsImage g image → length (sector_of g image n) ≡ g.data_bytes
unfolding sector_of
sector_long g image n whole = row_long g image (newest (marks image) (Sector n)) whole

all_mapped : (size : ℕ) (f : ℕ → List ℕ) (xs : List ℕ) → ((n : ℕ) → length (f n) ≡ size) → AreSectors size (map f xs)
all_mapped size f [] each = tt
all_mapped size f (x ∷ xs) each = (each x, all_mapped size f xs each)

all_same : (size n : ℕ) (s : List ℕ) → length s ≡ size → AreSectors size (replicate n s)
all_same size zero s long = tt
all_same size (suc n) s long = (long, all_same size n s long)

-- the array has all sectors of the die, each of one data area
pub array_long : (g : Geometry) (image : Image) → length (array_of g image) ≡ g.sectors
unfolding array_of
array_long g image = length-map-range_with_len (sector_of g image) 0 g.sectors

pub array_sectors : (g : Geometry) (image : Image) → IsImage g image → AreSectors g.data_bytes (array_of g image)
unfolding array_of
array_sectors g image whole = all_mapped g.data_bytes (sector_of g image) (range_with_len 0 g.sectors) (λ n. sector_long g image n whole)

-- and so have the sectors of zeros that stand for it
pub chosen_long : (g : Geometry) (image : Image) (b : Bool) → length (if b then array_of g image else replicate g.sectors (zeros g)) ≡ g.sectors
chosen_long g image true = array_long g image
chosen_long g image false = length-replicate {A = List ℕ} g.sectors (zeros g)

pub chosen_sectors : (g : Geometry) (image : Image) (b : Bool) → (b ≡ true → IsImage g image)
    → AreSectors g.data_bytes (if b then array_of g image else replicate g.sectors (zeros g))
chosen_sectors g image true whole = array_sectors g image (whole refl)
chosen_sectors g image false whole = all_same g.data_bytes g.sectors (zeros g) (zeros_long g)
