-- What the memory knows once it follows a page that was put.
use Rattle.std.proofs.Common.{◌≡◌, inl, inr, ℕ, ◌+◌, ◌<◌, List, length, set, slice_get, Option, Some, None, refl, ap, sym, ◌∙◌, subst, arith, length-set}
use Rattle.std.proofs.lemmas.Bool.{cases_eq}
use Rattle.page_layout.specs.declared.geometry.Geometry.{Geometry}
use Rattle.page_layout.specs.declared.record.Kind.{Kind}
use Rattle.page_layout.specs.declared.record.Key.{Key}
use Rattle.page_layout.specs.declared.record.Key.TheVariants.{Sector, Translation, Table}
use Rattle.page_layout.specs.Page.{Image}
use Rattle.page_layout.specs.Key.{key_from}
use Rattle.page_layout.specs.Geometry.{row_count, translation_pages, table_pages}
use Rattle.page_layout.specs.Live.{IsKeyOf}
use Rattle.page_layout.proofs.ArrayLemmas.{slice_get-set_same, slice_get-set_other}
use Rattle.mapping_cache.specs.Mapping.{MappingState, IsMapping}
use Rattle.budget.specs.declared.stream.Stream.{Stream}
use Rattle.collection.specs.State.{Ram}
use Rattle.collection.specs.Pages.{newest_row}
use Rattle.collection.specs.Maps.{Maps}
use Rattle.collection.specs.Truth.{IsTrue}
use Rattle.collection.specs.Safe.{IsRam}
use Rattle.collection.specs.Cost.{HasPut}
use Rattle.collection.specs.Settle.{SetsMapping, SetsDirectory, SettlesRow}
use Rattle.collection.specs.Results.{Goes, IsPut, IsReplaced}
use Rattle.collection.proofs.MapLemmas.{maps_entry, maps_directory}

-- ---- what is true of the image

maps_by : (g : Geometry) (image : Image) (directory directory' : List (Option ℕ)) (m m' : MappingState) (key : Key) (row : ℕ)
    → length directory ≡ translation_pages g + table_pages g → Maps (Some key) g image directory m → IsKeyOf g key
    → newest_row image key ≡ Some row → SetsDirectory g key row directory directory' → SetsMapping key row m m' → Maps None g image directory' m'
maps_by g image directory directory' m m' (Sector n) row size w of_key here d s = (let P : List (Option ℕ) → Type 0 = λ x. Maps None g image x m' in subst P (sym d) (maps_entry g image directory m m' n (Some row) w here s.known_now s.pending_now s.known_others s.pending_others))
maps_by g image directory directory' m m' (Translation t) row size w of_key here d s =
    let e : Maps None g image (set directory t (Some row)) m = maps_directory g image directory m (Translation t) t (Some row) w of_key refl (omega arith) here in
    rw (d, s) e
maps_by g image directory directory' m m' (Table u) row size w of_key here d s =
    let e : Maps None g image (set directory (translation_pages g + u) (Some row)) m = maps_directory g image directory m (Table u) (translation_pages g + u) (Some row) w of_key refl (omega arith) here in
    rw (d, s) e

pub settled_true : (r r' : Ram) (image : Image) (key : Key) (row : ℕ) → IsRam r → IsTrue (Some key) r image → IsKeyOf r.geometry key → newest_row image key ≡ Some row → SettlesRow key row r r' → IsTrue None r' image
settled_true r r' image key row s w of_key here t = record {
  whole = (let x = w.whole in rw t.geometry x);
  one = (let x = w.one in rw t.geometry x);
  below = (let x = w.below in rw t.next x);
  filled = (let x = w.filled in rw t.blocks x);
  live = (let x = w.live in rw t.blocks x);
  worn = (let x = w.worn in rw t.blocks x);
  tables = (let x = w.tables in rw t.geometry x);
  maps = (let e : Maps None r.geometry image r'.directory r'.mapping = maps_by r.geometry image r.directory r'.directory r.mapping r'.mapping key row s.directory w.maps of_key here t.directory t.mapping in rw t.geometry e);
}

-- ---- whatever the die does

rows_by : (directory directory' : List (Option ℕ)) (i row n : ℕ) → directory' ≡ set directory i (Some row) → row < n → ((k q : ℕ) → slice_get directory k ≡ Some (Some q) → q < n) → i < length directory → (k q : ℕ) → slice_get directory' k ≡ Some (Some q) → q < n
rows_by directory directory' i row n same lt all within k q is =
    let e : slice_get (set directory i (Some row)) k ≡ Some (Some q) = sym (ap (λ l. slice_get l k) same) ∙ is in
    elim (cases_eq k i) [
      | inl at ↦ (let f : slice_get (set directory i (Some row)) k ≡ Some (Some row) = ap (slice_get (set directory i (Some row))) at ∙ slice_get-set_same directory i (Some row) within in let h : q ≡ row = cc in omega arith)
      | inr other ↦ all k q (sym (slice_get-set_other directory i k (Some row) other) ∙ e)
    ]

-- what each key's settling leaves of the directory and the mapping
record Left (r r' : Ram) : Type 0 where
  pub directory : length r'.directory ≡ length r.directory
  pub rows : (k row : ℕ) → slice_get r'.directory k ≡ Some (Some row) → row < row_count r.geometry
  pub mapping : IsMapping r'.mapping
  pub mapping_of : r'.mapping.geometry ≡ r.mapping.geometry
  pub share : r'.mapping.share ≡ r.mapping.share

left : (r r' : Ram) (key : Key) (row : ℕ) → IsRam r → IsKeyOf r.geometry key → row < row_count r.geometry → SetsDirectory r.geometry key row r.directory r'.directory → SetsMapping key row r.mapping r'.mapping → Left r r'
left r r' (Sector n) row s of_key lt d m = record {
  directory = ap length d;
  rows = (let x = s.directory_rows in rw d x);
  mapping = m.valid;
  mapping_of = m.limits.geometry;
  share = m.limits.share;
}
left r r' (Translation t) row s of_key lt d m = record {
  directory = ap length d ∙ length-set r.directory t (Some row);
  rows = rows_by r.directory r'.directory t row (row_count r.geometry) d lt s.directory_rows (let x = s.directory in omega arith);
  mapping = (let x = s.mapping in rw m x);
  mapping_of = ap (λ z. z.geometry) m;
  share = ap (λ z. z.share) m;
}
left r r' (Table u) row s of_key lt d m = record {
  directory = ap length d ∙ length-set r.directory (translation_pages r.geometry + u) (Some row);
  rows = rows_by r.directory r'.directory (translation_pages r.geometry + u) row (row_count r.geometry) d lt s.directory_rows (let x = s.directory in omega arith);
  mapping = (let x = s.mapping in rw m x);
  mapping_of = ap (λ z. z.geometry) m;
  share = ap (λ z. z.share) m;
}

pub settled_ram : (r r' : Ram) (key : Key) (row : ℕ) → IsRam r → IsKeyOf r.geometry key → row < row_count r.geometry → SettlesRow key row r r' → IsRam r'
settled_ram r r' key row s of_key lt t =
    let l : Left r r' = left r r' key row s of_key lt t.directory t.mapping in
    record {
      directory = (let x = s.directory in l.directory ∙ (rw t.geometry x));
      directory_rows = (let x = l.rows in rw t.geometry x);
      mapping = l.mapping;
      mapping_of = (let x = s.mapping_of in l.mapping_of ∙ (rw t.geometry x));
      blocks = (let x = s.blocks in rw t.blocks x);
      blocks_of = (let x = s.blocks_of in rw (t.blocks, t.geometry) x);
      next = (let x = s.next in rw t.next x);
      marks = (let x = s.marks in rw (t.pin, t.geometry) x);
    }

pub settled_goes : (a b c : Ram) (key : Key) (row : ℕ) → Goes a b → SettlesRow key row b c → Goes a c
settled_goes a b c key row goes t = record {
  geometry = t.geometry ∙ goes.geometry;
  next = (let x = goes.next in rw t.next x);
  shut = (let x = goes.shut in rw t.blocks x);
}

pub settled_cost : (stream : Stream) (a b c : Ram) (key : Key) (row : ℕ) → HasPut stream a b → SettlesRow key row b c → HasPut stream a c
settled_cost stream a b c key row cost t = record {
  failures = cost.failures;
  put = (let x = cost.put in rw t.blocks x);
  next = t.next ∙ cost.next;
}

-- a put, and the memory that followed it
pub replaced_by : (kind : Kind) (n row : ℕ) (body : List ℕ) (a b c : Ram) (x y z : Image) → IsPut kind n row body a x b y → z ≡ y → IsRam b → IsKeyOf a.geometry (key_from kind n) → Goes a b → SettlesRow (key_from kind n) row b c → IsReplaced kind n row body a x c z
replaced_by kind n row body a b c x y z p same s of_key goes t =
    let k : IsKeyOf b.geometry (key_from kind n) = rw goes.geometry of_key in
    let e : IsReplaced kind n row body a x c y = record { truth = settled_true b c y (key_from kind n) row s p.truth k p.writes.newest_now t; writes = (let w = p.writes in rw (t.next, t.blocks, t.geometry) w) } in
    let P : Image → Type 0 = λ d. IsReplaced kind n row body a x c d in
    subst P (sym same) e
