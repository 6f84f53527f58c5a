-- What a loss of power leaves of a disk in a store.
use Rattle.std.proofs.Common.{◌≡◌, ◌<◌, ◌*◌, inl, inr, ℕ, List, [], length, get_or, Some, None, sym, ap, ◌∙◌, subst, arith}
use Rattle.std.specs.Prelude.{slice_get}
use Rattle.std.proofs.lemmas.Bool.{cases_lt}
use Rattle.std.proofs.lemmas.List.{get_or_past}
use Rattle.std.proofs.lemmas.List.FromFn.{get_or-map-range_with_len}
use Rattle.std.proofs.lemmas.Option.{get_or_from_slice_get, slice_get-get_or, slice_get_past}
use Rattle.page_layout.specs.declared.geometry.Geometry.{Geometry}
use Rattle.page_layout.specs.Geometry.{row_count}
use Rattle.page_layout.specs.Page.{Image, IsImage}
use Rattle.page_layout.specs.Flash.{no_page}
use Rattle.page_layout.specs.Sound.{record_of}
use Rattle.page_layout.specs.Array.{array_of, marks, sector_of, zeros, HasOneArray}
use Rattle.page_layout.specs.Change.{IsUnsoundAt}
use Rattle.page_layout.proofs.ArrayLemmas.{length-marks, page_of_mark, unsound_at}
use Rattle.file_die.specs.Store.{Held, AreImages, page_in}
use Rattle.file_die.specs.declared.die.SyncWhen.{SyncWhen}
use Rattle.file_die.specs.DieLaws.{GoesAdding, LastsSince, StoreCycle}
use Rattle.file_die.proofs.DieLawLemmas.{adding_goes, images, since_sync}
use Rattle.image_laws.specs.Power.{Grows, LosesPower, LosesSince}
use Rattle.image_laws.proofs.PowerLemmas.{either, found_one, unwritten}
use Rattle.disk_server.specs.Opened.{bytes_of}
use Rattle.disk_server.specs.Power.{FoundLaw, LeavesLaw, found_of, sector_bytes}
use Rattle.disk_server.proofs.FlatLemmas.{flat_law}
use Rattle.disk_server.proofs.Sizes.{array_long, array_sectors, zeros_long}

-- ---- the page of a row, and its mark

-- a row of two images of one length has the same page in both
pub same_at : (a b : Image) (row : ℕ) → length a ≡ length b → page_in a row ≡ page_in b row → slice_get a row ≡ slice_get b row
same_at a b row long same = elim (cases_lt row (length a)) [
  | inl within ↦ slice_get-get_or a row no_page within ∙ (ap Some same ∙ sym (slice_get-get_or b row no_page (omega (arith, long, within))))
  | inr past ↦ slice_get_past a row past ∙ sym (slice_get_past b row (omega (arith, long, past)))
]

-- a row of a page without a record has no mark
pub unsound_in : (image : Image) (row : ℕ) → record_of (page_in image row) ≡ None → IsUnsoundAt image row
unsound_in image row none = elim (cases_lt row (length image)) [
  | inl within ↦ unsound_at image row (page_in image row) (slice_get-get_or image row no_page within) none
  | inr past ↦ get_or_past (marks image) row None (omega (arith, length-marks image, past))
]

-- ---- from a store to its images

grows_since : (stored : Image) (t : Held) → length t.pages ≡ length stored → LastsSince stored t → Grows stored t.pages
grows_since stored t long since = record {
  size = long;
  kept = λ row r has.
      let its = page_of_mark stored row r has in
      let here : page_in stored row ≡ its.0 = get_or_from_slice_get stored row its.0 no_page its.1 in
      same_at t.pages stored row long (since.kept row r (ap record_of here ∙ its.2));
}

pub loses_since : (stored : Image) (t : Held) → length t.durable ≡ length t.pages → LastsSince stored t → LosesSince stored t.pages t.durable
loses_since stored t long since = record {
  size = long;
  rows = λ row. elim (since.found row) [
    | inl same ↦ inl (same_at t.durable t.pages row long same)
    | inr gone ↦ inr (unsound_in stored row gone.0, unsound_in t.durable row gone.1)
  ];
}

stays_images : (sync_when : SyncWhen) (s t : Held) (cycles : List StoreCycle) → GoesAdding sync_when s cycles t → AreImages s → (t.geometry ≡ s.geometry) × AreImages t
stays_images sync_when s t cycles goes w = let stays = images sync_when s t cycles (adding_goes sync_when s t cycles goes) in (stays.0, stays.1 w)

pub leaves : LeavesLaw
leaves sync_when s t cycles added =
    let now = stays_images sync_when s t cycles added.goes added.images in
    let since : LastsSince s.pages t = since_sync sync_when s t cycles added.goes added.lasted in
    let rows : row_count t.geometry ≡ row_count s.geometry = ap row_count now.0 in
    record {
      one = added.one;
      grows = grows_since s.pages t (now.1.pages_whole.rows ∙ (rows ∙ sym added.images.pages_whole.rows)) since;
      loses = loses_since s.pages t (now.1.durable_whole.rows ∙ sym now.1.pages_whole.rows) since;
    }

-- ---- the bytes of the disk

bytes_long : (s : Held) → IsImage s.geometry s.pages → length (bytes_of s) ≡ s.geometry.sectors * s.geometry.data_bytes
bytes_long s whole =
    let g : Geometry = s.geometry in
    let some : 0 < length (array_of g s.pages) = omega (arith, array_long g s.pages, g.limits.sector_count.least) in
    (flat_law g.data_bytes 0 (zeros g) (array_of g s.pages) (array_sectors g s.pages whole) some (zeros_long g)).0 ∙ ap (λ (k : ℕ). k * g.data_bytes) (array_long g s.pages)

sector_at : (g : Geometry) (image : Image) (n : ℕ) → n < g.sectors → get_or (array_of g image) n [] ≡ sector_of g image n
unfolding array_of
sector_at g image n within = get_or-map-range_with_len (sector_of g image) 0 g.sectors n n [] within (omega arith)

bytes_at : (s : Held) (n : ℕ) → IsImage s.geometry s.pages → n < s.geometry.sectors → sector_bytes s n ≡ sector_of s.geometry s.pages n
bytes_at s n whole within =
    let g : Geometry = s.geometry in
    (flat_law g.data_bytes n (zeros g) (array_of g s.pages) (array_sectors g s.pages whole) (omega (arith, array_long g s.pages, within)) (zeros_long g)).1 ∙ sector_at g s.pages n within

pub found : FoundLaw
found sync_when s t cycles added =
    let now = stays_images sync_when s t cycles added.goes added.images in
    let power : LosesPower s.geometry s.pages t.pages t.durable = leaves sync_when s t cycles added in
    let here : (n : ℕ) → n < s.geometry.sectors → sector_bytes (found_of t) n ≡ sector_of s.geometry t.durable n = λ n within.
    bytes_at (found_of t) n now.1.durable_whole (subst (λ (g : Geometry). n < g.sectors) (sym now.0) within) ∙ ap (λ (g : Geometry). sector_of g t.durable n) now.0 in
    let then : (n : ℕ) → n < s.geometry.sectors → sector_of s.geometry s.pages n ≡ sector_bytes s n = λ n within. sym (bytes_at s n added.images.pages_whole within) in
    record {
      images = record { pages_whole = now.1.durable_whole; durable_whole = now.1.durable_whole };
      one = subst (λ (g : Geometry). HasOneArray g t.durable) (sym now.0) (found_one s.geometry s.pages t.pages t.durable power);
      size = bytes_long (found_of t) now.1.durable_whole ∙ (ap (λ (g : Geometry). g.sectors * g.data_bytes) now.0 ∙ sym (bytes_long s added.images.pages_whole));
      sector = λ n within. elim (either s.geometry s.pages t.pages t.durable n power) [
        | inl was ↦ inl (here n within ∙ (was ∙ then n within))
        | inr new ↦ inr (new.0, new.1, here n within ∙ new.2)
      ];
      unwritten = λ n within same. here n within ∙ (unwritten s.geometry s.pages t.pages t.durable n power same ∙ then n within);
    }
