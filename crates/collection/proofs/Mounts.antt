-- What an engine knows of an image makes it mountable.
use Rattle.std.proofs.Common.{◌≡◌, ◌≢◌, inl, inr, ℕ, ◌+◌, ◌/◌, ◌<◌, ◌≤◌, ◌∙◌, Bool, true, false, not, eqb, List, [], ◌∷◌, ◌++◌, ◌⊎◌, length, length-append}
use Rattle.std.proofs.Common.{Option, Some, None, IsSome, refl, sym, ap, subst, arith}
use Rattle.std.specs.Prelude.{count_by}
use Rattle.std.specs.Map.{keys_of, lookup}
use Rattle.std.specs.List.{range_with_len}
use Rattle.std.proofs.lemmas.Bool.{eqb-true, eq-eqb, cond-false}
use Rattle.std.proofs.lemmas.List.{length-map}
use Rattle.std.proofs.lemmas.List.FromFn.{length-range_with_len}
use Rattle.std.proofs.lemmas.List.Sums.{length-filter, count_by-le-length}
use Rattle.page_layout.specs.declared.geometry.Geometry.{Geometry}
use Rattle.page_layout.specs.declared.record.Key.{Key}
use Rattle.page_layout.specs.declared.record.Key.TheVariants.{Sector}
use Rattle.page_layout.specs.Page.{Image}
use Rattle.page_layout.specs.Geometry.{entries, table_pages}
use Rattle.page_layout.specs.Newest.{newest}
use Rattle.page_layout.specs.Array.{marks}
use Rattle.page_layout.proofs.CountLemmas.{bit, count_by-cons, count_by-append}
use Rattle.translation_pages.specs.Entry.{entry_of}
use Rattle.bad_blocks.specs.TablePage.{IsWellFormed}
use Rattle.budget.proofs.CopyLemmas.{touched_pages}
use Rattle.mapping_cache.specs.declared.slot.Slot.{Slot}
use Rattle.mapping_cache.specs.Mapping.{MappingState, slot_of, moved_row, pending}
use Rattle.mapping_cache.proofs.Entries.{by_test}
use Rattle.mapping_cache.proofs.Steps.{pending-at}
use Rattle.image_check.specs.Agrees.{HasTables}
use Rattle.image_check.specs.Stale.{is_stale, stale_sectors, stale_count}
use Rattle.image_check.specs.Mountable.{IsOrderly}
use Rattle.image_check.proofs.StaleLemmas.{row_same}
use Rattle.image_check.proofs.TablesLemmas.{table_is}
use Rattle.collection.specs.State.{Ram}
use Rattle.collection.specs.Safe.{IsRam}
use Rattle.collection.specs.Maps.{Maps}
use Rattle.collection.specs.Collect.{waiting}
use Rattle.collection.specs.Stops.{room_of}
use Rattle.collection.specs.Truth.{IsTrue, HasFormedTablePage}
use Rattle.collection.proofs.MapLemmas.{none_not}
use Rattle.collection.proofs.Memory.{few_moved}

-- ---- stale sectors are cached or moved

pub right_entry : (g : Geometry) (image : Image) (n : ℕ) → entry_of g image n ≡ newest (marks image) (Sector n) → is_stale g image n ≡ false
unfolding is_stale
right_entry g image n same = ap not (row_same (entry_of g image n) (newest (marks image) (Sector n)) same)

abbrev pub IsHeld : MappingState → ℕ → Type 0
IsHeld m n = IsSome (slot_of m n) ⊎ IsSome (moved_row m n)

-- but for a sector of which memory may not know
pub stale_held_but : (but : Option Key) (r : Ram) (image : Image) (n : ℕ) → Maps but r.geometry image r.directory r.mapping → but ≢ Some (Sector n) → n < r.geometry.sectors → is_stale r.geometry image n ≡ true → IsHeld r.mapping n
stale_held_but but r image n maps ne lt old = at (slot_of r.mapping n) (moved_row r.mapping n) refl refl
  where
    at : (s : Option Slot) (m : Option ℕ) → slot_of r.mapping n ≡ s → moved_row r.mapping n ≡ m → IsHeld r.mapping n
    at (Some s) m e f = inl (rw e refl)
    at None (Some row) e f = inr (rw f refl)
    at None None e f =
        let none : pending r.mapping n ≡ None = pending-at r.mapping n None None e f in
        let right : is_stale r.geometry image n ≡ false = right_entry r.geometry image n (maps.entry_is n lt ne none) in
        let no : true ≡ false = sym old ∙ right in cc

pub stale_held : (r : Ram) (image : Image) (n : ℕ) → IsTrue None r image → n < r.geometry.sectors → is_stale r.geometry image n ≡ true → IsHeld r.mapping n
stale_held r image n w lt old = stale_held_but None r image n w.maps (none_not (Sector n)) lt old

-- ---- so there are few

of_sector : ℕ → ℕ → Bool
of_sector t n = eqb (n / 1) t

counted_key : {X : Type 0} (t : ℕ) (es : List (ℕ × X)) → IsSome (lookup (eqb t) es) → 0 < count_by (λ n. eqb (n / 1) t) (keys_of es)
counted_key t [] some = (let no : ⊥ = cc in absurd no)
counted_key {X} t (e ∷ es) some = by_test (eqb t e.0)
    (λ y.
    let same : t ≡ e.0 = eqb-true t e.0 y in
    let whole : e.0 / 1 ≡ t = omega arith in
    let one : bit (eqb (e.0 / 1) t) ≡ 1 = ap bit (eq-eqb (e.0 / 1) t whole) in
    omega (arith, count_by-cons (λ n. eqb (n / 1) t) e.0 (keys_of es)))
    (λ f.
    let tail : IsSome (lookup (eqb t) es) = subst IsSome (cond-false (eqb t e.0) (Some e.1) (lookup (eqb t) es) f) some in
    omega (arith, count_by-cons (λ n. eqb (n / 1) t) e.0 (keys_of es), counted_key t es tail))

held_counted : (m : MappingState) (t : ℕ) → IsHeld m t → 0 < count_by (λ n. eqb (n / 1) t) (keys_of m.cached ++ keys_of m.moved)
held_counted m t held = elim held [
  | inl cached ↦ omega (arith, count_by-append (λ n. eqb (n / 1) t) (keys_of m.cached) (keys_of m.moved), counted_key t m.cached cached)
  | inr moved ↦ omega (arith, count_by-append (λ n. eqb (n / 1) t) (keys_of m.cached) (keys_of m.moved), counted_key t m.moved moved)
]

-- never more than there are
stale_most : (g : Geometry) (image : Image) → stale_count g image ≤ g.sectors
unfolding stale_sectors
stale_most g image =
    let sectors : List ℕ = range_with_len 0 g.sectors in
    omega (arith, length-filter (is_stale g image) sectors, count_by-le-length (is_stale g image) sectors, length-range_with_len 0 g.sectors)

-- each is held, or is one of some more for which the moved list has room
pub few_held : (r : Ram) (image : Image) (more : List ℕ) → IsRam r → length r.mapping.moved + length more ≤ waiting r + r.geometry.pages
    → ((n : ℕ) → n < r.geometry.sectors → is_stale r.geometry image n ≡ true → IsHeld r.mapping n ⊎ (0 < count_by (λ k. eqb (k / 1) n) more)) → stale_count r.geometry image ≤ room_of r
unfolding stale_sectors
few_held r image more s room each =
    let held : List ℕ = keys_of r.mapping.cached ++ keys_of r.mapping.moved in
    let counted : (t : ℕ) → t < r.geometry.sectors → is_stale r.geometry image t ≡ true → 0 < count_by (λ k. eqb (k / 1) t) (held ++ more) = λ t lt old. elim (each t lt old) [
      | inl known ↦ omega (arith, count_by-append (λ k. eqb (k / 1) t) held more, held_counted r.mapping t known)
      | inr one ↦ omega (arith, count_by-append (λ k. eqb (k / 1) t) held more, one)
    ] in
    let most = touched_pages 1 r.geometry.sectors (held ++ more) (is_stale r.geometry image) counted in
    let all = length-append held more in
    let size = length-append (keys_of r.mapping.cached) (keys_of r.mapping.moved) in
    let cached = length-map r.mapping.cached (λ (e : ℕ × Slot). e.0) in
    let moved = length-map r.mapping.moved (λ (e : ℕ × ℕ). e.0) in
    omega (arith, length-filter (is_stale r.geometry image) (range_with_len 0 r.geometry.sectors), most, all, size, cached, moved, s.mapping.within, room, stale_most r.geometry image)

few_stale : (r : Ram) (image : Image) → IsRam r → IsTrue None r image → stale_count r.geometry image ≤ room_of r
few_stale r image s w =
    let none : length r.mapping.moved + 0 ≤ waiting r + r.geometry.pages = (let few = few_moved r s in omega arith) in
    few_held r image [] s none (λ n lt old. inl (stale_held r image n w lt old))

-- ---- a certificate is to be had

pub tables_are : (g : Geometry) (image : Image) → ((u : ℕ) → u < table_pages g → HasFormedTablePage g image u) → HasTables g image
tables_are g image has = record {
  formatted = λ u lt. (let t = has u lt in record { row = t.row; newest_is = t.newest_is });
  formed = λ u lt. (let t = has u lt in subst (IsWellFormed (entries g) g.blocks u) (sym (table_is image u t.row t.newest_is)) t.formed);
}

pub orderly : (r : Ram) (image : Image) → IsRam r → IsTrue None r image → IsOrderly r.geometry (room_of r) image
orderly r image s w = record {
  numbers = record { in_range = w.one.in_range };
  sequences = w.one.distinct;
  tables = tables_are r.geometry image w.tables;
  last = record { below = λ row x at. omega (arith, w.below.below row x at, s.next) };
  fresh = few_stale r image s w;
}
