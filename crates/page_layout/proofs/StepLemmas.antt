-- What each operation of the die keeps.
use Rattle.std.proofs.Common.{length-set, slice_get, ◌≡◌, inl, inr, ℕ, ◌+◌, ◌<◌, ◌≤◌, List, length, replicate, get_or, set, Option, Some, None, refl}
use Rattle.std.proofs.Common.{ap, sym, ◌∙◌, subst, arith, map, zero, suc, add-zero, zero-add, ◌≢◌}
use Rattle.std.specs.List.{range_with_len}
use Rattle.std.proofs.lemmas.Bool.{cases_eq, cases_lt, and_from}
use Rattle.std.proofs.lemmas.List.{get_or_past, get_or-set_same, get_or-set_other}
use Rattle.page_layout.specs.declared.record.Record.{Record}
use Rattle.page_layout.specs.declared.record.Key.{Key}
use Rattle.page_layout.specs.declared.record.Key.TheVariants.{Sector}
use Rattle.page_layout.specs.declared.geometry.Geometry.{Geometry}
use Rattle.page_layout.specs.Page.{Page, Image}
use Rattle.page_layout.specs.Sound.{record_of, version_of, version_for}
use Rattle.page_layout.specs.Key.{key_of}
use Rattle.page_layout.specs.Newest.{newest}
use Rattle.page_layout.specs.OneArray.{AreDistinct, AreBelow}
use Rattle.page_layout.specs.Live.{IsKeyOf, live}
use Rattle.page_layout.specs.Array.{marks, content_of_kind, HasOneArray, array_of, sector_of}
use Rattle.page_layout.specs.Change.{IsUnsoundAt, FailsAt, LosesIn, ErasesIn, Keeps, Writes, HoldsNone, erased_page}
use Rattle.page_layout.proofs.NewestLemmas.{newest-record, set_unsound, sequence_at-is, IsOf, Forgets}
use Rattle.page_layout.proofs.LiveLemmas.{live_same, live_programmed}
use Rattle.page_layout.specs.Sound.{is_filled}
use Rattle.page_layout.proofs.RecordLemmas.{is_filled-replicate, erased_no_record}
use Rattle.page_layout.proofs.LiveLemmas.{live_zero}
use Rattle.page_layout.proofs.VersionLemmas.{version_page, version_same}
use Rattle.page_layout.proofs.ArrayLemmas.{content-record, unsound_at, mark-same, mark-page, body_page, body_same, slice_get-set_other}
use Rattle.page_layout.proofs.ArrayLemmas.{slice_get-set_same, newest-other, forgets, marks-set, length-marks, IsNewer, newest_failed, sector_failed}
use Rattle.page_layout.proofs.ArrayLemmas.{newest_written, newest_unwritten, sector_written, sector_unwritten, newest_lost, sector_lost}
use Rattle.page_layout.proofs.ArrayLemmas.{OneArray_lost, OneArray_written, array-same}

pub Keeps-refl : (g : Geometry) (image : Image) → HasOneArray g image → Keeps g image image
Keeps-refl g image one = record {
  size = refl;
  newest_same = λ key. refl;
  bodies = λ key row is. refl;
  versions = λ key row is. refl;
  sector_same = λ n. refl;
  live_same = λ b. refl;
  one = one;
  unsound = λ row is. is;
  records = λ row x is. is;
  below = λ next is. is;
}

pub Keeps-same : (g : Geometry) (a b : Image) → HasOneArray g a → b ≡ a → Keeps g a b
Keeps-same g a b one same = let P : Image → Type 0 = λ i. Keeps g a i in subst P (sym same) (Keeps-refl g a one)

pub Keeps-trans : (g : Geometry) (a b c : Image) → Keeps g a b → Keeps g b c → Keeps g a c
Keeps-trans g a b c x y = record {
  size = y.size ∙ x.size;
  newest_same = λ key. y.newest_same key ∙ x.newest_same key;
  bodies = λ key row is. y.bodies key row (x.newest_same key ∙ is) ∙ x.bodies key row is;
  versions = λ key row is. y.versions key row (x.newest_same key ∙ is) ∙ x.versions key row is;
  sector_same = λ n. y.sector_same n ∙ x.sector_same n;
  live_same = λ block. y.live_same block ∙ x.live_same block;
  one = y.one;
  unsound = λ row is. y.unsound row (x.unsound row is);
  records = λ row z is. x.records row z (y.records row z is);
  below = λ next is. y.below next (x.below next is);
}

-- failing programs before a write, and anything that keeps after it
pub Keeps-Writes : (g : Geometry) (r : Record) (row : ℕ) (body : List ℕ) (a b c : Image) → Keeps g a b → Writes g r row body b c → Writes g r row body a c
Keeps-Writes g r row body a b c x y = record {
  size = y.size ∙ x.size;
  newest_now = y.newest_now;
  newest_others = λ other ne. y.newest_others other ne ∙ x.newest_same other;
  record_here = y.record_here;
  here = y.here;
  version_here = y.version_here;
  bodies = λ other q ne is. y.bodies other q ne (x.newest_same other ∙ is) ∙ x.bodies other q is;
  versions = λ other q ne is. y.versions other q ne (x.newest_same other ∙ is) ∙ x.versions other q is;
  sector_now = y.sector_now;
  sector_others = λ n ne. y.sector_others n ne ∙ x.sector_same n;
  live_moved = λ block. (let moved = y.live_moved block in rw (x.newest_same (key_of r), x.live_same block) at moved);
  one = y.one;
  unsound = λ q ne is. y.unsound q ne (x.unsound q is);
  records = λ q z ne is. x.records q z (y.records q z ne is);
  below = y.below;
}

pub Writes-Keeps : (g : Geometry) (r : Record) (row : ℕ) (body : List ℕ) (a b c : Image) → Writes g r row body a b → Keeps g b c → Writes g r row body a c
Writes-Keeps g r row body a b c x y = record {
  size = y.size ∙ x.size;
  newest_now = newest_now;
  newest_others = λ other ne. y.newest_same other ∙ x.newest_others other ne;
  record_here =
      let found = newest-record (marks c) (key_of r) row newest_now in
      let was : get_or (marks b) row None ≡ Some found.0 = y.records row found.0 found.1 in
      found.1 ∙ (sym was ∙ x.record_here);
  here = y.bodies (key_of r) row x.newest_now ∙ x.here;
  version_here = y.versions (key_of r) row x.newest_now ∙ x.version_here;
  bodies = λ other q ne is. y.bodies other q (x.newest_others other ne ∙ is) ∙ x.bodies other q ne is;
  versions = λ other q ne is. y.versions other q (x.newest_others other ne ∙ is) ∙ x.versions other q ne is;
  sector_now = λ n is. y.sector_same n ∙ x.sector_now n is;
  sector_others = λ n ne. y.sector_same n ∙ x.sector_others n ne;
  live_moved = λ block. rw (y.live_same block) (x.live_moved block);
  one = y.one;
  unsound = λ q ne is. y.unsound q (x.unsound q ne is);
  records = λ q z ne is. x.records q z ne (y.records q z is);
  below = y.below (r.sequence + 1) x.below;
}
  where
    newest_now : newest (marks c) (key_of r) ≡ Some row
    newest_now = y.newest_same (key_of r) ∙ x.newest_now

-- ---- a program

-- failed
pub failed_marks : (row : ℕ) (old new : Image) → IsUnsoundAt old row → FailsAt row old new → marks new ≡ marks old
failed_marks row old new was (inl same) = ap marks same
failed_marks row old new was (inr torn) =
    ap marks torn.1 ∙ (marks-set old row torn.0 ∙ (rw torn.2 (set_unsound (marks old) row was)))

pub failed_keeps : (g : Geometry) (row : ℕ) (old new : Image) → HasOneArray g old → IsUnsoundAt old row → FailsAt row old new → Keeps g old new
failed_keeps g row old new one was (inl same) = Keeps-same g old new one same
failed_keeps g row old new one was (inr torn) =
    let p : Page = torn.0 in
    let same : marks (set old row p) ≡ marks old = failed_marks row old (set old row p) was (inr (p, refl, torn.2)) in
    let P : Image → Type 0 = λ i. Keeps g old i in
    subst P (sym torn.1) (record {
      size = length-set old row p;
      newest_same = λ key. newest_failed old row p key was torn.2;
      bodies = λ key q is. body_same (set old row p) old q (slice_get-set_other old row q p (newest-other old row q key was is));
      versions = λ key q is. version_same (set old row p) old q (slice_get-set_other old row q p (newest-other old row q key was is));
      sector_same = λ n. sector_failed g old row p n was torn.2;
      live_same = λ block. ap (λ ms. live g ms block) same;
      one = record {
        distinct = (let Q : List (Option Record) → Type 0 = λ ms. AreDistinct ms in subst Q (sym same) one.distinct);
        in_range = λ q r is. one.in_range q r (ap (λ ms. get_or ms q None) (sym same) ∙ is);
      };
      unsound = λ q is. ap (λ ms. get_or ms q None) same ∙ is;
      records = λ q x is. ap (λ ms. get_or ms q None) (sym same) ∙ is;
      below = λ next is. (let Q : List (Option Record) → Type 0 = λ ms. AreBelow ms next in subst Q (sym same) is);
    })

-- what a program leaves for the next one
pub below_more : (ms : List (Option Record)) (s t : ℕ) → s ≤ t → AreBelow ms s → AreBelow ms t
below_more ms s t le h = record { below = λ row x is. omega (arith, h.below row x is) }

pub passed_below : (row : ℕ) (old new : Image) (p : Page) (r : Record) → row < length old → record_of p ≡ Some r → AreBelow (marks old) r.sequence → new ≡ set old row p → AreBelow (marks new) (r.sequence + 1)
passed_below row old new p r within is below same =
    let l : row < length (marks old) = rw length-marks within in
    let now : marks new ≡ set (marks old) row (Some r) = ap marks same ∙ (marks-set old row p ∙ ap (λ m. set (marks old) row m) is) in
    let at_row : get_or (set (marks old) row (Some r)) row None ≡ Some r = get_or-set_same (marks old) row (Some r) None l in
    let P : List (Option Record) → Type 0 = λ ms. AreBelow ms (r.sequence + 1) in
    subst P (sym now) (record {
      below = λ q x at. elim (cases_eq q row) [
        | inl s ↦
            let e : Some x ≡ Some r = sym at ∙ (ap (λ k. get_or (set (marks old) row (Some r)) k None) s ∙ at_row) in
            let same_record : x ≡ r = cc in
            let same_sequence : x.sequence ≡ r.sequence = ap (λ z. z.sequence) same_record in
            omega arith
        | inr ne ↦ omega (arith, below.below q x (sym (get_or-set_other (marks old) row q (Some r) None ne) ∙ at))
      ];
    })

-- passed, with a record that is newer than all
pub passed_writes : (g : Geometry) (row : ℕ) (old new : Image) (p : Page) (r : Record) → HasOneArray g old → row < length old → IsUnsoundAt old row
    → record_of p ≡ Some r → version_of p ≡ Some (version_for g) → AreBelow (marks old) r.sequence → IsKeyOf g (key_of r) → new ≡ set old row p
    → Writes g r row p.body old new
passed_writes g row old new p r one within was is version below in_range same =
    let newer : IsNewer old r = record {
      above = λ q s at.
          let found : IsOf (key_of r) (get_or (marks old) q None) s = sequence_at-is (marks old) (key_of r) q s at in
          omega (arith, below.below q found.its found.is, found.sequence_is);
    } in
    let l : row < length (marks old) = rw length-marks within in
    let now : marks (set old row p) ≡ set (marks old) row (Some r) = marks-set old row p ∙ ap (λ m. set (marks old) row m) is in
    let other : (q : ℕ) → q ≢ row → slice_get (set old row p) q ≡ slice_get old q = λ q ne. slice_get-set_other old row q p ne in
    let P : Image → Type 0 = λ i. Writes g r row p.body old i in
    subst P (sym same) (record {
      size = length-set old row p;
      newest_now = newest_written old row p r within is newer;
      newest_others = λ k ne. newest_unwritten old row p r k within was is ne;
      record_here = mark-page (set old row p) row p (slice_get-set_same old row p within) ∙ is;
      here = body_page (set old row p) row p (slice_get-set_same old row p within);
      version_here = version_page (set old row p) row p (slice_get-set_same old row p within) ∙ version;
      bodies = λ k q ne at. body_same (set old row p) old q (other q (newest-other old row q k was at));
      versions = λ k q ne at. version_same (set old row p) old q (other q (newest-other old row q k was at));
      sector_now = λ n of_key. sector_written g old row p r n within is newer of_key ∙ content-record g p r is;
      sector_others = λ n ne. sector_unwritten g old row p r n within was is ne;
      live_moved = λ block. rw now (live_programmed g (marks old) row block r l was in_range newer.above);
      one = OneArray_written g old row p r within one is below in_range;
      unsound = λ q ne at. mark-same (set old row p) old q (other q ne) ∙ at;
      records = λ q x ne at. mark-same old (set old row p) q (sym (other q ne)) ∙ at;
      below = passed_below row old (set old row p) p r within is below refl;
    })

-- ---- an erase

pub lost_keeps : (g : Geometry) (block : ℕ) (old new : Image) → HasOneArray g old → HoldsNone g.pages block old → LosesIn g.pages block old new → Keeps g old new
lost_keeps g block old new one empty lost =
    let same : (key : Key) → newest (marks new) key ≡ newest (marks old) key = λ key. newest_lost g.pages block old new key one.distinct empty lost in
    record {
      size = lost.length_same;
      newest_same = same;
      bodies = λ key q is. body_same new old q (lost.others q (empty.none key q is));
      versions = λ key q is. version_same new old q (lost.others q (empty.none key q is));
      sector_same = λ n. sector_lost g g.pages block old new n one.distinct empty lost;
      live_same = λ b. live_same g (marks old) (marks new) b same;
      one = OneArray_lost g g.pages block old new one lost;
      unsound = λ q is. elim (f.at q) [ inl kept ↦ kept ∙ is | inr gone ↦ gone ];
      records = was;
      below = λ next is. record { below = λ q x at. is.below q x (was q x at) };
    }
  where
    f : Forgets (marks old) (marks new)
    f = forgets g.pages block old new lost

    was : (q : ℕ) (x : Record) → get_or (marks new) q None ≡ Some x → get_or (marks old) q None ≡ Some x
    was q x at = elim (f.at q) [ inl kept ↦ (cc) | inr gone ↦ absurd (cc) ]

pub none_live : (g : Geometry) (block : ℕ) (image : Image) → HasOneArray g image → live g (marks image) block ≡ 0 → HoldsNone g.pages block image
none_live g block image one none = record {
  none = λ key row is.
      let found = newest-record (marks image) key row is in
      let in_range : IsKeyOf g (key_of found.0) = one.in_range row found.0 found.1 in
      let P : Key → Type 0 = λ k. IsKeyOf g k in
      live_zero g (marks image) block row key (subst P found.2 in_range) none is;
}

pub erased_unsound : (g : Geometry) → record_of (erased_page g) ≡ None
erased_unsound g = erased_no_record (erased_page g) (and_from (is_filled (replicate g.data_bytes 255)) (is_filled (replicate g.spare_bytes 255)) (is_filled-replicate g.data_bytes) (is_filled-replicate g.spare_bytes))

pub erased_loses : (g : Geometry) (block : ℕ) (old new : Image) → ErasesIn g block old new → LosesIn g.pages block old new
erased_loses g block old new erased = record {
  length_same = erased.length_same;
  others = erased.others;
  inside = λ row same. elim (cases_lt row (length old)) [
    | inl l ↦ inr (unsound_at new row (erased_page g) (erased.inside row same l) (erased_unsound g))
    | inr ge ↦
        let past : length new ≤ row = omega (arith, erased.length_same) in
        inr (get_or_past (marks new) row None (rw length-marks past))
  ];
}

-- ---- the array as a list

map_range_same : {A : Type 0} (f h : ℕ → A) (a n : ℕ) → ((j : ℕ) → a ≤ j → h j ≡ f j) → map h (range_with_len a n) ≡ map f (range_with_len a n)
map_range_same f h a zero same = refl
map_range_same f h a (suc n) same =
    let head : h a ≡ f a = same a (omega arith) in
    let tail : map h (range_with_len (a + 1) n) ≡ map f (range_with_len (a + 1) n) = map_range_same f h (a + 1) n (λ j le. same j (omega arith)) in
    cc

-- a map over a range, where the function changed at one place
map_range_changed : {A : Type 0} (f h : ℕ → A) (a n k : ℕ) (y : A) → h (a + k) ≡ y → ((j : ℕ) → j ≢ a + k → h j ≡ f j) → k < n → map h (range_with_len a n) ≡ set (map f (range_with_len a n)) k y
map_range_changed f h a zero k y at others l = absurd (omega arith)
map_range_changed f h a (suc n) zero y at others l =
    let head : h a ≡ y = rw add-zero at at in
    let tail : map h (range_with_len (a + 1) n) ≡ map f (range_with_len (a + 1) n) = map_range_same f h (a + 1) n (λ j le. others j (omega arith)) in
    cc
map_range_changed f h a (suc n) (suc k) y at others l =
    let shift : a + suc k ≡ a + 1 + k = omega arith in
    let head : h a ≡ f a = others a (omega arith) in
    let tail : map h (range_with_len (a + 1) n) ≡ set (map f (range_with_len (a + 1) n)) k y =
    map_range_changed f h (a + 1) n k y (rw shift at at) (λ j ne. others j (rw shift ne)) (omega arith) in
    cc

pub array_kept : (g : Geometry) (old new : Image) → Keeps g old new → array_of g new ≡ array_of g old
array_kept g old new keeps = array-same g old new keeps.sector_same

pub array_written : (g : Geometry) (n row : ℕ) (r : Record) (body : List ℕ) (old new : Image) → n < g.sectors → key_of r ≡ Sector n → Writes g r row body old new → array_of g new ≡ set (array_of g old) n (content_of_kind g r.kind body)
unfolding array_of
array_written g n row r body old new within of_key writes =
    map_range_changed (sector_of g old) (sector_of g new) 0 g.sectors n (content_of_kind g r.kind body)
    (let at : sector_of g new n ≡ content_of_kind g r.kind body = writes.sector_now n of_key in rw zero-add at)
    (λ j ne. writes.sector_others j (other j ne)) within
  where
    other : (j : ℕ) → j ≢ 0 + n → key_of r ≢ Sector j
    other j ne same = let s : Sector n ≡ Sector j = sym of_key ∙ same in let e : n ≡ j = cc in ne (omega arith)

-- of a translation or table page
pub array_unwritten : (g : Geometry) (r : Record) (row : ℕ) (body : List ℕ) (old new : Image) → ((n : ℕ) → key_of r ≢ Sector n) → Writes g r row body old new → array_of g new ≡ array_of g old
array_unwritten g r row body old new no_sector writes = array-same g old new (λ n. writes.sector_others n (no_sector n))
