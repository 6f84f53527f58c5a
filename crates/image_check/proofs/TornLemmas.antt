-- Images in which pages were left without a sound record.
use Rattle.std.proofs.Common.{◌≡◌, ◌≢◌, ◌⊎◌, inl, inr, ℕ, zero, suc, ◌+◌, ◌-◌, ◌^◌, ◌%◌, ◌/◌, ◌<◌, ◌≤◌, Bool, true, false, cond, not, List, []}
use Rattle.std.proofs.Common.{◌∷◌, length, set, get_or, slice_get, Option, Some, None, refl, sym, ap, subst, ◌∙◌, arith}
use Rattle.std.specs.Prelude.{filter}
use Rattle.std.specs.List.{range_with_len}
use Rattle.std.proofs.lemmas.Bool.{cases_eq, cases_lt}
use Rattle.std.proofs.lemmas.List.{ext_get_or, get_or-set_same, get_or-set_other, get_or_past, length-set}
use Rattle.std.proofs.lemmas.List.FromFn.{length-map-range_with_len, get_or-map-range_with_len}
use Rattle.page_layout.specs.declared.geometry.Geometry.{Geometry}
use Rattle.page_layout.specs.declared.record.Record.{Record}
use Rattle.page_layout.specs.declared.record.Key.{Key}
use Rattle.page_layout.specs.declared.record.Key.TheVariants.{Sector, Translation, Table}
use Rattle.page_layout.specs.Geometry.{entries}
use Rattle.page_layout.specs.Page.{Image, IsImage}
use Rattle.page_layout.specs.Key.{key_of}
use Rattle.page_layout.specs.Newest.{newest}
use Rattle.page_layout.specs.Array.{marks, sector_of, array_of, HasOneArray}
use Rattle.page_layout.specs.Change.{FailsAt, Keeps, Writes}
use Rattle.page_layout.proofs.NewestLemmas.{Forgets, newest-record, newest_forgets}
use Rattle.page_layout.proofs.ArrayLemmas.{marks-set, sector-same, array-same, slice_get-set_other}
use Rattle.page_layout.proofs.StepLemmas.{failed_keeps, lost_keeps, array_kept}
use Rattle.page_layout.proofs.ErasedLemmas.{erased_at_unsound}
use Rattle.bad_blocks.specs.TablePage.{IsWellFormed}
use Rattle.translation_pages.specs.TranslationPage.{entry_at}
use Rattle.translation_pages.specs.Entry.{entry_in, entry_of}
use Rattle.image_check.specs.Blocks.{body_in, table_body}
use Rattle.image_check.specs.Agrees.{HasTables}
use Rattle.image_check.specs.Stale.{same_row, is_stale, stale_sectors, stale_count}
use Rattle.image_check.specs.Mountable.{IsMountable, IsOrderly}
use Rattle.image_check.specs.Torn.{OtherKeysLaw, NoSectorLaw, OneSectorLaw, StillOneLaw, KeepsStandsForLaw, TornProgramLaw, TornEraseLaw, OneMoreStaleLaw}
use Rattle.image_check.proofs.MountableLemmas.{mountable}
use Rattle.image_check.proofs.StaleLemmas.{filter_same}

-- ---- one page that has no sound record now

other_mark : (row q : ℕ) (old new : Image) → FailsAt row old new → q ≢ row → get_or (marks new) q None ≡ get_or (marks old) q None
other_mark row q old new (inl same) ne = ap (λ i. get_or (marks i) q None) same
other_mark row q old new (inr torn) ne =
    ap (λ i. get_or (marks i) q None) torn.1
    ∙ (ap (λ ms. get_or ms q None) (marks-set old row torn.0) ∙ get_or-set_other (marks old) row q _ None ne)

own_mark : (row : ℕ) (old new : Image) → FailsAt row old new
    → (get_or (marks new) row None ≡ get_or (marks old) row None) ⊎ (get_or (marks new) row None ≡ None)
own_mark row old new (inl same) = inl (ap (λ i. get_or (marks i) row None) same)
own_mark row old new (inr torn) =
    let now : marks new ≡ set (marks old) row None = ap marks torn.1 ∙ (marks-set old row torn.0 ∙ ap (λ m. set (marks old) row m) torn.2) in
    inr (ap (λ ms. get_or ms row None) now ∙ (elim (cases_lt row (length (marks old))) [
      | inl l ↦ get_or-set_same (marks old) row None None l
      | inr le ↦ get_or_past (set (marks old) row None) row None (omega (arith, length-set (marks old) row None))
    ]))

forgets_one : (row : ℕ) (old new : Image) → FailsAt row old new → Forgets (marks old) (marks new)
forgets_one row old new fails = record {
  at = λ q. elim (cases_eq q row) [
    | inl same ↦ subst (λ k. (get_or (marks new) k None ≡ get_or (marks old) k None) ⊎ (get_or (marks new) k None ≡ None)) (sym same) (own_mark row old new fails)
    | inr ne ↦ inl (other_mark row q old new fails ne)
  ];
}

other_page : (row q : ℕ) (old new : Image) → FailsAt row old new → q ≢ row → slice_get new q ≡ slice_get old q
other_page row q old new (inl same) ne = ap (λ i. slice_get i q) same
other_page row q old new (inr torn) ne = ap (λ i. slice_get i q) torn.1 ∙ slice_get-set_other old row q torn.0 ne

-- a row is another one than a key's newest page
not_there : (old : Image) (key : Key) (row q : ℕ) → newest (marks old) key ≢ Some row → newest (marks old) key ≡ Some q → q ≢ row
not_there old key row q ne is same = ne (is ∙ ap Some same)

pub other_keys : OtherKeysLaw
other_keys g row old new key one fails ne = newest_forgets (marks old) (marks new) key one.distinct (forgets_one row old new fails)
    (λ q is. other_mark row q old new fails (not_there old key row q ne is))

other_sector : (g : Geometry) (row n : ℕ) (old new : Image) → HasOneArray g old → FailsAt row old new → newest (marks old) (Sector n) ≢ Some row
    → sector_of g new n ≡ sector_of g old n
other_sector g row n old new one fails ne = sector-same g old new n (other_keys g row old new (Sector n) one fails ne)
    (λ q is. other_page row q old new fails (not_there old (Sector n) row q ne is))

pub no_sector : NoSectorLaw
no_sector g row old new one fails none = array-same g old new (λ n. other_sector g row n old new one fails (none n))

size_of_array : (g : Geometry) (image : Image) → length (array_of g image) ≡ g.sectors
unfolding array_of
size_of_array g image = length-map-range_with_len (sector_of g image) 0 g.sectors

sector_in_array : (g : Geometry) (image : Image) (n : ℕ) → n < g.sectors → get_or (array_of g image) n [] ≡ sector_of g image n
unfolding array_of
sector_in_array g image n within = get_or-map-range_with_len (sector_of g image) 0 g.sectors n n [] within (omega arith)

-- one page is the newest of one sector at most
one_sector_there : (old : Image) (row n k : ℕ) → newest (marks old) (Sector n) ≡ Some row → k ≢ n → newest (marks old) (Sector k) ≢ Some row
one_sector_there old row n k at ne is =
    let a = newest-record (marks old) (Sector n) row at in
    let b = newest-record (marks old) (Sector k) row is in
    let both : Some a.0 ≡ Some b.0 = sym a.1 ∙ b.1 in
    let record_same : a.0 ≡ b.0 = cc in
    let keys_same : Sector k ≡ Sector n = sym b.2 ∙ (ap key_of (sym record_same) ∙ a.2) in
    let same : k ≡ n = cc in
    ne same

pub one_sector : OneSectorLaw
one_sector g row n old new one fails within at = ext_get_or [] (array_of g new) (set (array_of g old) n (sector_of g new n))
    (size_of_array g new ∙ sym (length-set (array_of g old) n (sector_of g new n) ∙ size_of_array g old))
    (λ k l.
    let lt : k < g.sectors = omega (arith, size_of_array g new) in
    sector_in_array g new k lt ∙ (elim (cases_eq k n) [
      | inl same ↦
          let room : n < length (array_of g old) = omega (arith, size_of_array g old) in
          ap (sector_of g new) same
          ∙ sym (ap (λ j. get_or (set (array_of g old) n (sector_of g new n)) j []) same ∙ get_or-set_same (array_of g old) n (sector_of g new n) [] room)
      | inr ne ↦
          other_sector g row k old new one fails (one_sector_there old row n k at ne)
          ∙ sym (get_or-set_other (array_of g old) n k (sector_of g new n) [] ne ∙ sector_in_array g old k lt)
    ]))

pub still_one : StillOneLaw
still_one g row old new one fails = record {
  distinct = record { apart = λ a b x y p q e. one.distinct.apart a b x y (was a x p) (was b y q) e };
  in_range = λ q x is. one.in_range q x (was q x is);
}
  where
    was : (q : ℕ) (x : Record) → get_or (marks new) q None ≡ Some x → get_or (marks old) q None ≡ Some x
    was q x is = elim ((forgets_one row old new fails).at q) [ inl kept ↦ (cc) | inr gone ↦ absurd (cc) ]

-- ---- what keeps

-- the data area of the newest page of a key
body_kept : (old new : Image) (key : Key) → newest (marks new) key ≡ newest (marks old) key → ((row : ℕ) → newest (marks old) key ≡ Some row
    → body_in new (Some row) ≡ body_in old (Some row)) → body_in new (newest (marks new) key) ≡ body_in old (newest (marks old) key)
body_kept old new key same bodies = ap (body_in new) same ∙ at (newest (marks old) key) refl
  where
    at : (o : Option ℕ) → newest (marks old) key ≡ o → body_in new o ≡ body_in old o
    at None is = refl
    at (Some row) is = bodies row is

entry_kept : (old new : Image) (i : ℕ) (key : Key) → newest (marks new) key ≡ newest (marks old) key → ((row : ℕ) → newest (marks old) key ≡ Some row
    → body_in new (Some row) ≡ body_in old (Some row)) → entry_in new i (newest (marks new) key) ≡ entry_in old i (newest (marks old) key)
entry_kept old new i key same bodies = ap (entry_in new i) same ∙ at (newest (marks old) key) refl
  where
    at : (o : Option ℕ) → newest (marks old) key ≡ o → entry_in new i o ≡ entry_in old i o
    at None is = refl
    at (Some row) is = ap (λ body. entry_at body i) (bodies row is)

pub stale_kept : (g : Geometry) (old new : Image) (n : ℕ) → Keeps g old new → is_stale g new n ≡ is_stale g old n
unfolding is_stale entry_of
stale_kept g old new n k =
    let key : Key = Translation (n / entries g) in
    let entry = entry_kept old new (n % entries g) key (k.newest_same key) (k.bodies key) in
    ap (λ e. not (same_row e (newest (marks new) (Sector n)))) entry
    ∙ ap (λ o. not (same_row (entry_in old (n % entries g) (newest (marks old) key)) o)) (k.newest_same (Sector n))

pub all_stale_kept : (g : Geometry) (old new : Image) → Keeps g old new → stale_sectors g new ≡ stale_sectors g old
unfolding stale_sectors
all_stale_kept g old new k = filter_same (is_stale g new) (is_stale g old) 0 g.sectors (λ n low high. stale_kept g old new n k)

-- tables whose pages are where they were, as they were
tables_kept : (g : Geometry) (old new : Image) → ((u : ℕ) → newest (marks new) (Table u) ≡ newest (marks old) (Table u)) → ((u row : ℕ)
    → newest (marks old) (Table u) ≡ Some row → body_in new (Some row) ≡ body_in old (Some row)) → HasTables g old → HasTables g new
unfolding table_body
tables_kept g old new same bodies t = record {
  formatted = λ u l. (let was = t.formatted u l in record { row = was.row; newest_is = same u ∙ was.newest_is });
  formed = λ u l. subst (IsWellFormed (entries g) g.blocks u) (sym (body_kept old new (Table u) (same u) (bodies u))) (t.formed u l);
}

-- in terms of the image alone
pub orderly_kept : (g : Geometry) (capacity : ℕ) (old new : Image) → Keeps g old new → IsOrderly g capacity old → IsOrderly g capacity new
orderly_kept g capacity old new k o = record {
  numbers = record { in_range = k.one.in_range };
  sequences = k.one.distinct;
  tables = tables_kept g old new (λ u. k.newest_same (Table u)) (λ u. k.bodies (Table u)) o.tables;
  last = k.below (2 ^ 64 - 1) o.last;
  fresh = (let same = ap length (all_stale_kept g old new k) in let few = o.fresh in omega arith);
}

-- an image is mountable where another is, if it is orderly where that one is
mountable_as : (g : Geometry) (capacity more : ℕ) (old new : Image) → IsImage g old → length new ≡ length old → capacity + more ≤ 65536
    → (IsOrderly g capacity old → IsOrderly g (capacity + more) new) → IsMountable g capacity old → IsMountable g (capacity + more) new
mountable_as g capacity more old new whole size most orderly m =
    let asked = m.agrees.asked.capacity_same in
    let least = m.fits.capacity_least in
    let high : capacity ≤ 65536 = (let top = m.fits.capacity_most in omega arith) in
    (mountable g (capacity + more) new (size ∙ whole.rows) (omega arith) most).1
    (orderly ((mountable g capacity old whole.rows (omega arith) high).0 m))

pub kept : KeepsStandsForLaw
kept g old new whole k = record {
  array = array_kept g old new k;
  stale = all_stale_kept g old new k;
  mountable = λ capacity m.
      let asked = m.agrees.asked.capacity_same in
      let top = m.fits.capacity_most in
      let none : capacity + 0 ≡ capacity = omega arith in
      subst (λ c. IsMountable g c new) none
      (mountable_as g capacity 0 old new whole k.size (omega arith) (λ o. subst (λ c. IsOrderly g c new) (sym none) (orderly_kept g capacity old new k o)) m);
}

pub torn_program : TornProgramLaw
torn_program g row old new whole one erased fails = kept g old new whole (failed_keeps g row old new one (erased_at_unsound g old row whole erased) fails)

pub torn_erase : TornEraseLaw
torn_erase g block old new whole one none loses = kept g old new whole (lost_keeps g block old new one none loses)

-- ---- a page of a sector was written

other_key : (r : Record) (n : ℕ) (key : Key) → key_of r ≡ Sector n → Sector n ≢ key → key_of r ≢ key
other_key r n key is ne same = ne (sym is ∙ same)

pub stale_written : (g : Geometry) (n k row : ℕ) (r : Record) (body : List ℕ) (old new : Image) → key_of r ≡ Sector n → Writes g r row body old new
    → k ≢ n → is_stale g new k ≡ is_stale g old k
unfolding is_stale entry_of
stale_written g n k row r body old new of_key w ne =
    let key : Key = Translation (k / entries g) in
    let apart : key_of r ≢ key = other_key r n key of_key (λ e. (let no : ⊥ = cc in no)) in
    let entry = entry_kept old new (k % entries g) key (w.newest_others key apart) (λ q. w.bodies key q apart) in
    ap (λ e. not (same_row e (newest (marks new) (Sector k)))) entry
    ∙ ap (λ o. not (same_row (entry_in old (k % entries g) (newest (marks old) key)) o))
    (w.newest_others (Sector k) (other_key r n (Sector k) of_key (λ e. ne (let same : k ≡ n = cc in same))))

-- tests that agree but at one place
one_more : (p q : ℕ → Bool) (n a m : ℕ) → ((k : ℕ) → k ≢ n → p k ≡ q k) → length (filter p (range_with_len a m)) ≤ length (filter q (range_with_len a m)) + 1
one_more p q n a zero same = omega arith
one_more p q n a (suc m) same = elim (cases_eq a n) [
  | inl here ↦
      let rest : length (filter p (range_with_len (a + 1) m)) ≡ length (filter q (range_with_len (a + 1) m)) =
      ap length (filter_same p q (a + 1) m (λ k low high. same k (λ e. absurd (omega arith)))) in
      any_head (p a) (q a) (filter p (range_with_len (a + 1) m)) (filter q (range_with_len (a + 1) m)) rest
  | inr ne ↦ same_head (p a) (q a) (filter p (range_with_len (a + 1) m)) (filter q (range_with_len (a + 1) m)) (same a ne) (one_more p q n (a + 1) m same)
]
  where
    any_head : (b c : Bool) (xs ys : List ℕ) → length xs ≡ length ys → length (cond b (a ∷ xs) xs) ≤ length (cond c (a ∷ ys) ys) + 1
    any_head true true xs ys e = omega arith
    any_head true false xs ys e = omega arith
    any_head false true xs ys e = omega arith
    any_head false false xs ys e = omega arith

    same_head : (b c : Bool) (xs ys : List ℕ) → b ≡ c → length xs ≤ length ys + 1 → length (cond b (a ∷ xs) xs) ≤ length (cond c (a ∷ ys) ys) + 1
    same_head true true xs ys e le = omega arith
    same_head true false xs ys e le = absurd (cc)
    same_head false true xs ys e le = absurd (cc)
    same_head false false xs ys e le = le

few_more : (g : Geometry) (n row : ℕ) (r : Record) (body : List ℕ) (old new : Image) → key_of r ≡ Sector n → Writes g r row body old new
    → stale_count g new ≤ stale_count g old + 1
unfolding stale_sectors
few_more g n row r body old new of_key w = one_more (is_stale g new) (is_stale g old) n 0 g.sectors (λ k ne. stale_written g n k row r body old new of_key w ne)

pub one_more_stale : OneMoreStaleLaw
one_more_stale g capacity n row r body old new whole of_key w last most m = mountable_as g capacity 1 old new whole w.size most
    (λ o. record {
      numbers = record { in_range = w.one.in_range };
      sequences = w.one.distinct;
      tables = tables_kept g old new
          (λ u. w.newest_others (Table u) (other_key r n (Table u) of_key (λ e. (let no : ⊥ = cc in no))))
          (λ u q. w.bodies (Table u) q (other_key r n (Table u) of_key (λ e. (let no : ⊥ = cc in no)))) o.tables;
      last = record { below = λ q x at. (let l = w.below.below q x at in omega arith) };
      fresh = (let more = few_more g n row r body old new of_key w in let few = o.fresh in omega arith);
    }) m
