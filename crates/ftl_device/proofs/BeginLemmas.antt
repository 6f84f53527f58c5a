-- An agreeing certificate begins a true memory.
use Rattle.std.proofs.Common.{◌≡◌, ℕ, ◌+◌, ◌<◌, Bool, true, false, ◌||◌, List, [], ◌∷◌, map, get_or, reverse, filter, Option, Some, None, refl, sym}
use Rattle.std.proofs.Common.{ap, subst, ◌∙◌, inl, inr, arith, slice_get}
use Rattle.std.specs.Prelude.{nat_eq}
use Rattle.std.specs.List.{list_any, range_with_len}
use Rattle.std.specs.Map.{lookup}
use Rattle.std.proofs.lemmas.Bool.{cases_Bool, eqb-true, eq-eqb, cond-true, cond-false, not-false}
use Rattle.std.proofs.lemmas.Map.Views.{any-filter_same}
use Rattle.std.proofs.lemmas.List.Folds.{Any-from_list_any, list_any-from_Any}
use Rattle.std.proofs.lemmas.List.FromFn.{length-range_with_len, get_or-range_with_len}
use Rattle.std.proofs.lemmas.List.Sorted.{list_any-IsPermutation, IsPermutation-reverse}
use Rattle.std.proofs.lemmas.Option.{get_or_from_slice_get}
use Rattle.page_layout.specs.declared.geometry.Geometry.{Geometry}
use Rattle.page_layout.specs.declared.record.Key.{Key}
use Rattle.page_layout.specs.declared.record.Key.TheVariants.{Sector, Translation, Table}
use Rattle.page_layout.specs.Geometry.{entries, translation_pages, table_pages}
use Rattle.page_layout.specs.Page.{Image, IsImage}
use Rattle.page_layout.specs.Live.{IsKeyOf}
use Rattle.page_layout.specs.Newest.{newest}
use Rattle.page_layout.specs.Array.{marks}
use Rattle.bad_blocks.specs.TablePage.{IsWellFormed}
use Rattle.translation_pages.specs.Entry.{entry_of}
use Rattle.certificate.specs.Claim.{Claim}
use Rattle.mapping_cache.specs.declared.slot.Slot.{Slot}
use Rattle.mapping_cache.specs.Mapping.{known, pending, known_by, pending_by, slot_of}
use Rattle.allocation.specs.State.{pointer_at}
use Rattle.allocation.specs.Begun.{begun}
use Rattle.allocation.specs.Counts.{IsLiveExact}
use Rattle.image_check.specs.Blocks.{is_good_block, pointer}
use Rattle.image_check.specs.Stale.{is_stale, stale_sectors, same_row}
use Rattle.image_check.specs.Agrees.{Agrees}
use Rattle.image_check.proofs.StateLemmas.{pointer_most}
use Rattle.image_check.proofs.TablesLemmas.{table_is}
use Rattle.collection.specs.Pages.{directory_place, newest_row}
use Rattle.collection.specs.Truth.{IsTrue, AreFilled, AreWorn, HasFormedTablePage}
use Rattle.ftl_device.specs.Begin.{stale_entry, begun_mapping, begun_ram}
use Rattle.ftl_device.proofs.WearLemmas.{begun_wear_most, told_begun}
use Rattle.ftl_device.proofs.BlockLemmas.{given, good_same, pointer_same, live_same, pointer_good, sound_below, erased_from}

-- ---- stale sectors

rows_same : (a b : Option ℕ) → same_row a b ≡ true → a ≡ b
rows_same None None e = refl
rows_same None (Some b) e = absurd (let clash : false ≡ true = e in cc)
rows_same (Some a) None e = absurd (let clash : false ≡ true = e in cc)
rows_same (Some a) (Some b) e = ap Some (eqb-true a b e)

fresh : (g : Geometry) (image : Image) (n : ℕ) → is_stale g image n ≡ false → entry_of g image n ≡ newest (marks image) (Sector n)
unfolding is_stale
fresh g image n e = rows_same (entry_of g image n) (newest (marks image) (Sector n)) (not-false (same_row (entry_of g image n) (newest (marks image) (Sector n))) e)

in_range : (n size : ℕ) → n < size → list_any (nat_eq n) (range_with_len 0 size) ≡ true
in_range n size lt =
    let value : get_or (range_with_len 0 size) n n ≡ n = get_or-range_with_len 0 size n n lt ∙ omega arith in
    list_any-from_Any (nat_eq n) (range_with_len 0 size) (n, n, omega (arith, length-range_with_len 0 size), value, eq-eqb n n refl)

range_has : (n size : ℕ) → list_any (nat_eq n) (range_with_len 0 size) ≡ true → n < size
range_has n size e =
    let found = Any-from_list_any (nat_eq n) (range_with_len 0 size) e in
    let small : found.0 < size = omega (arith, length-range_with_len 0 size, found.2) in
    let value : 0 + found.0 ≡ found.1 = sym (get_or-range_with_len 0 size found.0 found.1 small) ∙ found.3 in
    let same : n ≡ found.1 = eqb-true n found.1 found.4 in
    omega arith

filter_has : (p q : ℕ → Bool) (ks : List ℕ) → list_any q (filter p ks) ≡ true → list_any q ks ≡ true
filter_has p q [] e = e
filter_has p q (k ∷ ks) e = elim (cases_Bool (p k)) [
  | inl kept ↦
      let now : (q k || list_any q (filter p ks)) ≡ true = sym (ap (list_any q) (cond-true (p k) (k ∷ filter p ks) (filter p ks) kept)) ∙ e in
      either (q k) (list_any q (filter p ks)) (list_any q ks) now (filter_has p q ks)
  | inr lost ↦
      let now : list_any q (filter p ks) ≡ true = sym (ap (list_any q) (cond-false (p k) (k ∷ filter p ks) (filter p ks) lost)) ∙ e in
      either (q k) true (list_any q ks) (or_true (q k)) (λ h. filter_has p q ks now)
]
  where
    either : (b x y : Bool) → (b || x) ≡ true → (x ≡ true → y ≡ true) → (b || y) ≡ true
    either true x y h more = refl
    either false x y h more = more h

    or_true : (b : Bool) → (b || true) ≡ true
    or_true true = refl
    or_true false = refl

stale_within : (g : Geometry) (image : Image) (n : ℕ) → list_any (nat_eq n) (stale_sectors g image) ≡ true → n < g.sectors
unfolding stale_sectors
stale_within g image n e = range_has n g.sectors (filter_has (is_stale g image) (nat_eq n) (range_with_len 0 g.sectors) e)

stale_has : (g : Geometry) (image : Image) (n : ℕ) → n < g.sectors → is_stale g image n ≡ true → list_any (nat_eq n) (stale_sectors g image) ≡ true
unfolding stale_sectors
stale_has g image n lt e =
    any-filter_same (nat_eq n) (is_stale g image) true (λ k t. ap (is_stale g image) (sym (eqb-true n k t)) ∙ e) (range_with_len 0 g.sectors) ∙ in_range n g.sectors lt

pub reversed : (n : ℕ) (ks : List ℕ) → list_any (nat_eq n) (reverse ks) ≡ list_any (nat_eq n) ks
reversed n ks = sym (list_any-IsPermutation (nat_eq n) ks (reverse ks) (IsPermutation-reverse ks))

-- ---- the cache

module _ (c : Claim) (n : ℕ) where
  -- what is cached of a sector: the certificate's row
  its_slot : (ks : List ℕ) (s : Slot) → lookup (nat_eq n) (map (stale_entry c) ks) ≡ Some s → s ≡ (stale_entry c n).1
  its_slot [] s e = absurd (let clash : None ≡ Some s = e in cc)
  its_slot (k ∷ ks) s e = elim (cases_Bool (nat_eq n k)) [
    | inl same ↦
        let at : Some (stale_entry c k).1 ≡ Some s = sym (cond-true (nat_eq n k) (Some (stale_entry c k).1) (lookup (nat_eq n) (map (stale_entry c) ks)) same) ∙ e in
        let one : (stale_entry c k).1 ≡ s = cc in
        sym one ∙ ap (λ j. (stale_entry c j).1) (sym (eqb-true n k same))
    | inr other ↦ its_slot ks s (sym (cond-false (nat_eq n k) (Some (stale_entry c k).1) (lookup (nat_eq n) (map (stale_entry c) ks)) other) ∙ e)
  ]

  pub its_place : (ks : List ℕ) (s : Slot) → lookup (nat_eq n) (map (stale_entry c) ks) ≡ Some s → list_any (nat_eq n) ks ≡ true
  its_place [] s e = absurd (let clash : None ≡ Some s = e in cc)
  its_place (k ∷ ks) s e = elim (cases_Bool (nat_eq n k)) [
    | inl same ↦ ap (λ b. b || list_any (nat_eq n) ks) same
    | inr other ↦ ap (λ b. b || list_any (nat_eq n) ks) other ∙ its_place ks s (sym (cond-false (nat_eq n k) (Some (stale_entry c k).1) (lookup (nat_eq n) (map (stale_entry c) ks)) other) ∙ e)
  ]

  found : (ks : List ℕ) → list_any (nat_eq n) ks ≡ true → lookup (nat_eq n) (map (stale_entry c) ks) ≡ Some (stale_entry c n).1
  found [] e = absurd (let clash : false ≡ true = e in cc)
  found (k ∷ ks) e = elim (cases_Bool (nat_eq n k)) [
    | inl same ↦ cond-true (nat_eq n k) (Some (stale_entry c k).1) (lookup (nat_eq n) (map (stale_entry c) ks)) same ∙ ap (λ j. Some (stale_entry c j).1) (sym (eqb-true n k same))
    | inr other ↦ cond-false (nat_eq n k) (Some (stale_entry c k).1) (lookup (nat_eq n) (map (stale_entry c) ks)) other ∙ found ks (sym (ap (λ b. b || list_any (nat_eq n) ks) other) ∙ e)
  ]

-- what is known of a sector with nothing moved
known_is : (g : Geometry) (share : ℕ) (c : Claim) (ks : List ℕ) (n : ℕ) → known (begun_mapping g share c ks) n ≡ known_by (slot_of (begun_mapping g share c ks) n) None
unfolding known
known_is g share c ks n = refl

pending_is : (g : Geometry) (share : ℕ) (c : Claim) (ks : List ℕ) (n : ℕ) → pending (begun_mapping g share c ks) n ≡ pending_by (slot_of (begun_mapping g share c ks) n) None
unfolding pending
pending_is g share c ks n = refl

record IsCached (c : Claim) (ks : List ℕ) (n : ℕ) (row : Option ℕ) : Type 0 where
  pub among : list_any (nat_eq n) ks ≡ true
  pub row_is : row ≡ get_or c.sectors n None

known_row : (g : Geometry) (share : ℕ) (c : Claim) (ks : List ℕ) (n : ℕ) (row : Option ℕ) → known (begun_mapping g share c ks) n ≡ Some row → IsCached c ks n row
known_row g share c ks n row e = by (slot_of (begun_mapping g share c ks) n) refl (sym (known_is g share c ks n) ∙ e)
  where
    by : (o : Option Slot) → slot_of (begun_mapping g share c ks) n ≡ o → known_by o None ≡ Some row → IsCached c ks n row
    by None at h = absurd (let clash : None ≡ Some row = h in cc)
    by (Some s) at h =
        let same : s.row ≡ row = cc in
        record { among = sym (reversed n ks) ∙ its_place c n (reverse ks) s at; row_is = sym same ∙ ap (λ (x : Slot). x.row) (its_slot c n (reverse ks) s at) }

pending_none : (g : Geometry) (share : ℕ) (c : Claim) (ks : List ℕ) (n : ℕ) → pending (begun_mapping g share c ks) n ≡ None → list_any (nat_eq n) ks ≡ false
pending_none g share c ks n e = elim (cases_Bool (list_any (nat_eq n) ks)) [
  | inl among ↦
      let slot : slot_of (begun_mapping g share c ks) n ≡ Some (stale_entry c n).1 = found c n (reverse ks) (reversed n ks ∙ among) in
      let waits : pending (begun_mapping g share c ks) n ≡ Some (get_or c.sectors n None) = pending_is g share c ks n ∙ ap (λ o. pending_by o None) slot in
      absurd (let clash : None ≡ Some (get_or c.sectors n None) = sym e ∙ waits in cc)
  | inr apart ↦ apart
]

-- ---- the facts

module _ (g : Geometry) (share capacity : ℕ) (image : Image) (c : Claim) (whole : IsImage g image) (agrees : Agrees g capacity image c) where
  filled : AreFilled image (begun g c.blocks)
  filled = record {
    sound = λ b p lt good below.
        let here = given g capacity image c b agrees lt in
        let fine : is_good_block g image b ≡ true = sym (good_same g image c b here) ∙ good in
        let at : pointer_at (begun g c.blocks) b ≡ pointer g image b = pointer_same g image c b here in
        let most = pointer_most g image b in
        sound_below g image b p whole fine lt (omega arith) (let many = pointer_good g image b fine in omega arith);
    erased = λ b p lt good past in_block.
        let here = given g capacity image c b agrees lt in
        let fine : is_good_block g image b ≡ true = sym (good_same g image c b here) ∙ good in
        let at : pointer_at (begun g c.blocks) b ≡ pointer g image b = pointer_same g image c b here in
        erased_from g image b p whole fine lt in_block (let many = pointer_good g image b fine in omega arith);
  }

  live_exact : IsLiveExact (begun g c.blocks) (marks image)
  live_exact b lt = live_same g image c b (given g capacity image c b agrees lt)

  worn : AreWorn image (begun g c.blocks)
  worn = record {
    most = λ b. begun_wear_most g c.blocks b;
    told = λ row x at. told_begun g capacity image c row x whole agrees at;
  }

  tables : (u : ℕ) → u < table_pages g → HasFormedTablePage g image u
  tables u lt =
      let newest_table = agrees.tables.formatted u lt in
      record {
        row = newest_table.row;
        newest_is = newest_table.newest_is;
        formed = subst (IsWellFormed (entries g) g.blocks u) (table_is image u newest_table.row newest_table.newest_is) (agrees.tables.formed u lt);
      }

  directory : (key : Key) (at : ℕ) → IsKeyOf g key → directory_place g key ≡ Some at → slice_get c.directory at ≡ Some (newest_row image key)
  directory (Sector n) at within e = absurd (let clash : None ≡ Some at = e in cc)
  directory (Translation t) at within e = let same : t ≡ at = cc in ap (slice_get c.directory) (sym same) ∙ agrees.directory.translation t within
  directory (Table u) at within e = let same : translation_pages g + u ≡ at = cc in ap (slice_get c.directory) (sym same) ∙ agrees.directory.table u within

  knows : (n : ℕ) (row : Option ℕ) → known (begun_mapping g share c (stale_sectors g image)) n ≡ Some row → row ≡ newest_row image (Sector n)
  knows n row e =
      let cached = known_row g share c (stale_sectors g image) n row e in
      let lt = stale_within g image n cached.among in
      cached.row_is ∙ get_or_from_slice_get c.sectors n (newest (marks image) (Sector n)) None (agrees.sectors.newest_is n lt)

  entry : (n : ℕ) → n < g.sectors → pending (begun_mapping g share c (stale_sectors g image)) n ≡ None → entry_of g image n ≡ newest_row image (Sector n)
  entry n lt e = elim (cases_Bool (is_stale g image n)) [
    | inl old ↦ absurd (let clash : false ≡ true = sym (pending_none g share c (stale_sectors g image) n e) ∙ stale_has g image n lt old in cc)
    | inr new ↦ fresh g image n new
  ]

  pub true_from_agreement : IsTrue None (begun_ram g share c (stale_sectors g image)) image
  true_from_agreement = record {
    whole = whole;
    one = record { distinct = agrees.sequences; in_range = agrees.numbers.in_range };
    below = agrees.next;
    filled = filled;
    live = live_exact;
    worn = worn;
    tables = tables;
    maps = record {
      directory_is = λ key at within other place. directory key at within place;
      known_is = λ n row other e. knows n row e;
      entry_is = λ n lt other e. entry n lt e;
    };
  }
