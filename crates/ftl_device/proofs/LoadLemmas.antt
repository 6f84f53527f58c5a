-- The stale sectors are cached one after another.
use Rattle.std.proofs.Common.{◌≡◌, ℕ, suc, ◌+◌, ◌-◌, ◌*◌, ◌<◌, ◌≤◌, true, false, List, [], ◌∷◌, ◌++◌, length, length-take, map, take, get_or}
use Rattle.std.proofs.Common.{reverse, Option, Some, None, refl, inl, inr, sym, ap, subst, ◌∙◌, arith, slice_get}
use Rattle.std.specs.Prelude.{nat_eq}
use Rattle.std.specs.List.{list_any}
use Rattle.std.specs.Map.{set_value}
use Rattle.std.proofs.Math.Nat.{mul-le-mul}
use Rattle.std.proofs.lemmas.Bool.{cases_Bool, eqb-true, eq-eqb, cond-true}
use Rattle.std.proofs.lemmas.List.{take_all, length-map, length-reverse, reverse-append, map-append, get_or-take, get_or_default}
use Rattle.std.proofs.Math.Seq.{take-suc}
use Rattle.std.proofs.lemmas.List.Folds.{Any-from_list_any}
use Rattle.std.proofs.lemmas.Option.{get_or_from_slice_get, slice_get_within}
use Rattle.page_layout.specs.declared.geometry.Geometry.{Geometry}
use Rattle.page_layout.specs.Geometry.{row_count}
use Rattle.page_layout.specs.Word.{IsRow, row_of_word, word_of_row}
use Rattle.page_layout.proofs.WordLemmas.{row_again}
use Rattle.certificate.specs.Claim.{Claim, sizes_of}
use Rattle.certificate.specs.Spelling.{Fits, IsRowOf, rows_of}
use Rattle.mapping_cache.specs.declared.slot.Slot.{Slot}
use Rattle.mapping_cache.specs.Mapping.{MappingState, IsEntryOf, CanLoad, slot_of, loaded, inserted, with_dirty, loaded_by}
use Rattle.image_check.specs.Rising.{IsRisingBelow}
use Rattle.ftl_device.specs.Begin.{stale_entry, begun_mapping}
use Rattle.ftl_device.proofs.BeginLemmas.{its_place, reversed}

-- ---- lists

pub take_next : {X : Type 0} (xs : List X) (i : ℕ) (x : X) → slice_get xs i ≡ Some x → take (i + 1) xs ≡ take i xs ++ x ∷ []
take_next xs i x at =
    let within : i < length xs = slice_get_within xs i x at in
    let next : i + 1 ≡ suc i = omega arith in
    ap (λ k. take k xs) next ∙ (take-suc xs i x within ∙ ap (λ y. take i xs ++ y ∷ []) (get_or_from_slice_get xs i x x at))

-- a list of rising numbers has none before its place
pub not_yet : (size : ℕ) (xs : List ℕ) (i n : ℕ) → IsRisingBelow size xs → i < length xs → n ≡ get_or xs i 0 → list_any (nat_eq n) (take i xs) ≡ false
not_yet size xs i n rising within is = elim (cases_Bool (list_any (nat_eq n) (take i xs))) [
  | inl among ↦
      let found = Any-from_list_any (nat_eq n) (take i xs) among in
      let low : found.0 < i = omega (arith, length-take i xs, found.2) in
      let value : get_or xs found.0 0 ≡ found.1 = get_or_default xs found.0 0 found.1 (omega arith) ∙ (sym (get_or-take i xs found.0 found.1 low) ∙ found.3) in
      let same : n ≡ found.1 = eqb-true n found.1 found.4 in
      let before : get_or xs found.0 0 < get_or xs i 0 = rising.rising found.0 i low within in
      absurd (omega arith)
  | inr apart ↦ apart
]

-- ---- one sector

abbrev mapping_with : Geometry → (share : ℕ) → Claim → List (ℕ × Slot) → MappingState
mapping_with g share c es = record { geometry = g; capacity = c.capacity; share = share; cached = es; moved = [] }

abbrev dirty_slot : Option ℕ → Slot
dirty_slot row = record { row = row; dirty = true }

abbrev clean_slot : Option ℕ → Slot
clean_slot row = record { row = row; dirty = false }

module _ (g : Geometry) (share : ℕ) (c : Claim) (ks : List ℕ) (n : ℕ) where
  not_cached : list_any (nat_eq n) ks ≡ false → slot_of (begun_mapping g share c ks) n ≡ None
  not_cached apart = at (slot_of (begun_mapping g share c ks) n) refl
    where
      at : (o : Option Slot) → slot_of (begun_mapping g share c ks) n ≡ o → o ≡ None
      at None e = refl
      at (Some s) e = absurd (let among : list_any (nat_eq n) ks ≡ true = sym (reversed n ks) ∙ its_place c n (reverse ks) s e in let clash : false ≡ true = sym apart ∙ among in cc)

  cached_size : length (begun_mapping g share c ks).cached ≡ length ks
  cached_size = length-map (reverse ks) (stale_entry c) ∙ length-reverse ks

  pub can_load : length ks < c.capacity → CanLoad (begun_mapping g share c ks) n
  can_load room none full = absurd (omega (arith, cached_size, full, room))

  made : (es : List (ℕ × Slot)) (row : Option ℕ) → with_dirty (mapping_with g share c ((n, clean_slot row) ∷ es)) n row ≡ mapping_with g share c ((n, dirty_slot row) ∷ es)
  made es row = ap (mapping_with g share c) (cond-true (nat_eq n n) ((n, dirty_slot row) ∷ es) ((n, clean_slot row) ∷ set_value (nat_eq n) es (dirty_slot row)) (eq-eqb n n refl))

  -- it is cached with its row, and then that is dirty
  pub one_loaded : (row : Option ℕ) → list_any (nat_eq n) ks ≡ false → length ks < c.capacity → row ≡ get_or c.sectors n None → with_dirty (loaded (begun_mapping g share c ks) n row) n row ≡ begun_mapping g share c (ks ++ n ∷ [])
  one_loaded row apart room is =
      let m = begun_mapping g share c ks in
      let fresh : slot_of m n ≡ None = not_cached apart in
      let first : loaded m n row ≡ inserted m n row = ap (λ o. loaded_by o m n row) fresh in
      let whole : take (c.capacity - 1) m.cached ≡ m.cached = take_all (c.capacity - 1) m.cached (omega (arith, cached_size)) in
      let turned : reverse (ks ++ n ∷ []) ≡ n ∷ reverse ks = reverse-append ks (n ∷ []) in
      ap (λ x. with_dirty x n row) first
      ∙ (made (take (c.capacity - 1) m.cached) row
      ∙ (ap (λ es. mapping_with g share c ((n, dirty_slot row) ∷ es)) whole
      ∙ (ap (λ r. mapping_with g share c ((n, dirty_slot r) ∷ map (stale_entry c) (reverse ks))) is
      ∙ ap (λ xs. mapping_with g share c (map (stale_entry c) xs)) (sym turned))))

-- ---- what the certificate gives

pub entry_of_row : (g : Geometry) (c : Claim) (n : ℕ) (o : Option ℕ) → c.sizes ≡ sizes_of g → n < g.sectors → IsRowOf (rows_of c.sizes) o → IsEntryOf g n o
entry_of_row g c n None same within h = record { sector = within; row_in = λ r e. absurd (let clash : None ≡ Some r = e in cc) }
entry_of_row g c n (Some row) same within h =
    let rows : rows_of c.sizes ≡ row_count g = ap rows_of same in
    record { sector = within; row_in = λ r e. let is : row ≡ r = cc in omega (arith, h) }

is_row : (rows : ℕ) (o : Option ℕ) → rows < 0xffff_ffff → IsRowOf rows o → IsRow o
is_row rows None few h r e = absurd (let clash : None ≡ Some r = e in cc)
is_row rows (Some row) few h r e = let is : row ≡ r = cc in omega (arith, h)

few_rows : (c : Claim) → Fits c → rows_of c.sizes < 0xffff_ffff
few_rows c fits =
    let most : c.sizes.blocks * c.sizes.pages ≤ 4096 * 256 = mul-le-mul fits.limits.block_count.most fits.limits.page_count.most in
    omega (arith, most)

pub word_again : (c : Claim) (o : Option ℕ) → Fits c → IsRowOf (rows_of c.sizes) o → row_of_word (word_of_row o) ≡ o
word_again c o fits h = row_again o (is_row (rows_of c.sizes) o (few_rows c fits) h)

pub one_word : (words : List ℕ) (rows : List (Option ℕ)) (i word : ℕ) (o : Option ℕ) → map row_of_word words ≡ take i rows → slice_get rows i ≡ Some o → row_of_word word ≡ o → map row_of_word (words ++ word ∷ []) ≡ take (i + 1) rows
one_word words rows i word o so_far at is =
    map-append row_of_word words (word ∷ [])
    ∙ (ap (λ xs. xs ++ row_of_word word ∷ []) so_far
    ∙ (ap (λ y. take i rows ++ y ∷ []) is ∙ sym (take_next rows i o at)))

-- one sector more
pub load_next : (g : Geometry) (share : ℕ) (c : Claim) (stale : List ℕ) (i n : ℕ) (row : Option ℕ) (old loaded_now new : MappingState)
    → IsRisingBelow c.sizes.sectors stale → length stale ≤ c.capacity → slice_get stale i ≡ Some n → slice_get c.sectors n ≡ Some row
    → old ≡ begun_mapping g share c (take i stale) → loaded_now ≡ loaded old n row → new ≡ with_dirty loaded_now n row
    → new ≡ begun_mapping g share c (take (i + 1) stale)
load_next g share c stale i n row old loaded_now new rising few at row_at so_far loads sets =
    let within : i < length stale = slice_get_within stale i n at in
    let its : n ≡ get_or stale i 0 = sym (get_or_from_slice_get stale i n 0 at) in
    let apart : list_any (nat_eq n) (take i stale) ≡ false = not_yet c.sizes.sectors stale i n rising within its in
    let room : length (take i stale) < c.capacity = omega (arith, length-take i stale) in
    let value : row ≡ get_or c.sectors n None = sym (get_or_from_slice_get c.sectors n row None row_at) in
    sets ∙ (ap (λ m. with_dirty m n row) (loads ∙ ap (λ m. loaded m n row) so_far)
    ∙ (one_loaded g share c (take i stale) n row apart room value
    ∙ ap (begun_mapping g share c) (sym (take_next stale i n at))))

pub next_can_load : (g : Geometry) (share : ℕ) (c : Claim) (stale : List ℕ) (i n : ℕ) (m : MappingState) → length stale ≤ c.capacity → i < length stale → m ≡ begun_mapping g share c (take i stale) → CanLoad m n
next_can_load g share c stale i n m few within is =
    subst (λ x. CanLoad x n) (sym is) (can_load g share c (take i stale) n (omega (arith, length-take i stale)))
