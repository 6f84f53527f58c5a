-- Finding the stale sectors, one translation page after another.
use Rattle.std.proofs.Common.{◌≡◌, ◌≢◌, ℕ, zero, suc, ◌+◌, ◌-◌, ◌*◌, ◌/◌, ◌%◌, ◌<◌, ◌≤◌, Bool, true, false, cond, eqb, min, List, [], ◌∷◌, ◌++◌}
use Rattle.std.proofs.Common.{length, length-append, get_or, Option, Some, None, refl, sym, ap, subst, ◌∙◌, inl, inr, arith}
use Rattle.std.specs.Prelude.{filter, not, replicate, slice_index}
use Rattle.std.specs.Int.{w32, from_le_bytes}
use Rattle.std.proofs.lemmas.List.{get_or-replicate}
use Rattle.std.proofs.Math.Nat.{mul-le-mul_right, mod-eq-sub-div-mul}
use Rattle.std.proofs.lemmas.Nat.{div-mul-add}
use Rattle.page_layout.specs.Word.{row_of_word}
use Rattle.std.specs.List.{range_with_len}
use Rattle.std.proofs.lemmas.Bool.{cases_lt, eqb-true, eq-eqb}
use Rattle.std.proofs.lemmas.List.{get_or_append_left, append_assoc}
use Rattle.std.proofs.lemmas.Grind.{div_ceil_times}
use Rattle.page_layout.specs.declared.geometry.Geometry.{Geometry}
use Rattle.page_layout.specs.declared.record.Key.TheVariants.{Sector, Translation}
use Rattle.image_check.specs.declared.newest.Newest.{Newest}
use Rattle.page_layout.specs.Geometry.{entries, translation_pages}
use Rattle.image_check.specs.Newest.{place_in, no_newest}
use Rattle.page_layout.specs.Page.{Image}
use Rattle.page_layout.specs.Flash.{Flash}
use Rattle.page_layout.specs.Newest.{newest}
use Rattle.page_layout.specs.Array.{marks}
use Rattle.translation_pages.specs.TranslationPage.{entry_at}
use Rattle.translation_pages.specs.Entry.{entry_in, entry_of}
use Rattle.image_check.specs.Stale.{same_row, is_stale, stale_sectors}
use Rattle.image_check.specs.Surveyed.{SurveysKeys}
use Rattle.image_check.specs.Rising.{IsRisingBelow}
use Rattle.image_check.proofs.PartLemmas.{surveyed_row}

-- ---- lists

append_none : {X : Type 0} (xs : List X) → xs ++ [] ≡ xs
append_none [] = refl
append_none (x ∷ xs) = ap (λ ys. x ∷ ys) (append_none xs)

range_more : (a n : ℕ) → range_with_len a (n + 1) ≡ range_with_len a n ++ (a + n) ∷ []
range_more a zero = ap (λ k. k ∷ []) (omega arith)
range_more a (suc n) =
    let e : suc n + 1 ≡ suc (n + 1) = omega arith in
    let next : a + 1 + n ≡ a + suc n = omega arith in
    ap (range_with_len a) e ∙ ap (λ xs. a ∷ xs) (range_more (a + 1) n ∙ ap (λ k. range_with_len (a + 1) n ++ k ∷ []) next)

range_join : (a m n : ℕ) → range_with_len a m ++ range_with_len (a + m) n ≡ range_with_len a (m + n)
range_join a zero n = let e : a + 0 ≡ a = omega arith in let f : 0 + n ≡ n = omega arith in ap (λ k. range_with_len k n) e ∙ ap (range_with_len a) (sym f)
range_join a (suc m) n =
    let e : a + suc m ≡ a + 1 + m = omega arith in
    let f : suc m + n ≡ suc (m + n) = omega arith in
    ap (λ k. a ∷ (range_with_len (a + 1) m ++ range_with_len k n)) e ∙ (ap (λ xs. a ∷ xs) (range_join (a + 1) m n) ∙ ap (range_with_len a) (sym f))

filter-append : {X : Type 0} (p : X → Bool) (xs ys : List X) → filter p (xs ++ ys) ≡ filter p xs ++ filter p ys
filter-append p [] ys = refl
filter-append p (x ∷ xs) ys = (elim (p x) as (λ b. cond b (x ∷ filter p (xs ++ ys)) (filter p (xs ++ ys)) ≡ cond b (x ∷ filter p xs) (filter p xs) ++ filter p ys) [
  | true ↦ ap (λ zs. x ∷ zs) (filter-append p xs ys)
  | false ↦ filter-append p xs ys
])

filter_one : (p : ℕ → Bool) (n : ℕ) (b : Bool) → p n ≡ b → filter p (n ∷ []) ≡ cond b (n ∷ []) []
filter_one p n b e = ap (λ t. cond t (n ∷ []) []) e

-- filters by tests that agree on the range
pub filter_same : (p q : ℕ → Bool) (a n : ℕ) → ((k : ℕ) → a ≤ k → k < a + n → p k ≡ q k) → filter p (range_with_len a n) ≡ filter q (range_with_len a n)
filter_same p q a zero h = refl
filter_same p q a (suc n) h =
    let here = h a (omega arith) (omega arith) in
    let rest = filter_same p q (a + 1) n (λ k l m. h k (omega arith) (omega arith)) in
    ap (λ b. cond b (a ∷ filter p (range_with_len (a + 1) n)) (filter p (range_with_len (a + 1) n))) here ∙ ap (λ zs. cond (q a) (a ∷ zs) zs) rest

-- ---- one sector more

-- it is stale
pub noted_more : (p : ℕ → Bool) (first n : ℕ) (old now new : List ℕ) → first ≤ n → now ≡ old ++ filter p (range_with_len first (n - first)) → new ≡ now ++ n ∷ [] → p n ≡ true → new ≡ old ++ filter p (range_with_len first (n + 1 - first))
noted_more p first n old now new le h is test =
    let size : n + 1 - first ≡ n - first + 1 = omega arith in
    let at : first + (n - first) ≡ n = omega arith in
    let grown : range_with_len first (n + 1 - first) ≡ range_with_len first (n - first) ++ n ∷ [] = ap (range_with_len first) size ∙ (range_more first (n - first) ∙ ap (λ k. range_with_len first (n - first) ++ k ∷ []) at) in
    let split : filter p (range_with_len first (n + 1 - first)) ≡ filter p (range_with_len first (n - first)) ++ n ∷ [] = ap (filter p) grown ∙
    (filter-append p (range_with_len first (n - first)) (n ∷ [])
    ∙ ap (λ zs. filter p (range_with_len first (n - first)) ++ zs) (filter_one p n true test)) in
    is ∙ (ap (λ zs. zs ++ n ∷ []) h ∙ (append_assoc old (filter p (range_with_len first (n - first))) (n ∷ []) ∙ ap (λ zs. old ++ zs) (sym split)))

-- it isn't
pub noted_same : (p : ℕ → Bool) (first n : ℕ) (old now : List ℕ) → first ≤ n → now ≡ old ++ filter p (range_with_len first (n - first)) → p n ≡ false → now ≡ old ++ filter p (range_with_len first (n + 1 - first))
noted_same p first n old now le h test =
    let size : n + 1 - first ≡ n - first + 1 = omega arith in
    let at : first + (n - first) ≡ n = omega arith in
    let grown : range_with_len first (n + 1 - first) ≡ range_with_len first (n - first) ++ n ∷ [] = ap (range_with_len first) size ∙ (range_more first (n - first) ∙ ap (λ k. range_with_len first (n - first) ++ k ∷ []) at) in
    let split : filter p (range_with_len first (n + 1 - first)) ≡ filter p (range_with_len first (n - first)) = ap (filter p) grown ∙
    (filter-append p (range_with_len first (n - first)) (n ∷ [])
    ∙ (ap (λ zs. filter p (range_with_len first (n - first)) ++ zs) (filter_one p n false test)
    ∙ append_none (filter p (range_with_len first (n - first))))) in
    h ∙ ap (λ zs. old ++ zs) (sym split)

pub none_noted : (p : ℕ → Bool) (first : ℕ) (old : List ℕ) → old ≡ old ++ filter p (range_with_len first (first - first))
none_noted p first old = let e : first - first ≡ 0 = omega arith in sym (ap (λ k. old ++ filter p (range_with_len first k)) e ∙ append_none old)

pub rising_more : (n : ℕ) (xs new : List ℕ) → new ≡ xs ++ n ∷ [] → IsRisingBelow n xs → IsRisingBelow (n + 1) new
rising_more n xs new is h = subst (λ ys. IsRisingBelow (n + 1) ys) (sym is) (record {
  below = λ i l. elim (cases_lt i (length xs)) [
    | inl low ↦ let e = get_or_append_left xs (n ∷ []) 0 i low in let b = h.below i low in omega arith
    | inr last ↦ let e = last_is xs n i (omega (arith, length-append xs (n ∷ []))) in omega arith
  ];
  rising = λ i j lt l. elim (cases_lt j (length xs)) [
    | inl low ↦ let e = get_or_append_left xs (n ∷ []) 0 i (omega arith) in let f = get_or_append_left xs (n ∷ []) 0 j low in let b = h.rising i j lt low in omega arith
    | inr last ↦ let long = length-append xs (n ∷ []) in let e = get_or_append_left xs (n ∷ []) 0 i (omega arith) in let f = last_is xs n j (omega arith) in let b = h.below i (omega arith) in omega arith
  ];
})
  where
    last_is : (xs : List ℕ) (n i : ℕ) → i ≡ length xs → get_or (xs ++ n ∷ []) i 0 ≡ n
    last_is [] n i e = ap (λ k. get_or (n ∷ []) k 0) e
    last_is (x ∷ xs) n zero e = absurd (omega arith)
    last_is (x ∷ xs) n (suc i) e = last_is xs n i (omega arith)

pub rising_same : (n : ℕ) (xs : List ℕ) → IsRisingBelow n xs → IsRisingBelow (n + 1) xs
rising_same n xs h = record { below = λ i l. let b = h.below i l in omega arith; rising = h.rising }

pub rising_none : (xs : List ℕ) → xs ≡ [] → IsRisingBelow 0 xs
rising_none xs e = subst (λ ys. IsRisingBelow 0 ys) (sym e) (record { below = λ i l. absurd (omega arith); rising = λ i j lt l. absurd (omega arith) })

pub rising_up : (m n : ℕ) (xs : List ℕ) → m ≤ n → IsRisingBelow m xs → IsRisingBelow n xs
rising_up m n xs le h = record { below = λ i l. let b = h.below i l in omega arith; rising = h.rising }

-- ---- rows

pub row_same : (a b : Option ℕ) → a ≡ b → same_row a b ≡ true
row_same None b e = subst (λ o. same_row None o ≡ true) e refl
row_same (Some a) b e = subst (λ o. same_row (Some a) o ≡ true) e (eq-eqb a a refl)

pub row_other : (a b : Option ℕ) → a ≢ b → same_row a b ≡ false
row_other None None ne = absurd (ne refl)
row_other None (Some b) ne = refl
row_other (Some a) None ne = refl
row_other (Some a) (Some b) ne = (elim (eqb a b) as (λ t. (t ≡ true → a ≡ b) → t ≡ false) [ true ↦ λ h. absurd (ne (ap Some (h refl))) | false ↦ λ h. refl ]) (eqb-true a b)

-- ---- one translation page

-- of a page of FFh bytes every entry is none
pub blank_entry : (bytes : List ℕ) (n i : ℕ) → bytes ≡ replicate n 255 → 4 * i + 4 ≤ n → entry_at bytes i ≡ None
unfolding entry_at
blank_entry bytes n i e l =
    let a = byte (4 * i) (omega arith) in
    let b = byte (4 * i + 1) (omega arith) in
    let c = byte (4 * i + 2) (omega arith) in
    let d = byte (4 * i + 3) (omega arith) in
    four _ _ _ _ a b c d
  where
    byte : (j : ℕ) → j < n → slice_index bytes j ≡ 255
    byte j m = ap (λ xs. slice_index xs j) e ∙ get_or-replicate n j 255 0 m

    four : (a b c d : ℕ) → a ≡ 255 → b ≡ 255 → c ≡ 255 → d ≡ 255 → row_of_word (from_le_bytes w32 (a ∷ b ∷ c ∷ d ∷ [])) ≡ None
    four a b c d p q r s = rw (p, q, r, s) refl

-- where a sector's entry stands
pub record IsPlace (each t n : ℕ) : Type 0 where
  pub page : n / each ≡ t
  pub entry : n % each ≡ n - t * each

pub place_of_sector : (each t n : ℕ) → t * each ≤ n → n < t * each + each → IsPlace each t n
place_of_sector each t n low high =
    let parts : n ≡ t * each + (n - t * each) = omega arith in
    let small : n - t * each < each = omega arith in
    let page : n / each ≡ t = ap (λ k. k / each) parts ∙ div-mul-add t each (n - t * each) small in
    record { page = page; entry = mod-eq-sub-div-mul n each ∙ ap (λ k. n - k * each) page }

-- the entries of the newest translation page t
pub record AreEntries (g : Geometry) (image : Image) (t : ℕ) (body : List ℕ) : Type 0 where
  pub entry : (i : ℕ) → i < entries g → entry_at body i ≡ entry_in image i (newest (marks image) (Translation t))

pub entries_are : (g : Geometry) (image : Image) (items : List Newest) (t i : ℕ) (latest d : Newest) (body : List ℕ) → SurveysKeys g image items
    → t < translation_pages g → i ≡ g.sectors + t → latest ≡ get_or items i d
    → ((k : ℕ) → k < entries g → entry_at body k ≡ entry_in image k (place_in latest)) → AreEntries g image t body
entries_are g image items t i latest d body keys within at is h = record {
  entry = λ k l. h k l ∙ ap (entry_in image k) (ap place_in is ∙ surveyed_row g image items i (Translation t) d keys.whole keys.noted within at);
}

-- the same of a source that keeps its pages
pub entries_read : (g : Geometry) (first now : Flash) (items : List Newest) (t i : ℕ) (latest d : Newest) (body : List ℕ)
    → SurveysKeys g first.image items → t < translation_pages g → i ≡ g.sectors + t → latest ≡ get_or items i d → now ≡ first
    → ((k : ℕ) → k < entries g → entry_at body k ≡ entry_in now.image k (place_in latest)) → AreEntries g first.image t body
entries_read g first now items t i latest d body keys within at is same h =
    entries_are g first.image items t i latest d body keys within at is (λ k l. h k l ∙ ap (λ (f : Flash). entry_in f.image k (place_in latest)) same)

-- the test of a sector by its page is that by the image
stale_test : (g : Geometry) (image : Image) (items : List Newest) (t n : ℕ) (body : List ℕ) → SurveysKeys g image items → AreEntries g image t body → t * entries g ≤ n → n < t * entries g + entries g → n < g.sectors
    → not (same_row (entry_at body (n - t * entries g)) (place_in (get_or items n no_newest))) ≡ is_stale g image n
unfolding is_stale entry_of
stale_test g image items t n body keys h low high within =
    let place = place_of_sector (entries g) t n low high in
    let row : place_in (get_or items n no_newest) ≡ newest (marks image) (Sector n) = surveyed_row g image items n (Sector n) no_newest keys.whole keys.noted within refl in
    let entry : entry_at body (n - t * entries g) ≡ entry_in image (n % entries g) (newest (marks image) (Translation (n / entries g))) =
    h.entry (n - t * entries g) (omega arith) ∙ (ap (λ i. entry_in image i (newest (marks image) (Translation t))) (sym place.entry) ∙ ap (λ k. entry_in image (n % entries g) (newest (marks image) (Translation k))) (sym place.page)) in
    ap (λ e. not (same_row e (place_in (get_or items n no_newest)))) entry ∙ ap (λ r. not (same_row (entry_in image (n % entries g) (newest (marks image) (Translation (n / entries g)))) r)) row

-- ---- all of them

-- the stale sectors below n
pub record AreStaleBelow (g : Geometry) (image : Image) (n : ℕ) (stale : List ℕ) : Type 0 where
  pub is : stale ≡ filter (is_stale g image) (range_with_len 0 n)

pub stale_start : (g : Geometry) (image : Image) (stale : List ℕ) → stale ≡ [] → AreStaleBelow g image 0 stale
stale_start g image stale e = record { is = e }

pub stale_more : (g : Geometry) (image : Image) (items : List Newest) (t first end : ℕ) (body old new : List ℕ) → SurveysKeys g image items
    → AreEntries g image t body → first ≡ t * entries g → first ≤ end → end ≤ g.sectors → end ≤ first + entries g
    → AreStaleBelow g image first old
    → new ≡ old ++ filter (λ n. not (same_row (entry_at body (n - first)) (place_in (get_or items n no_newest)))) (range_with_len first (end - first)) → AreStaleBelow g image end new
stale_more g image items t first end body old new keys h at order within short before is =
    let p : ℕ → Bool = λ n. not (same_row (entry_at body (n - first)) (place_in (get_or items n no_newest))) in
    let same : filter p (range_with_len first (end - first)) ≡ filter (is_stale g image) (range_with_len first (end - first)) =
    filter_same p (is_stale g image) first (end - first) (λ k low high.
    ap (λ (f : ℕ). not (same_row (entry_at body (k - f)) (place_in (get_or items k no_newest)))) at ∙ stale_test g image items t k body keys h (omega arith) (omega arith) (omega arith)) in
    let start : first ≡ 0 + first = omega arith in
    let size : first + (end - first) ≡ end = omega arith in
    let joined : filter (is_stale g image) (range_with_len 0 first) ++ filter (is_stale g image) (range_with_len first (end - first)) ≡ filter (is_stale g image) (range_with_len 0 end) =
    sym (filter-append (is_stale g image) (range_with_len 0 first) (range_with_len first (end - first)))
    ∙ (ap (λ k. filter (is_stale g image) (range_with_len 0 first ++ range_with_len k (end - first))) start
    ∙ (ap (filter (is_stale g image)) (range_join 0 first (end - first)) ∙ ap (λ k. filter (is_stale g image) (range_with_len 0 k)) size)) in
    record { is = is ∙ (ap (λ zs. zs ++ filter p (range_with_len first (end - first))) before.is ∙ (ap (λ zs. filter (is_stale g image) (range_with_len 0 first) ++ zs) same ∙ joined)) }

-- where a translation page begins
pub first_below : (g : Geometry) (t : ℕ) → t < translation_pages g → t * entries g < g.sectors
first_below g t l =
    let some : 0 < entries g = let least = g.limits.data_size.least in omega arith in
    let over = (div_ceil_times g.sectors (entries g) some).1 in
    let room : suc t * entries g ≤ translation_pages g * entries g = mul-le-mul_right (entries g) l in
    let one : suc t * entries g ≡ t * entries g + entries g = omega arith in
    omega arith

-- the last one reaches the last sector
pub pages_reach : (g : Geometry) → g.sectors ≤ translation_pages g * entries g
pages_reach g = let some : 0 < entries g = let least = g.limits.data_size.least in omega arith in (div_ceil_times g.sectors (entries g) some).0

pub stale_all : (g : Geometry) (image : Image) (n : ℕ) (stale : List ℕ) → n ≡ g.sectors → AreStaleBelow g image n stale → stale ≡ stale_sectors g image
unfolding stale_sectors
stale_all g image n stale e h = h.is ∙ ap (λ k. filter (is_stale g image) (range_with_len 0 k)) e

-- ---- the loops

-- the test of the sector at hand
pub test_true : (entry row a b : Option ℕ) → entry ≢ row → entry ≡ a → row ≡ b → not (same_row a b) ≡ true
test_true entry row a b ne e f = ap not (ap (λ x. same_row x b) (sym e) ∙ (ap (same_row entry) (sym f) ∙ row_other entry row ne))

pub test_false : (entry row a b : Option ℕ) → entry ≡ row → entry ≡ a → row ≡ b → not (same_row a b) ≡ false
test_false entry row a b same e f = ap not (ap (λ x. same_row x b) (sym e) ∙ (ap (same_row entry) (sym f) ∙ row_same entry row same))

pub start_of : (g : Geometry) (t first sectors each : ℕ) → t < translation_pages g → sectors ≡ g.sectors → each ≡ entries g → first ≡ t * each → min (t * entries g) g.sectors ≡ first
start_of g t first sectors each l s e f = let low = first_below g t l in let same : first ≡ t * entries g = f ∙ ap (λ k. t * k) e in omega arith

pub end_of : (g : Geometry) (t first end sectors each : ℕ) → sectors ≡ g.sectors → each ≡ entries g → first ≡ t * each → end ≡ min sectors (first + each) → min ((t + 1) * entries g) g.sectors ≡ end
end_of g t first end sectors each s e f is =
    let same : first ≡ t * entries g = f ∙ ap (λ k. t * k) e in
    let one : (t + 1) * entries g ≡ t * entries g + entries g = next_times t (entries g) in
    omega arith
  where
    next_times : (t n : ℕ) → (t + 1) * n ≡ t * n + n
    next_times t n = let a : t + 1 ≡ suc t = omega arith in ap (λ k. k * n) a ∙ omega arith
