-- Counting the newest pages of each block in one pass over the keys.
use Rattle.std.proofs.Common.{◌≡◌, ◌≢◌, ℕ, zero, suc, ◌+◌, ◌-◌, ◌/◌, ◌<◌, ◌≤◌, Bool, true, false, eqb, List, [], ◌∷◌, ◌++◌, length, get_or, set}
use Rattle.std.proofs.Common.{take, map, length-set, Option, Some, None, refl, sym, ap, subst, ◌∙◌, arith, eq-eqb, inl, inr, get_or-set_same}
use Rattle.std.proofs.Common.{get_or-set_other}
use Rattle.std.specs.Prelude.{count_by}
use Rattle.std.specs.List.{range_with_len}
use Rattle.std.proofs.lemmas.Bool.{cases_order, cases_lt, eqb-true}
use Rattle.std.proofs.lemmas.List.{get_or_append_left}
use Rattle.std.proofs.lemmas.List.FromFn.{get_or-map-range_with_len, length-map-range_with_len}
use Rattle.page_layout.specs.declared.geometry.Geometry.{Geometry}
use Rattle.page_layout.specs.declared.record.Key.{Key}
use Rattle.page_layout.specs.declared.record.Key.TheVariants.{Sector, Translation, Table}
use Rattle.image_check.specs.declared.newest.Newest.{Newest}
use Rattle.page_layout.specs.Geometry.{row_count, translation_pages, table_pages, key_count}
use Rattle.image_check.specs.Newest.{place_in}
use Rattle.page_layout.specs.Page.{Image}
use Rattle.page_layout.specs.Newest.{newest}
use Rattle.page_layout.specs.Live.{IsKeyOf, keys, is_in_block, live}
use Rattle.page_layout.specs.Array.{marks}
use Rattle.page_layout.proofs.CountLemmas.{bit, count_by-cons}
use Rattle.page_layout.proofs.LiveLemmas.{length-keys}
use Rattle.image_check.specs.Survey.{index_of, HasNewest, AreLiveCounts}
use Rattle.image_check.specs.Surveyed.{SurveysKeys}
use Rattle.image_check.proofs.PartLemmas.{surveyed_row}

-- ---- the keys in order

-- the key at a place of the list is the key with that index
record IsKeyAt (g : Geometry) (key : Key) (i : ℕ) : Type 0 where
  of : IsKeyOf g key
  index : i ≡ index_of g key

right : {X : Type 0} (xs ys : List X) (i j : ℕ) (d : X) → i ≡ length xs + j → get_or (xs ++ ys) i d ≡ get_or ys j d
right [] ys i j d e = let same : i ≡ j = omega arith in ap (λ k. get_or ys k d) same
right (x ∷ xs) ys zero j d e = absurd (omega arith)
right (x ∷ xs) ys (suc i) j d e = right xs ys i j d (omega arith)

key_at : (g : Geometry) (i : ℕ) (d : Key) → i < key_count g → IsKeyAt g (get_or (keys g) i d) i
unfolding keys
key_at g i d within =
    let l = g.sectors in
    let t = translation_pages g in
    let u = table_pages g in
    let first = map Sector (range_with_len 0 l) in
    let second = map Translation (range_with_len 0 t) in
    let third = map Table (range_with_len 0 u) in
    let n1 : length first ≡ l = length-map-range_with_len Sector 0 l in
    let n2 : length second ≡ t = length-map-range_with_len Translation 0 t in
    elim (cases_lt i l) [
      | inl in_first ↦
          let e : get_or (first ++ (second ++ third)) i d ≡ Sector i = get_or_append_left first (second ++ third) d i (omega arith) ∙ get_or-map-range_with_len Sector 0 l i i d in_first (omega arith) in
          subst (λ k. IsKeyAt g k i) (sym e) (record { of = in_first; index = refl })
      | inr past ↦
          elim (cases_lt (i - l) t) [
            | inl in_second ↦
                let e : get_or (first ++ (second ++ third)) i d ≡ Translation (i - l) = right first (second ++ third) i (i - l) d (omega arith) ∙
                (get_or_append_left second third d (i - l) (omega arith)
                ∙ get_or-map-range_with_len Translation 0 t (i - l) (i - l) d in_second (omega arith)) in
                subst (λ k. IsKeyAt g k i) (sym e) (record { of = in_second; index = omega arith })
            | inr past_second ↦
                let in_third : i - l - t < u = omega arith in
                let e : get_or (first ++ (second ++ third)) i d ≡ Table (i - l - t) = right first (second ++ third) i (i - l) d (omega arith) ∙
                (right second third (i - l) (i - l - t) d (omega arith)
                ∙ get_or-map-range_with_len Table 0 u (i - l - t) (i - l - t) d in_third (omega arith)) in
                subst (λ k. IsKeyAt g k i) (sym e) (record { of = in_third; index = omega arith })
          ]
    ]

count_same : {X Y : Type 0} (p : X → Bool) (q : Y → Bool) (xs : List X) (ys : List Y) → length xs ≡ length ys → ((i : ℕ) (d : X) (e : Y) → i < length xs → p (get_or xs i d) ≡ q (get_or ys i e)) → count_by p xs ≡ count_by q ys
count_same p q [] [] n h = refl
count_same p q [] (y ∷ ys) n h = absurd (omega arith)
count_same p q (x ∷ xs) [] n h = absurd (omega arith)
count_same p q (x ∷ xs) (y ∷ ys) n h =
    let rest = count_same p q xs ys (omega arith) (λ i d e k. h (suc i) d e (omega arith)) in
    let first : p x ≡ q y = h zero x y (omega arith) in
    count_by-cons p x xs ∙ (rw (first, rest) (sym (count_by-cons q y ys)))

-- the survey's count of a block is the live count
pub live_counted : (g : Geometry) (image : Image) (items : List Newest) (b : ℕ) → length image ≡ row_count g → HasNewest g (marks image) (row_count g) items → count_by (λ latest. is_in_block g.pages b (place_in latest)) items ≡ live g (marks image) b
unfolding live
live_counted g image items b whole h =
    count_same (λ (latest : Newest). is_in_block g.pages b (place_in latest)) (λ (key : Key). is_in_block g.pages b (newest (marks image) key)) items (keys g) (h.size ∙ sym (length-keys g))
    (λ i d e k. let at = key_at g i e (omega (arith, h.size)) in ap (λ row. is_in_block g.pages b row) (surveyed_row g image items i (get_or (keys g) i e) d whole h at.of at.index))

-- ---- the loop

take_more : {X : Type 0} (p : X → Bool) (xs : List X) (i : ℕ) (d : X) → i < length xs → count_by p (take (suc i) xs) ≡ count_by p (take i xs) + bit (p (get_or xs i d))
take_more p [] i d l = absurd (omega arith)
take_more p (x ∷ xs) zero d l = count_by-cons p x [] ∙ omega arith
take_more p (x ∷ xs) (suc i) d l =
    let rest = take_more p xs i d (omega arith) in
    count_by-cons p x (take (suc i) xs) ∙ (ap (λ k. bit (p x) + k) rest ∙ (omega (arith, count_by-cons p x (take i xs))))

-- the first i keys are counted
pub record IsCounted (pages : ℕ) (newest : List Newest) (i : ℕ) (counts : List ℕ) : Type 0 where
  pub counted : (b : ℕ) → b < length counts → get_or counts b 0 ≡ count_by (λ latest. is_in_block pages b (place_in latest)) (take i newest)
  pub bounded : (b : ℕ) → get_or counts b 0 ≤ i

pub counted_start : (pages : ℕ) (newest : List Newest) (counts : List ℕ) → ((b : ℕ) → get_or counts b 0 ≡ 0) → IsCounted pages newest 0 counts
counted_start pages newest counts empty = record { counted = λ b k. empty b; bounded = λ b. let z = empty b in omega arith }

-- the next key adds nothing to the block
stays : (pages : ℕ) (newest : List Newest) (i b : ℕ) (l : Newest) (row : Option ℕ) → i < length newest → l ≡ get_or newest i l → row ≡ place_in l
    → is_in_block pages b row ≡ false
    → count_by (λ latest. is_in_block pages b (place_in latest)) (take (i + 1) newest) ≡ count_by (λ latest. is_in_block pages b (place_in latest))
    (take i newest)
stays pages newest i b l row within at is out =
    let p : Newest → Bool = λ latest. is_in_block pages b (place_in latest) in
    let none : p (get_or newest i l) ≡ false = ap p (sym at) ∙ (ap (is_in_block pages b) (sym is) ∙ out) in
    let one : i + 1 ≡ suc i = omega arith in
    let more = take_more p newest i l within in
    rw one (more ∙ rw none (omega arith))

adds : (pages : ℕ) (newest : List Newest) (i b : ℕ) (l : Newest) (row : Option ℕ) → i < length newest → l ≡ get_or newest i l → row ≡ place_in l
    → is_in_block pages b row ≡ true
    → count_by (λ latest. is_in_block pages b (place_in latest)) (take (i + 1) newest) ≡ count_by (λ latest. is_in_block pages b (place_in latest))
    (take i newest) + 1
adds pages newest i b l row within at is hit =
    let p : Newest → Bool = λ latest. is_in_block pages b (place_in latest) in
    let one_hit : p (get_or newest i l) ≡ true = ap p (sym at) ∙ (ap (is_in_block pages b) (sym is) ∙ hit) in
    let one : i + 1 ≡ suc i = omega arith in
    let more = take_more p newest i l within in
    rw one (more ∙ rw one_hit refl)

other_eqb : (m n : ℕ) → m ≢ n → eqb m n ≡ false
other_eqb m n ne = (elim (eqb m n) as (λ b. (b ≡ true → m ≡ n) → b ≡ false) [ true ↦ λ h. absurd (ne (h refl)) | false ↦ λ h. refl ]) (eqb-true m n)

pub counted_none : (pages : ℕ) (newest : List Newest) (i : ℕ) (counts : List ℕ) (l : Newest) → IsCounted pages newest i counts → i < length newest → l ≡ get_or newest i l → None ≡ place_in l → IsCounted pages newest (i + 1) counts
counted_none pages newest i counts l h within at is = record {
  counted = λ b k. h.counted b k ∙ sym (stays pages newest i b l None within at is refl);
  bounded = λ b. let x = h.bounded b in omega arith;
}

pub counted_past : (pages : ℕ) (newest : List Newest) (i row : ℕ) (counts : List ℕ) (l : Newest) → IsCounted pages newest i counts → i < length newest → l ≡ get_or newest i l → Some row ≡ place_in l → length counts ≤ row / pages → IsCounted pages newest (i + 1) counts
counted_past pages newest i row counts l h within at is past = record {
  counted = λ b k. h.counted b k ∙ sym (stays pages newest i b l (Some row) within at is (other_eqb (row / pages) b (λ e. absurd (omega arith))));
  bounded = λ b. let x = h.bounded b in omega arith;
}

elsewhere : (pages : ℕ) (newest : List Newest) (i row block b : ℕ) (counts : List ℕ) (l : Newest) (n : ℕ) → IsCounted pages newest i counts → i < length newest → l ≡ get_or newest i l → Some row ≡ place_in l → block ≡ row / pages → b ≢ block → b < length counts
    → get_or (set counts block n) b 0 ≡ count_by (λ latest. is_in_block pages b (place_in latest)) (take (i + 1) newest)
elsewhere pages newest i row block b counts l n h within at is place ne k =
    get_or-set_other counts block b n 0 ne ∙ (h.counted b k ∙ sym (stays pages newest i b l (Some row) within at is (other_eqb (row / pages) b (λ e. ne (sym e ∙ sym place)))))

pub counted_set : (pages : ℕ) (newest : List Newest) (i row block : ℕ) (counts : List ℕ) (l : Newest) (n : ℕ) → IsCounted pages newest i counts
    → i < length newest → l ≡ get_or newest i l → Some row ≡ place_in l → block ≡ row / pages → block < length counts
    → n ≡ get_or counts block 0 + 1 → IsCounted pages newest (i + 1) (set counts block n)
counted_set pages newest i row block counts l n h within at is place in_counts sum = record {
  counted = λ b k. elim (cases_order b block) [
    | inl same ↦
        let hit : is_in_block pages b (Some row) ≡ true = eq-eqb (row / pages) b (sym place ∙ sym same) in
        let in_b : b < length counts = omega arith in
        ap (λ j. get_or (set counts block n) j 0) same ∙ (get_or-set_same counts block n 0 in_counts ∙ (sum ∙ (ap (λ j. get_or counts j 0 + 1) (sym same) ∙ (ap (λ k. k + 1) (h.counted b in_b) ∙ sym (adds pages newest i b l (Some row) within at is hit)))))
    | inr (inl below) ↦ elsewhere pages newest i row block b counts l n h within at is place (λ e. absurd (omega arith)) (omega (arith, length-set counts block n))
    | inr (inr above) ↦ elsewhere pages newest i row block b counts l n h within at is place (λ e. absurd (omega arith)) (omega (arith, length-set counts block n))
  ];
  bounded = λ b. elim (cases_order b block) [
    | inl same ↦ let x = h.bounded block in let e : get_or (set counts block n) b 0 ≡ n = ap (λ j. get_or (set counts block n) j 0) same ∙ get_or-set_same counts block n 0 in_counts in omega arith
    | inr (inl below) ↦ let x = h.bounded b in let e : get_or (set counts block n) b 0 ≡ get_or counts b 0 = get_or-set_other counts block b n 0 (λ d. absurd (omega arith)) in omega arith
    | inr (inr above) ↦ let x = h.bounded b in let e : get_or (set counts block n) b 0 ≡ get_or counts b 0 = get_or-set_other counts block b n 0 (λ d. absurd (omega arith)) in omega arith
  ];
}

pub counts_are : (g : Geometry) (image : Image) (items : List Newest) (counts : List ℕ) → SurveysKeys g image items → length counts ≡ g.blocks
    → ((b : ℕ) → b < length counts → get_or counts b 0 ≡ count_by (λ latest. is_in_block g.pages b (place_in latest)) items)
    → AreLiveCounts g image counts
counts_are g image items counts keys size h = record { count = λ b l. h b (omega arith) ∙ live_counted g image items b keys.whole keys.noted }
