-- How many sectors are stale in what a loss of power leaves.
use Rattle.std.proofs.Common.{◌≡◌, ◌≢◌, inl, inr, ℕ, zero, suc, ◌+◌, ◌/◌, ◌%◌, ◌<◌, ◌≤◌, Bool, true, false, eqb, List, [], ◌∷◌, length, get_or, set, Option, Some, None}
use Rattle.std.proofs.Common.{refl, sym, ap, subst, ◌∙◌, arith}
use Rattle.std.specs.Prelude.{count_by, filter, not, sum_by}
use Rattle.std.specs.List.{range_with_len, Contains}
use Rattle.std.proofs.lemmas.Bool.{cases_lt, cases_Bool, eq-eqb, eqb-true}
use Rattle.std.proofs.lemmas.List.Sums.{length-filter, sum_by-cons}
use Rattle.page_layout.specs.declared.geometry.Geometry.{Geometry}
use Rattle.page_layout.specs.declared.record.Key.{Key}
use Rattle.page_layout.specs.declared.record.Key.TheVariants.{Sector, Translation}
use Rattle.page_layout.specs.Geometry.{entries}
use Rattle.page_layout.specs.Page.{Image}
use Rattle.page_layout.specs.Newest.{newest}
use Rattle.page_layout.specs.Array.{marks}
use Rattle.page_layout.proofs.ArrayLemmas.{body_page, body_same, mark-same, slice_get-set_other}
use Rattle.page_layout.proofs.CountLemmas.{bit, bit-le, count_by-cons, count_in_range, sum_of_counts}
use Rattle.page_layout.proofs.NewestLemmas.{newest-record}
use Rattle.translation_pages.specs.TranslationPage.{entry_at}
use Rattle.translation_pages.specs.Entry.{entry_in, entry_of}
use Rattle.image_check.specs.Stale.{same_row, is_stale, stale_sectors}
use Rattle.image_laws.specs.Power.{LosesPower, IsPageSince, KeepsEntries, StoredEntriesLaw, ProgramEntriesLaw, FoundStaleLaw}
use Rattle.image_laws.proofs.PowerLemmas.{both, no_page, none_lost, none_then, programmed, since, since_page, stays, which}

-- ---- counts

-- how often a number stands in a list
abbrev times : List ℕ → ℕ → ℕ
times xs k = count_by (λ x. eqb x k) xs

some_times : (xs : List ℕ) (k : ℕ) → Contains xs k → 0 < times xs k
some_times [] k h = absurd (let l = h.1 in omega arith)
some_times (x ∷ xs) k (zero, l, e) =
    let here : bit (eqb x k) ≡ 1 = ap bit (eq-eqb x k e) in
    omega (arith, here, count_by-cons (λ y. eqb y k) x xs)
some_times (x ∷ xs) k (suc i, l, e) = omega (arith, count_by-cons (λ y. eqb y k) x xs, some_times xs k (i, omega arith, e))

-- tests of numbers, where each that passes the one passes the other or stands in a list
counted : (p q : ℕ → Bool) (h : ℕ → ℕ) (a n : ℕ) → ((k : ℕ) → a ≤ k → k < a + n → bit (p k) ≤ bit (q k) + h k)
    → count_by p (range_with_len a n) ≤ count_by q (range_with_len a n) + sum_by h (range_with_len a n)
counted p q h a zero each = omega arith
counted p q h a (suc n) each =
    let here = each a (omega arith) (omega arith) in
    let rest = counted p q h (a + 1) n (λ k low high. each k (omega arith) (omega arith)) in
    let one = count_by-cons p a (range_with_len (a + 1) n) in
    let two = count_by-cons q a (range_with_len (a + 1) n) in
    let three = sum_by-cons h a (range_with_len (a + 1) n) in
    omega (arith, here, rest, one, two, three)

bit_most : (b c : Bool) → (b ≡ true → c ≡ true) → bit b ≤ bit c
bit_most true c to = (let one : bit c ≡ 1 = ap bit (to refl) in omega arith)
bit_most false c to = omega arith

few_more : (p q : ℕ → Bool) (xs : List ℕ) (n : ℕ) → ((k : ℕ) → k < n → (Contains xs k → ⊥) → p k ≡ true → q k ≡ true)
    → length (filter p (range_with_len 0 n)) ≤ length (filter q (range_with_len 0 n)) + length xs
few_more p q xs n to =
    let range : List ℕ = range_with_len 0 n in
    let each : (k : ℕ) → 0 ≤ k → k < 0 + n → bit (p k) ≤ bit (q k) + times xs k = λ k low high. elim (cases_lt 0 (times xs k)) [
      | inl some ↦ omega (arith, bit-le (p k))
      | inr none ↦
          let most = bit_most (p k) (q k) (to k (omega arith) (λ has. absurd (omega (arith, some_times xs k has)))) in
          omega arith
    ] in
    let most = counted p q (times xs) 0 n each in
    let all : sum_by (times xs) range ≤ length xs = sum_of_counts (λ k x. eqb x k) range xs (λ x. count_in_range x 0 n) in
    omega (arith, most, all, length-filter p range, length-filter q range)

-- ---- entries

-- a sector has its entry from then
entry_then : (g : Geometry) (stored left found : Image) (n : ℕ) → LosesPower g stored left found → KeepsEntries g stored left → n < g.sectors → is_stale g stored n ≡ false
    → ((q : ℕ) → ¬ IsPageSince stored left (Sector n) q) → entry_of g found n ≡ entry_of g stored n
unfolding entry_of
entry_then g stored left found n power keeps within fresh none =
    let key : Key = Translation (n / entries g) in
    let i : ℕ = n % entries g in
    elim (which (newest (marks found) key)) [
      | inl gone ↦ ap (entry_in found i) gone ∙ sym (ap (entry_in stored i) (none_then g stored left found key power gone))
      | inr some ↦
          let at = since g stored left found key some.0 power some.1 in
          ap (entry_in found i) some.1 ∙ (elim at.1 [
            | inl was ↦
                let its = newest-record (marks stored) key some.0 was in
                ap (λ body. entry_at body i) (body_same found stored some.0 (stays g stored left found some.0 its.0 power its.1)) ∙ sym (ap (entry_in stored i) was)
            | inr new ↦
                ap (λ body. entry_at body i) (body_same found left some.0 at.0)
                ∙ keeps.entry n some.0 within fresh none (since_page g stored left found key some.0 power some.1 new)
          ])
    ]

-- and its newest page
newest_kept : (g : Geometry) (stored left found : Image) (n : ℕ) → LosesPower g stored left found → ((q : ℕ) → ¬ IsPageSince stored left (Sector n) q)
    → newest (marks found) (Sector n) ≡ newest (marks stored) (Sector n)
newest_kept g stored left found n power none = elim (which (newest (marks found) (Sector n))) [
  | inl gone ↦ gone ∙ sym (none_then g stored left found (Sector n) power gone)
  | inr some ↦ elim ((since g stored left found (Sector n) some.0 power some.1).1) [
    | inl was ↦ some.1 ∙ sym was
    | inr new ↦ absurd (none some.0 (since_page g stored left found (Sector n) some.0 power some.1 new))
  ]
]

stale_then : (g : Geometry) (stored left found : Image) (n : ℕ) → LosesPower g stored left found → KeepsEntries g stored left → n < g.sectors → ((q : ℕ) → ¬ IsPageSince stored left (Sector n) q)
    → is_stale g found n ≡ true → is_stale g stored n ≡ true
unfolding is_stale
stale_then g stored left found n power keeps within none is = elim (cases_Bool (is_stale g stored n)) [
  | inl was ↦ was
  | inr fresh ↦
      let entry = entry_then g stored left found n power keeps within fresh none in
      let page = newest_kept g stored left found n power none in
      let same : is_stale g found n ≡ is_stale g stored n =
      ap (λ e. not (same_row e (newest (marks found) (Sector n)))) entry ∙ ap (λ o. not (same_row (entry_of g stored n) o)) page in
      sym same ∙ is
]

-- ---- the laws

pub stored_entries : StoredEntriesLaw
stored_entries g stored = record { entry = λ n row within fresh none page. absurd (no_page stored (Translation (n / entries g)) row page) }

-- a sector that isn't stale has the row of its newest page as its entry
same_true : (a b : Option ℕ) → same_row a b ≡ true → a ≡ b
same_true None None is = refl
same_true (Some a) (Some b) is = ap Some (eqb-true a b is)
same_true None (Some b) is = absurd (cc)
same_true (Some a) None is = absurd (cc)

not_false : (b : Bool) → not b ≡ false → b ≡ true
not_false true is = refl
not_false false is = absurd (cc)

fresh_entry : (g : Geometry) (image : Image) (n : ℕ) → is_stale g image n ≡ false → entry_of g image n ≡ newest (marks image) (Sector n)
unfolding is_stale
fresh_entry g image n fresh = same_true (entry_of g image n) (newest (marks image) (Sector n)) (not_false (same_row (entry_of g image n) (newest (marks image) (Sector n))) fresh)

pub program_entries : ProgramEntriesLaw
program_entries g stored left row p one grows keeps unsound has = record {
  entry = λ n q within fresh none page.
      let i : ℕ = n % entries g in
      let now : Image = set left row p in
      let power : LosesPower g stored left left = record { one = one; grows = grows; loses = none_lost stored left } in
      let without : (k : ℕ) → ¬ IsPageSince stored left (Sector n) k = λ k its. none k (later k its) in
      elim (programmed left row q p page.its page.has) [
        | inl new ↦
            ap (λ body. entry_at body i) (body_page now q p new.2)
            ∙ (elim (has page.its (n / entries g) new.1 page.of n within refl) [
              | inl top ↦ top ∙ (newest_kept g stored left left n power without ∙ sym (fresh_entry g stored n fresh))
              | inr old ↦ old ∙ entry_then g stored left left n power keeps within fresh without
            ])
        | inr as_was ↦
            let was : IsPageSince stored left (Translation (n / entries g)) q = record { none = page.none; its = page.its; has = sym (mark-same now left q as_was) ∙ page.has; of = page.of } in
            ap (λ body. entry_at body i) (body_same now left q as_was) ∙ keeps.entry n q within fresh without was
      ];
}
  where
    later : {key : Key} (k : ℕ) → IsPageSince stored left key k → IsPageSince stored (set left row p) key k
    later k its =
        let apart : k ≢ row = λ same. both _ its.its (subst (λ j. get_or (marks left) j None ≡ None) (sym same) unsound) its.has in
        record { none = its.none; its = its.its; has = mark-same (set left row p) left k (slice_get-set_other left row k p apart) ∙ its.has; of = its.of }

pub found_stale : FoundStaleLaw
unfolding stale_sectors
found_stale g stored left found programmed power keeps all = few_more (is_stale g found) (is_stale g stored) programmed g.sectors (λ n within without is.
    stale_then g stored left found n power keeps within (λ q page. without (all n q within page)) is)
