-- What the pages are that are looked at, one page more.
use Rattle.std.proofs.Common.{◌≡◌, ℕ, zero, suc, ◌+◌, ◌*◌, ◌≤◌, List, [], ◌∷◌, ◌++◌, refl, ap, ◌∙◌, arith, cond, count_by, Bool, slice_range}
use Rattle.std.specs.List.{range_with_len}
use Rattle.std.proofs.lemmas.List.Sums.{sum_by_push}
use Rattle.page_layout.specs.declared.look.PageLook.{PageLook}
use Rattle.page_layout.specs.declared.look.PageLook.TheVariants.{Sound, Erased, Unsound}
use Rattle.lab_dump.specs.declared.sample.Sample.{Sample}
use Rattle.lab_dump.specs.PageBytes.{page_from_bytes}
use Rattle.lab_dump.specs.Pages.{dump_page_at}
use Rattle.lab_dump.specs.Sample.{looked_count, looked_row, is_sound_look, is_unsound, look_at, looked_by, sample_of, sample_with_page}

-- ---- a page

pub page_is : (d s n row : ℕ) (all bytes : List ℕ) → n ≡ d + s → bytes ≡ slice_range all (row * n) (row * n + n) → page_from_bytes d bytes ≡ dump_page_at d s all row
unfolding dump_page_at
page_is d s n row all bytes size e = ap (page_from_bytes d) (e ∙ ap (λ k. slice_range all (row * k) (row * k + k)) size)

-- ---- one place more

abbrev pub one : Bool → ℕ
one b = cond b 1 0

pub range_last : (a n j : ℕ) → a + n ≡ j → range_with_len a (suc n) ≡ range_with_len a n ++ j ∷ []
range_last a zero j e = let same : a ≡ j = omega arith in ap (λ k. k ∷ []) same
range_last a (suc n) j e = ap (λ l. a ∷ l) (range_last (a + 1) n j (omega arith))

pub count_last : (test : ℕ → Bool) (n : ℕ) → count_by test (range_with_len 0 (n + 1)) ≡ count_by test (range_with_len 0 n) + one (test n)
count_last test n =
    let next : n + 1 ≡ suc n = omega arith in
    ap (λ k. count_by test (range_with_len 0 k)) next
    ∙ (ap (count_by test) (range_last 0 n n (omega arith)) ∙ sum_by_push (λ y. cond (test y) 1 0) (range_with_len 0 n) n)

looked_more : (test : PageLook → Bool) (d s rows : ℕ) (all : List ℕ) (place : ℕ) → looked_by test d s rows all (place + 1) ≡ looked_by test d s rows all place + one (test (look_at d s all (looked_row rows place)))
unfolding looked_by
looked_more test d s rows all place = count_last (λ k. test (look_at d s all (looked_row rows k))) place

-- the sample of the first places
abbrev pub sample_below : ℕ → ℕ → ℕ → List ℕ → ℕ → Sample
sample_below d s rows all places = record {
  looked = looked_count rows;
  sound = looked_by is_sound_look d s rows all places;
  unsound = looked_by is_unsound d s rows all places;
}

noted_is : (x : Sample) (look : PageLook) → sample_with_page x look ≡ record { looked = x.looked; sound = x.sound + one (is_sound_look look); unsound = x.unsound + one (is_unsound look) }
noted_is x (Sound r) = ap (λ k. record { looked = x.looked; sound = x.sound + 1; unsound = k }) (omega arith)
noted_is x Erased =
    let a : x.sound ≡ x.sound + 0 = omega arith in
    let b : x.unsound ≡ x.unsound + 0 = omega arith in
    ap (λ k. record { looked = x.looked; sound = k; unsound = x.unsound }) a ∙ ap (λ k. record { looked = x.looked; sound = x.sound + 0; unsound = k }) b
noted_is x Unsound = ap (λ k. record { looked = x.looked; sound = k; unsound = x.unsound + 1 }) (omega arith)

pub sample_more : (d s rows : ℕ) (all : List ℕ) (place : ℕ) (x new : Sample) (look : PageLook) → x ≡ sample_below d s rows all place → look ≡ look_at d s all (looked_row rows place) → new ≡ sample_with_page x look
    → new ≡ sample_below d s rows all (place + 1)
sample_more d s rows all place x new look old is e =
    let a = looked_more is_sound_look d s rows all place in
    let b = looked_more is_unsound d s rows all place in
    e ∙ (ap (λ k. sample_with_page k look) old ∙ (ap (sample_with_page (sample_below d s rows all place)) is ∙ (noted_is (sample_below d s rows all place) (look_at d s all (looked_row rows place)) ∙ rw (a, b) refl)))

pub sample_none : (d s rows : ℕ) (all : List ℕ) (x : Sample) → x ≡ record { looked = looked_count rows; sound = 0; unsound = 0 } → x ≡ sample_below d s rows all 0
unfolding looked_by
sample_none d s rows all x e = e

pub sample_all : (d s rows places : ℕ) (all : List ℕ) (x : Sample) → places ≡ looked_count rows → x ≡ sample_below d s rows all places → x ≡ sample_of d s rows all
unfolding sample_of
sample_all d s rows places all x size e = e ∙ ap (sample_below d s rows all) size

pub noted_few : (x : Sample) (look : PageLook) → (sample_with_page x look).sound + (sample_with_page x look).unsound ≤ x.sound + x.unsound + 1
noted_few x (Sound r) = omega arith
noted_few x Erased = omega arith
noted_few x Unsound = omega arith

pub noted_looked : (x : Sample) (look : PageLook) → (sample_with_page x look).looked ≡ x.looked
noted_looked x (Sound r) = refl
noted_looked x Erased = refl
noted_looked x Unsound = refl

pub looked_few : (place looked count : ℕ) (s : Sample) → s.sound + s.unsound ≤ place → place ≤ looked → looked ≡ count → s.looked ≡ count → s.sound + s.unsound ≤ s.looked
looked_few place looked count s few below is same = omega arith
