-- What is counted of the pages that are looked at.
use Rattle.std.proofs.Common.{◌≡◌, ℕ, zero, suc, ◌+◌, ◌*◌, ◌-◌, ◌/◌, ◌%◌, inl, inr, ◌<◌, ◌≤◌, Bool, true, false, cond, List, count_by, refl, sym, ap, ◌∙◌, subst, arith}
use mir.Val.{bool_byte}
use Rattle.std.proofs.lemmas.Nat.{div-add-mod', mul-add-lt}
use Rattle.std.specs.Prelude.{◌⊎◌, ◌&&◌, min, max, slice_index, Option, Some, None, option_map, is_some}
use Rattle.std.specs.List.{range_with_len}
use Rattle.std.proofs.lemmas.Bool.{cases_lt, lt-ltb, le-ltb, ltb-true, true≢false}
use Rattle.page_layout.specs.declared.geometry.Geometry.{Geometry}
use Rattle.page_layout.specs.Geometry.{row_count}
use Rattle.lab_dump.specs.Sample.{is_sound_look, look_at, looked_by, looked_count, looked_row, sample_of}
use Rattle.lab_dump.specs.declared.sample.Sample.{Sample}
use Rattle.lab_dump.proofs.SampleLemmas.{count_last, one}
use Rattle.page_layout.specs.declared.record.Record.{Record}
use Rattle.page_layout.specs.Page.{Page}
use Rattle.page_layout.specs.Sound.{has_form, has_seal, is_erased_page, kind_from, record_in, record_of, spelled}
use Rattle.page_layout.specs.PageLook.{look_by, look_of}
use Rattle.lab_dump.specs.PageBytes.{page_from_bytes}
use Rattle.lab_arrange.specs.declared.arrangement.Arrangement.{Arrangement}
use Rattle.lab_arrange.specs.Arranged.{arranged_piece, spare_at}
use Rattle.lab_shapes.proofs.OrderLemmas.{ordered_page}
use Rattle.lab_shapes.specs.Ordered.{ordered, in_turn_of, is_in_turn, look_in, sample_first, shows_sound}

-- ---- of more places more are counted

count_rises : (test : ℕ → Bool) (n k : ℕ) → count_by test (range_with_len 0 n) ≤ count_by test (range_with_len 0 (n + k))
count_rises test n zero =
    let same : n ≡ n + 0 = omega arith in
    subst (λ m. count_by test (range_with_len 0 n) ≤ count_by test (range_with_len 0 m)) same (omega arith)
count_rises test n (suc k) =
    let next : n + k + 1 ≡ n + suc k = omega arith in
    let before = count_rises test n k in
    let last = count_last test (n + k) in
    subst (λ m. count_by test (range_with_len 0 n) ≤ count_by test (range_with_len 0 m)) next (omega (arith, before, last))

pub sound_rises : (g : Geometry) (all : List ℕ) (n m : ℕ) → n ≤ m → (sample_first g all n).sound ≤ (sample_first g all m).sound
unfolding looked_by
sound_rises g all n m l =
    let test : ℕ → Bool = λ place. is_sound_look (look_at g.data_bytes g.spare_bytes all (looked_row (row_count g) place)) in
    let there : n + (m - n) ≡ m = omega arith in
    subst (λ k. count_by test (range_with_len 0 n) ≤ count_by test (range_with_len 0 k)) there (count_rises test n (m - n))

-- what is looked at is a row
pub looked_within : (rows place : ℕ) → place < looked_count rows → looked_row rows place < rows
looked_within rows place l = by (cases_lt (rows / 256) 16)
  where
    by : (rows / 256 < 16) ⊎ (16 ≤ rows / 256) → looked_row rows place < rows
    by (inl few) =
        let part : max (rows / 256) 16 ≡ 16 = omega arith in
        subst (λ k. place / 16 * k + place % 16 < rows) (sym part) (omega (arith, l))
    by (inr many) =
        let part : max (rows / 256) 16 ≡ rows / 256 = omega arith in
        let run : place / 16 < 256 = omega (arith, l) in
        let inside : place % 16 < rows / 256 = omega (arith, many) in
        let below : place / 16 * (rows / 256) + place % 16 < rows / 256 * 256 = mul-add-lt (place / 16) (rows / 256) (place % 16) 256 run inside in
        let rest = div-add-mod' rows 256 in
        subst (λ k. place / 16 * k + place % 16 < rows) (sym part) (omega (arith, below, rest))

-- ---- whether one of the first pages is sound

pub shows_not : (b : Bool) → b ≡ false → ¬ (b ≡ true)
shows_not b clear set = true≢false (sym set ∙ clear)

-- none of so many places has a sound page
abbrev pub none_below : Geometry → List ℕ → ℕ → Type 0
none_below g all places = (sample_first g all places).sound ≡ 0

sound_more : (g : Geometry) (all : List ℕ) (place : ℕ) → (sample_first g all (place + 1)).sound ≡ (sample_first g all place).sound + one (is_sound_look (look_in g all (looked_row (row_count g) place)))
unfolding looked_by
sound_more g all place = count_last (λ k. is_sound_look (look_in g all (looked_row (row_count g) k))) place

pub none_first : (g : Geometry) (all : List ℕ) → none_below g all 0
unfolding looked_by
none_first g all = refl

pub none_more : (g : Geometry) (all : List ℕ) (place row : ℕ) (b : Bool) → row ≡ looked_row (row_count g) place → b ≡ is_sound_look (look_in g all row) → b ≡ false → none_below g all place → none_below g all (place + 1)
none_more g all place row b at is clear none =
    let here : is_sound_look (look_in g all (looked_row (row_count g) place)) ≡ false = ap (λ r. is_sound_look (look_in g all r)) (sym at) ∙ (sym is ∙ clear) in
    sound_more g all place ∙ (ap (λ k. (sample_first g all place).sound + one k) here ∙ (let zero : (sample_first g all place).sound + 0 ≡ 0 = omega (arith, none) in zero))

pub shows_one : (g : Geometry) (all : List ℕ) (place row : ℕ) (b : Bool) → row ≡ looked_row (row_count g) place → b ≡ is_sound_look (look_in g all row) → b ≡ true → place < min (row_count g) 64 → true ≡ shows_sound g all
shows_one g all place row b at is set l =
    let here : is_sound_look (look_in g all (looked_row (row_count g) place)) ≡ true = ap (λ r. is_sound_look (look_in g all r)) (sym at) ∙ (sym is ∙ set) in
    let more = sound_more g all place in
    let counted : one (is_sound_look (look_in g all (looked_row (row_count g) place))) ≡ 1 = ap one here in
    let rise = sound_rises g all (place + 1) (min (row_count g) 64) (omega (arith, l)) in
    sym (lt-ltb 0 (sample_first g all (min (row_count g) 64)).sound (omega (arith, more, counted, rise)))

pub shows_none : (g : Geometry) (all : List ℕ) (place : ℕ) → place ≡ min (row_count g) 64 → none_below g all place → false ≡ shows_sound g all
shows_none g all place end none =
    let last : (sample_first g all (min (row_count g) 64)).sound ≡ 0 = ap (λ k. (sample_first g all k).sound) (sym end) ∙ none in
    sym (le-ltb 0 (sample_first g all (min (row_count g) 64)).sound (omega (arith, last)))

-- where one of the first ones is, one of all is
pub some_of_all : (g : Geometry) (all : List ℕ) (sample : Sample) (looked : ℕ) → looked ≡ looked_count (row_count g) → shows_sound g all ≡ true → sample ≡ sample_first g all looked → ¬ (sample.sound ≡ 0)
some_of_all g all sample looked size shows is none =
    let few : min (row_count g) 64 ≤ looked = omega (arith, size) in
    let rise = sound_rises g all (min (row_count g) 64) looked few in
    let some = ltb-true 0 _ shows in
    let here = ap (λ x. x.sound) is in
    omega (arith, rise, some, here, none)

unspelled : (p : Page) → spelled p.spare ≡ None → record_of p ≡ None
unfolding record_of spelled
unspelled p none = by (has_form p.spare) (has_seal p) (option_map (record_in p.spare) (kind_from (slice_index p.spare 3))) none
  where
    by : (form seal : Bool) (found : Option Record) → cond form found None ≡ None → cond (form && seal) found None ≡ None
    by false seal found h = refl
    by true true found h = h
    by true false found h = refl

-- a page whose spare area spells no record is not sound
pub spells_none : (g : Geometry) (a : Arrangement) (all : List ℕ) (row : ℕ) (spare : List ℕ) (found : Option Record) → row < row_count g → spare ≡ spare_at g a all row → found ≡ spelled spare → is_some found ≡ false
    → false ≡ is_sound_look (look_in g (ordered g a all) row)
unfolding look_of
spells_none g a all row spare found l spare_is found_is none =
    let p : Page = page_from_bytes g.data_bytes (arranged_piece g a all row) in
    let unread : spelled p.spare ≡ None = ap spelled (sym spare_is) ∙ (sym found_is ∙ none_in found none) in
    unsound (is_erased_page p) ∙ (ap (λ o. is_sound_look (look_by o (is_erased_page p))) (sym (unspelled p unread)) ∙ ap (λ q. is_sound_look (look_of q)) (sym (ordered_page g a all row l)))
  where
    none_in : (o : Option Record) → is_some o ≡ false → o ≡ None
    none_in None e = refl
    none_in (Some r) e = absurd (true≢false e)

    unsound : (erased : Bool) → false ≡ is_sound_look (look_by None erased)
    unsound true = refl
    unsound false = refl

pub sample_whole : (g : Geometry) (all : List ℕ) (x : Sample) (looked : ℕ) → looked ≡ looked_count (row_count g) → x ≡ sample_first g all looked → x ≡ sample_of g.data_bytes g.spare_bytes (row_count g) all
unfolding sample_of
sample_whole g all x looked size is = is ∙ ap (sample_first g all) size

-- ---- pages in their turn

abbrev pub turns_below : Geometry → List ℕ → ℕ → ℕ
turns_below g all places = count_by (λ place. is_in_turn g all (looked_row (row_count g) place)) (range_with_len 0 places)

pub turns_more : (g : Geometry) (all : List ℕ) (place count : ℕ) (b : Bool) → count ≡ turns_below g all place → b ≡ is_in_turn g all (looked_row (row_count g) place) → count + one b ≡ turns_below g all (place + 1)
turns_more g all place count b old is =
    ap (λ k. k + one b) old ∙ (ap (λ t. turns_below g all place + one t) is ∙ sym (count_last (λ k. is_in_turn g all (looked_row (row_count g) k)) place))

pub turns_all : (g : Geometry) (all : List ℕ) (places count : ℕ) → places ≡ looked_count (row_count g) → count ≡ turns_below g all places → count ≡ in_turn_of g all
unfolding in_turn_of
turns_all g all places count size is = is ∙ ap (turns_below g all) size

pub one_few : (b : Bool) → one b ≤ 1
one_few true = omega arith
one_few false = omega arith

pub one_byte : (b : Bool) → bool_byte b ≡ one b
one_byte true = refl
one_byte false = refl
