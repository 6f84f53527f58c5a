-- Which bad blocks were written again.
use Rattle.std.proofs.Common.{◌≡◌, inl, inr, ℕ, zero, suc, ◌+◌, ◌/◌, ◌<◌, Bool, true, false, [], ◌∷◌, length, get_or, Option, Some, None, refl, sym, ap, ◌∙◌, subst, arith, slice_get, count_by}
use Rattle.std.specs.Prelude.{◌==◌, ◌&&◌, ◌||◌, not, nat_lt}
use Rattle.std.specs.List.{list_any, range_with_len}
use Rattle.std.proofs.lemmas.Bool.{cases_Bool, cases_eq, eq-eqb, eqb-true, lt-ltb, ltb-true, and_from, and_parts, true≢false}
use Rattle.std.proofs.lemmas.List.Sums.{sum_by-cons}
use Rattle.page_layout.specs.declared.geometry.Geometry.{Geometry}
use Rattle.page_layout.specs.declared.record.Record.{Record}
use Rattle.page_layout.specs.declared.record.Key.{Key}
use Rattle.page_layout.specs.declared.record.Key.TheVariants.{Sector, Translation, Table}
use Rattle.page_layout.specs.declared.newest.Latest.{Latest}
use Rattle.page_layout.specs.declared.newest.Latest.TheVariants.{Never, Once, Tied}
use Rattle.page_layout.specs.Geometry.{key_count, translation_pages, table_pages}
use Rattle.page_layout.specs.Greatest.{place_of, Describes}
use Rattle.page_layout.specs.Key.{key_of}
use Rattle.page_layout.specs.Page.{Page, Image}
use Rattle.page_layout.specs.Sound.{record_of}
use Rattle.page_layout.specs.Newest.{AreTied, latest_below, newest, sequence_at}
use Rattle.page_layout.specs.Live.{IsKeyOf, is_in_block}
use Rattle.page_layout.specs.Array.{marks}
use Rattle.page_layout.proofs.NewestLemmas.{newest-is, newest-record, scan_tells, sequence_at-key}
use Rattle.page_layout.proofs.ArrayLemmas.{latest-newest, latest-tied, length-marks, mark-page, page_of_mark, scan_never, scan_once}
use Rattle.image_check.specs.Blocks.{table_class}
use Rattle.image_check.specs.Survey.{index_of}
use Rattle.image_check.proofs.SurveyLemmas.{index_within}
use Rattle.lab_dump.specs.Count.{is_in_range, is_outside}
use Rattle.page_layout.specs.Change.{one_if}
use Rattle.lab_dump.specs.Bad.{HasNewer, IsRewritten, IsPlain, is_tied, is_plain, is_rewritten, keeps_below, key_at, latest_at, strange_of, ties_below, PlainLaw, RewrittenLaw, RewrittenToldLaw}
use Rattle.lab_dump.proofs.AnyLemmas.{any_at, any_more}
use Rattle.lab_dump.proofs.TraceLemmas.{key_found, place_is}

-- ---- some of the first numbers

-- one that passes
pub record Passes (f : ℕ → Bool) (n : ℕ) : Type 0 where
  pub place : ℕ
  pub within : place < n
  pub passes : f place ≡ true

pub any_by : (f : ℕ → Bool) (n : ℕ) → list_any f (range_with_len 0 n) ≡ true → Passes f n
any_by f zero e = absurd (true≢false (sym e))
any_by f (suc n) e = by (any_by f n) (list_any f (range_with_len 0 n)) refl
  where
    by : (list_any f (range_with_len 0 n) ≡ true → Passes f n) → (b : Bool) → list_any f (range_with_len 0 n) ≡ b → Passes f (suc n)
    by before true is = (let found = before is in record { place = found.place; within = (let l = found.within in omega arith); passes = found.passes })
    by before false is = record { place = n; within = omega arith; passes = sym (ap (λ b. b || f n) is) ∙ (sym (any_more f n) ∙ e) }

-- ---- keys of the die

pub in_range : (g : Geometry) (r : Record) → is_outside g (Some r) ≡ false → IsKeyOf g (key_of r)
in_range g r e = by (key_of r) e
  where
    unset : (b : Bool) → not b ≡ false → b ≡ true
    unset true h = refl
    unset false h = absurd (true≢false h)

    by : (key : Key) → not (is_in_range g key) ≡ false → IsKeyOf g key
    by (Sector n) h = ltb-true n g.sectors (unset (nat_lt n g.sectors) h)
    by (Translation t) h = ltb-true t (translation_pages g) (unset (nat_lt t (translation_pages g)) h)
    by (Table u) h = ltb-true u (table_pages g) (unset (nat_lt u (table_pages g)) h)

pub within_range : (g : Geometry) (r : Record) → IsKeyOf g (key_of r) → is_outside g (Some r) ≡ false
within_range g r h = by (key_of r) h
  where
    by : (key : Key) → IsKeyOf g key → not (is_in_range g key) ≡ false
    by (Sector n) l = ap not (lt-ltb n g.sectors l)
    by (Translation t) l = ap not (lt-ltb t (translation_pages g) l)
    by (Table u) l = ap not (lt-ltb u (table_pages g) l)

first_none : (b : Bool) (n : ℕ) → one_if b + n ≡ 0 → b ≡ false
first_none true n e = absurd (omega arith)
first_none false n e = refl

none_passes : (f : Page → Bool) (image : Image) (row : ℕ) (p : Page) → count_by f image ≡ 0 → slice_get image row ≡ Some p → f p ≡ false
none_passes f [] row p e is = absurd (let clash : None ≡ Some p = is in cc)
none_passes f (q ∷ qs) zero p e is =
    let same : q ≡ p = (let both : Some q ≡ Some p = is in cc) in
    ap f (sym same) ∙ first_none (f q) (count_by f qs) (sym (sum_by-cons (λ z. one_if (f z)) q qs) ∙ e)
none_passes f (q ∷ qs) (suc row) p e is = none_passes f qs row p (let cons = sum_by-cons (λ z. one_if (f z)) q qs in omega arith) is

none_counted : (f : Page → Bool) (image : Image) → ((row : ℕ) (p : Page) → slice_get image row ≡ Some p → f p ≡ false) → count_by f image ≡ 0
none_counted f [] e = refl
none_counted f (q ∷ qs) e =
    let here : one_if (f q) ≡ 0 = ap one_if (e zero q refl) in
    let rest : count_by f qs ≡ 0 = none_counted f qs (λ row p is. e (suc row) p is) in
    omega (arith, sum_by-cons (λ x. one_if (f x)) q qs)

pub strange_none : (g : Geometry) (image : Image) (row : ℕ) (r : Record) → strange_of g image ≡ 0 → get_or (marks image) row None ≡ Some r → IsKeyOf g (key_of r)
strange_none g image row r e mark =
    let found = page_of_mark image row r mark in
    in_range g r (ap (is_outside g) (sym found.2) ∙ none_passes (λ p. is_outside g (record_of p)) image row found.0 e found.1)

-- ---- a block that was written again

-- the key's newest page is another one, or there is none
plain_parts : (g : Geometry) (image : Image) → is_plain g image ≡ true → (strange_of g image ≡ 0) × (ties_below g image (key_count g) ≡ false)
plain_parts g image e =
    let both = and_parts (strange_of g image == 0) (not (ties_below g image (key_count g))) e in
    (eqb-true (strange_of g image) 0 both.0, unset (ties_below g image (key_count g)) both.1)
  where
    unset : (b : Bool) → not b ≡ true → b ≡ false
    unset true h = absurd (true≢false (sym h))
    unset false h = refl

latest_is : (g : Geometry) (image : Image) (key : Key) → IsKeyOf g key → latest_at g image (length image) (index_of g key) ≡ latest_below (marks image) key (length (marks image))
latest_is g image key of = ap (λ k. latest_below (marks image) k (length image)) (key_found g key of) ∙ ap (latest_below (marks image) key) (sym (length-marks image))

newer_by : (g : Geometry) (image : Image) (block row : ℕ) (r : Record) → ties_below g image (key_count g) ≡ false → keeps_below g image (key_count g) block ≡ false → IsKeyOf g (key_of r) → row / g.pages ≡ block
    → get_or (marks image) row None ≡ Some r → (l : Latest) → latest_below (marks image) (key_of r) (length (marks image)) ≡ l → Describes (sequence_at (marks image) (key_of r)) l → HasNewer (marks image) r
newer_by g image block row r ties keeps of at mark Never is tells = absurd (tells row r.sequence (sequence_at-key (marks image) row r mark))
newer_by g image block row r ties keeps of at mark (Tied a b t) is tells =
    let i = index_of g (key_of r) in
    let tied : is_tied (latest_at g image (length image) i) ≡ true = ap is_tied (latest_is g image (key_of r) of ∙ is) in
    absurd (true≢false (sym (any_at (λ j. is_tied (latest_at g image (length image) j)) (key_count g) i (index_within g (key_of r) of) tied) ∙ ties))
newer_by g image block row r ties keeps of at mark (Once q t) is tells = elim (cases_eq row q) [
  | inl same ↦
      (let i = index_of g (key_of r) in
      let here : is_in_block g.pages block (place_of (latest_at g image (length image) i)) ≡ true = ap (λ l. is_in_block g.pages block (place_of l)) (latest_is g image (key_of r) of ∙ is) ∙ eq-eqb (q / g.pages) block (ap (λ k. k / g.pages) (sym same) ∙ at) in
      absurd (true≢false (sym (any_at (λ j. is_in_block g.pages block (place_of (latest_at g image (length image) j))) (key_count g) i (index_within g (key_of r) of) here) ∙ keeps)))
  | inr ne ↦ record { later = q; sequence = tells.value; at = tells.here; newer = tells.others row r.sequence ne (sequence_at-key (marks image) row r mark) }
]

pub rewritten_law : RewrittenLaw
unfolding is_rewritten
rewritten_law g image block e =
    let first = and_parts (table_class g image block == 2) (is_plain g image && not (keeps_below g image (key_count g) block)) e in
    let rest = and_parts (is_plain g image) (not (keeps_below g image (key_count g) block)) first.1 in
    let plain = plain_parts g image rest.0 in
    record {
      named = eqb-true (table_class g image block) 2 first.0;
      newer = λ row r at mark.
          newer_by g image block row r plain.1 (unset (keeps_below g image (key_count g) block) rest.1) (strange_none g image row r plain.0 mark) at mark
          (latest_below (marks image) (key_of r) (length (marks image))) refl (scan_tells (marks image) (key_of r));
    }
  where
    unset : (b : Bool) → not b ≡ true → b ≡ false
    unset true h = absurd (true≢false (sym h))
    unset false h = refl

-- ---- each is told

untied_all : (g : Geometry) (image : Image) → IsPlain g image → ties_below g image (key_count g) ≡ false
untied_all g image plain = elim (cases_Bool (ties_below g image (key_count g))) [
  | inr none ↦ none
  | inl some ↦
      (let found = any_by (λ j. is_tied (latest_at g image (length image) j)) (key_count g) some in
      let place = place_is g found.place found.within in
      absurd (by (key_at g found.place) place.of (latest_below (marks image) (key_at g found.place) (length (marks image))) refl (ap (λ n. is_tied (latest_below (marks image) (key_at g found.place) n)) (length-marks image) ∙ found.passes)))
]
  where
    by : (key : Key) → IsKeyOf g key → (l : Latest) → latest_below (marks image) key (length (marks image)) ≡ l → is_tied l ≡ true → ⊥
    by key of Never is e = true≢false (sym e)
    by key of (Once row s) is e = true≢false (sym e)
    by key of (Tied a b t) is e = plain.untied key a b of (latest-tied (marks image) key a b t is)

kept_none : (g : Geometry) (image : Image) (block : ℕ) → IsRewritten g image block → keeps_below g image (key_count g) block ≡ false
kept_none g image block h = elim (cases_Bool (keeps_below g image (key_count g) block)) [
  | inr none ↦ none
  | inl some ↦
      (let found = any_by (λ j. is_in_block g.pages block (place_of (latest_at g image (length image) j))) (key_count g) some in
      let key = key_at g found.place in
      absurd (by key (newest (marks image) key) refl (ap (is_in_block g.pages block) (latest-newest (marks image) key) ∙ (ap (λ n. is_in_block g.pages block (place_of (latest_below (marks image) key n))) (length-marks image) ∙ found.passes))))
]
  where
    by : (key : Key) (o : Option ℕ) → newest (marks image) key ≡ o → is_in_block g.pages block o ≡ true → ⊥
    by key None is e = true≢false (sym e)
    by key (Some row) is e =
        let its = newest-record (marks image) key row is in
        let later = h.newer row its.0 (eqb-true (row / g.pages) block e) its.1 in
        let at : sequence_at (marks image) key later.later ≡ Some later.sequence = subst (λ k. sequence_at (marks image) k later.later ≡ Some later.sequence) its.2 later.at in
        let own : sequence_at (marks image) key row ≡ Some its.0.sequence = subst (λ k. sequence_at (marks image) k row ≡ Some its.0.sequence) its.2 (sequence_at-key (marks image) row its.0 its.1) in
        let greatest = newest-is (marks image) key row is in
        let value : its.0.sequence ≡ greatest.value = (let both : Some its.0.sequence ≡ Some greatest.value = sym own ∙ greatest.here in cc) in
        let newer = later.newer in
        elim (cases_eq later.later row) [
          | inl same ↦
              (let twice : later.sequence ≡ its.0.sequence = (let both : Some later.sequence ≡ Some its.0.sequence = sym at ∙ (ap (sequence_at (marks image) key) same ∙ own) in cc) in
              omega arith)
          | inr ne ↦ (let less = greatest.others later.later later.sequence ne at in omega arith)
        ]

strange_all : (g : Geometry) (image : Image) → IsPlain g image → strange_of g image ≡ 0
strange_all g image plain = none_counted (λ p. is_outside g (record_of p)) image (λ row p is. by row p is (record_of p) refl)
  where
    by : (row : ℕ) (p : Page) → slice_get image row ≡ Some p → (o : Option Record) → record_of p ≡ o → is_outside g (record_of p) ≡ false
    by row p is None e = ap (is_outside g) e
    by row p is (Some r) e = ap (is_outside g) e ∙ within_range g r (plain.keys row r (mark-page image row p is ∙ e))

-- ---- the test of a plain image

untied_by : (g : Geometry) (image : Image) (key : Key) (a b : ℕ) → ties_below g image (key_count g) ≡ false → IsKeyOf g key → (l : Latest) → l ≡ latest_below (marks image) key (length image) → AreTied (marks image) key a b → ⊥
untied_by g image key a b ties of Never is two = scan_never image key (length image) refl is a b two
untied_by g image key a b ties of (Once row s) is two = scan_once image key (length image) row s refl is a b two
untied_by g image key a b ties of (Tied x y s) is two =
    let i = index_of g key in
    let tied : is_tied (latest_at g image (length image) i) ≡ true = ap is_tied (ap (λ k. latest_below (marks image) k (length image)) (key_found g key of) ∙ sym is) in
    true≢false (sym (any_at (λ j. is_tied (latest_at g image (length image) j)) (key_count g) i (index_within g key of) tied) ∙ ties)

pub plain_law : PlainLaw
plain_law g image = (
  λ e. let parts = plain_parts g image e in record {
    keys = λ row r mark. strange_none g image row r parts.0 mark;
    untied = λ key a b of. untied_by g image key a b parts.1 of (latest_below (marks image) key (length image)) refl;
  },
  λ plain. and_from (strange_of g image == 0) (not (ties_below g image (key_count g))) (eq-eqb (strange_of g image) 0 (strange_all g image plain)) (ap not (untied_all g image plain)),
)

pub rewritten_told_law : RewrittenToldLaw
unfolding is_rewritten
rewritten_told_law g image block plain h =
    and_from (table_class g image block == 2) (is_plain g image && not (keeps_below g image (key_count g) block)) (eq-eqb (table_class g image block) 2 h.named)
    (and_from (is_plain g image) (not (keeps_below g image (key_count g) block))
    (and_from (strange_of g image == 0) (not (ties_below g image (key_count g))) (eq-eqb (strange_of g image) 0 (strange_all g image plain)) (ap not (untied_all g image plain)))
    (ap not (kept_none g image block h)))
