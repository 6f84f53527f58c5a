-- What a pass notes of stale entries, page by page, and what it comes to.
use Rattle.std.proofs.Common.{◌≡◌, ◌≢◌, ℕ, zero, suc, ◌+◌, ◌-◌, ◌*◌, ◌/◌, ◌%◌, ◌<◌, ◌≤◌, min, Bool, true, false, ◌&&◌, List, [], ◌∷◌, ◌++◌, length}
use Rattle.std.proofs.Common.{length-append, slice_get, Option, Some, None, refl, sym, ap, subst, ◌∙◌, inl, inr, arith}
use Rattle.std.specs.Prelude.{filter, not, nat_lt, is_some, is_none, IsPermutation}
use Rattle.std.specs.List.{range_with_len}
use Rattle.std.specs.List.Sorted.{IsNonDecreasingBy}
use Rattle.std.proofs.lemmas.Bool.{cases_lt}
use Rattle.std.proofs.lemmas.Bool.Decides.{nat_tests}
use Rattle.std.proofs.lemmas.List.{take_all}
use Rattle.page_layout.specs.declared.geometry.Geometry.{Geometry}
use Rattle.page_layout.specs.declared.record.Record.{Record}
use Rattle.page_layout.specs.declared.record.Key.{Key}
use Rattle.page_layout.specs.declared.record.Key.TheVariants.{Sector, Translation}
use Rattle.page_layout.specs.Geometry.{entries, translation_pages, row_count}
use Rattle.page_layout.specs.Page.{Page, Image, body_at}
use Rattle.page_layout.specs.Sound.{record_of}
use Rattle.page_layout.specs.Key.{key_of}
use Rattle.page_layout.specs.Newest.{newest, sequence_at}
use Rattle.page_layout.specs.Array.{marks}
use Rattle.page_layout.proofs.ArrayLemmas.{mark-page, mark-same, body_page, body_same, length-marks}
use Rattle.page_layout.proofs.NewestLemmas.{sequence_at-none, sequence_at-other, sequence_at-key, sequence_at-same, newest-record, newest-within}
use Rattle.page_layout.proofs.CountLemmas.{bit}
use Rattle.certificate.specs.Claim.{Claim}
use Rattle.translation_pages.specs.TranslationPage.{entry_at}
use Rattle.translation_pages.specs.Entry.{entry_in, entry_of}
use Rattle.image_check.specs.declared.noted_sectors.Noted.{Noted}
use Rattle.image_check.specs.Agrees.{IsDirectory, AreNewest}
use Rattle.image_check.specs.Stale.{same_row, is_stale, stale_sectors}
use Rattle.image_check.specs.Rising.{IsRisingBelow}
use Rattle.image_check.specs.Noted.{claimed, has_come, differs, is_noted, times, IsKept, HasNoted, HasSomeNoted}
use Rattle.image_check.proofs.StaleLemmas.{noted_more, noted_same, none_noted, filter_same, place_of_sector, first_below, pages_reach}
use Rattle.std.proofs.Math.Nat.{mul-le-mul_right}
use Rattle.image_check.proofs.JudgeLemmas.{rising_length}
use Rattle.image_check.proofs.OnceLemmas.{times-append, times-permutation, times_inside, times_outside, sorted_is, length_same, filter_rising}

-- ---- what is kept

pub kept_moved : (a b : List ℕ) (x : Noted) → a ≡ b → IsKept a x → IsKept b x
kept_moved a b x e h = subst (λ xs. IsKept xs x) e h

-- one sector more of a range, which passes the test or not
pub kept_more : (p : ℕ → Bool) (first n : ℕ) (before : List ℕ) (x new : Noted) → first ≤ n → p n ≡ true
    → IsKept (before ++ filter p (range_with_len first (n - first))) x → ((noted : List ℕ) → IsKept noted x → IsKept (noted ++ n ∷ []) new)
    → IsKept (before ++ filter p (range_with_len first (n + 1 - first))) new
kept_more p first n before x new le test h more =
    let now : List ℕ = before ++ filter p (range_with_len first (n - first)) in
    kept_moved (now ++ n ∷ []) (before ++ filter p (range_with_len first (n + 1 - first))) new (noted_more p first n before now (now ++ n ∷ []) le refl refl test) (more now h)

pub kept_same : (p : ℕ → Bool) (first n : ℕ) (before : List ℕ) (x : Noted) → first ≤ n → p n ≡ false → IsKept (before ++ filter p (range_with_len first (n - first))) x → IsKept (before ++ filter p (range_with_len first (n + 1 - first))) x
kept_same p first n before x le test h =
    let now : List ℕ = before ++ filter p (range_with_len first (n - first)) in
    kept_moved now (before ++ filter p (range_with_len first (n + 1 - first))) x (noted_same p first n before now le refl test) h

pub kept_none : (p : ℕ → Bool) (first : ℕ) (before : List ℕ) (x : Noted) → IsKept before x → IsKept (before ++ filter p (range_with_len first (first - first))) x
kept_none p first before x h = kept_moved before (before ++ filter p (range_with_len first (first - first))) x (none_noted p first before) h

-- ---- tests

and_false : (a b : Bool) → b ≡ false → (a && b) ≡ false
and_false true b e = e
and_false false b e = refl

false_and : (a b : Bool) → a ≡ false → (a && b) ≡ false
false_and a b e = ap (λ t. t && b) e

true_and : (a b : Bool) → a ≡ true → (a && b) ≡ b
true_and a b e = ap (λ t. t && b) e

lt_true : (a b : ℕ) → a < b → nat_lt a b ≡ true
lt_true a b l = grind (arith, nat_tests)

lt_false : (a b : ℕ) → b ≤ a → nat_lt a b ≡ false
lt_false a b l = grind (arith, nat_tests)

pub claimed_at : (rows : List (Option ℕ)) (i : ℕ) (o : Option ℕ) → slice_get rows i ≡ Some o → claimed rows i ≡ o
claimed_at [] i o e = absurd (let clash : None ≡ Some o = e in cc)
claimed_at (r ∷ rows) zero o e = (let same : Some r ≡ Some o = e in cc)
claimed_at (r ∷ rows) (suc i) o e = claimed_at rows i o e

-- a sector past the last is never noted
noted_past : (g : Geometry) (image : Image) (c : Claim) (rows n : ℕ) → g.sectors ≤ n → is_noted g image c rows n ≡ false
unfolding is_noted
noted_past g image c rows n l = false_and (nat_lt n g.sectors) (has_come image rows (n / entries g) (claimed c.directory (n / entries g)) && differs g image c n) (lt_false n g.sectors l)

-- of a sector of the die
noted_in : (g : Geometry) (image : Image) (c : Claim) (rows n : ℕ) → n < g.sectors → is_noted g image c rows n ≡ (has_come image rows (n / entries g) (claimed c.directory (n / entries g)) && differs g image c n)
unfolding is_noted
noted_in g image c rows n l = true_and (nat_lt n g.sectors) (has_come image rows (n / entries g) (claimed c.directory (n / entries g)) && differs g image c n) (lt_true n g.sectors l)

-- ---- before the first page

absent_test : (image : Image) (t i : ℕ) (d s : Option ℕ) → (has_come image 0 t d && not (same_row (entry_in image i d) s)) ≡ (is_none d && is_some s)
absent_test image t i None None = refl
absent_test image t i None (Some s) = refl
absent_test image t i (Some row) s = false_and (has_come image 0 t (Some row)) (not (same_row (entry_in image i (Some row)) s)) (false_and (nat_lt row 0) (is_some (sequence_at (marks image) (Translation t) row)) (lt_false row 0 (omega arith)))

pub noted_at_start : (g : Geometry) (image : Image) (c : Claim) (n : ℕ) → n < g.sectors → is_noted g image c 0 n ≡ (is_none (claimed c.directory (n / entries g)) && is_some (claimed c.sectors n))
noted_at_start g image c n l = noted_in g image c 0 n l ∙ absent_test image (n / entries g) (n % entries g) (claimed c.directory (n / entries g)) (claimed c.sectors n)

pub absent_here : (g : Geometry) (image : Image) (c : Claim) (n each : ℕ) (found b : Bool) → each ≡ entries g → n < g.sectors → found ≡ (is_none (claimed c.directory (n / each)) && is_some (claimed c.sectors n)) → found ≡ b → is_noted g image c 0 n ≡ b
absent_here g image c n each found b e l is test = noted_at_start g image c n l ∙ (ap (λ k. is_none (claimed c.directory (n / k)) && is_some (claimed c.sectors n)) (sym e) ∙ (sym is ∙ test))

-- what was noted is a part of the sectors
pub has_from_kept : (g : Geometry) (image : Image) (c : Claim) (x : Noted) (m : ℕ) → m ≡ g.sectors → IsKept (filter (is_noted g image c 0) (range_with_len 0 m)) x → HasNoted g image c 0 x
has_from_kept g image c x m e h = record {
  noted = filter (is_noted g image c 0) (range_with_len 0 m);
  kept = h;
  each = λ n. elim (cases_lt n g.sectors) [
    | inl inside ↦ times_inside (is_noted g image c 0) n 0 m (omega arith) (omega arith)
    | inr past ↦ times_outside (is_noted g image c 0) n 0 m (λ low high. noted_past g image c 0 n past) ∙ sym (ap bit (noted_past g image c 0 n past))
  ];
}

-- ---- one page more

come_same : (image : Image) (rows t : ℕ) (d : Option ℕ) → (d ≡ Some rows → sequence_at (marks image) (Translation t) rows ≡ None) → has_come image (rows + 1) t d ≡ has_come image rows t d
come_same image rows t None h = refl
come_same image rows t (Some r) h = elim (cases_lt r rows) [
  | inl below ↦ ap (λ b. b && is_some (sequence_at (marks image) (Translation t) r)) (lt_true r (rows + 1) (omega arith) ∙ sym (lt_true r rows below))
  | inr from ↦ elim (cases_lt rows r) [
    | inl above ↦ ap (λ b. b && is_some (sequence_at (marks image) (Translation t) r)) (lt_false r (rows + 1) (omega arith) ∙ sym (lt_false r rows from))
    | inr here ↦
        let same : r ≡ rows = omega arith in
        let none : is_some (sequence_at (marks image) (Translation t) r) ≡ false = ap (λ k. is_some (sequence_at (marks image) (Translation t) k)) same ∙ ap is_some (h (ap Some same)) in
        and_false (nat_lt r (rows + 1)) (is_some (sequence_at (marks image) (Translation t) r)) none ∙ sym (and_false (nat_lt r rows) (is_some (sequence_at (marks image) (Translation t) r)) none)
  ]
]

-- the page isn't the certificate's one of the sector's translation page
noted_same_at : (g : Geometry) (image : Image) (c : Claim) (rows n : ℕ) → (n < g.sectors → claimed c.directory (n / entries g) ≡ Some rows → sequence_at (marks image) (Translation (n / entries g)) rows ≡ None) → is_noted g image c (rows + 1) n ≡ is_noted g image c rows n
noted_same_at g image c rows n h = elim (cases_lt n g.sectors) [
  | inl inside ↦ noted_in g image c (rows + 1) n inside ∙ (ap (λ b. b && differs g image c n) (come_same image rows (n / entries g) (claimed c.directory (n / entries g)) (h inside)) ∙ sym (noted_in g image c rows n inside))
  | inr past ↦ noted_past g image c (rows + 1) n past ∙ sym (noted_past g image c rows n past)
]

-- the page is the certificate's one of no translation page of the die
pub record IsNoEntryPage (g : Geometry) (image : Image) (c : Claim) (row : ℕ) : Type 0 where
  pub none : (t : ℕ) → t < translation_pages g → claimed c.directory t ≡ Some row → sequence_at (marks image) (Translation t) row ≡ None

some_entries : (g : Geometry) → 0 < entries g
some_entries g = let least = g.limits.data_size.least in omega arith

-- where the entries of a page begin and end
record IsIn (each t n : ℕ) : Type 0 where
  low : t * each ≤ n
  high : n < t * each + each

page_of : (each t n : ℕ) → 0 < each → n / each ≡ t → IsIn each t n
page_of each t n some s = let product : n / each * each ≡ t * each = ap (λ k. k * each) s in record { low = omega arith; high = omega arith }

page_below : (each pages sectors n : ℕ) → 0 < each → sectors ≤ pages * each → n < sectors → n / each < pages
page_below each pages sectors n some reach l = elim (cases_lt (n / each) pages) [
  | inl below ↦ below
  | inr over ↦ absurd (let product : pages * each ≤ n / each * each = mul-le-mul_right each over in omega arith)
]

-- a sector's translation page is one of the die's
page_in : (g : Geometry) (n : ℕ) → n < g.sectors → n / entries g < translation_pages g
page_in g n l = page_below (entries g) (translation_pages g) g.sectors n (some_entries g) (pages_reach g) l

pub noted_stays : (g : Geometry) (image : Image) (c : Claim) (row : ℕ) (x : Noted) → IsNoEntryPage g image c row → HasNoted g image c row x → HasNoted g image c (row + 1) x
noted_stays g image c row x h before = record {
  noted = before.noted;
  kept = before.kept;
  each = λ n. before.each n ∙ sym (ap bit (noted_same_at g image c row n (λ inside at. h.none (n / entries g) (page_in g n inside) at)));
}

-- why it isn't
pub no_record : (g : Geometry) (image : Image) (c : Claim) (row : ℕ) (p : Page) → slice_get image row ≡ Some p → None ≡ record_of p → IsNoEntryPage g image c row
no_record g image c row p at e = record { none = λ t l d. sequence_at-none (marks image) (Translation t) row (mark-page image row p at ∙ sym e) }

pub other_key : (g : Geometry) (image : Image) (c : Claim) (row : ℕ) (p : Page) (r : Record) (k : Key) → slice_get image row ≡ Some p
    → Some r ≡ record_of p → k ≡ key_of r → ((t : ℕ) → t < translation_pages g → claimed c.directory t ≡ Some row → k ≢ Translation t)
    → IsNoEntryPage g image c row
other_key g image c row p r k at e same ne = record { none = λ t l d. sequence_at-other (marks image) (Translation t) row r (mark-page image row p at ∙ sym e) (λ x. ne t l d (same ∙ x)) }

translation_same : (t u : ℕ) → Translation t ≡ Translation u → t ≡ u
translation_same t u e = cc

pub past_pages : (g : Geometry) (image : Image) (c : Claim) (row t : ℕ) (p : Page) (r : Record) (k : Key) → slice_get image row ≡ Some p → Some r ≡ record_of p → k ≡ key_of r → k ≡ Translation t → translation_pages g ≤ t → IsNoEntryPage g image c row
past_pages g image c row t p r k at e same is past = other_key g image c row p r k at e same (λ u l d x. (let both = translation_same u t (sym x ∙ is) in absurd (omega arith)))

pub other_row : (g : Geometry) (image : Image) (c : Claim) (row t : ℕ) (p : Page) (r : Record) (k : Key) (d : Option ℕ) → slice_get image row ≡ Some p
    → Some r ≡ record_of p → k ≡ key_of r → k ≡ Translation t → claimed c.directory t ≡ d → d ≢ Some row → IsNoEntryPage g image c row
other_row g image c row t p r k d at e same is dir ne = other_key g image c row p r k at e same (λ u l h x. (let both = translation_same u t (sym x ∙ is) in ne (sym dir ∙ (ap (claimed c.directory) (sym both) ∙ h))))

-- it is that of translation page t
pub record IsEntryPage (g : Geometry) (image : Image) (c : Claim) (row t : ℕ) (body : List ℕ) : Type 0 where
  pub within : t < translation_pages g
  pub claimed_is : claimed c.directory t ≡ Some row
  pub sound : is_some (sequence_at (marks image) (Translation t) row) ≡ true
  pub others : (u : ℕ) → u ≢ t → sequence_at (marks image) (Translation u) row ≡ None
  pub bytes : body_at image row ≡ body

pub entry_page : (g : Geometry) (image : Image) (c : Claim) (row t : ℕ) (p : Page) (r : Record) (k : Key) (body : List ℕ)
    → slice_get image row ≡ Some p → Some r ≡ record_of p → k ≡ key_of r → k ≡ Translation t → t < translation_pages g
    → claimed c.directory t ≡ Some row → body ≡ p.body → IsEntryPage g image c row t body
entry_page g image c row t p r k body at e same is within dir bytes = record {
  within = within;
  claimed_is = dir;
  sound = ap is_some (ap (λ q. sequence_at (marks image) q row) (sym is ∙ same) ∙ sequence_at-key (marks image) row r (mark-page image row p at ∙ sym e));
  others = λ u ne. sequence_at-other (marks image) (Translation u) row r (mark-page image row p at ∙ sym e) (λ x. ne (translation_same u t (sym x ∙ (sym same ∙ is))));
  bytes = body_page image row p at ∙ sym bytes;
}

-- the test of a sector by the page at hand
abbrev pub differs_in : List ℕ → Claim → ℕ → ℕ → Bool
differs_in body c first n = not (same_row (entry_at body (n - first)) (claimed c.sectors n))

differs_is : (g : Geometry) (image : Image) (c : Claim) (row t n : ℕ) (body : List ℕ) → IsEntryPage g image c row t body → t * entries g ≤ n → n < t * entries g + entries g → differs g image c n ≡ differs_in body c (t * entries g) n
differs_is g image c row t n body h low high =
    let place = place_of_sector (entries g) t n low high in
    let dir : claimed c.directory (n / entries g) ≡ Some row = ap (claimed c.directory) place.page ∙ h.claimed_is in
    let entry : entry_in image (n % entries g) (claimed c.directory (n / entries g)) ≡ entry_at body (n - t * entries g) =
    ap (entry_in image (n % entries g)) dir ∙ (ap (λ b. entry_at b (n % entries g)) h.bytes ∙ ap (entry_at body) place.entry) in
    ap (λ o. not (same_row o (claimed c.sectors n))) entry

-- a sector of the page: not noted before, and after by the test
noted_before : (g : Geometry) (image : Image) (c : Claim) (row t n : ℕ) (body : List ℕ) → IsEntryPage g image c row t body → n < g.sectors → n / entries g ≡ t → is_noted g image c row n ≡ false
noted_before g image c row t n body h inside page =
    let dir : claimed c.directory (n / entries g) ≡ Some row = ap (claimed c.directory) page ∙ h.claimed_is in
    noted_in g image c row n inside ∙ false_and (has_come image row (n / entries g) (claimed c.directory (n / entries g))) (differs g image c n)
    (ap (has_come image row (n / entries g)) dir ∙ false_and (nat_lt row row) (is_some (sequence_at (marks image) (Translation (n / entries g)) row)) (lt_false row row (omega arith)))

noted_after : (g : Geometry) (image : Image) (c : Claim) (row t n : ℕ) (body : List ℕ) → IsEntryPage g image c row t body → n < g.sectors → n / entries g ≡ t → is_noted g image c (row + 1) n ≡ differs g image c n
noted_after g image c row t n body h inside page =
    let dir : claimed c.directory (n / entries g) ≡ Some row = ap (claimed c.directory) page ∙ h.claimed_is in
    let come : has_come image (row + 1) (n / entries g) (claimed c.directory (n / entries g)) ≡ true =
    ap (has_come image (row + 1) (n / entries g)) dir ∙ (true_and (nat_lt row (row + 1)) (is_some (sequence_at (marks image) (Translation (n / entries g)) row)) (lt_true row (row + 1) (omega arith))
    ∙ (ap (λ u. is_some (sequence_at (marks image) (Translation u) row)) page ∙ h.sound)) in
    noted_in g image c (row + 1) n inside ∙ true_and (has_come image (row + 1) (n / entries g) (claimed c.directory (n / entries g))) (differs g image c n) come

-- of a sector of the page it is noted now whether it differs
inside_page : (g : Geometry) (image : Image) (c : Claim) (row t first n : ℕ) (body noted part : List ℕ) → IsEntryPage g image c row t body → first ≡ t * entries g → first ≤ n → n < first + entries g → n < g.sectors
    → times n noted ≡ bit (is_noted g image c row n) → times n part ≡ bit (differs_in body c first n) → times n (noted ++ part) ≡ bit (is_noted g image c (row + 1) n)
inside_page g image c row t first n body noted part h at low high inside before here =
    let place = place_of_sector (entries g) t n (omega arith) (omega arith) in
    let none : bit (is_noted g image c row n) ≡ 0 = ap bit (noted_before g image c row t n body h inside place.page) in
    let same : differs_in body c first n ≡ is_noted g image c (row + 1) n =
    ap (λ f. differs_in body c f n) at ∙ (sym (differs_is g image c row t n body h (omega arith) (omega arith)) ∙ sym (noted_after g image c row t n body h inside place.page)) in
    let bits : bit (differs_in body c first n) ≡ bit (is_noted g image c (row + 1) n) = ap bit same in
    omega (arith, times-append n noted part)

-- of every other sector nothing is
outside_page : (g : Geometry) (image : Image) (c : Claim) (row t n : ℕ) (body noted part : List ℕ) → IsEntryPage g image c row t body → (n < g.sectors → n / entries g ≢ t)
    → times n noted ≡ bit (is_noted g image c row n) → times n part ≡ 0 → times n (noted ++ part) ≡ bit (is_noted g image c (row + 1) n)
outside_page g image c row t n body noted part h other before none =
    let same : bit (is_noted g image c (row + 1) n) ≡ bit (is_noted g image c row n) = ap bit (noted_same_at g image c row n (λ inside at. h.others (n / entries g) (other inside))) in
    omega (arith, times-append n noted part)

pub noted_page : (g : Geometry) (image : Image) (c : Claim) (row t first end : ℕ) (body : List ℕ) (old new : Noted) → IsEntryPage g image c row t body → first ≡ t * entries g → end ≡ min g.sectors (first + entries g) → HasNoted g image c row old
    → ((before : List ℕ) → IsKept before old → IsKept (before ++ filter (λ n. not (same_row (entry_at body (n - first)) (claimed c.sectors n))) (range_with_len first (end - first))) new) → HasNoted g image c (row + 1) new
noted_page g image c row t first end body old new h at until before more =
    let p : ℕ → Bool = differs_in body c first in
    let part : List ℕ = filter p (range_with_len first (end - first)) in
    let begins : first < g.sectors = let b = first_below g t h.within in omega arith in
    record {
      noted = before.noted ++ part;
      kept = more before.noted before.kept;
      each = λ n. elim (cases_lt n first) [
        | inl below ↦ outside_page g image c row t n body before.noted part h (λ inside s. (let i = page_of (entries g) t n (some_entries g) s in let low = i.low in omega arith)) (before.each n) (times_outside p n first (end - first) (λ low high. absurd (omega arith)))
        | inr from ↦ elim (cases_lt n end) [
          | inl inside ↦ inside_page g image c row t first n body before.noted part h at from (omega arith) (omega arith) (before.each n) (times_inside p n first (end - first) from (omega arith))
          | inr past ↦ outside_page g image c row t n body before.noted part h (λ inside s. (let i = page_of (entries g) t n (some_entries g) s in let high = i.high in omega arith)) (before.each n) (times_outside p n first (end - first) (λ low high. absurd (omega arith)))
        ]
      ];
    }

-- ---- whatever the source does

-- what is noted is decided by the pages that have passed
come_local : (a b : Image) (rows t : ℕ) (d : Option ℕ) → ((q : ℕ) → q < rows → slice_get a q ≡ slice_get b q) → has_come a rows t d ≡ has_come b rows t d
come_local a b rows t None h = refl
come_local a b rows t (Some r) h = elim (cases_lt r rows) [
  | inl below ↦ ap (λ o. nat_lt r rows && is_some o) (sequence_at-same (marks a) (marks b) (Translation t) r (mark-same a b r (h r below)))
  | inr from ↦ false_and (nat_lt r rows) (is_some (sequence_at (marks a) (Translation t) r)) (lt_false r rows from) ∙ sym (false_and (nat_lt r rows) (is_some (sequence_at (marks b) (Translation t) r)) (lt_false r rows from))
]

both_local : (a b : Image) (rows t i : ℕ) (d s : Option ℕ) → ((q : ℕ) → q < rows → slice_get a q ≡ slice_get b q) → (has_come a rows t d && not (same_row (entry_in a i d) s)) ≡ (has_come b rows t d && not (same_row (entry_in b i d) s))
both_local a b rows t i None s h = refl
both_local a b rows t i (Some r) s h = elim (cases_lt r rows) [
  | inl below ↦ ap (λ x. x && not (same_row (entry_in a i (Some r)) s)) (come_local a b rows t (Some r) h) ∙ ap (λ bytes. has_come b rows t (Some r) && not (same_row (entry_at bytes i) s)) (body_same a b r (h r below))
  | inr from ↦ false_and (has_come a rows t (Some r)) (not (same_row (entry_in a i (Some r)) s)) (false_and (nat_lt r rows) (is_some (sequence_at (marks a) (Translation t) r)) (lt_false r rows from))
      ∙ sym (false_and (has_come b rows t (Some r)) (not (same_row (entry_in b i (Some r)) s)) (false_and (nat_lt r rows) (is_some (sequence_at (marks b) (Translation t) r)) (lt_false r rows from)))
]

noted_local : (g : Geometry) (a b : Image) (c : Claim) (rows n : ℕ) → ((q : ℕ) → q < rows → slice_get a q ≡ slice_get b q) → is_noted g a c rows n ≡ is_noted g b c rows n
noted_local g a b c rows n h = elim (cases_lt n g.sectors) [
  | inl inside ↦ noted_in g a c rows n inside ∙ (both_local a b rows (n / entries g) (n % entries g) (claimed c.directory (n / entries g)) (claimed c.sectors n) h ∙ sym (noted_in g b c rows n inside))
  | inr past ↦ noted_past g a c rows n past ∙ sym (noted_past g b c rows n past)
]

pub some_start : (g : Geometry) (c : Claim) (x : Noted) → ((image : Image) → HasNoted g image c 0 x) → HasSomeNoted g c 0 x
some_start g c x h = record { image = []; size = refl; noted = h [] }

-- a page passes: it is the next of the image
pub some_more : (g : Geometry) (c : Claim) (row : ℕ) (p : Page) (old new : Noted) → HasSomeNoted g c row old
    → ((image : Image) → HasNoted g image c row old → slice_get image row ≡ Some p → HasNoted g image c (row + 1) new) → HasSomeNoted g c (row + 1) new
some_more g c row p old new h more =
    let image : Image = h.image ++ p ∷ [] in
    let local : (n : ℕ) → is_noted g h.image c row n ≡ is_noted g image c row n = λ n. noted_local g h.image image c row n (λ q l. sym (get_append_left h.image (p ∷ []) q (let size = h.size in omega arith))) in
    let before : HasNoted g image c row old = record { noted = h.noted.noted; kept = h.noted.kept; each = λ n. h.noted.each n ∙ ap bit (local n) } in
    record {
      image = image;
      size = length-append h.image (p ∷ []) ∙ ap (λ k. k + 1) h.size;
      noted = more image before (get_last h.image p row (sym h.size));
    }
  where
    get_append_left : (xs ys : Image) (i : ℕ) → i < length xs → slice_get (xs ++ ys) i ≡ slice_get xs i
    get_append_left [] ys i l = absurd (omega arith)
    get_append_left (x ∷ xs) ys zero l = refl
    get_append_left (x ∷ xs) ys (suc i) l = get_append_left xs ys i (omega arith)

    get_last : (xs : Image) (p : Page) (i : ℕ) → i ≡ length xs → slice_get (xs ++ p ∷ []) i ≡ Some p
    get_last [] p i e = ap (λ k. slice_get (p ∷ []) k) e
    get_last (x ∷ xs) p zero e = absurd (omega arith)
    get_last (x ∷ xs) p (suc i) e = get_last xs p i (omega arith)

-- ---- after the last page

-- the part of the sectors that was noted
abbrev pub noted_sectors : Geometry → Image → Claim → ℕ → List ℕ
noted_sectors g image c rows = filter (is_noted g image c rows) (range_with_len 0 g.sectors)

-- each of them stands in the list once
noted_times : (g : Geometry) (image : Image) (c : Claim) (rows n : ℕ) → times n (noted_sectors g image c rows) ≡ bit (is_noted g image c rows n)
noted_times g image c rows n = elim (cases_lt n g.sectors) [
  | inl inside ↦ times_inside (is_noted g image c rows) n 0 g.sectors (omega arith) (omega arith)
  | inr past ↦ times_outside (is_noted g image c rows) n 0 g.sectors (λ low high. noted_past g image c rows n past) ∙ sym (ap bit (noted_past g image c rows n past))
]

noted_length : (g : Geometry) (image : Image) (c : Claim) (rows : ℕ) (x : Noted) (h : HasNoted g image c rows x) → length h.noted ≡ length (noted_sectors g image c rows)
noted_length g image c rows x h = length_same h.noted (noted_sectors g image c rows) (λ n. h.each n ∙ sym (noted_times g image c rows n))

few_noted : (g : Geometry) (image : Image) (c : Claim) (rows : ℕ) → length (noted_sectors g image c rows) ≤ g.sectors
few_noted g image c rows = rising_length g.sectors (noted_sectors g image c rows) (filter_rising (is_noted g image c rows) g.sectors)

-- all are counted
pub count_is : (g : Geometry) (image : Image) (c : Claim) (rows : ℕ) (x : Noted) → HasNoted g image c rows x → x.count ≡ length (noted_sectors g image c rows)
count_is g image c rows x h =
    let size = noted_length g image c rows x h in
    let few = few_noted g image c rows in
    let most = g.limits.sector_count.most in
    let counted = h.kept.counted in
    omega arith

-- where all are kept, they are those sectors once they are sorted
pub sorted_noted : (g : Geometry) (image : Image) (c : Claim) (rows : ℕ) (x : Noted) (ys : List ℕ) → HasNoted g image c rows x → x.count ≤ x.most → IsPermutation x.kept.items ys → IsNonDecreasingBy (λ k. k) ys → ys ≡ noted_sectors g image c rows
sorted_noted g image c rows x ys h fits moved order =
    let size = noted_length g image c rows x h in
    let counted = count_is g image c rows x h in
    let all : x.kept.items ≡ h.noted = h.kept.first ∙ take_all x.most h.noted (omega arith) in
    sorted_is (is_noted g image c rows) g.sectors ys order (λ n. times-permutation n x.kept.items ys moved ∙ (ap (times n) all ∙ (h.each n ∙ sym (noted_times g image c rows n))))

pub sorted_rising : (g : Geometry) (c : Claim) (rows : ℕ) (x : Noted) (ys : List ℕ) → HasSomeNoted g c rows x → x.count ≤ x.most → IsPermutation x.kept.items ys → IsNonDecreasingBy (λ k. k) ys → IsRisingBelow g.sectors ys
sorted_rising g c rows x ys h fits moved order =
    subst (λ xs. IsRisingBelow g.sectors xs) (sym (sorted_noted g h.image c rows x ys h.noted fits moved order)) (filter_rising (is_noted g h.image c rows) g.sectors)

-- ---- with the rows right

come_at_end : (g : Geometry) (image : Image) (t : ℕ) (d : Option ℕ) → length image ≡ row_count g → newest (marks image) (Translation t) ≡ d → has_come image (row_count g) t d ≡ true
come_at_end g image t None whole e = refl
come_at_end g image t (Some r) whole e =
    let found = newest-record (marks image) (Translation t) r e in
    let sound : is_some (sequence_at (marks image) (Translation t) r) ≡ true = ap is_some (ap (λ k. sequence_at (marks image) k r) (sym found.2) ∙ sequence_at-key (marks image) r found.0 found.1) in
    let within : r < length (marks image) = newest-within (marks image) (Translation t) r e in
    true_and (nat_lt r (row_count g)) (is_some (sequence_at (marks image) (Translation t) r)) (lt_true r (row_count g) (omega (arith, length-marks image))) ∙ sound

-- a sector was noted just where it is stale
noted_is_stale : (g : Geometry) (image : Image) (c : Claim) (n : ℕ) → length image ≡ row_count g → IsDirectory g image c.directory → AreNewest g image c.sectors → n < g.sectors → is_noted g image c (row_count g) n ≡ is_stale g image n
unfolding is_stale entry_of
noted_is_stale g image c n whole directory sectors inside =
    let dir : claimed c.directory (n / entries g) ≡ newest (marks image) (Translation (n / entries g)) = claimed_at c.directory (n / entries g) _ (directory.translation (n / entries g) (page_in g n inside)) in
    let row : claimed c.sectors n ≡ newest (marks image) (Sector n) = claimed_at c.sectors n _ (sectors.newest_is n inside) in
    let come : has_come image (row_count g) (n / entries g) (claimed c.directory (n / entries g)) ≡ true =
    ap (has_come image (row_count g) (n / entries g)) dir ∙ come_at_end g image (n / entries g) (newest (marks image) (Translation (n / entries g))) whole refl in
    noted_in g image c (row_count g) n inside ∙ (true_and (has_come image (row_count g) (n / entries g) (claimed c.directory (n / entries g))) (differs g image c n) come
    ∙ (ap (λ d. not (same_row (entry_in image (n % entries g) d) (claimed c.sectors n))) dir ∙ ap (λ r. not (same_row (entry_in image (n % entries g) (newest (marks image) (Translation (n / entries g)))) r)) row))

-- so that what was noted are the stale sectors
pub noted_are_stale : (g : Geometry) (image : Image) (c : Claim) → length image ≡ row_count g → IsDirectory g image c.directory → AreNewest g image c.sectors → noted_sectors g image c (row_count g) ≡ stale_sectors g image
unfolding stale_sectors
noted_are_stale g image c whole directory sectors =
    filter_same (is_noted g image c (row_count g)) (is_stale g image) 0 g.sectors (λ n low high. noted_is_stale g image c n whole directory sectors (omega arith))
