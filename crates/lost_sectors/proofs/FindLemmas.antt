-- Finding the lost sectors, one translation page after another.
use Rattle.std.proofs.Common.{◌≡◌, inl, inr, ℕ, suc, ◌+◌, ◌-◌, ◌*◌, ◌/◌, ◌%◌, ◌<◌, ◌≤◌, Bool, true, false, List, length, get_or, take, Option, Some, None, refl, sym, ap, ◌∙◌, subst, arith}
use Rattle.std.specs.Prelude.{min, nat_lt, slice_get, slice_set, OnOk, Result, Ok, Err, ◌&&◌, ◌||◌}
use Rattle.std.proofs.lemmas.Bool.{and_left, cases_eq, cases_lt, le-ltb, lt-ltb}
use Rattle.std.proofs.lemmas.List.{get_or-set_other, get_or-set_same, length-set}
use Rattle.std.proofs.lemmas.Option.{slice_get-get_or}
use Rattle.page_layout.specs.declared.geometry.Geometry.{Geometry}
use Rattle.page_layout.specs.declared.record.Record.{Record}
use Rattle.page_layout.specs.declared.record.Key.{Key}
use Rattle.page_layout.specs.declared.record.Key.TheVariants.{Sector, Translation}
use Rattle.page_layout.specs.Geometry.{entries, translation_pages}
use Rattle.page_layout.specs.Flash.{no_page}
use Rattle.page_layout.specs.Page.{Image, Page, body_at}
use Rattle.page_layout.specs.Sound.{record_of}
use Rattle.page_layout.specs.Newest.{newest}
use Rattle.page_layout.specs.Array.{marks}
use Rattle.page_layout.proofs.ArrayLemmas.{body_page, length-marks, mark-page}
use Rattle.page_layout.proofs.NewestLemmas.{newest-record, newest-within}
use Rattle.onfi_cycles.specs.Cycles.{page_of}
use Rattle.certificate.specs.Claim.{Claim}
use Rattle.image_check.specs.Agrees.{Agrees}
use Rattle.translation_pages.specs.TranslationPage.{entry_at}
use Rattle.translation_pages.specs.Entry.{entry_in, entry_of}
use Rattle.file_die.specs.Store.{page_in}
use Rattle.image_check.proofs.StaleLemmas.{end_of, pages_reach, place_of_sector, start_of}
use Rattle.lost_sectors.specs.Lost.{Adds, AddsUpTo, DropsNone, is_listed_in, is_lost, is_lost_by, is_older, is_told, names_other, newest_sequence}
use Rattle.lost_sectors.proofs.LostLemmas.{newest_sequence_is, newest_sequence_none, none_is, same_of}

-- ---- the page of a row

-- the mark of a newest page is its page's record
mark_there : (image : Image) (key : Key) (row : ℕ) → newest (marks image) key ≡ Some row → get_or (marks image) row None ≡ record_of (page_in image row)
mark_there image key row is =
    let within : row < length image = omega (arith, newest-within (marks image) key row is, length-marks image) in
    mark-page image row (page_in image row) (slice_get-get_or image row no_page within)

pub sequence_some : (image : Image) (row : ℕ) (its : Option Record) (found : Record) → its ≡ record_of (page_in image row) → its ≡ Some found → (key : Key) → newest (marks image) key ≡ Some row → Some found.sequence ≡ newest_sequence image key
sequence_some image row its found read some key is = sym (newest_sequence_is image key row found is (mark_there image key row is ∙ (sym read ∙ some)))

pub sequence_missing : (image : Image) (row : ℕ) (its : Option Record) → its ≡ record_of (page_in image row) → its ≡ None → (key : Key) → newest (marks image) key ≡ Some row → None ≡ newest_sequence image key
sequence_missing image row its read none key is =
    let found = newest-record (marks image) key row is in
    absurd (none_is (mark_there image key row is ∙ (sym read ∙ none)) found.1)

-- ---- a list

or_none : (b : Bool) → b ≡ (b || false)
or_none true = refl
or_none false = refl

or_some : (b : Bool) → true ≡ (b || true)
or_some true = refl
or_some false = refl

pub adds_start : (p : ℕ → Bool) (first : ℕ) (xs : List Bool) → Adds p first first xs xs
adds_start p first xs = record { size = refl; inside = λ n low high. absurd (omega arith); outside = λ n out. refl }

-- none passes
pub adds_none : (p : ℕ → Bool) (first end : ℕ) (xs : List Bool) → ((n : ℕ) → first ≤ n → n < end → p n ≡ false) → Adds p first end xs xs
adds_none p first end xs none = record {
  size = refl;
  inside = λ n low high. or_none (is_listed_in xs n) ∙ ap (λ b. is_listed_in xs n || b) (sym (none n low high));
  outside = λ n out. refl;
}

-- one after another
pub adds_then : (p : ℕ → Bool) (a b c : ℕ) (old mid new : List Bool) → a ≤ b → b ≤ c → Adds p a b old mid → Adds p b c mid new → Adds p a c old new
adds_then p a b c old mid new ab bc one two = record {
  size = two.size ∙ one.size;
  inside = λ n low high. elim (cases_lt n b) [
    | inl below ↦ two.outside n (inl below) ∙ one.inside n low below
    | inr past ↦ two.inside n past high ∙ ap (λ x. x || p n) (one.outside n (inr past))
  ];
  outside = λ n out. elim out [
    | inl below ↦ two.outside n (inl (omega (arith, below, ab))) ∙ one.outside n (inl below)
    | inr past ↦ two.outside n (inr past) ∙ one.outside n (inr (omega (arith, past, bc)))
  ];
}

-- tests that agree
pub adds_same : (p q : ℕ → Bool) (first end : ℕ) (old new : List Bool) → ((n : ℕ) → first ≤ n → n < end → p n ≡ q n) → Adds p first end old new → Adds q first end old new
adds_same p q first end old new same adds = record {
  size = adds.size;
  inside = λ n low high. adds.inside n low high ∙ ap (λ b. is_listed_in old n || b) (same n low high);
  outside = adds.outside;
}

-- one sector, which passes or does not
one_set : (p : ℕ → Bool) (k : ℕ) (xs : List Bool) → k < length xs → p k ≡ true → Adds p k (k + 1) xs (slice_set xs k true)
one_set p k xs within passes = record {
  size = length-set xs k true;
  inside = λ n low high. (let same : n ≡ k = omega arith in
      ap (get_or (slice_set xs k true) n) refl ∙ subst (λ m. is_listed_in (slice_set xs k true) m ≡ (is_listed_in xs m || p m)) (sym same)
      (get_or-set_same xs k true false within ∙ (or_some (is_listed_in xs k) ∙ ap (λ b. is_listed_in xs k || b) (sym passes))));
  outside = λ n out. get_or-set_other xs k n true false (λ same. elim out [ inl below ↦ omega arith | inr past ↦ omega arith ]);
}

pub adds_set : (p : ℕ → Bool) (first k : ℕ) (old xs : List Bool) → first ≤ k → k < length xs → p k ≡ true → Adds p first k old xs → Adds p first (k + 1) old (slice_set xs k true)
adds_set p first k old xs le within passes before = adds_then p first k (k + 1) old xs (slice_set xs k true) le (omega arith) before (one_set p k xs within passes)

pub adds_skip : (p : ℕ → Bool) (first k : ℕ) (old xs : List Bool) → first ≤ k → p k ≡ false → Adds p first k old xs → Adds p first (k + 1) old xs
adds_skip p first k old xs le fails before = adds_then p first k (k + 1) old xs xs le (omega arith) before (adds_none p k (k + 1) xs (λ n low high. (let same : n ≡ k = omega arith in ap p same ∙ fails)))

-- ---- none is taken off

pub drops_none : (xs : List Bool) → DropsNone xs xs
drops_none xs = record { size = refl; kept = λ n is. is }

pub drops_then : (old mid new : List Bool) → DropsNone old mid → DropsNone mid new → DropsNone old new
drops_then old mid new one two = record { size = two.size ∙ one.size; kept = λ n is. two.kept n (one.kept n is) }

pub drops_set : (old xs : List Bool) (k : ℕ) → k < length xs → DropsNone old xs → DropsNone old (slice_set xs k true)
drops_set old xs k within before = record {
  size = length-set xs k true ∙ before.size;
  kept = λ n is. elim (cases_eq n k) [
    | inl same ↦ subst (λ m. is_listed_in (slice_set xs k true) m ≡ true) (sym same) (get_or-set_same xs k true false within)
    | inr other ↦ get_or-set_other xs k n true false other ∙ before.kept n is
  ];
}

-- ---- one translation page

-- the sectors of translation page t, by its sequence
page_of_sector : (g : Geometry) (t first end n : ℕ) → first ≡ t * entries g → end ≤ first + entries g → first ≤ n → n < end → n / entries g ≡ t
page_of_sector g t first end n at most low high = (place_of_sector (entries g) t n (omega (arith, at, low)) (omega (arith, at, high, most))).page

pub none_of_page : (g : Geometry) (image : Image) (mark t first end : ℕ) → first ≡ t * entries g → end ≤ first + entries g → newest_sequence image (Translation t) ≡ None → (n : ℕ) → first ≤ n → n < end → is_lost g image mark n ≡ false
unfolding is_lost
none_of_page g image mark t first end at most none n low high =
    ap (λ s. is_lost_by mark s (entry_of g image n) (newest (marks image) (Sector n)) (newest_sequence image (Sector n)))
    (ap (λ k. newest_sequence image (Translation k)) (page_of_sector g t first end n at most low high) ∙ none)

pub late_page : (g : Geometry) (image : Image) (mark t first end sequence : ℕ) → first ≡ t * entries g → end ≤ first + entries g → newest_sequence image (Translation t) ≡ Some sequence → mark ≤ sequence → (n : ℕ) → first ≤ n → n < end → is_lost g image mark n ≡ false
unfolding is_lost
late_page g image mark t first end sequence at most is late n low high =
    ap (λ s. is_lost_by mark s (entry_of g image n) (newest (marks image) (Sector n)) (newest_sequence image (Sector n)))
    (ap (λ k. newest_sequence image (Translation k)) (page_of_sector g t first end n at most low high) ∙ is)
    ∙ and_left (nat_lt sequence mark) (names_other (entry_of g image n) (newest (marks image) (Sector n)) && is_older (newest_sequence image (Sector n)) sequence) (le-ltb sequence mark late)

told_test : (g : Geometry) (image : Image) (mark t first end sequence n : ℕ) (body : List ℕ) → first ≡ t * entries g → end ≤ first + entries g → newest_sequence image (Translation t) ≡ Some sequence → sequence < mark
    → ((i : ℕ) → entry_at body i ≡ entry_in image i (newest (marks image) (Translation t))) → first ≤ n → n < end → is_told image sequence (entry_at body (n - first)) n ≡ is_lost g image mark n
unfolding is_lost entry_of
told_test g image mark t first end sequence n body at most is below each low high =
    let place = place_of_sector (entries g) t n (omega (arith, at, low)) (omega (arith, at, high, most)) in
    let spot : n - first ≡ n % entries g = ap (λ k. n - k) at ∙ sym place.entry in
    let entry : entry_at body (n - first) ≡ entry_in image (n % entries g) (newest (marks image) (Translation (n / entries g))) =
    each (n - first) ∙ (ap (λ i. entry_in image i (newest (marks image) (Translation t))) spot ∙ ap (λ k. entry_in image (n % entries g) (newest (marks image) (Translation k))) (sym place.page)) in
    let sequence_is : newest_sequence image (Translation (n / entries g)) ≡ Some sequence = ap (λ k. newest_sequence image (Translation k)) place.page ∙ is in
    let named : Option ℕ = entry_in image (n % entries g) (newest (marks image) (Translation (n / entries g))) in
    ap (λ e. is_told image sequence e n) entry
    ∙ (ap (λ b. b && is_told image sequence named n) (sym (lt-ltb sequence mark below))
    ∙ ap (λ s. is_lost_by mark s named (newest (marks image) (Sector n)) (newest_sequence image (Sector n))) (sym sequence_is))

pub adds_page : (g : Geometry) (image : Image) (mark t first end sequence : ℕ) (body : List ℕ) (old new : List Bool) → first ≡ t * entries g → end ≤ first + entries g → newest_sequence image (Translation t) ≡ Some sequence → sequence < mark
    → ((i : ℕ) → entry_at body i ≡ entry_in image i (newest (marks image) (Translation t))) → Adds (λ n. is_told image sequence (entry_at body (n - first)) n) first end old new → Adds (is_lost g image mark) first end old new
adds_page g image mark t first end sequence body old new at most is below each adds =
    adds_same (λ n. is_told image sequence (entry_at body (n - first)) n) (is_lost g image mark) first end old new
    (λ n low high. told_test g image mark t first end sequence n body at most is below each low high) adds

-- ---- the bounds of a translation page

first_of : (g : Geometry) (t : ℕ) → t < translation_pages g → min (t * entries g) g.sectors ≡ t * entries g
first_of g t below = start_of g t (t * entries g) g.sectors (entries g) below refl refl refl

last_of : (g : Geometry) (t : ℕ) → min ((t + 1) * entries g) g.sectors ≡ min g.sectors (t * entries g + entries g)
last_of g t = end_of g t (t * entries g) (min g.sectors (t * entries g + entries g)) g.sectors (entries g) refl refl refl refl

-- in these bounds
within : (p : ℕ → Bool) (g : Geometry) (t first end : ℕ) (old new : List Bool) → t < translation_pages g → first ≡ t * entries g → end ≡ min g.sectors (t * entries g + entries g) → Adds p first end old new
    → Adds p (min (t * entries g) g.sectors) (min ((t + 1) * entries g) g.sectors) old new
within p g t first end old new below at is adds =
    subst (λ a. Adds p a (min ((t + 1) * entries g) g.sectors) old new) (at ∙ sym (first_of g t below)) (subst (λ b. Adds p first b old new) (is ∙ sym (last_of g t)) adds)

pub none_listed : (g : Geometry) (image : Image) (mark t : ℕ) (lost : List Bool) → t < translation_pages g → newest_sequence image (Translation t) ≡ None
    → Adds (is_lost g image mark) (min (t * entries g) g.sectors) (min ((t + 1) * entries g) g.sectors) lost lost
none_listed g image mark t lost below none =
    within (is_lost g image mark) g t (t * entries g) (min g.sectors (t * entries g + entries g)) lost lost below refl refl
    (adds_none (is_lost g image mark) (t * entries g) (min g.sectors (t * entries g + entries g)) lost (none_of_page g image mark t (t * entries g) (min g.sectors (t * entries g + entries g)) refl (omega arith) none))

pub late_listed : (g : Geometry) (image : Image) (mark t sequence : ℕ) (lost : List Bool) → t < translation_pages g → newest_sequence image (Translation t) ≡ Some sequence → mark ≤ sequence
    → Adds (is_lost g image mark) (min (t * entries g) g.sectors) (min ((t + 1) * entries g) g.sectors) lost lost
late_listed g image mark t sequence lost below is late =
    within (is_lost g image mark) g t (t * entries g) (min g.sectors (t * entries g + entries g)) lost lost below refl refl
    (adds_none (is_lost g image mark) (t * entries g) (min g.sectors (t * entries g + entries g)) lost (late_page g image mark t (t * entries g) (min g.sectors (t * entries g + entries g)) sequence refl (omega arith) is late))

pub told_listed : (g : Geometry) (image : Image) (mark t first end sequence : ℕ) (body : List ℕ) (old new : List Bool) → t < translation_pages g → first ≡ t * entries g → end ≡ min g.sectors (first + entries g)
    → newest_sequence image (Translation t) ≡ Some sequence → sequence < mark → ((i : ℕ) → entry_at body i ≡ entry_in image i (newest (marks image) (Translation t)))
    → Adds (λ n. is_told image sequence (entry_at body (n - first)) n) first end old new → Adds (is_lost g image mark) (min (t * entries g) g.sectors) (min ((t + 1) * entries g) g.sectors) old new
told_listed g image mark t first end sequence body old new below at is found early each adds =
    within (is_lost g image mark) g t first end old new below at (is ∙ ap (λ n. min g.sectors (n + entries g)) at)
    (adds_page g image mark t first end sequence body old new at (omega (arith, is)) found early each adds)

-- the data area that was loaded
pub entries_loaded : (g : Geometry) (image : Image) (t row : ℕ) (bytes body : List ℕ) → newest (marks image) (Translation t) ≡ Some row → page_of g bytes ≡ page_in image row → body ≡ take g.data_bytes bytes
    → (i : ℕ) → entry_at body i ≡ entry_in image i (newest (marks image) (Translation t))
entries_loaded g image t row bytes body is gave front i =
    let inside : row < length image = omega (arith, newest-within (marks image) (Translation t) row is, length-marks image) in
    let there : body_at image row ≡ (page_in image row).body = body_page image row (page_in image row) (slice_get-get_or image row no_page inside) in
    ap (λ b. entry_at b i) (front ∙ (ap (λ (p : Page). p.body) gave ∙ sym there)) ∙ ap (entry_in image i) (sym is)

-- ---- all translation pages

next_times : (t n : ℕ) → (t + 1) * n ≡ t * n + n
next_times t n = let a : t + 1 ≡ suc t = omega arith in ap (λ k. k * n) a ∙ omega arith

pub pages_start : (p : ℕ → Bool) (g : Geometry) (xs : List Bool) → Adds p 0 (min (0 * entries g) g.sectors) xs xs
pages_start p g xs = subst (λ b. Adds p 0 b xs xs) (none (entries g) g.sectors) (adds_start p 0 xs)
  where
    none : (e s : ℕ) → 0 ≡ min (0 * e) s
    none e s = let zero_times : 0 * e ≡ 0 = omega arith in omega (arith, zero_times)

pub pages_more : (p : ℕ → Bool) (g : Geometry) (t : ℕ) (old mid new : List Bool) → Adds p 0 (min (t * entries g) g.sectors) old mid
    → Adds p (min (t * entries g) g.sectors) (min ((t + 1) * entries g) g.sectors) mid new → Adds p 0 (min ((t + 1) * entries g) g.sectors) old new
pages_more p g t old mid new one two = adds_then p 0 (min (t * entries g) g.sectors) (min ((t + 1) * entries g) g.sectors) old mid new (omega arith) (omega (arith, next_times t (entries g))) one two

pub pages_all : (p : ℕ → Bool) (g : Geometry) (t : ℕ) (old new : List Bool) → t ≡ translation_pages g → Adds p 0 (min (t * entries g) g.sectors) old new → Adds p 0 g.sectors old new
pages_all p g t old new all adds =
    let reach : g.sectors ≤ translation_pages g * entries g = pages_reach g in
    let same : t * entries g ≡ translation_pages g * entries g = ap (λ k. k * entries g) all in
    let end : min (t * entries g) g.sectors ≡ g.sectors = omega (arith, reach, same) in
    subst (λ b. Adds p 0 b old new) end adds

-- ---- as far as it came

pub up_to : (p : ℕ → Bool) (first k end : ℕ) (old new : List Bool) → first ≤ k → k ≤ end → Adds p first k old new → AddsUpTo p first end old new
up_to p first k end old new low high adds = record { reached = k; least = low; most = high; adds = adds }

pub up_to_start : (p : ℕ → Bool) (first end : ℕ) (xs : List Bool) → first ≤ end → AddsUpTo p first end xs xs
up_to_start p first end xs le = record { reached = first; least = omega arith; most = le; adds = adds_start p first xs }

pub page_bounds : (g : Geometry) (t : ℕ) → min (t * entries g) g.sectors ≤ min ((t + 1) * entries g) g.sectors
page_bounds g t = omega (arith, next_times t (entries g))

pub told_up_to : (g : Geometry) (image : Image) (mark t first end sequence : ℕ) (body : List ℕ) (old new : List Bool) → t < translation_pages g → first ≡ t * entries g → end ≡ min g.sectors (first + entries g)
    → newest_sequence image (Translation t) ≡ Some sequence → sequence < mark → ((i : ℕ) → entry_at body i ≡ entry_in image i (newest (marks image) (Translation t)))
    → AddsUpTo (λ n. is_told image sequence (entry_at body (n - first)) n) first end old new → AddsUpTo (is_lost g image mark) (min (t * entries g) g.sectors) (min ((t + 1) * entries g) g.sectors) old new
told_up_to g image mark t first end sequence body old new below at is found early each up =
    let start : min (t * entries g) g.sectors ≡ t * entries g = first_of g t below in
    let last : min ((t + 1) * entries g) g.sectors ≡ min g.sectors (t * entries g + entries g) = last_of g t in
    record {
      reached = up.reached;
      least = omega (arith, start, at, up.least);
      most = omega (arith, last, at, is, up.most);
      adds = subst (λ a. Adds (is_lost g image mark) a up.reached old new) (at ∙ sym start) (adds_page g image mark t first up.reached sequence body old new at (omega (arith, is, up.most)) found early each up.adds);
    }

pub pages_up_to : (p : ℕ → Bool) (g : Geometry) (t : ℕ) (old mid new : List Bool) → Adds p 0 (min (t * entries g) g.sectors) old mid
    → AddsUpTo p (min (t * entries g) g.sectors) (min ((t + 1) * entries g) g.sectors) mid new → AddsUpTo p 0 g.sectors old new
pages_up_to p g t old mid new one up = record {
  reached = up.reached;
  least = omega arith;
  most = omega (arith, up.most);
  adds = adds_then p 0 (min (t * entries g) g.sectors) up.reached old mid new (omega arith) up.least one up.adds;
}

-- ---- answers of calls

pub page_row : (g : Geometry) (capacity : ℕ) (image : Image) (c : Claim) (t : ℕ) (found : Option ℕ) → Agrees g capacity image c → t < translation_pages g → slice_get c.directory t ≡ Some found → newest (marks image) (Translation t) ≡ found
page_row g capacity image c t found agrees below at = same_of (agrees.directory.translation t below) at

pub entries_there : (g : Geometry) (image : Image) (t : ℕ) (found : Option ℕ) (sequence : ℕ) (bytes body : List ℕ) → newest (marks image) (Translation t) ≡ found → newest_sequence image (Translation t) ≡ Some sequence
    → ((at : ℕ) → found ≡ Some at → page_of g bytes ≡ page_in image at) → body ≡ take g.data_bytes bytes → (i : ℕ) → entry_at body i ≡ entry_in image i (newest (marks image) (Translation t))
entries_there g image t None sequence bytes body is has gave front i = absurd (none_is (newest_sequence_none image (Translation t) is) has)
entries_there g image t (Some row) sequence bytes body is has gave front i = entries_loaded g image t row bytes body is (gave row refl) front i

pub on_ok_to : {A B : Type 0} (result : Result A B) (P Q : Type 0) → (P → Q) → OnOk result P → OnOk result Q
on_ok_to (Ok x) P Q f p = f p
on_ok_to (Err e) P Q f p = tt
