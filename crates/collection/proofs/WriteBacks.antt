-- A translation page is brought up to date.
use Rattle.std.proofs.Common.{◌≡◌, ◌≢◌, ℕ, ◌+◌, ◌*◌, ◌/◌, ◌%◌, ◌<◌, ◌≤◌, List, [], ◌∷◌, length, replicate, slice_get, Option, Some, None, MatchResult, Result, Ok, Err}
use Rattle.std.proofs.Common.{unwrap_or, refl, ap, sym, ◌∙◌, subst, arith}
use Rattle.std.specs.Prelude.{slice_index}
use Rattle.std.specs.Int.{w32, from_le_bytes}
use Rattle.std.proofs.Math.Nat.{div-add-mod'}
use Rattle.std.proofs.lemmas.List.{get_or-replicate}
use Rattle.page_layout.proofs.GeometryLemmas.{some_entries}
use Rattle.page_layout.specs.declared.geometry.Geometry.{Geometry}
use Rattle.page_layout.specs.declared.record.Kind.TheVariants as kind
use Rattle.page_layout.specs.declared.record.Key.TheVariants.{Sector, Translation}
use Rattle.page_layout.specs.Page.{Image, Page, body_at}
use Rattle.page_layout.specs.Geometry.{entries, translation_pages}
use Rattle.page_layout.specs.Flash.{Flash}
use Rattle.page_layout.specs.Recording.{Recording}
use Rattle.page_layout.proofs.ArrayLemmas.{body_page}
use Rattle.page_layout.proofs.StepLemmas.{array_unwritten}
use Rattle.mapping_cache.specs.Mapping.{MappingState, per_page, pending}
use Rattle.mapping_cache.proofs.CallerLemmas.{row_from_pending}
use Rattle.translation_pages.specs.TranslationPage.{entry_at, word_at, row_of_word}
use Rattle.budget.specs.declared.stream.Stream.TheVariants.{Meta}
use Rattle.collection.specs.declared.fault.EngineFault.{EngineFault}
use Rattle.collection.specs.declared.fault.EngineFault.TheVariants.{ReadOnly, SequenceSpent, Damaged, Bus}
use Rattle.collection.specs.State.{Ram}
use Rattle.translation_pages.specs.Entry.{entry_of}
use Rattle.collection.specs.Pages.{newest_row}
use Rattle.collection.specs.Maps.{Maps}
use Rattle.collection.specs.Looks.{IsLoaded, HoldsNewest, HasRightEntries, IsPadded, StartsFrom, IsBroughtUp, IsReadFault}
use Rattle.collection.specs.Truth.{IsTrue}
use Rattle.collection.specs.Safe.{IsOutside}
use Rattle.collection.specs.Cost.{HasPut, HasRunOut, HasSpent, PageCosts, WriteBackCosts}
use Rattle.collection.specs.Log.{Went}
use Rattle.collection.specs.Settle.{Cleans}
use Rattle.collection.specs.Results.{MayPut, IsReplaced, IsWrittenBack, Refused}
use Rattle.collection.proofs.MapLemmas.{entry_here, entry_none, none_not, maps_clean}
use Rattle.collection.proofs.Logs.{went_same}
use Rattle.collection.proofs.Looks.{directory_row}
use Rattle.collection.proofs.Puts.{leaves_written, written_keeps}
use Rattle.page_layout.proofs.VersionLemmas.{written_not_old}

-- ---- the page as it stands

pub entries_read : (g : Geometry) (image : Image) (t at : ℕ) (row : Option ℕ) (p : Page) → newest_row image (Translation t) ≡ row → row ≡ Some at → slice_get image at ≡ Some p → IsLoaded t p.body g image
entries_read g image t at row p is at_is read = record {
  entry = λ n of_page.
      let here : newest_row image (Translation (n / entries g)) ≡ Some at = ap (λ k. newest_row image (Translation k)) of_page ∙ (is ∙ at_is) in
      ap (λ b. entry_at b (n % entries g)) (sym (body_page image at p read)) ∙ sym (entry_here g image n at here);
}

entry_within : (g : Geometry) (n : ℕ) → 4 * (n % entries g) + 4 ≤ g.data_bytes
entry_within g n = omega (arith, some_entries g)

-- a page of FFh has no entry
erased_entry : (n i : ℕ) → 4 * i + 4 ≤ n → entry_at (replicate n 255) i ≡ None
unfolding entry_at
erased_entry n i le =
    let read : (j : ℕ) → j < n → slice_index (replicate n 255) j ≡ 255 = λ j lt. get_or-replicate n j 255 0 lt in
    let word : word_at (replicate n 255) (4 * i) ≡ from_le_bytes w32 (255 ∷ 255 ∷ 255 ∷ 255 ∷ []) =
    (let a = read (4 * i) (omega arith) in let b = read (4 * i + 1) (omega arith) in let c = read (4 * i + 2) (omega arith) in let d = read (4 * i + 3) (omega arith) in cc) in
    ap row_of_word word

pub entries_none : (g : Geometry) (image : Image) (t : ℕ) (row : Option ℕ) (lent items bytes : List ℕ) → newest_row image (Translation t) ≡ row → row ≡ None → bytes ≡ replicate (length lent) 255 → lent ≡ items → length items ≡ g.data_bytes → IsLoaded t bytes g image
entries_none g image t row lent items bytes is none filled same whole = record {
  entry = λ n of_page.
      let here : newest_row image (Translation (n / entries g)) ≡ None = ap (λ k. newest_row image (Translation k)) of_page ∙ (is ∙ none) in
      let all : bytes ≡ replicate g.data_bytes 255 = filled ∙ ap (λ k. replicate k 255) (ap length same ∙ whole) in
      ap (λ b. entry_at b (n % entries g)) all ∙ (erased_entry g.data_bytes (n % entries g) (entry_within g n) ∙ sym (entry_none g image n here));
}

-- ---- the page with each row that it lacked

at_place : (e t n : ℕ) → 0 < e → n / e ≡ t → t * e + n % e ≡ n
at_place e t n some same = grind (arith, div-add-mod' n e)

pub brought_up : (g : Geometry) (image : Image) (directory : List (Option ℕ)) (m : MappingState) (t : ℕ) (body body' : List ℕ)
    → Maps None g image directory m → IsLoaded t body g image
    → ((i : ℕ) → i < entries g → t * entries g + i < g.sectors → entry_at body' i ≡ unwrap_or (pending m (t * entries g + i)) (entry_at body i))
    → IsPadded g t body' → HasRightEntries t body' g image
brought_up g image directory m t body body' w loaded written padded = record {
  padded = padded;
  right = λ n lt of_page.
      let some : 0 < entries g = some_entries g in
      let place : t * entries g + n % entries g ≡ n = at_place (entries g) t n some of_page in
      let now : entry_at body' (n % entries g) ≡ unwrap_or (pending m (t * entries g + n % entries g)) (entry_at body (n % entries g)) = written (n % entries g) (omega (arith, some)) (rw place lt) in
      let at_n : entry_at body' (n % entries g) ≡ unwrap_or (pending m n) (entry_at body (n % entries g)) = rw place at now in
      at_n ∙ row_from_pending m n (newest_row image (Sector n)) (entry_at body (n % entries g)) (λ row is. w.known_is n row (none_not (Sector n)) is) (λ none. loaded.entry n of_page ∙ w.entry_is n lt (none_not (Sector n)) none);
}

-- by a memory that the read of the page has left as it was
pub brought_up_by : (r r1 : Ram) (image : Image) (t : ℕ) (body lent body' : List ℕ) → IsTrue None r image → r1 ≡ r → lent ≡ body
    → IsLoaded t body r.geometry image
    → ((i : ℕ) → i < entries r1.geometry → t * entries r1.geometry + i < r1.geometry.sectors
    → entry_at body' i ≡ unwrap_or (pending r1.mapping (t * entries r1.geometry + i)) (entry_at lent i)) → IsPadded r1.geometry t body'
    → HasRightEntries t body' r.geometry image
brought_up_by r r1 image t body lent body' w same is_lent loaded rows padded =
    let P : Ram → Type 0 = λ z. (i : ℕ) → i < entries z.geometry → t * entries z.geometry + i < z.geometry.sectors → entry_at body' i ≡ unwrap_or (pending z.mapping (t * entries z.geometry + i)) (entry_at lent i) in
    let Q : Ram → Type 0 = λ z. IsPadded z.geometry t body' in
    let L : List ℕ → Type 0 = λ b. IsLoaded t b r.geometry image in
    brought_up r.geometry image r.directory r.mapping t lent body' w.maps (subst L (sym is_lent) loaded) (subst P same rows) (subst Q same padded)

-- and it stands in the page buffer
pub filled_at : (r : Ram) (image : Image) (t : ℕ) (row : Option ℕ) (body items lent body' : List ℕ) → IsTrue None r image
    → HoldsNewest t row body r.geometry image → lent ≡ body → items ≡ body'
    → ((i : ℕ) → i < entries r.geometry → t * entries r.geometry + i < r.geometry.sectors
    → entry_at body' i ≡ unwrap_or (pending r.mapping (t * entries r.geometry + i)) (entry_at lent i)) → IsPadded r.geometry t body'
    → HasRightEntries t items r.geometry image
filled_at r image t row body items lent body' w holds is_lent same rows padded =
    let filled : HasRightEntries t body' r.geometry image = brought_up_by r r image t body lent body' w refl is_lent holds.loaded rows padded in
    subst (λ (b : List ℕ). HasRightEntries t b r.geometry image) (sym same) filled

-- also where the page before was any
pub brought_at : (t : ℕ) (row : Option ℕ) (g : Geometry) (m : MappingState) (before : Page) (items lent body' : List ℕ) → items ≡ body' → lent ≡ before.body → StartsFrom t row before
    → ((i : ℕ) → i < entries g → t * entries g + i < g.sectors → entry_at body' i ≡ unwrap_or (pending m (t * entries g + i)) (entry_at lent i)) → IsBroughtUp t row g m items
brought_at t row g m before items lent body' same is_lent starts rows = rw same (record {
  before = before;
  checked = starts;
  rows = λ i lt within. rows i lt within ∙ ap (λ b. unwrap_or (pending m (t * entries g + i)) (entry_at b i)) is_lent;
})

-- ---- what follows a page read, which leaves the memory and the die as they were

pub read_costs : (a b : Ram) (fault : EngineFault) → b ≡ a → IsReadFault fault → WriteBackCosts a b (Err fault)
read_costs a b ReadOnly same is = absurd is
read_costs a b SequenceSpent same is = absurd is
read_costs a b Damaged same is = ap (λ r. r.next) same
read_costs a b Bus same is = tt

pub read_went : (a b : Ram) (x y : Flash) (told told' : Option Recording) → b ≡ a → y ≡ x → told' ≡ told → Went a x told b y told'
read_went a b x y told told' same still kept = rw (same, still, kept) (went_same a x told)

-- after the page was loaded
pub loaded_costs : (a b c : Ram) (result : Result (Unit {0}) EngineFault) → b ≡ a → PageCosts Meta b c result → WriteBackCosts a c result
loaded_costs a b c (Ok done) same cost = (let P : Ram → Type 0 = λ z. HasPut Meta z c in subst P same cost)
loaded_costs a b c (Err ReadOnly) same cost = (let P : Ram → Type 0 = λ z. HasRunOut Meta z c in subst P same cost)
loaded_costs a b c (Err SequenceSpent) same cost = (let P : Ram → Type 0 = λ z. HasSpent Meta z c in subst P same cost)
loaded_costs a b c (Err Damaged) same cost = absurd cost
loaded_costs a b c (Err Bus) same cost = tt

holds_loaded : (a b : Ram) (x y : Image) (t : ℕ) (row : Option ℕ) (body : List ℕ) → b ≡ a → y ≡ x → newest_row x (Translation t) ≡ row → IsLoaded t body a.geometry x → HoldsNewest t row body b.geometry y
holds_loaded a b x y t row body same still newest_is loaded = rw (same, still) (record { newest = newest_is; loaded = loaded })

true_loaded : (a b : Ram) (x y : Image) → b ≡ a → y ≡ x → IsTrue None a x → IsTrue None b y
true_loaded a b x y same still w = rw (same, still) w

pub loaded_known : (a b : Ram) (x y : Image) (t : ℕ) (row : Option ℕ) (body : List ℕ) → b ≡ a → y ≡ x → IsTrue None a x → t < translation_pages a.geometry → slice_get a.directory t ≡ Some row
    → (newest_row x (Translation t) ≡ row → IsLoaded t body a.geometry x) → IsTrue None b y × HoldsNewest t row body b.geometry y
loaded_known a b x y t row body same still w within is loads =
    let newest_is : newest_row x (Translation t) ≡ row = directory_row a.geometry x a.directory a.mapping t row w.maps within is in
    (true_loaded a b x y same still w, holds_loaded a b x y t row body same still newest_is (loads newest_is))

pub written_loaded : (a b c : Ram) (x y z : Image) (t : ℕ) (result : Result (Unit {0}) EngineFault) → b ≡ a → y ≡ x
    → MatchResult result (λ _. IsWrittenBack t b y c z) (Refused b y c z) → MatchResult result (λ _. IsWrittenBack t a x c z) (Refused a x c z)
written_loaded a b c x y z t result same still w =
    let P : Ram → Type 0 = λ r. MatchResult result (λ _. IsWrittenBack t r x c z) (Refused r x c z) in
    let Q : Image → Type 0 = λ i. MatchResult result (λ _. IsWrittenBack t b i c z) (Refused b i c z) in
    subst P same (subst Q still w)

pub may_write_back : (r r1 : Ram) (x x1 : Image) (t : ℕ) (row : Option ℕ) (body : List ℕ) → IsTrue None r x → r1 ≡ r → x1 ≡ x → HasRightEntries t body r.geometry x → newest_row x (Translation t) ≡ row → MayPut kind.Translation t row body r1 x1
may_write_back r r1 x x1 t row body w same still filled newest_is = rw (same, still) (record {
  truth = w;
  page_for = λ n lt of_page none. filled.right n lt of_page;
  old_row_is = sym newest_is;
})

-- ---- and once it was put

pub cleans_by : (m0 m2 m3 : MappingState) (t : ℕ) → m2 ≡ m0 → Cleans (per_page m2) t m2 m3 → Cleans (per_page m0) t m0 m3
cleans_by m0 m2 m3 t same cleans = (let P : MappingState → Type 0 = λ m. Cleans (per_page m) t m m3 in subst P same cleans)

module _ (r r2 : Ram) (m3 : MappingState) (x x2 : Image) (t row : ℕ) (body : List ℕ) (filled : HasRightEntries t body r.geometry x) (p : IsReplaced kind.Translation t row body r x r2 x2) (g_is : r2.geometry ≡ r.geometry) (cleans : Cleans (entries r2.geometry) t r2.mapping m3) where
  apart : (n : ℕ) → Translation t ≢ Sector n
  apart n e = (let never : ⊥ = cc in never)

  right_now : (n : ℕ) → n < r.geometry.sectors → n / entries r.geometry ≡ t → entry_at (body_at x2 row) (n % entries r.geometry) ≡ newest_row x2 (Sector n)
  right_now n lt of_page = ap (λ b. entry_at b (n % entries r.geometry)) p.writes.here ∙ (filled.right n lt of_page ∙ sym (p.writes.newest_others (Sector n) (apart n)))

  entry_now : (n : ℕ) → n < r.geometry.sectors → n / entries r.geometry ≡ t → entry_of r2.geometry x2 n ≡ newest_row x2 (Sector n)
  entry_now n lt of_page =
      let at : newest_row x2 (Translation (n / entries r.geometry)) ≡ Some row = ap (λ k. newest_row x2 (Translation k)) of_page ∙ p.writes.newest_now in
      ap (λ g. entry_of g x2 n) g_is ∙ (entry_here r.geometry x2 n row at ∙ right_now n lt of_page)

  cleaned_true : IsTrue None (record r2 { mapping = m3 }) x2
  cleaned_true = record {
    whole = p.truth.whole;
    one = p.truth.one;
    below = p.truth.below;
    filled = p.truth.filled;
    live = p.truth.live;
    worn = p.truth.worn;
    tables = p.truth.tables;
    maps = maps_clean r2.geometry x2 r2.directory r2.mapping m3 t p.truth.maps (λ n lt of_page. entry_now n (rw (← g_is) lt) (rw (← g_is) of_page)) cleans.knows cleans.others;
  }

  pub written_back : IsOutside r row → IsWrittenBack t r x (record r2 { mapping = m3 }) x2
  written_back out = record {
    same = record {
      truth = cleaned_true;
      array = array_unwritten r.geometry _ row body x x2 (λ n e. apart n e) p.writes;
      leaves = leaves_written r _ row body x x2 p.writes out;
    };
    others = λ k ne. written_keeps r.geometry _ row body x x2 k ne p.writes;
    row = row;
    newest_is = p.writes.newest_now;
    filled = record {
      right = right_now;
      padded = (let P : List ℕ → Type 0 = λ b. IsPadded r.geometry t b in subst P (sym p.writes.here) filled.padded);
    };
    renewed = λ two. written_not_old r.geometry _ row body x x2 two p.writes;
  }

pub written_back_by : (r r1 r2 : Ram) (m3 : MappingState) (x x1 x2 : Image) (t row : ℕ) (body : List ℕ) → r1 ≡ r → x1 ≡ x
    → HasRightEntries t body r.geometry x → IsReplaced kind.Translation t row body r1 x1 r2 x2 → r2.geometry ≡ r1.geometry
    → r2.mapping.geometry ≡ r2.geometry → Cleans (per_page r2.mapping) t r2.mapping m3 → IsOutside r1 row
    → IsWrittenBack t r x (record r2 { mapping = m3 }) x2
written_back_by r r1 r2 m3 x x1 x2 t row body same still filled p g_is of cleans out =
    let P : Ram → Type 0 = λ z. IsReplaced kind.Translation t row body z x r2 x2 in
    let Q : Image → Type 0 = λ i. IsReplaced kind.Translation t row body r1 i r2 x2 in
    let C : Geometry → Type 0 = λ g. Cleans (entries g) t r2.mapping m3 in
    let O : Ram → Type 0 = λ z. IsOutside z row in
    written_back r r2 m3 x x2 t row body filled (subst P same (subst Q still p)) (g_is ∙ ap (λ z. z.geometry) same) (subst C of cleans) (subst O same out)
