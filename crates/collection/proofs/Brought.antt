-- A page of a block that is collected is brought out: copied, or written back.
use Rattle.std.proofs.Common.{◌≡◌, ℕ, ◌/◌, ◌%◌, ◌<◌, ◌≤◌, Bool, true, List, length, Some, MatchResult, Result, Ok, Err, OnOk, OnErr, refl, ap, sym, ◌∙◌, subst, arith}
use Rattle.page_layout.specs.declared.geometry.Geometry.{Geometry}
use Rattle.page_layout.specs.declared.record.Record.{Record}
use Rattle.page_layout.specs.declared.record.Kind.{Kind}
use Rattle.page_layout.specs.declared.record.Kind.TheVariants as kind
use Rattle.page_layout.specs.declared.record.Key.{Key}
use Rattle.page_layout.specs.declared.record.Key.TheVariants.{Sector, Translation, Table}
use Rattle.page_layout.specs.Page.{Page, Image}
use Rattle.page_layout.specs.Key.{key_of, key_from}
use Rattle.page_layout.specs.Geometry.{translation_pages, entries}
use Rattle.translation_pages.specs.TranslationPage.{entry_at}
use Rattle.mapping_cache.specs.Mapping.{MappingState, per_page, cleaned}
use Rattle.budget.specs.declared.stream.Stream.TheVariants.{Meta}
use Rattle.collection.specs.declared.fault.EngineFault.{EngineFault}
use Rattle.collection.specs.declared.fault.EngineFault.TheVariants.{ReadOnly, SequenceSpent, Damaged, Bus}
use Rattle.collection.specs.State.{Ram, Pin}
use Rattle.collection.specs.Safe.{is_shut}
use Rattle.collection.specs.Left.{TouchesNoMore}
use Rattle.collection.specs.Pages.{newest_row}
use Rattle.collection.specs.Live.{IsLivePage}
use Rattle.collection.specs.Looks.{HoldsNewest}
use Rattle.collection.specs.Cost.{PageCosts}
use Rattle.collection.specs.Results.{IsLastPage, IsWrittenBack, Refused}
use Rattle.collection.specs.Settle.{SetsMapping, BringsOut, Cleans}
use Rattle.collection.specs.Collect.{HasCopied, HasBroughtOut, IsMovedOut, FaultCosts, Refreshes}
use Rattle.collection.proofs.MapLemmas.{entry_here}
use Rattle.collection.proofs.Copies.{refreshes_same}
use Rattle.collection.proofs.Dues.{cleaned_due, cleaned_refreshes}
use Rattle.collection.proofs.Lefts.{cleaned_touches}

-- ---- the mapping

-- a page was copied: no translation page, where sectors may wait
pub brings_copied : (key : Key) (row : ℕ) (m m' : MappingState) → ((t : ℕ) → key ≡ Translation t → m.share ≡ 0) → SetsMapping key row m m' → BringsOut key row m m'
brings_copied (Sector n) row m m' none sets = sets
brings_copied (Translation t) row m m' none sets = (let zero = none t refl in record { copied = λ unshared. sets; written = λ some. absurd (omega (arith, zero, some)) })
brings_copied (Table u) row m m' none sets = sets

-- a translation page was written back, where they may
pub brings_written : (key : Key) (t row : ℕ) (m m' : MappingState) → key ≡ Translation t → 0 < m.share → m' ≡ cleaned m t → BringsOut key row m m'
brings_written key t row m m' is some clean =
    let brought : BringsOut (Translation t) row m m' = record { copied = λ unshared. absurd (omega (arith, unshared, some)); written = λ shared. clean } in
    let P : Key → Type 0 = λ k. BringsOut k row m m' in
    subst P (sym is) brought

-- with share 0 each was copied
unshared_sets : (key : Key) (row : ℕ) (m m' : MappingState) → m.share ≡ 0 → BringsOut key row m m' → SetsMapping key row m m'
unshared_sets (Sector n) row m m' unshared brings = brings
unshared_sets (Translation t) row m m' unshared brings = brings.copied unshared
unshared_sets (Table u) row m m' unshared brings = brings

pub unshared_copy_law : Rattle.collection.specs.Left.UnsharedCopyLaw
unshared_copy_law flushing old new unshared = (
  λ h. record { stream = h.stream; put = h.put; key = h.key; row = h.row; sets = unshared_sets h.key h.row old.mapping new.mapping unshared h.sets; moved = h.moved; due = h.due },
  λ h. record { stream = h.stream; put = h.put; key = h.key; row = h.row; sets = brings_copied h.key h.row old.mapping new.mapping (λ t is. unshared) h.sets; moved = h.moved; due = h.due },
)

-- ---- what it costs

-- a copy
pub copied_out : (flushing : Bool) (key : Key) (a b : Ram) (result : Result (Unit {0}) EngineFault) → ((t : ℕ) → key ≡ Translation t → a.mapping.share ≡ 0)
    → MatchResult result (λ _. HasCopied flushing a b) (FaultCosts a b) → OnOk result ((at : ℕ) × SetsMapping key at a.mapping b.mapping)
    → MatchResult result (λ _. HasBroughtOut flushing a b) (FaultCosts a b)
copied_out flushing key a b (Ok done) none cost sets = record { stream = cost.stream; put = cost.put; key = key; row = sets.0; sets = brings_copied key sets.0 a.mapping b.mapping none sets.1; moved = cost.moved; due = cost.due }
copied_out flushing key a b (Err fault) none cost sets = cost

pub copied_brings : (key : Key) (a b : MappingState) (result : Result (Unit {0}) EngineFault) → ((t : ℕ) → key ≡ Translation t → a.share ≡ 0)
    → OnOk result ((at : ℕ) × SetsMapping key at a b) → OnOk result ((at : ℕ) × BringsOut key at a b)
copied_brings key a b (Ok done) none sets = (sets.0, brings_copied key sets.0 a b none sets.1)
copied_brings key a b (Err fault) none sets = tt

-- a write-back
fault_written : (a b : Ram) (fault : EngineFault) → PageCosts Meta a b (Err fault) → FaultCosts a b fault
fault_written a b ReadOnly cost = record { stream = Meta; out = cost }
fault_written a b SequenceSpent cost = record { stream = Meta; spent = cost }
fault_written a b Damaged cost = absurd cost
fault_written a b Bus cost = tt

pub written_out : (flushing : Bool) (key : Key) (t : ℕ) (a b : Ram) (result : Result (Unit {0}) EngineFault) → key ≡ Translation t → 0 < a.mapping.share
    → t < translation_pages a.geometry → b.geometry ≡ a.geometry → b.pin ≡ a.pin → length b.mapping.moved ≤ length a.mapping.moved
    → PageCosts Meta a b result → OnOk result (b.mapping ≡ cleaned a.mapping t)
    → MatchResult result (λ _. HasBroughtOut flushing a b) (FaultCosts a b)
written_out flushing key t a b (Ok done) is some lt same pin fewer cost clean = record {
  stream = Meta;
  put = cost;
  key = key;
  row = 0;
  sets = brings_written key t 0 a.mapping b.mapping is some clean;
  moved = omega (arith, fewer);
  due = cleaned_due t a b (record { geometry = same; mapping = clean; marks = ap (λ p. p.marks) pin }) flushing lt;
}
written_out flushing key t a b (Err fault) is some lt same pin fewer cost clean = fault_written a b fault cost

-- what it leaves of the mapping
pub written_brings : (key : Key) (t : ℕ) (a b : Ram) (result : Result (Unit {0}) EngineFault) → key ≡ Translation t → 0 < a.mapping.share → OnOk result (b.mapping ≡ cleaned a.mapping t)
    → OnOk result ((at : ℕ) × BringsOut key at a.mapping b.mapping)
written_brings key t a b (Ok done) is some clean = (0, brings_written key t 0 a.mapping b.mapping is some clean)
written_brings key t a b (Err fault) is some clean = tt

pub written_fresh : (t : ℕ) (a b : Ram) (result : Result (Unit {0}) EngineFault) → b.geometry ≡ a.geometry → b.pin ≡ a.pin → OnOk result (b.mapping ≡ cleaned a.mapping t)
    → OnOk result (Cleans (per_page a.mapping) t a.mapping b.mapping) → OnErr result (b.mapping ≡ a.mapping) → Refreshes a b
written_fresh t a b (Ok done) same pin clean cleans kept = cleaned_refreshes t a b (record { geometry = same; mapping = clean; marks = ap (λ (p : Pin). p.marks) pin }) cleans
written_fresh t a b (Err fault) same pin clean cleans kept = refreshes_same a b kept pin

-- ---- the page in the buffer

-- what kind a translation page is of
kind_of_page : (k : Kind) (n t : ℕ) → key_from k n ≡ Translation t → (kind.Translation ≡ k) × (t ≡ n)
kind_of_page kind.Sector n t is = (let never : ⊥ = cc in absurd never)
kind_of_page kind.Trim n t is = (let never : ⊥ = cc in absurd never)
kind_of_page kind.Translation n t is = (refl, cc)
kind_of_page kind.Table n t is = (let never : ⊥ = cc in absurd never)

pub written_last : (rec : Record) (t : ℕ) (b : Ram) (p : Page) (result : Result (Unit {0}) EngineFault) → key_of rec ≡ Translation t → OnOk result (IsLastPage kind.Translation t b p) → OnOk result (IsLastPage rec.kind rec.number b p)
written_last rec t b p (Ok done) is last =
    let e = kind_of_page rec.kind rec.number t is in
    subst (λ k. IsLastPage k rec.number b p) e.0 (subst (λ n. IsLastPage kind.Translation n b p) e.1 last)
written_last rec t b p (Err fault) is last = tt

-- the newest page of a key, where that is a translation page
pub holds_live : (g : Geometry) (image : Image) (t row : ℕ) (rec : Record) (body : List ℕ) → key_of rec ≡ Translation t → IsLivePage row body rec image → HoldsNewest t (Some row) body g image
holds_live g image t row rec body is l =
    let newest_is : newest_row image (Translation t) ≡ Some row = ap (newest_row image) (sym is) ∙ l.newest in
    record {
      newest = newest_is;
      loaded = record {
        entry = λ n of_page.
            let here : newest_row image (Translation (n / entries g)) ≡ Some row = ap (λ k. newest_row image (Translation k)) of_page ∙ newest_is in
            ap (λ b. entry_at b (n % entries g)) (sym l.holds) ∙ sym (entry_here g image n row here);
      };
    }

-- ---- where the die is honest

pub written_touches : (flushing : Bool) (t block : ℕ) (r r' : Ram) (x y : Image) (result : Result (Unit {0}) EngineFault) → r'.geometry ≡ r.geometry → r'.pin ≡ r.pin
    → length r'.mapping.moved ≤ length r.mapping.moved → is_shut r.blocks block ≡ true → OnOk result (r'.mapping ≡ cleaned r.mapping t)
    → MatchResult result (λ _. IsWrittenBack t r x r' y) (Refused r x r' y) → OnOk result (TouchesNoMore flushing block r x r' y)
written_touches flushing t block r r' x y (Ok done) same pin fewer shut clean written = cleaned_touches flushing t block r r' x y (record { geometry = same; mapping = clean; marks = ap (λ p. p.marks) pin }) fewer shut written.same.leaves
written_touches flushing t block r r' x y (Err fault) same pin fewer shut clean written = tt

pub moved_result : (t row : ℕ) (r r' : Ram) (x y : Image) (result : Result (Unit {0}) EngineFault) → MatchResult result (λ _. IsWrittenBack t r x r' y) (Refused r x r' y)
    → OnOk result (IsMovedOut row r x r' y) → MatchResult result (λ _. IsMovedOut row r x r' y) (Refused r x r' y)
moved_result t row r r' x y (Ok done) written moved = moved
moved_result t row r r' x y (Err fault) written moved = written
