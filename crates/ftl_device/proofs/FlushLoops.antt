-- What the steps of a flush keep, one after another.
use Rattle.std.proofs.Common.{MatchResult}
use Rattle.std.proofs.Common.{◌≡◌, inl, inr, ℕ, ◌+◌, ◌*◌, ◌/◌, ◌<◌, ◌≤◌, false, None, refl, sym, ap, subst, ◌∙◌, arith, Result, Err, Ok, OnOk}
use Rattle.std.proofs.lemmas.Bool.{cases_eq}
use Rattle.page_layout.specs.declared.geometry.Geometry.{Geometry}
use Rattle.page_layout.specs.Page.{Image}
use Rattle.page_layout.specs.Geometry.{entries, translation_pages, table_pages}
use Rattle.page_layout.specs.Array.{array_of}
use Rattle.page_layout.specs.declared.record.Key.TheVariants.{Table}
use Rattle.page_layout.specs.Sound.{version_for}
use Rattle.page_layout.specs.Version.{is_old}
use Rattle.bad_blocks.specs.Table.{good_count}
use Rattle.budget.specs.Counts.{Counts, FitsGoodBlocks}
use Rattle.budget.specs.Spending.{Spending}
use Rattle.budget.specs.Put.{StreamPut, NoneFree}
use Rattle.budget.proofs.AccountLemmas.{no_page, one_page, few_meta_openings}
use Rattle.std.proofs.Math.Nat.{mul-le-mul_right, mul_comm}
use Rattle.page_layout.proofs.GeometryLemmas.{table_fits, sector_entry}
use Rattle.allocation.proofs.TallyLemmas.{fits}
use Rattle.budget.specs.declared.stream.Stream.TheVariants.{Meta}
use Rattle.mapping_cache.specs.Mapping.{MappingState, HasLimitsOf, per_page, pending}
use Rattle.collection.specs.Settle.{Cleans}
use Rattle.allocation.specs.State.{free_count}
use Rattle.allocation.specs.Counts.{counts_of}
use Rattle.collection.specs.declared.fault.EngineFault.{EngineFault}
use Rattle.collection.specs.declared.fault.EngineFault.TheVariants.{ReadOnly, SequenceSpent, Damaged, Bus}
use Rattle.collection.specs.State.{Ram}
use Rattle.collection.specs.Tables.{SpellsTable}
use Rattle.collection.specs.Safe.{IsRam}
use Rattle.collection.specs.Cost.{HasPut, HasRunOut, PageCosts}
use Rattle.collection.specs.Results.{IsSame, Refused, IsWrittenBack, IsTabled, KeepsTable}
use Rattle.ftl_device.specs.declared.fault.CallFault.TheVariants.{Engine}
use Rattle.collection.specs.Left.{LeavesPin}
use Rattle.ftl_device.specs.Calls.{Knows, KeepsArray, CallRefused}
use Rattle.ftl_device.proofs.PinLemmas.{keeps_beside, refused_beside}
use Rattle.ftl_device.proofs.RenewedLemmas.{adds_then, still_new}
use Rattle.ftl_device.specs.Flush.{IsClean, KeepsClean, KeepsTables, HasNewTables, AddsPages, FailsAmong, RunsOut, SpellsAll, WritesTables, IsFlushed}

pub keeps_same : (r : Ram) (image : Image) → Knows r image → KeepsArray r.geometry image r image
keeps_same r image w = record { truth = w; array = refl; versions = λ two key row at. at }

pub keeps_then : (g : Geometry) (b c : Ram) (x y z : Image) → b.geometry ≡ g → KeepsArray g x b y → KeepsArray b.geometry y c z → KeepsArray g x c z
keeps_then g b c x y z same k l = record { truth = l.truth; array = (let P : Geometry → Type 0 = λ h. array_of h z ≡ array_of h y in subst P same l.array ∙ k.array); versions = adds_then g b.geometry x y z same k.versions l.versions }

pub keeps_refused : (g : Geometry) (b c : Ram) (x y z : Image) (fault : EngineFault) → b.geometry ≡ g → KeepsArray g x b y → CallRefused b.geometry y c z (Engine fault) → CallRefused g x c z (Engine fault)
keeps_refused g b c x y z ReadOnly same k l = record { truth = l.truth; array = (let P : Geometry → Type 0 = λ h. array_of h z ≡ array_of h y in subst P same l.array ∙ k.array); versions = adds_then g b.geometry x y z same k.versions l.versions }
keeps_refused g b c x y z SequenceSpent same k l = record { truth = l.truth; array = (let P : Geometry → Type 0 = λ h. array_of h z ≡ array_of h y in subst P same l.array ∙ k.array); versions = adds_then g b.geometry x y z same k.versions l.versions; few = l.few }
keeps_refused g b c x y z Damaged same k l = l
keeps_refused g b c x y z Bus same k l = tt

-- the same after a call of the engine
pub engine_keeps : (g : Geometry) (b c : Ram) (x y z : Image) → b.geometry ≡ g → IsRam b → IsRam c → LeavesPin b c → KeepsArray g x b y → IsSame b y c z → KeepsArray g x c z
engine_keeps g b c x y z same s t beside k l = keeps_then g b c x y z same k (keeps_beside b c y z s t beside k.truth l)

pub engine_refused : (g : Geometry) (b c : Ram) (x y z : Image) (fault : EngineFault) → b.geometry ≡ g → IsRam b → IsRam c → LeavesPin b c → KeepsArray g x b y → Refused b y c z fault → CallRefused g x c z (Engine fault)
engine_refused g b c x y z fault same s t beside k l = keeps_refused g b c x y z fault same k (refused_beside b c y z s t beside k.truth fault l)

-- a translation page was written back
pub back_after : (result : Result (Unit {0}) EngineFault) (t : ℕ) (g : Geometry) (b c : Ram) (x y z : Image) → b.geometry ≡ g → IsRam b → IsRam c
    → LeavesPin b c → KeepsArray g x b y → MatchResult result (λ done. IsWrittenBack t b y c z) (Refused b y c z)
    → MatchResult result (λ done. KeepsArray g x c z) (λ fault. CallRefused g x c z (Engine fault))
back_after (Ok done) t g b c x y z same s s' beside k l = engine_keeps g b c x y z same s s' beside k l.same
back_after (Err fault) t g b c x y z same s s' beside k l = engine_refused g b c x y z fault same s s' beside k l

pub limits_then : (a b c : MappingState) → HasLimitsOf a b → HasLimitsOf b c → HasLimitsOf a c
limits_then a b c x y = record { geometry = y.geometry ∙ x.geometry; capacity = y.capacity ∙ x.capacity; share = y.share ∙ x.share }

-- ---- table pages

pub pages_none : (r : Ram) → AddsPages 0 r r
pages_none r = record { account = λ first pages a. (let e : pages + 0 ≡ pages = omega arith in rw e a) }

pub pages_more : (k : ℕ) (a b c : Ram) → b.geometry ≡ a.geometry → AddsPages k a b → HasPut Meta b c → AddsPages (k + 1) a c
pages_more k a b c same x h = record {
  account = λ first pages acc.
      let put = subst (λ (g : Geometry). StreamPut Meta g.pages h.failures (counts_of b.blocks) (counts_of c.blocks)) same h.put in
      let all : Spending a.geometry.pages first (counts_of c.blocks) 0 (pages + k + 1) = one_page Meta a.geometry.pages h.failures 0 (pages + k) first (counts_of b.blocks) (counts_of c.blocks) (x.account first pages acc) put in
      let e : pages + k + 1 ≡ pages + (k + 1) = omega arith in
      subst (λ n. Spending a.geometry.pages first (counts_of c.blocks) 0 n) e all;
}

pub tables_none : (r : Ram) (image : Image) → Knows r image → KeepsTables 0 r image r image
tables_none r image w = record { keeps = keeps_same r image w; tables = λ as_many u lt. absurd (omega arith); renewed = λ two u lt. absurd (omega arith) }

pub tables_more : (k : ℕ) (a b c : Ram) (x y z : Image) → b.geometry ≡ a.geometry → IsRam b → IsRam c → LeavesPin b c → KeepsTable a.blocks b.blocks → KeepsTable b.blocks c.blocks → KeepsTables k a x b y → IsTabled k b y c z → KeepsTables (k + 1) a x c z
tables_more k a b c x y z same s s' beside before after h t = record {
  keeps = engine_keeps a.geometry b c x y z same s s' beside h.keeps t.same;
  tables = λ as_many u lt.
      let first : good_count b.blocks.table ≡ good_count a.blocks.table = omega (arith, before.fewer, after.fewer) in
      let then : good_count c.blocks.table ≡ good_count b.blocks.table = omega (arith, before.fewer, after.fewer) in
      let rows : c.blocks.table ≡ b.blocks.table = after.same then in
      elim (cases_eq u k) [
        | inl last ↦ subst (λ v. SpellsTable a.geometry c.blocks.table z v) (sym last) (subst (λ r. SpellsTable a.geometry r z k) (sym rows) (subst (λ g. SpellsTable g b.blocks.table z k) same t.now))
        | inr other ↦
            let was : SpellsTable b.geometry b.blocks.table y u = subst (λ g. SpellsTable g b.blocks.table y u) (sym same) (h.tables first u (omega arith)) in
            let is : SpellsTable b.geometry b.blocks.table z u = t.others u b.blocks.table other was in
            subst (λ r. SpellsTable a.geometry r z u) (sym rows) (subst (λ g. SpellsTable g b.blocks.table z u) same is)
      ];
  renewed = λ two u lt.
      let here : version_for b.geometry ≡ 2 = ap version_for same ∙ two in
      elim (cases_eq u k) [
        | inl last ↦ subst (λ v. is_old z (Table v) ≡ false) (sym last) (t.renewed here)
        | inr other ↦ still_new b.geometry y z (Table u) here t.same.leaves.versions (h.renewed two u (omega arith))
      ];
}

pub tabled_refused : (k : ℕ) (a b c : Ram) (x y z : Image) (fault : EngineFault) → b.geometry ≡ a.geometry → IsRam b → IsRam c → LeavesPin b c → KeepsTables k a x b y → Refused b y c z fault → CallRefused a.geometry x c z (Engine fault)
tabled_refused k a b c x y z fault same s t beside h l = engine_refused a.geometry b c x y z fault same s t beside h.keeps l

-- ---- translation pages

pub clean_more : (k : ℕ) (g h : Geometry) (a b : MappingState) → h ≡ g → k < translation_pages g → ((t : ℕ) → t < k → IsClean g t a) → KeepsClean h a b → IsClean h k b → (t : ℕ) → t < k + 1 → IsClean g t b
clean_more k g h a b same within before keeps now t lt = elim (cases_eq t k) [
  | inl last ↦ subst (λ j. IsClean g j b) (sym last) (subst (λ x. IsClean x k b) same now)
  | inr other ↦ subst (λ x. IsClean x t b) same (keeps.still t (let e : translation_pages h ≡ translation_pages g = ap translation_pages same in omega arith) (subst (λ x. IsClean x t a) (sym same) (before t (omega arith))))
]

-- room is made, and then a page is written back
pub keeps_cleaned : (result : Result (Unit {0}) EngineFault) (g : Geometry) (a b c : MappingState) (t : ℕ) → KeepsClean g a b → OnOk result (Cleans (per_page b) t b c) → OnOk result (KeepsClean g a c)
keeps_cleaned (Ok done) g a b c t k x = record {
  still = λ p within was. record {
    none = λ n of_page. elim (cases_eq (n / per_page b) t) [ inl here ↦ x.clean n here | inr other ↦ x.others n other ∙ (k.still p within was).none n of_page ];
  };
}
keeps_cleaned (Err fault) g a b c t k x = tt

-- ---- rounds of table pages

-- so many rounds were written, of which each but the last saw a failure; so many blocks were good as the last began
pub record HasRounds (good : ℕ) (old new : Ram) : Type 0 where
  pub rounds : ℕ
  pub few : rounds + good ≤ good_count old.blocks.table + 1
  pub account : Spending old.geometry.pages (counts_of old.blocks) (counts_of new.blocks) 0 (rounds * table_pages old.geometry)

-- the newest table pages are new, and where that many blocks are good they spell the table
pub record SpellsWhere (good : ℕ) (g : Geometry) (before : Image) (new : Ram) (after : Image) : Type 0 where
  pub keeps : KeepsArray g before new after
  pub tables : good_count new.blocks.table ≡ good → (u : ℕ) → u < table_pages g → SpellsTable g new.blocks.table after u
  pub renewed : HasNewTables (table_pages g) g after

pub first_round : (good : ℕ) (a b : Ram) → IsRam a → good ≡ good_count a.blocks.table → AddsPages (table_pages a.geometry) a b → HasRounds good a b
first_round good a b s is x =
    let fits_here : FitsGoodBlocks a.geometry.pages (counts_of a.blocks) = subst (λ (g : Geometry). FitsGoodBlocks g.pages (counts_of a.blocks)) s.blocks_of (fits (free_count a.blocks) a.blocks s.blocks) in
    let all : Spending a.geometry.pages (counts_of a.blocks) (counts_of b.blocks) 0 (0 + table_pages a.geometry) = x.account (counts_of a.blocks) 0 (no_page a.geometry.pages (counts_of a.blocks) fits_here) in
    let e : 0 + table_pages a.geometry ≡ 1 * table_pages a.geometry = omega arith in
    record { rounds = 1; few = omega arith; account = subst (λ n. Spending a.geometry.pages (counts_of a.blocks) (counts_of b.blocks) 0 n) e all }

pub next_round : (good now : ℕ) (a b c : Ram) → b.geometry ≡ a.geometry → now ≡ good_count b.blocks.table → now < good → HasRounds good a b → AddsPages (table_pages b.geometry) b c → HasRounds now a c
next_round good now a b c same is lt h x =
    let more = subst (λ (g : Geometry). (first : Counts) (pages : ℕ) → Spending g.pages first (counts_of b.blocks) 0 pages → Spending g.pages first (counts_of c.blocks) 0 (pages + table_pages g)) same x.account in
    let all : Spending a.geometry.pages (counts_of a.blocks) (counts_of c.blocks) 0 (h.rounds * table_pages a.geometry + table_pages a.geometry) = more (counts_of a.blocks) (h.rounds * table_pages a.geometry) h.account in
    let e : h.rounds * table_pages a.geometry + table_pages a.geometry ≡ (h.rounds + 1) * table_pages a.geometry = omega arith in
    record { rounds = h.rounds + 1; few = omega (arith, h.few); account = subst (λ n. Spending a.geometry.pages (counts_of a.blocks) (counts_of c.blocks) 0 n) e all }

pub last_round : (good : ℕ) (a b : Ram) → HasRounds good a b → good_count b.blocks.table ≤ good → WritesTables a b
last_round good a b h ge =
    let few = table_fits a.geometry in
    let swapped : table_pages a.geometry * h.rounds ≤ a.geometry.pages * h.rounds = mul-le-mul_right h.rounds few in
    let times : h.rounds * table_pages a.geometry ≤ h.rounds * a.geometry.pages = (let p = mul_comm h.rounds (table_pages a.geometry) in let q = mul_comm h.rounds a.geometry.pages in omega arith) in
    let open_left : (counts_of b.blocks).meta_left < a.geometry.pages = h.account.meta_open in
    let room : (h.rounds + 1) * a.geometry.pages ≡ h.rounds * a.geometry.pages + a.geometry.pages = omega arith in
    let opened = few_meta_openings a.geometry.pages (h.rounds * table_pages a.geometry) h.rounds (counts_of a.blocks) (counts_of b.blocks) h.account (omega arith) in
    record { rounds = h.rounds; few = omega (arith, h.few); account = h.account; openings = omega (arith, h.few) }

pub spells_first : (good : ℕ) (a b : Ram) (x y : Image) → good ≡ good_count a.blocks.table → KeepsTables (table_pages a.geometry) a x b y → SpellsWhere good a.geometry x b y
spells_first good a b x y is h = record { keeps = h.keeps; tables = λ as_many. h.tables (as_many ∙ is); renewed = h.renewed }

pub spells_next : (now : ℕ) (g : Geometry) (b c : Ram) (x y z : Image) → b.geometry ≡ g → now ≡ good_count b.blocks.table → KeepsArray g x b y → KeepsTables (table_pages b.geometry) b y c z → SpellsWhere now g x c z
spells_next now g b c x y z same is k h = record {
  keeps = keeps_then g b c x y z same k h.keeps;
  tables = λ as_many. subst (λ j. (u : ℕ) → u < table_pages j → SpellsTable j c.blocks.table z u) same (h.tables (as_many ∙ is));
  renewed = subst (λ j. HasNewTables (table_pages j) j z) same h.renewed;
}

pub spells_last : (good : ℕ) (g : Geometry) (x : Image) (b : Ram) (y : Image) → SpellsWhere good g x b y → good ≤ good_count b.blocks.table → good_count b.blocks.table ≤ good → SpellsAll g x b y
spells_last good g x b y h le ge = record { keeps = h.keeps; tables = h.tables (omega arith); renewed = h.renewed }

-- ---- no block is left

abbrev refused : EngineFault → Result (Unit {0}) EngineFault
refused fault = Err fault

fails_by : (b c : Ram) (fault : EngineFault) → PageCosts Meta b c (Err fault) → refused fault ≡ refused ReadOnly → HasRunOut Meta b c
fails_by b c ReadOnly h e = h
fails_by b c SequenceSpent h e = (let no : ⊥ = cc in absurd no)
fails_by b c Damaged h e = (let no : ⊥ = cc in absurd no)
fails_by b c Bus h e = (let no : ⊥ = cc in absurd no)

pub page_fails : (k most : ℕ) (a b c : Ram) (fault : EngineFault) → b.geometry ≡ a.geometry → k < most → KeepsTable a.blocks b.blocks → AddsPages k a b → PageCosts Meta b c (Err fault) → refused fault ≡ refused ReadOnly → FailsAmong most a c
page_fails k most a b c fault same lt table used cost is = record { mid = b; geometry = same; pages = k; few = omega arith; fewer = table.fewer; used = used; out = fails_by b c fault cost is }

pub free_most : (failures free left : ℕ) → NoneFree failures free left → free ≤ failures
free_most failures free left n = elim n.cases [ inl c ↦ omega (arith, c.1) | inr c ↦ omega (arith, c.1) ]

-- in the first round
pub first_fails : (a c : Ram) → IsRam a → FailsAmong (table_pages a.geometry) a c → RunsOut a c
first_fails a c s h =
    let fits_here : FitsGoodBlocks a.geometry.pages (counts_of a.blocks) = subst (λ (g : Geometry). FitsGoodBlocks g.pages (counts_of a.blocks)) s.blocks_of (fits (free_count a.blocks) a.blocks s.blocks) in
    let all : Spending a.geometry.pages (counts_of a.blocks) (counts_of h.mid.blocks) 0 (0 + h.pages) = h.used.account (counts_of a.blocks) 0 (no_page a.geometry.pages (counts_of a.blocks) fits_here) in
    let few = table_fits a.geometry in
    let left : (counts_of h.mid.blocks).meta_left < a.geometry.pages = all.meta_open in
    let room : (1 + 1) * a.geometry.pages ≡ a.geometry.pages + a.geometry.pages = omega arith in
    let opened = few_meta_openings a.geometry.pages (0 + h.pages) 1 (counts_of a.blocks) (counts_of h.mid.blocks) all (omega (arith, h.few)) in
    let gone = free_most h.out.failures (free_count h.mid.blocks) (counts_of h.mid.blocks).meta_left h.out.found.none in
    omega (arith, opened, gone, h.out.found.good, h.fewer)

-- in a later one
pub later_fails : (good now : ℕ) (a b c : Ram) → b.geometry ≡ a.geometry → now ≡ good_count b.blocks.table → now < good → HasRounds good a b → FailsAmong (table_pages b.geometry) b c → RunsOut a c
later_fails good now a b c same is lt r h =
    let more = subst (λ (g : Geometry). (first : Counts) (pages : ℕ) → Spending g.pages first (counts_of b.blocks) 0 pages → Spending g.pages first (counts_of h.mid.blocks) 0 (pages + h.pages)) same h.used.account in
    let all : Spending a.geometry.pages (counts_of a.blocks) (counts_of h.mid.blocks) 0 (r.rounds * table_pages a.geometry + h.pages) = more (counts_of a.blocks) (r.rounds * table_pages a.geometry) r.account in
    let sized : table_pages b.geometry ≡ table_pages a.geometry = ap table_pages same in
    let few = table_fits a.geometry in
    let swapped : table_pages a.geometry * r.rounds ≤ a.geometry.pages * r.rounds = mul-le-mul_right r.rounds few in
    let times : r.rounds * table_pages a.geometry ≤ r.rounds * a.geometry.pages = (let p = mul_comm r.rounds (table_pages a.geometry) in let q = mul_comm r.rounds a.geometry.pages in omega arith) in
    let left : (counts_of h.mid.blocks).meta_left < a.geometry.pages = all.meta_open in
    let room : (r.rounds + 1 + 1) * a.geometry.pages ≡ r.rounds * a.geometry.pages + a.geometry.pages + a.geometry.pages = omega arith in
    let opened = few_meta_openings a.geometry.pages (r.rounds * table_pages a.geometry + h.pages) (r.rounds + 1) (counts_of a.blocks) (counts_of h.mid.blocks) all (omega (arith, h.few)) in
    let gone = free_most h.out.failures (free_count h.mid.blocks) (counts_of h.mid.blocks).meta_left h.out.found.none in
    omega (arith, opened, gone, h.out.found.good, h.fewer, r.few)

-- ---- the end

pub clean_then : (g h : Geometry) (a b : MappingState) → h ≡ g → ((t : ℕ) → t < translation_pages g → IsClean g t a) → KeepsClean h a b → (t : ℕ) → t < translation_pages g → IsClean g t b
clean_then g h a b same before keeps t lt = subst (λ x. IsClean x t b) same (keeps.still t (let e : translation_pages h ≡ translation_pages g = ap translation_pages same in omega arith) (subst (λ x. IsClean x t a) (sym same) (before t lt)))

pub flushed_by : (g h : Geometry) (m : MappingState) (r : Ram) (x y : Image) → r.geometry ≡ g → h ≡ g → ((t : ℕ) → t < translation_pages g → IsClean g t m) → r.mapping ≡ m → SpellsAll h x r y → IsFlushed r y
flushed_by g h m r x y same also clean is spells = record {
  clean = λ n lt.
      let within : n < g.sectors = subst (λ (j : Geometry). n < j.sectors) same lt in
      let none : pending m n ≡ None = (clean (n / entries g) (sector_entry g n within)).none n refl in
      ap (λ k. pending k n) is ∙ none;
  tables = subst (λ j. (u : ℕ) → u < table_pages j → SpellsTable j r.blocks.table y u) (also ∙ sym same) spells.tables;
}
