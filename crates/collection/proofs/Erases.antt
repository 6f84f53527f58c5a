-- A block is erased, or fails.
use Rattle.std.proofs.Common.{◌≡◌, ◌≢◌, inl, inr, ℕ, ◌+◌, ◌*◌, ◌/◌, ◌<◌, ◌≤◌, ◌&&◌, ◌==◌, min, Bool, true, false, not, List, [], ◌∷◌, length, get_or}
use Rattle.std.proofs.Common.{Vec, Global, replicate, Option, None, Ok, IsSome, refl, ap, sym, ◌∙◌, subst, arith, get_or-set_same}
use Rattle.std.proofs.lemmas.Bool.{cases_eq, eq-eqb, ne_eqb}
use Rattle.std.proofs.lemmas.List.{length-replicate}
use Rattle.std.proofs.lemmas.Nat.{div-mul-add}
use Rattle.page_layout.specs.declared.geometry.Geometry.{Geometry}
use Rattle.page_layout.specs.Geometry.{translation_pages, table_pages, row_count}
use Rattle.page_layout.specs.Page.{Image, Page, IsImage}
use Rattle.page_layout.specs.Array.{marks}
use Rattle.page_layout.specs.View.{View}
use Rattle.page_layout.specs.DieCalls.{AsksOnly}
use Rattle.page_layout.specs.Flash.{Flash, Erase, Steps, IsWhole, block_at}
use Rattle.page_layout.specs.Recording.{Recording, Records}
use Rattle.page_layout.specs.Change.{HoldsNone, Keeps, LosesIn, ErasesIn, IsErasedAt, one_if}
use Rattle.page_layout.proofs.FlashLemmas.{Leads-one, erase_keeps, erase_loses, erase_erases}
use Rattle.page_layout.proofs.ErasedLemmas.{erases_erased}
use Rattle.page_layout.proofs.GeometryLemmas.{row_within}
use Rattle.bad_blocks.specs.declared.table.TableRow.{TableRow}
use Rattle.bad_blocks.specs.declared.class.Class.TheVariants.{Grown}
use Rattle.bad_blocks.specs.Table.{is_good, is_good_at, wear_at, class_at, most_wear, no_table_row}
use Rattle.promises.specs.Log.{passed_erases_of}
use Rattle.promises.specs.Legal.{Account, account_at, account_after, accounted, LegalFrom}
use Rattle.promises.proofs.AccountLemmas.{length-accounted, accounted-same, accounted-other}
use Rattle.allocation.specs.declared.fill.Fill.{Fill}
use Rattle.allocation.specs.declared.blocks.Blocks.{Blocks}
use Rattle.allocation.specs.View.{state}
use Rattle.allocation.specs.State as blocks
use Rattle.allocation.specs.State.{State, pointer_at, live_at, is_closed, free_count}
use Rattle.allocation.specs.Step.{erased, without}
use Rattle.allocation.proofs.SafeLemmas.{fill_same, fill_other, safe_erased, safe_without, closed_parts, good_erased, good_retired}
use Rattle.allocation.proofs.OtherLemmas.{failed_others, erased_others}
use Rattle.collection.specs.State.{Ram}
use Rattle.collection.specs.Safe.{IsRam, IsSafe, ram, image_in}
use Rattle.collection.specs.declared.engine.Engine.{Engine}
use Rattle.collection.specs.Acts.{EngineActs}
use Rattle.collection.specs.Truth.{IsTrue, AreFilled, HasFormedTablePage}
use Rattle.collection.specs.Log.{IsAccounted, FollowsLog, Went}
use Rattle.collection.specs.Maps.{Maps}
use Rattle.collection.specs.Results.{IsImageKept}
use Rattle.collection.specs.Collect.{GoesBut, IsReleased}
use Rattle.collection.proofs.Blocks.{IsMade, safe_counted}
use Rattle.collection.proofs.Logs.{barred_by}
use Rattle.collection.proofs.Looks.{ok_not_bus}
use Rattle.collection.proofs.MapLemmas.{maps_stays}
use Rattle.collection.proofs.Wears.{worn_grown}
use Rattle.collection.proofs.Truths.{sound_same, erased_same, tables_kept}

-- ---- the blocks

pub made_erased : (s : State) (block : ℕ) → blocks.AreBlocksSafe (free_count s) s → block < s.geometry.blocks → is_closed s block ≡ true → IsMade block s (erased block s)
made_erased s block safe within closed = record {
  geometry = refl;
  safe = safe_counted _ (erased block s) (safe_erased (free_count s) s block within closed safe);
  others = λ c ne. (let o = erased_others s block c ne in record { row = o.row; pointer = o.pointer; closed = o.closed });
}

pub made_without : (s : State) (block : ℕ) → blocks.AreBlocksSafe (free_count s) s → block < s.geometry.blocks → IsMade block s (without block s)
made_without s block safe within = record {
  geometry = refl;
  safe = safe_counted _ (without block s) (safe_without (free_count s) s block within safe);
  others = λ c ne. (let o = failed_others s block c ne in record { row = o.row; pointer = o.pointer; closed = o.closed });
}

pub closed_good : (s : State) (block : ℕ) → is_closed s block ≡ true → is_good_at s.table block ≡ true
closed_good s block closed = (closed_parts s block closed).good

erased_pointer : (s : State) (block : ℕ) → block < length s.fills → pointer_at (erased block s) block ≡ 0
erased_pointer s block lt = ap (λ (f : Fill). f.pointer) (fill_same s block (record { pointer = 0; live = live_at s block }) lt)

erased_wear : (s : State) (block : ℕ) → block < length s.table → wear_at (erased block s).table block ≡ min (wear_at s.table block + 1) most_wear
erased_wear s block lt = ap (λ (x : TableRow). x.wear) (get_or-set_same s.table block (record { class = class_at s.table block; wear = min (wear_at s.table block + 1) most_wear }) no_table_row lt)

without_wear : (s : State) (block : ℕ) → block < length s.table → wear_at (without block s).table block ≡ wear_at s.table block
without_wear s block lt = ap (λ (x : TableRow). x.wear) (get_or-set_same s.table block (record { class = Grown; wear = wear_at s.table block }) no_table_row lt)

erased_live : (s : State) (block b : ℕ) → block < length s.fills → live_at (erased block s) b ≡ live_at s b
erased_live s block b lt = elim (cases_eq b block) [
  | inl same ↦
      let here : live_at (erased block s) block ≡ live_at s block = ap (λ (f : Fill). f.live) (fill_same s block (record { pointer = 0; live = live_at s block }) lt) in
      ap (live_at (erased block s)) same ∙ (here ∙ ap (live_at s) (sym same))
  | inr ne ↦ ap (λ (f : Fill). f.live) (fill_other s block b (record { pointer = 0; live = live_at s block }) ne)
]

-- whether it passed or not
abbrev pub ended : Bool → ℕ → State → State
ended true block s = erased block s
ended false block s = without block s

abbrev pub worn_by : Bool → ℕ → ℕ
worn_by true w = min (w + 1) most_wear
worn_by false w = w

pub record HasEnded (block : ℕ) (passed : Bool) (old new : State) : Type 0 where
  pub is_block : block < old.geometry.blocks
  pub was_good : is_good_at old.table block ≡ true
  pub made : IsMade block old new
  pub good : is_good_at new.table block ≡ passed
  pub pointer : passed ≡ true → pointer_at new block ≡ 0
  pub wear : wear_at new.table block ≡ worn_by passed (wear_at old.table block)
  pub live : (b : ℕ) → live_at new b ≡ live_at old b

pub has_ended : (passed : Bool) (s : State) (block : ℕ) → blocks.AreBlocksSafe (free_count s) s → block < s.geometry.blocks → is_closed s block ≡ true → HasEnded block passed s (ended passed block s)
has_ended true s block safe within closed = record {
  is_block = within;
  was_good = closed_good s block closed;
  made = made_erased s block safe within closed;
  good = good_erased s.table block block (omega (arith, safe.table_whole)) ∙ closed_good s block closed;
  pointer = λ did. erased_pointer s block (omega (arith, safe.fills_whole));
  wear = erased_wear s block (omega (arith, safe.table_whole));
  live = λ b. erased_live s block b (omega (arith, safe.fills_whole));
}
has_ended false s block safe within closed = record {
  is_block = within;
  was_good = closed_good s block closed;
  made = made_without s block safe within;
  good = good_retired s.table block (omega (arith, safe.table_whole));
  pointer = λ did. (let no : ⊥ = cc in absurd no);
  wear = without_wear s block (omega (arith, safe.table_whole));
  live = λ b. refl;
}

pub ended_by : (passed : Bool) (r : Ram) (block : ℕ) (t : State) → IsRam r → block < r.geometry.blocks → is_closed r.blocks block ≡ true → t ≡ ended passed block r.blocks → HasEnded block passed r.blocks t
ended_by passed r block t s within closed is = (let P : State → Type 0 = λ x. HasEnded block passed r.blocks x in subst P (sym is) (has_ended passed r.blocks block s.blocks (rw s.blocks_of within) closed))

pub released : (passed : Bool) (block : ℕ) (old new : State) → HasEnded block passed old new → IsReleased block old new
released true block old new h =
    let p : pointer_at new block ≡ 0 = h.pointer refl in
    inl (ap (λ g. g && (pointer_at new block == 0)) h.good ∙ eq-eqb (pointer_at new block) 0 p, h.wear)
released false block old new h = inr h.good

-- ---- the memory

pub record IsCleared (r r' : Ram) : Type 0 where
  pub geometry : r'.geometry ≡ r.geometry
  pub directory : r'.directory ≡ r.directory
  pub mapping : r'.mapping ≡ r.mapping
  pub next : r'.next ≡ r.next
  pub block : r'.pin.block ≡ r.pin.block
  pub marks : length r'.pin.marks ≡ length r.pin.marks

pub cleared_ram : (block : ℕ) (r r' : Ram) → IsRam r → IsCleared r r' → IsMade block r.blocks r'.blocks → IsRam r'
cleared_ram block r r' s t m = record {
  directory = ap length t.directory ∙ (s.directory ∙ ap (λ g. translation_pages g + table_pages g) (sym t.geometry));
  directory_rows = (let x = s.directory_rows in rw (t.directory, t.geometry) x);
  mapping = (let x = s.mapping in rw t.mapping x);
  mapping_of = (let x = s.mapping_of in rw (t.mapping, t.geometry) x);
  blocks = m.safe;
  blocks_of = m.geometry ∙ (s.blocks_of ∙ sym t.geometry);
  next = (let x = s.next in rw t.next x);
  marks = t.marks ∙ (s.marks ∙ ap translation_pages (sym t.geometry));
}

pub cleared_goes : (block : ℕ) (r r' : Ram) → IsCleared r r' → IsMade block r.blocks r'.blocks → GoesBut block r r'
cleared_goes block r r' t m = record { geometry = t.geometry; next = omega (arith, t.next); shut = λ b within ne is. m.others b ne }

-- ---- the log

module _ (pages block : ℕ) (passed : Bool) (left : List Page) (old new : State) (h : HasEnded block passed old new) where
  erase_legal : (accounts : List Account) → IsAccounted accounts old → LegalFrom pages accounts (Erase block passed left ∷ [])
  erase_legal accounts a = (record { good = a.barred block h.is_block ∙ ap not h.was_good }, tt)

  erase_accounted : (accounts : List Account) → IsAccounted accounts old → IsAccounted (accounted pages accounts (Erase block passed left)) new
  erase_accounted accounts a = record {
    size = length-accounted pages accounts (Erase block passed left) ∙ (a.size ∙ ap (λ g. g.blocks) (sym h.made.geometry));
    barred = λ b within. barred b (rw (← h.made.geometry) within);
    next = λ b within good. next b (rw (← h.made.geometry) within) good;
  }
    where
      after : ℕ → Account
      after b = account_at (accounted pages accounts (Erase block passed left)) b

      here : after block ≡ account_after (account_at accounts block) (Erase block passed left)
      here = accounted-same pages accounts (Erase block passed left) block refl (omega (arith, a.size, h.is_block))

      there : (b : ℕ) → b ≢ block → after b ≡ account_at accounts b
      there b ne = accounted-other pages accounts (Erase block passed left) b (λ e. ne (sym e))

      barred : (b : ℕ) → b < old.geometry.blocks → (after b).barred ≡ not (is_good_at new.table b)
      barred b within = barred_by block passed old new accounts after h.made h.good (ap (λ (x : Account). x.barred) here) there a b within

      next : (b : ℕ) → b < old.geometry.blocks → is_good_at new.table b ≡ true → (after b).next ≡ pointer_at new b
      next b within good = elim (cases_eq b block) [
        | inl same ↦
            let did : passed ≡ true = sym h.good ∙ (ap (is_good_at new.table) (sym same) ∙ good) in
            ap (λ k. (after k).next) same ∙ (ap (λ (x : Account). x.next) here ∙ (sym (h.pointer did) ∙ ap (pointer_at new) (sym same)))
        | inr ne ↦ ap (λ (x : Account). x.next) (there b ne) ∙ (a.next b within (ap is_good (sym (h.made.others b ne).row) ∙ good) ∙ sym (h.made.others b ne).pointer)
      ]

  pub erase_follows : FollowsLog pages (Erase block passed left ∷ []) old new
  erase_follows = record { legal = erase_legal; accounted = erase_accounted }

worn_once : (passed : Bool) (w v : ℕ) → v ≡ worn_by passed w → w ≤ most_wear → v ≡ min (w + (0 + one_if (passed && true))) most_wear
worn_once true w v is most = omega arith
worn_once false w v is most = omega arith

not_worn : (passed : Bool) → (passed && false) ≡ false
not_worn true = refl
not_worn false = refl

worn_here : (block : ℕ) (passed : Bool) (left : List Page) (w v b : ℕ) → b ≡ block → v ≡ worn_by passed w → w ≤ most_wear → v ≡ min (w + passed_erases_of (Erase block passed left ∷ []) b) most_wear
worn_here block passed left w v b same is most =
    let e : (block == b) ≡ true = eq-eqb block b (sym same) in
    worn_once passed w v is most ∙ ap (λ t. min (w + (0 + one_if (passed && t))) most_wear) (sym e)

worn_there : (block : ℕ) (passed : Bool) (left : List Page) (w v b : ℕ) → b ≢ block → v ≡ w → w ≤ most_wear → v ≡ min (w + passed_erases_of (Erase block passed left ∷ []) b) most_wear
worn_there block passed left w v b ne is most =
    let e : (block == b) ≡ false = ne_eqb block b (λ x. ne (sym x)) in
    let f : one_if (passed && (block == b)) ≡ 0 = ap (λ t. one_if (passed && t)) e ∙ ap one_if (not_worn passed) in
    omega (arith, f)

pub went_erase : (old new : Ram) (before after : Flash) (told told' : Option Recording) (block : ℕ) (passed : Bool) (left : List Page)
    → Steps before (Erase block passed left) after → Records told (Erase block passed left ∷ []) told'
    → HasEnded block passed old.blocks new.blocks → new.next ≡ old.next → Went old before told new after told'
went_erase old new before after told told' block passed left step records h next = record {
  log = Erase block passed left ∷ [];
  leads = Leads-one before after (Erase block passed left) step;
  records = records;
  follows = erase_follows old.geometry.pages block passed left old.blocks new.blocks h;
  next = omega (arith, next);
  wears = record {
    worn = λ b most. elim (cases_eq b block) [
      | inl same ↦ worn_here block passed left (wear_at old.blocks.table b) (wear_at new.blocks.table b) b same (ap (wear_at new.blocks.table) same ∙ (h.wear ∙ ap (λ k. worn_by passed (wear_at old.blocks.table k)) (sym same))) most
      | inr ne ↦ worn_there block passed left (wear_at old.blocks.table b) (wear_at new.blocks.table b) b ne (ap (λ (x : TableRow). x.wear) (h.made.others b ne).row) most
    ];
  };
  numbers = tt;
}

most_by : (passed : Bool) (w v : ℕ) → v ≡ worn_by passed w → w ≤ most_wear → v ≤ most_wear
most_by true w v is most = omega arith
most_by false w v is most = omega arith

grows_by : (passed : Bool) (w v : ℕ) → v ≡ worn_by passed w → w ≤ most_wear → w ≤ v
grows_by true w v is most = omega arith
grows_by false w v is most = omega arith

wear_other : (s t : State) (block b : ℕ) → IsMade block s t → b ≢ block → wear_at t.table b ≡ wear_at s.table b
wear_other s t block b m ne = ap (λ (x : TableRow). x.wear) (m.others b ne).row

ended_most : (block : ℕ) (passed : Bool) (s t : State) → HasEnded block passed s t → ((b : ℕ) → wear_at s.table b ≤ most_wear) → (b : ℕ) → wear_at t.table b ≤ most_wear
ended_most block passed s t h most b = elim (cases_eq b block) [
  | inl same ↦ (let x = most_by passed (wear_at s.table block) (wear_at t.table block) h.wear (most block) in rw same x)
  | inr ne ↦ (let e : wear_at t.table b ≡ wear_at s.table b = wear_other s t block b h.made ne in omega (arith, most b))
]

ended_grows : (block : ℕ) (passed : Bool) (s t : State) → HasEnded block passed s t → ((b : ℕ) → wear_at s.table b ≤ most_wear) → (b : ℕ) → wear_at s.table b ≤ wear_at t.table b
ended_grows block passed s t h most b = elim (cases_eq b block) [
  | inl same ↦ (let x = grows_by passed (wear_at s.table block) (wear_at t.table block) h.wear (most block) in rw same x)
  | inr ne ↦ (let e : wear_at t.table b ≡ wear_at s.table b = wear_other s t block b h.made ne in omega arith)
]

-- ---- what is true of the image

-- a row of another block
row_apart : (pages b block p : ℕ) → b ≢ block → p < pages → (b * pages + p) / pages ≢ block
row_apart pages b block p ne lt e = ne (sym (div-mul-add b pages p lt) ∙ e)

pub filled_ended : (block : ℕ) (s t : State) (old new : Image) → IsMade block s t → LosesIn s.geometry.pages block old new
    → ((b : ℕ) → b < s.geometry.blocks → pointer_at s b ≤ s.geometry.pages) → (is_good_at t.table block ≡ true → pointer_at t block ≡ 0)
    → (is_good_at t.table block ≡ true → (p : ℕ) → p < s.geometry.pages → IsErasedAt new (block * s.geometry.pages + p)) → AreFilled old s
    → AreFilled new t
filled_ended block s t old new m lost pointers zero_at gone f =
    let P : Geometry → Type 0 = λ g.
    ((b p : ℕ) → b < g.blocks → is_good_at t.table b ≡ true → p < pointer_at t b → IsSome (get_or (marks new) (b * g.pages + p) None)) ×
    ((b p : ℕ) → b < g.blocks → is_good_at t.table b ≡ true → pointer_at t b ≤ p → p < g.pages → IsErasedAt new (b * g.pages + p)) in
    let both = subst P (sym m.geometry) (sound, empty) in
    record { sound = both.0; erased = both.1 }
  where
    sound : (b p : ℕ) → b < s.geometry.blocks → is_good_at t.table b ≡ true → p < pointer_at t b → IsSome (get_or (marks new) (b * s.geometry.pages + p) None)
    sound b p lb good lt = elim (cases_eq b block) [
      | inl same ↦ (let z : pointer_at t b ≡ 0 = ap (pointer_at t) same ∙ zero_at (ap (is_good_at t.table) (sym same) ∙ good) in absurd (omega arith))
      | inr ne ↦
          let o = m.others b ne in
          let lp : p < s.geometry.pages = omega (arith, pointers b lb, o.pointer) in
          sound_same old new (b * s.geometry.pages + p) (lost.others (b * s.geometry.pages + p) (row_apart s.geometry.pages b block p ne lp)) (f.sound b p lb (ap is_good (sym o.row) ∙ good) (omega (arith, o.pointer)))
    ]

    empty : (b p : ℕ) → b < s.geometry.blocks → is_good_at t.table b ≡ true → pointer_at t b ≤ p → p < s.geometry.pages → IsErasedAt new (b * s.geometry.pages + p)
    empty b p lb good ge lp = elim (cases_eq b block) [
      | inl same ↦ (let e = gone (ap (is_good_at t.table) (sym same) ∙ good) p lp in rw same e)
      | inr ne ↦
          let o = m.others b ne in
          erased_same old new (b * s.geometry.pages + p) (lost.others (b * s.geometry.pages + p) (row_apart s.geometry.pages b block p ne lp)) (f.erased b p lb (ap is_good (sym o.row) ∙ good) (omega (arith, o.pointer)) lp)
    ]

passed_erases : (g : Geometry) (before after : Flash) (block : ℕ) (passed : Bool) (left : List Page) → before.geometry ≡ g → Steps before (Erase block passed left) after → passed ≡ true → ErasesIn g block before.image after.image
passed_erases g before after block passed left same step did = erase_erases g before after block left same (let P : Bool → Type 0 = λ p. Steps before (Erase block p left) after in subst P did step)

pub ended_kept : (r r' : Ram) (before after : Flash) (block : ℕ) (passed : Bool) (left : List Page) → IsRam r → IsTrue None r before.image
    → before.geometry ≡ r.geometry → HoldsNone r.geometry.pages block before.image → Steps before (Erase block passed left) after
    → IsImage r.geometry after.image → IsCleared r r' → HasEnded block passed r.blocks r'.blocks → IsImageKept r before.image r' after.image
ended_kept r r' before after block passed left s w same none step whole t h = record { truth = truth; keeps = k }
  where
    k : Keeps r.geometry before.image after.image
    k = erase_keeps r.geometry before after block passed left same step w.one none

    lost : LosesIn r.blocks.geometry.pages block before.image after.image
    lost = (let e : before.geometry ≡ r.blocks.geometry = same ∙ sym s.blocks_of in let P : Geometry → Type 0 = λ g. LosesIn g.pages block before.image after.image in subst P e (erase_loses before after block passed left step))

    gone : is_good_at r'.blocks.table block ≡ true → (p : ℕ) → p < r.blocks.geometry.pages → IsErasedAt after.image (block * r.blocks.geometry.pages + p)
    gone good p lp =
        let did : passed ≡ true = sym h.good ∙ good in
        let within : block * r.blocks.geometry.pages + p < length before.image = (let l = row_within r.blocks.geometry block p h.is_block lp in let z : length before.image ≡ row_count r.blocks.geometry = rw s.blocks_of w.whole.rows in omega arith) in
        erases_erased r.blocks.geometry block (block * r.blocks.geometry.pages + p) before.image after.image (passed_erases r.blocks.geometry before after block passed left (same ∙ sym s.blocks_of) step did) (div-mul-add block r.blocks.geometry.pages p lp) within

    truth : IsTrue None r' after.image
    truth = record {
      whole = rw t.geometry whole;
      one = rw t.geometry k.one;
      below = rw t.next (k.below r.next w.below);
      filled = filled_ended block r.blocks r'.blocks before.image after.image h.made lost s.blocks.pointers (λ good. h.pointer (sym h.good ∙ good)) gone w.filled;
      live = (let P : Geometry → Type 0 = λ g. (b : ℕ) → b < g.blocks → live_at r'.blocks b ≡ Rattle.page_layout.specs.Live.live g (marks after.image) b in
          subst P (sym h.made.geometry) (λ b lb. h.live b ∙ (w.live b lb ∙ sym (live_kept b))));
      worn = worn_grown r.blocks r'.blocks before.image after.image h.made.geometry (ended_most block passed r.blocks r'.blocks h w.worn.most) (ended_grows block passed r.blocks r'.blocks h w.worn.most) k.records w.worn;
      tables = (let e : (u : ℕ) → u < table_pages r.geometry → HasFormedTablePage r.geometry after.image u = λ u lt. tables_kept r.geometry before.image after.image u k (w.tables u lt) in rw t.geometry e);
      maps = (let e : Maps None r.geometry after.image r.directory r.mapping = maps_stays None r.geometry before.image after.image r.directory r.mapping k w.maps in rw (t.geometry, t.directory, t.mapping) e);
    }
      where
        live_kept : (b : ℕ) → Rattle.page_layout.specs.Live.live r.blocks.geometry (marks after.image) b ≡ Rattle.page_layout.specs.Live.live r.blocks.geometry (marks before.image) b
        live_kept b = (let P : Geometry → Type 0 = λ g. Rattle.page_layout.specs.Live.live g (marks after.image) b ≡ Rattle.page_layout.specs.Live.live g (marks before.image) b in subst P (sym s.blocks_of) (k.live_same b))

-- ---- the engine, once the erase of a closed block has ended

module _ {N : Type 0} (view : View N) (passed : Bool) (block : ℕ) (a : Engine N) (nand : N) (left : Blocks) (marks : Vec Bool Global) (safe : IsSafe view.flash a)
    (within : block < a.geometry.blocks) (closed : is_closed (ram a).blocks block ≡ true) (is : state left ≡ ended passed block (ram a).blocks)
    (clear : marks.items ≡ replicate (length a.marks.items) false) (sized : (view.flash nand).geometry ≡ (view.flash a.nand).geometry) where
  its_end : HasEnded block passed (ram a).blocks (state left)
  its_end = ended_by passed (ram a) block (state left) safe.memory within closed is

  its_rest : IsCleared (ram a) (ram (record a { nand = nand; blocks = left; marks = marks }))
  its_rest = record { geometry = refl; directory = refl; mapping = refl; next = refl; block = refl; marks = ap length clear ∙ length-replicate (length a.marks.items) false }

  pub erase_acts : view.honest nand ≡ view.honest a.nand → view.calm nand ≡ view.calm a.nand → AsksOnly view.called a.nand nand → view.failed a.nand ≤ view.failed nand
      → (view.honest a.nand ≡ true → Steps (view.flash a.nand) (Erase block passed (block_at (view.flash nand) block)) (view.flash nand))
      → (view.honest a.nand ≡ true → Records (view.recorded a.nand) (Erase block passed (block_at (view.flash nand) block) ∷ []) (view.recorded nand))
      → EngineActs {A = Unit {0}} view a (record a { nand = nand; blocks = left; marks = marks }) (Ok tt)
  erase_acts honest calm asked failed step records = record {
    safe = record {
      memory = cleared_ram block (ram a) _ safe.memory its_rest its_end.made;
      geometry = sized ∙ safe.geometry;
      page = safe.page;
      scratch = safe.scratch;
    };
    fault = refl;
    honest_is = honest;
    calm_is = calm;
    asked = asked;
    failed_is = failed;
    rose = λ e. absurd (ok_not_bus tt e);
    went = λ known ne. went_erase (ram a) _ (view.flash a.nand) (view.flash nand) _ _ block passed (block_at (view.flash nand) block) (step known) (records known) its_end refl;
  }

  pub erase_goes : GoesBut block (ram a) (ram (record a { nand = nand; blocks = left; marks = marks }))
  erase_goes = cleared_goes block (ram a) _ its_rest its_end.made

  pub erase_released : IsReleased block (ram a).blocks (state left)
  erase_released = released passed block (ram a).blocks (state left) its_end

  pub erase_holds : Steps (view.flash a.nand) (Erase block passed (block_at (view.flash nand) block)) (view.flash nand) → IsWhole (view.flash nand)
      → IsTrue None (ram a) (image_in view.flash a) → HoldsNone a.geometry.pages block (image_in view.flash a)
      → IsImageKept (ram a) (image_in view.flash a) (ram (record a { nand = nand; blocks = left; marks = marks })) (view.flash nand).image
  erase_holds step whole w none =
      let its : IsImage a.geometry (view.flash nand).image = subst (λ (x : Geometry). IsImage x (view.flash nand).image) (sized ∙ safe.geometry) whole.image_whole in
      ended_kept (ram a) _ (view.flash a.nand) (view.flash nand) block passed (block_at (view.flash nand) block) safe.memory w safe.geometry none step its its_rest its_end
