-- How calls end: an answer is no fault and a fault is no answer; and what a call that only looked leaves to what comes after it.
use Rattle.std.proofs.Common.{◌≡◌, ◌≢◌, inl, inr, ℕ, zero, suc, ◌+◌, ◌-◌, ◌*◌, ◌/◌, ◌%◌, ◌<◌, ◌≤◌, min, Vec, Global, Bool, true, false, List, [], ◌∷◌, length, slice_get, set, replicate}
use Rattle.std.proofs.Common.{Option, Some, None, MatchOption, Result, Ok, Err, MatchResult, refl, ap, sym, ◌∙◌, subst, arith}
use Rattle.std.specs.Option.{option_eq}
use Rattle.std.specs.Prelude.{OnOk, IfOk, IfErr}
use Rattle.std.proofs.Math.Dec.{eqb}
use Rattle.std.proofs.Math.ListN.{length-set}
use Rattle.std.proofs.lemmas.Bool.{eqb-true}
use Rattle.std.proofs.lemmas.List.{set_past}
use Rattle.std.proofs.lemmas.Nat.{div-mul-add}
use Rattle.page_layout.specs.declared.geometry.Geometry.{Geometry}
use Rattle.page_layout.specs.declared.record.Key.{Key}
use Rattle.page_layout.specs.declared.record.Key.TheVariants.{Translation}
use Rattle.page_layout.specs.declared.record.Kind.{Kind}
use Rattle.page_layout.specs.declared.record.Record.{Record}
use Rattle.page_layout.specs.Page.{Image, Page}
use Rattle.page_layout.specs.Sound.{record_of}
use Rattle.page_layout.specs.Key.{key_of}
use Rattle.page_layout.specs.Live.{IsKeyOf}
use Rattle.page_layout.specs.Counter.{counted, HasRisen}
use Rattle.page_layout.specs.View.{View}
use Rattle.page_layout.specs.OnlyReads.{OnlyReads}
use Rattle.page_layout.specs.Recording.{EndsAt}
use Rattle.page_layout.specs.DieCalls.{AsksOnly}
use Rattle.translation_pages.specs.TranslationPage.{entry_at}
use Rattle.page_layout.specs.Geometry.{translation_pages, entries}
use Rattle.bad_blocks.specs.Table.{is_good_at}
use Rattle.budget.specs.declared.stream.Stream.{Stream}
use Rattle.budget.specs.declared.stream.Stream.TheVariants.{Meta}
use Rattle.mapping_cache.specs.Mapping.{MappingState}
use Rattle.allocation.specs.State.{is_closed, live_at}
use Rattle.collection.specs.declared.fault.EngineFault.{EngineFault}
use Rattle.collection.specs.declared.fault.EngineFault.TheVariants.{ReadOnly, SequenceSpent, Damaged, Bus}
use Rattle.collection.specs.declared.engine.collect_steps.Progress.{Progress}
use Rattle.collection.specs.declared.engine.collect_steps.Progress.TheVariants as step
use Rattle.collection.specs.declared.engine.Buffer.{Buffer}
use Rattle.collection.specs.declared.engine.Engine.{Engine}
use Rattle.collection.specs.declared.engine.Pinned.{Pinned}
use Rattle.collection.specs.State.{Ram, Pin}
use Rattle.collection.specs.Acts.{EngineLooks, EngineActs}
use Rattle.collection.specs.Pages.{newest_row}
use Rattle.collection.specs.Safe.{IsRam, IsSafe, IsBuffer, ram, is_shut}
use Rattle.collection.specs.Truth.{IsTrue}
use Rattle.collection.specs.Cost.{PageCosts, WriteBackCosts}
use Rattle.collection.specs.Live.{HoldsNoneIn, IsLivePage, StandsInRow, LooksAt, IsFirstLive, FindsFirst, PointsTo, IsFoundIn}
use Rattle.collection.specs.Looks.{IsReadFault, IsPageOf, GivesRow}
use Rattle.collection.specs.Results.{IsLastPage, IsWritten, Refused, Goes}
use Rattle.collection.specs.Settle.{BringsOut, HasNoMore, HasSettled}
use Rattle.collection.specs.Collect.{waiting, excess, FaultCosts, KeepsKeys, Refreshes, IsBroughtOut, IsLowestDue, OwesNone, IsStepped, HasNoneAiling}
use Rattle.collection.proofs.Costs.{err_as}
use Rattle.collection.proofs.Acts.{ok_as, looks_ok, looks_as, looks_into, acts_but}
use Rattle.collection.proofs.Looks.{ok_not_bus}
use Rattle.collection.proofs.Gates.{true_noted, refused_noted}
use Rattle.collection.proofs.Memory.{goes_same}
use Rattle.collection.proofs.Copies.{keys_same, refreshes_same}
use Rattle.collection.proofs.Lowest.{shut_closed, same_pinned}
use Rattle.collection.proofs.Finds.{at_answer}
use Rattle.collection.proofs.Steps.{at_start}
use Rattle.collection.proofs.Stops.{live_known}

-- ---- no answer is another

pub ok_not_err : {A : Type 0} (x : A) (f : EngineFault) → Ok x ≢ Err f
ok_not_err x f e = (let never : ⊥ = cc in never)

pub err_not_ok : {A B : Type 0} {r : Result A B} {f : B} (x : A) → r ≡ Err f → r ≢ Ok x
err_not_ok x is e = (let never : ⊥ = cc in never)

pub none_not_some : {A : Type 0} (x : A) → None ≢ Some x
none_not_some x e = (let never : ⊥ = cc in never)

pub some_not_none : {A : Type 0} (x : A) → ok_as (Some x) ≢ ok_as None
some_not_none x e = (let never : ⊥ = cc in never)

pub some_same : {A : Type 0} (x y : A) → Some x ≡ Some y → x ≡ y
some_same x y e = cc

-- by what a step tells
pub copied_not_erased : (page : ℕ) → ok_as (step.Copied page) ≢ ok_as step.Erased
copied_not_erased page e = (let never : ⊥ = cc in never)

pub written_not_erased : ok_as step.WroteBack ≢ ok_as step.Erased
written_not_erased e = (let never : ⊥ = cc in never)

pub written_not_copied : (page : ℕ) → ok_as step.WroteBack ≢ ok_as (step.Copied page)
written_not_copied page e = (let never : ⊥ = cc in never)

pub erased_not_copied : (page : ℕ) → ok_as step.Erased ≢ ok_as (step.Copied page)
erased_not_copied page e = (let never : ⊥ = cc in never)

pub copied_same : (x y : ℕ) → ok_as (step.Copied x) ≡ ok_as (step.Copied y) → Some x ≡ Some y
copied_same x y e = (let same : x ≡ y = cc in ap (λ k. Some k) same)

-- a fault of another kind
pub bus_not_full : {A : Type 0} (f : EngineFault) → f ≡ Bus → err_as A f ≢ err_as A ReadOnly
bus_not_full f is e = (let never : ⊥ = cc in never)

tested_not_bus : {A : Type 0} (f : EngineFault) → f ≡ Damaged → err_as A f ≢ err_as A Bus
tested_not_bus f is e = (let never : ⊥ = cc in never)

pub read_not_full : {A : Type 0} (f : EngineFault) → IsReadFault f → err_as A f ≢ err_as A ReadOnly
read_not_full ReadOnly x e = x
read_not_full SequenceSpent x e = x
read_not_full Damaged x e = (let never : ⊥ = cc in never)
read_not_full Bus x e = (let never : ⊥ = cc in never)

pub refused_bus : (a b : Ram) (x y : Image) (f : EngineFault) → f ≡ Bus → Refused a x b y f
refused_bus a b x y f is = (let P : EngineFault → Type 0 = λ k. Refused a x b y k in subst P (sym is) tt)

-- ---- counts

pub no_more : (a b : ℕ) → a ≤ a + b
no_more a b = omega arith

pub as_many : (a b c : ℕ) → a ≡ b → b ≤ c → a ≤ c
as_many a b c same le = omega arith

pub positive_count : (n m : ℕ) → n ≡ m → n ≢ 0 → 0 < m
positive_count n m same ne = omega arith

pub reads_less : (a b p q : ℕ) → b ≤ a + p → b ≤ a + (p + q)
reads_less a b p q le = omega arith

pub reads_kept : (a b c p q : ℕ) → c ≡ b → b ≤ a + p → c ≤ a + (p + q)
reads_kept a b c p q same le = omega arith

reads_both : (a b c p q : ℕ) → b ≤ a + p → c ≤ b + q → c ≤ a + (p + q)
reads_both a b c p q le more = omega arith

pub reads_written : (flushing : Bool) (r r1 : Ram) (a b c p : ℕ) → r1 ≡ r → b ≤ a + p → c ≤ b + min (excess flushing r1) 1 → c ≤ a + (p + min (excess flushing r) 1)
reads_written flushing r r1 a b c p same le more =
    let k : c ≤ b + min (excess flushing r) 1 = at_start (λ z. c ≤ b + min (excess flushing z) 1) r r1 same more in
    reads_both a b c p (min (excess flushing r) 1) le k

-- of a page that was found
pub reads_at : (new mid old first x y : ℕ) → Some x ≡ Some y → new ≡ mid → mid ≤ old + 2 * (x + 1 - first) → new ≤ old + 2 * (y + 1 - first)
reads_at new mid old first x y is same le = (let e : x ≡ y = some_same x y is in omega arith)

pub within_at : (first pages x y : ℕ) → Some x ≡ Some y → first ≤ x → x < pages → (first ≤ y) × (y < pages)
within_at first pages x y is ge lt = (let e : x ≡ y = some_same x y is in (omega arith, omega arith))

-- of a look at one page after another
pub reads_next : (old now new first page pages end : ℕ) → first ≤ page → end ≡ pages → page < end → now ≤ old + 2 * (min page pages - first) → new ≤ now + 2
    → new ≤ old + 2 * (min (page + 1) pages - first)
reads_next old now new first page pages end ge same lt le one = omega arith

-- ---- after a call that only looked

pub goes_looked : (a b : Ram) → b ≡ a → Goes a b
goes_looked a b same = subst (λ z. Goes a z) (sym same) (goes_same a)

pub keys_looked : (a b : Ram) → b ≡ a → KeepsKeys a.mapping b.mapping
keys_looked a b same = keys_same a.mapping b.mapping (ap (λ (z : Ram). z.mapping) same)

pub refreshes_looked : (a b : Ram) → b ≡ a → Refreshes a b
refreshes_looked a b same = refreshes_same a b (ap (λ (z : Ram). z.mapping) same) (ap (λ (z : Ram). z.pin) same)

pub fault_looked : (a b : Ram) (f : EngineFault) → IsReadFault f → b ≡ a → FaultCosts a b f
fault_looked a b ReadOnly x same = absurd x
fault_looked a b SequenceSpent x same = absurd x
fault_looked a b Damaged x same = ap (λ (z : Ram). z.next) same
fault_looked a b Bus x same = tt

pub fault_from : (a b c : Ram) (f : EngineFault) → b ≡ a → FaultCosts b c f → FaultCosts a c f
fault_from a b c f same cost = (let P : Ram → Type 0 = λ z. FaultCosts z c f in subst P same cost)

-- a page that was found has a place
pub room_left : (a b : Ram) (first page : ℕ) → b ≡ a → length a.mapping.moved ≤ waiting a + first → first ≤ page → page < a.geometry.pages
    → length b.mapping.moved < waiting b + b.geometry.pages
room_left a b first page same room ge lt =
    let here : length a.mapping.moved < waiting a + a.geometry.pages = omega arith in
    let P : Ram → Type 0 = λ z. length z.mapping.moved < waiting z + z.geometry.pages in
    subst P (sym same) here

pub brought_by : (a b c : Ram) (p : Page) (its : Record) → b ≡ a → IsLastPage its.kind its.number c p → ((at : ℕ) × BringsOut (key_of its) at b.mapping c.mapping) → IsBroughtOut a c p
brought_by a b c p its same last brought =
    let P : Ram → Type 0 = λ z. BringsOut (key_of its) brought.0 z.mapping c.mapping in
    record { its = its; last = last; row = brought.0; sets = subst P same brought.1 }

-- and it was refused
pub refused_from : (r r1 r2 : Ram) (x x1 x2 : Image) (block first page row : ℕ) (found : Record) (body : List ℕ) (live : Option (ℕ × Record)) (fault : EngineFault)
    → IsTrue None r x → r1 ≡ r → x1 ≡ x → row ≡ block * r1.geometry.pages + page → page < r.geometry.pages → is_closed r.blocks block ≡ true
    → FindsFirst r.geometry.pages block first body x live → live ≡ Some (page, found)
    → (IsTrue None r1 x1 → is_shut r1.blocks (row / r1.geometry.pages) ≡ true → IsLivePage row body found x1 → Refused r1 x1 r2 x2 fault)
    → Refused r x r2 x2 fault
refused_from r r1 r2 x x1 x2 block first page row found body live fault w same still at lt closed finds is call =
    let known = live_known r r1 x x1 block first page row found body live w same still at finds is in
    let here : row ≡ block * r.geometry.pages + page = at ∙ ap (λ (z : Ram). block * z.geometry.pages + page) same in
    let of_block : row / r.geometry.pages ≡ block = ap (λ k. k / r.geometry.pages) here ∙ div-mul-add block r.geometry.pages page lt in
    let shut : is_shut r.blocks (row / r.geometry.pages) ≡ true = ap (is_shut r.blocks) of_block ∙ shut_closed r.blocks block closed in
    let P : Ram → Type 0 = λ z. Refused z x1 r2 x2 fault in
    let Q : Image → Type 0 = λ i. Refused r i r2 x2 fault in
    subst Q still (subst P same (call known.0 (rw same shut) known.1))

-- ---- by what was found

pub true_not_false : ok_as true ≢ ok_as false
true_not_false e = (let never : ⊥ = cc in never)

pub ok_same : {A : Type 0} (x y : A) → ok_as x ≡ ok_as y → x ≡ y
ok_same x y e = cc

pub none_below : (n : ℕ) → n < 0 → ⊥
none_below n lt = omega arith

-- reads
pub reads_due : (a b e : ℕ) → 0 < e → b ≤ a + 1 → b ≤ a + min e 1
reads_due a b e some le = omega arith

pub reads_one : (a b : ℕ) → b ≤ a + 1 → b ≤ a + 2
reads_one a b le = omega arith

pub reads_two : (a b c : ℕ) → b ≤ a + 1 → c ≤ b + 1 → c ≤ a + 2
reads_two a b c le more = omega arith

pub reads_all : (old now first page pages : ℕ) → now ≤ old + 2 * (min page pages - first) → now ≤ old + 2 * (pages - first)
reads_all old now first page pages le = omega arith

module _ (first page pages end : ℕ) (ge : first ≤ page) (same : end ≡ pages) (lt : page < end) where
  pub reads_found : (old now new : ℕ) → now ≤ old + 2 * (min page pages - first) → new ≤ now + 2 → new ≤ old + 2 * (pages - first)
  reads_found old now new le two = omega arith

  pub found_reads : (old now new : ℕ) (r : Record) → now ≤ old + 2 * (min page pages - first) → new ≤ now + 2 → (f : ℕ × Record) → Some (page, r) ≡ Some f
      → new ≤ old + 2 * (f.0 + 1 - first)
  found_reads old now new r le two f is =
      let pair : (ℕ × Record) = (page, r) in
      let e : page ≡ f.0 = ap (λ (y : ℕ × Record). y.0) (some_same pair f is) in
      let here : new ≤ old + 2 * (page + 1 - first) = omega arith in
      subst (λ k. new ≤ old + 2 * (k + 1 - first)) e here

  pub within_found : (r : Record) → (f : ℕ × Record) → Some (page, r) ≡ Some f → (first ≤ f.0) × (f.0 < pages)
  within_found r f is =
      let pair : (ℕ × Record) = (page, r) in
      let e : page ≡ f.0 = ap (λ (y : ℕ × Record). y.0) (some_same pair f is) in
      (omega arith, omega arith)

pub row_below : (row end count x : ℕ) → end ≡ count → row < end → Some row ≡ Some x → x < count
row_below row end count x same lt is = (let e : row ≡ x = some_same row x is in omega arith)

-- pages
pub found_in : (r r1 : Ram) (p q : Page) (block page row : ℕ) (f : Record) → r1 ≡ r → row ≡ block * r1.geometry.pages + page → IsFoundIn r1 p q row f
    → (x : ℕ × Record) → Some (page, f) ≡ Some x → IsFoundIn r p q (block * r.geometry.pages + x.0) x.1
found_in r r1 p q block page row f same at here x is =
    let pair : (ℕ × Record) = (page, f) in
    let to : row ≡ block * r.geometry.pages + page = at ∙ ap (λ (z : Ram). block * z.geometry.pages + page) same in
    let P : Ram → Type 0 = λ z. IsFoundIn z p q row f in
    let Q : ℕ → Type 0 = λ k. IsFoundIn r p q k f in
    let R : (ℕ × Record) → Type 0 = λ y. IsFoundIn r p q (block * r.geometry.pages + y.0) y.1 in
    subst R (some_same pair x is) (subst Q to (subst P same here))

pub first_live_by : (r r1 : Ram) (x x1 : Image) (block first page row : ℕ) (f : Record) (body : List ℕ) (live : Option Record) → r1 ≡ r → x1 ≡ x
    → row ≡ block * r1.geometry.pages + page → HoldsNoneIn r.geometry.pages block first page x → LooksAt row body x1 live → live ≡ Some f
    → IsFirstLive r.geometry.pages block first page body f x
first_live_by r r1 x x1 block first page row f body live same still at below looks is =
    let l : IsLivePage row body f x1 = at_answer row body x1 live f looks is in
    let to : row ≡ block * r.geometry.pages + page = at ∙ ap (λ (z : Ram). block * z.geometry.pages + page) same in
    let P : ℕ → Type 0 = λ k. IsLivePage k body f x1 in
    let Q : Image → Type 0 = λ i. IsLivePage (block * r.geometry.pages + page) body f i in
    record { before = below; live = subst Q still (subst P to l) }

pub none_to : (pages block first page end : ℕ) (image : Image) → end ≡ pages → end ≤ page → HoldsNoneIn pages block first page image → HoldsNoneIn pages block first pages image
none_to pages block first page end image same le h = record { none = λ p ge lt. h.none p ge (omega arith) }

pub none_ailing : (r : Ram) (n end : ℕ) → IsRam r → end ≡ r.geometry.blocks → end ≤ n
    → ((b : ℕ) → b < n → is_good_at r.blocks.table b ≡ false → live_at r.blocks b ≡ 0) → HasNoneAiling r.blocks
none_ailing r n end s same le all b lt bad = (let e : r.blocks.geometry.blocks ≡ r.geometry.blocks = ap (λ (g : Geometry). g.blocks) s.blocks_of in all b (omega arith) bad)

-- the record of the page that was read is the newest of its key
is_row : (o : Option ℕ) (row : ℕ) (b : Bool) → b ≡ option_eq eqb o (Some row) → b ≡ true → o ≡ Some row
is_row None row b is so = (let never : ⊥ = cc in absurd never)
is_row (Some k) row b is so = ap (λ n. Some n) (eqb-true k row (sym is ∙ so))

module _ (row : ℕ) (found : Record) (taken : Option Record) (key : Key) (newest : Option ℕ) (b : Bool) (got : taken ≡ Some found) (of_key : key ≡ key_of found) (compared : b ≡ option_eq eqb newest (Some row)) (so : b ≡ true) where
  pub found_here : (r r1 : Ram) (p q s : Page) → r1 ≡ r → taken ≡ record_of p → q ≡ p → IsKeyOf r1.geometry key → PointsTo r1 s key newest
      → (x : Record) → Some found ≡ Some x → IsFoundIn r q s row x
  found_here r r1 p q s same sound page within points x is =
      let mark : record_of p ≡ Some found = sym sound ∙ got in
      let of_page : IsPageOf (key_of found) found p = record { sound = mark; of_key = refl } in
      let P : Page → Type 0 = λ z. IsPageOf (key_of found) found z in
      let at_key : IsKeyOf r1.geometry (key_of found) = (let K : Key → Type 0 = λ k. IsKeyOf r1.geometry k in subst K of_key within) in
      let at_row : PointsTo r1 s key (Some row) = (let O : Option ℕ → Type 0 = λ o. PointsTo r1 s key o in subst O (is_row newest row b compared so) points) in
      let there : PointsTo r1 s (key_of found) (Some row) = (let L : Key → Type 0 = λ k. PointsTo r1 s k (Some row) in subst L of_key at_row) in
      let one : IsFoundIn r1 q s row found = record { sound = subst P (sym page) of_page; of_key = at_key; points = there } in
      let Q : Ram → Type 0 = λ z. IsFoundIn z q s row found in
      let R : Record → Type 0 = λ y. IsFoundIn r q s row y in
      subst R (some_same found x is) (subst Q same one)

  pub live_here : (image : Image) (body body1 : List ℕ) → StandsInRow row taken body image → body1 ≡ body → newest ≡ newest_row image key → IsLivePage row body1 found image
  live_here image body body1 t same is = record {
    mark = t.mark ∙ got;
    newest = ap (newest_row image) (sym of_key) ∙ (sym is ∙ is_row newest row b compared so);
    holds = t.holds ∙ sym same;
  }

-- ---- a translation page was written, or none was due

pub due_none : (flushing : Bool) (r : Ram) (o : Option ℕ) → MatchOption o (OwesNone flushing r) (IsLowestDue flushing r) → o ≡ None → OwesNone flushing r
due_none flushing r o m is = (let P : Option ℕ → Type 0 = λ x. MatchOption x (OwesNone flushing r) (IsLowestDue flushing r) in subst P is m)

pub written_costs : (a b : Ram) (f : EngineFault) → WriteBackCosts a b (Err f) → FaultCosts a b f
written_costs a b ReadOnly cost = record { stream = Meta; out = cost }
written_costs a b SequenceSpent cost = record { stream = Meta; spent = cost }
written_costs a b Damaged cost = cost
written_costs a b Bus cost = tt

set_replicate : (n t : ℕ) → set (replicate n false) t false ≡ replicate n false
set_replicate zero t = set_past [] t false (omega arith)
set_replicate (suc n) zero = refl
set_replicate (suc n) (suc t) = ap (λ l. false ∷ l) (set_replicate n t)

pub still_unmarked : (n t : ℕ) (xs ys zs : List Bool) → zs ≡ set ys t false → ys ≡ xs → xs ≡ replicate n false → zs ≡ replicate n false
still_unmarked n t xs ys zs is same fresh = is ∙ (ap (λ l. set l t false) (same ∙ fresh) ∙ set_replicate n t)

pub mark_in : (r b : Ram) (t : ℕ) → IsRam b → b.geometry ≡ r.geometry → t < translation_pages r.geometry → t < length b.pin.marks
mark_in r b t s same lt = (let e : length b.pin.marks ≡ translation_pages r.geometry = s.marks ∙ ap translation_pages same in omega arith)

-- ---- the pin, or the marks, are set after a call

pub stepped_pinned : (block : ℕ) (r b : Ram) (x y : Image) (p : Pin) (done : Progress) → IsStepped block r x b y done → IsStepped block r x (record b { pin = p }) y done
stepped_pinned block r b x y p (step.Copied page) k = record { same = same_pinned r b x y p k.same; fewer = k.fewer; none = k.none }
stepped_pinned block r b x y p step.WroteBack k = record { same = same_pinned r b x y p k.same; none = k.none }
stepped_pinned block r b x y p step.Erased k = record { same = same_pinned r b x y p k.same; none = k.none }

-- ---- a fault that is noted is in none of these facts

module _ (fault : Option EngineFault) (a b : Ram) where
  pub settled_noted : (n : ℕ) (result : Result (Unit {0}) EngineFault) → OnOk result (HasSettled n a b) → OnOk result (HasSettled n a (record b { fault = fault }))
  settled_noted n (Ok done) h = record { row = h.row; sets = h.sets; directory = h.directory }
  settled_noted n (Err f) h = tt

  pub programmed_noted : (kind : Kind) (n : ℕ) (p : Page) (result : Result (Unit {0}) EngineFault) → OnOk result (IsLastPage kind n b p) → OnOk result (IsLastPage kind n (record b { fault = fault }) p)
  programmed_noted kind n p (Ok done) l = record { its = l.its; sound = l.sound; of_kind = l.of_kind; of_number = l.of_number; last = l.last }
  programmed_noted kind n p (Err f) l = tt

  pub page_costs_noted : (stream : Stream) (result : Result (Unit {0}) EngineFault) → PageCosts stream a b result → PageCosts stream a (record b { fault = fault }) result
  page_costs_noted stream (Ok done) h = record { failures = h.failures; put = h.put; next = h.next }
  page_costs_noted stream (Err ReadOnly) h = record { failures = h.failures; found = h.found; none = h.none; next = h.next; sequence = h.sequence }
  page_costs_noted stream (Err SequenceSpent) h = record { tried = record { failures = h.tried.failures; tries = h.tried.tries; next = h.tried.next }; last = h.last }
  page_costs_noted stream (Err Damaged) h = h
  page_costs_noted stream (Err Bus) h = tt

  pub written_noted : (kind : Kind) (n : ℕ) (bytes body : List ℕ) (x y : Image) (result : Result (Unit {0}) EngineFault) → bytes ≡ body
      → MatchResult result (λ _. IsWritten kind n bytes a x b y) (Refused a x b y)
      → MatchResult result (λ _. IsWritten kind n body a x (record b { fault = fault }) y) (Refused a x (record b { fault = fault }) y)
  written_noted kind n bytes body x y (Ok done) same w =
      let P : List ℕ → Type 0 = λ z. IsWritten kind n z a x b y in
      let v : IsWritten kind n body a x b y = subst P same w in
      record { truth = true_noted fault None b y v.truth; array = v.array; leaves = v.leaves; row = v.row; writes = v.writes }
  written_noted kind n bytes body x y (Err f) same w = refused_noted fault a b x y f w

pub no_more_same : (m : MappingState) → HasNoMore m m
no_more_same m = record { limits = record { geometry = refl; capacity = refl; share = refl }; moved = omega arith }

-- ---- the row that a translation page gives

pub reads_counted : (a b : ℕ) → b ≡ counted a → b ≤ a + 1
reads_counted a b is = omega arith

module _ (g : Geometry) (directory : List (Option ℕ)) (n e : ℕ) (p : Page) (same : e ≡ entries g) where
  pub gives_nothing : (found : Option ℕ) → slice_get directory (n / e) ≡ Some found → found ≡ None → GivesRow g directory n p None
  gives_nothing found value is = inl (ap (λ k. slice_get directory (n / k)) (sym same) ∙ (value ∙ ap (λ o. Some o) is), refl)

  pub gives_checked : (its : Record) (lent : List ℕ) (result : Result (Option ℕ) EngineFault) → IsPageOf (Translation (n / e)) its p → lent ≡ p.body
      → IfOk result (λ row. row ≡ entry_at lent (n % e)) → IfOk result (GivesRow g directory n p)
  gives_checked its lent (Ok row) checked is_lent entry =
      let P : ℕ → Type 0 = λ k. IsPageOf (Translation (n / k)) its p in
      inr (record { its = its; checked = subst P same checked; entry = entry ∙ (ap (λ b. entry_at b (n % e)) is_lent ∙ ap (λ k. entry_at p.body (n % k)) same) })
  gives_checked its lent (Err f) checked is_lent entry = tt

pub is_mapped : (g : Geometry) (directory : List (Option ℕ)) (n e at : ℕ) (found : Option ℕ) → e ≡ entries g → slice_get directory (n / e) ≡ Some found → found ≡ Some at
    → slice_get directory (n / entries g) ≢ Some None
is_mapped g directory n e at found same value is none =
    let here : slice_get directory (n / entries g) ≡ Some found = ap (λ k. slice_get directory (n / k)) (sym same) ∙ value in
    let never : ⊥ = cc in
    never

module _ {N : Type 0} {view : View N} where
  -- a page was read into the scratch buffer
  pub looks_scratch : {A : Type 0} (a : Engine N) (nand : N) (scratch : Buffer) (result : Result A EngineFault) → IsSafe view.flash a → IsBuffer a.geometry scratch
      → OnlyReads view a.nand nand → AsksOnly view.called a.nand nand → IfErr result IsReadFault
      → (result ≡ Err Bus → HasRisen (view.failed a.nand) (view.failed nand))
      → (view.honest a.nand ≡ true → result ≢ Err Bus → view.flash nand ≡ view.flash a.nand)
      → (view.honest a.nand ≡ true → result ≢ Err Bus → view.recorded nand ≡ view.recorded a.nand)
      → (view.honest a.nand ≡ true → result ≡ Err Bus → EndsAt [] (view.recorded a.nand) (view.recorded nand))
      → EngineLooks view a (record a { nand = nand; scratch = scratch }) result
  looks_scratch a nand scratch result safe buffer reads asked faults rose same told cut = looks_into a nand a.page scratch result safe safe.page buffer reads asked faults rose same told cut

  -- and what it holds was tested
  pub looks_tested : {A B : Type 0} (a b : Engine N) (x : A) (result : Result B EngineFault) → IfErr result (λ fault. fault ≡ Damaged) → EngineLooks view a b (Ok x) → EngineLooks view a b result
  looks_tested a b x (Ok y) tested p = looks_ok a b x y p
  looks_tested a b x (Err fault) tested p = looks_as a b (ok_as x) (err_as _ fault) (subst (λ k. IsReadFault k) (sym tested) tt) (λ is. absurd (tested_not_bus fault tested is)) (λ ne. ok_not_bus x) p

-- ---- the marks, or the pin, are set after a call

ram_pinned : (r : Ram) (p : Pin) → length p.marks ≡ length r.pin.marks → IsRam r → IsRam (record r { pin = p })
ram_pinned r p same s = record { directory = s.directory; directory_rows = s.directory_rows; mapping = s.mapping; mapping_of = s.mapping_of; blocks = s.blocks; blocks_of = s.blocks_of; next = s.next; marks = same ∙ s.marks }

module _ {N : Type 0} {view : View N} where
  pub acts_marked : {A : Type 0} (a b : Engine N) (marks : Vec Bool Global) (t : ℕ) (mark : Bool) (result : Result A EngineFault) → marks.items ≡ set b.marks.items t mark
      → EngineActs view a b result → EngineActs view a (record b { marks = marks }) result
  acts_marked a b marks t mark result is p =
      let pin : Pin = record { block = b.pinned; marks = marks.items } in
      let many : length marks.items ≡ length b.marks.items = ap length is ∙ simp length-set in
      acts_but a b a.page a.pinned b.pinned marks result result (record { memory = ram_pinned (ram b) pin many p.safe.memory; geometry = p.safe.geometry; page = p.safe.page; scratch = p.safe.scratch }) (λ is. is) (λ ne. ne) p

  pub acts_pinned : {A : Type 0} (a b : Engine N) (to : Option Pinned) (result : Result A EngineFault) → EngineActs view a b result → EngineActs view a (record b { pinned = to }) result
  acts_pinned a b to result p =
      let pin : Pin = record { block = to; marks = b.marks.items } in
      acts_but a b a.page a.pinned to b.marks result result (record { memory = ram_pinned (ram b) pin refl p.safe.memory; geometry = p.safe.geometry; page = p.safe.page; scratch = p.safe.scratch }) (λ is. is) (λ ne. ne) p
