-- What a flush has programmed, step after step.
use Rattle.std.proofs.Common.{◌≡◌, inl, inr, ℕ, zero, suc, ◌+◌, ◌*◌, ◌/◌, ◌<◌, ◌≤◌, ◌∙◌, true, false, List, [], ◌∷◌, get_or, Some, None, IsSome, Result, Ok, Err, OnOk, MatchResult, refl, sym, ap, subst, arith}
use Rattle.std.proofs.lemmas.Bool.{cases_eq}
use Rattle.page_layout.specs.View.{View}
use Rattle.page_layout.specs.declared.geometry.Geometry.{Geometry}
use Rattle.page_layout.specs.declared.record.Record.{Record}
use Rattle.page_layout.specs.declared.record.Kind.{Kind}
use Rattle.page_layout.specs.declared.record.Kind.TheVariants as kind
use Rattle.page_layout.specs.declared.record.Key.TheVariants.{Sector}
use Rattle.page_layout.specs.Key.{key_from}
use Rattle.page_layout.specs.Page.{Page, Image, body_at}
use Rattle.page_layout.specs.Geometry.{entries, translation_pages, table_pages}
use Rattle.page_layout.specs.Array.{marks, zeros}
use Rattle.bad_blocks.specs.Table.{good_count}
use Rattle.bad_blocks.specs.TablePage.{table_bytes}
use Rattle.budget.specs.declared.stream.Stream.TheVariants.{Meta}
use Rattle.mapping_cache.specs.Mapping.{MappingState, per_page, pending, cleaned}
use Rattle.allocation.specs.State.{free_count}
use Rattle.allocation.specs.Counts.{counts_of}
use Rattle.collection.specs.declared.engine.Engine.{Engine}
use Rattle.collection.specs.declared.fault.EngineFault.{EngineFault}
use Rattle.collection.specs.declared.engine.room.Reserve.TheVariants as reserve
use Rattle.collection.specs.Room.{wanted}
use Rattle.collection.specs.State.{Ram}
use Rattle.collection.specs.Safe.{IsRam, ram, image_in, page_in_buffer}
use Rattle.collection.specs.Truth.{IsTrue}
use Rattle.collection.specs.Left.{LeavesPin}
use Rattle.collection.specs.Acts.{Stands}
use Rattle.collection.specs.Cost.{HasPut, WriteBackCosts}
use Rattle.collection.specs.Pages.{newest_row}
use Rattle.collection.specs.Results.{Goes, IsLastPage, IsSame, IsWritten, IsWrittenBack, IsTabled, Refused, last_record}
use Rattle.ftl_device.specs.declared.fault.CallFault.{CallFault}
use Rattle.ftl_device.specs.declared.fault.DeviceFault.{DeviceFault}
use Rattle.ftl_device.specs.declared.fault.CallFault.TheVariants as call
use Rattle.ftl_device.specs.Calls.{Knows, KeepsArray, HasMadeRoom, HasPage, OneKindLaw, WriteOrTrimLaw, answer_of}
use Rattle.ftl_device.specs.Changes.{EngineLeaves, EngineKeeps}
use Rattle.ftl_device.specs.Flush.{IsClean}
use Rattle.ftl_device.specs.FlushSteps.{GoesHonestly, HasBegunFlush, HasCleared, WritesBack, FlushesPage, FlushesPages, WritesTable, WritesFirst, HasRound, Repeats, WritesRounds, HasFlushed, CleanFlushLaw, FailedFlushLaw, LackingPageLaw}
use Rattle.ftl_device.proofs.CallLemmas.{done_too}
use Rattle.ftl_device.proofs.FlushLoops.{keeps_same, engine_keeps}

-- ---- whether a translation page lacks a row

pub clean_by : (g : Geometry) (t : ℕ) (m : MappingState) → m.geometry ≡ g → ((n : ℕ) → n / per_page m ≡ t → pending m n ≡ None) → IsClean g t m
clean_by g t m same none = subst (λ h. IsClean h t m) same (record { none = none })

pub lacks_by : (g : Geometry) (t : ℕ) (m : MappingState) → m.geometry ≡ g → ((n : ℕ) × (n / per_page m ≡ t) × IsSome (pending m n)) → IsClean g t m → ⊥
lacks_by g t m same some clean =
    let here : IsClean m.geometry t m = subst (λ h. IsClean h t m) (sym same) clean in
    let none : pending m some.0 ≡ None = here.none some.0 some.1 in
    let no : false ≡ true = subst IsSome none some.2 in
    cc

-- ---- the steps

module _ {N : Type 0} (view : View N) where
  -- nothing was done for a page that lacks no row
  pub page_clean : (t : ℕ) (e : Engine N) → IsClean e.geometry t e.mapping → FlushesPage view t e e
  page_clean t e is = record { clean = λ also. refl; lacking = λ lacks. absurd (lacks is) }

  -- room was made, with share 0, or five blocks were free
  pub cleared_by : (old mid : Engine N) (done : Unit {0}) → EngineLeaves view old (Ok done) mid → (old.mapping.share ≡ 0 → HasMadeRoom 9 true (ram old) (ram mid))
      → (0 < old.mapping.share → (mid ≡ old) × (5 ≤ free_count (ram old).blocks))
      → (view.honest old.nand ≡ true → Knows (ram old) (image_in view.flash old) → KeepsArray old.geometry (image_in view.flash old) (ram mid) (image_in view.flash mid))
      → HasCleared view old mid
  cleared_by old mid done leaves room still keeps = record {
    room = room;
    still = still;
    honest_is = leaves.die.honest_is;
    goes = λ is_honest k. record { went = leaves.went is_honest (λ bus. (let no : ⊥ = cc in no)); keeps = keeps is_honest k };
  }

  -- room for the whole flush was made, above share 0
  pub begun_by : (old mid : Engine N) (done : Unit {0}) → EngineLeaves view old (Ok done) mid → (old.mapping.share ≡ 0 → mid ≡ old)
      → (0 < old.mapping.share → HasMadeRoom (wanted reserve.Flush (ram old)) false (ram old) (ram mid))
      → (view.honest old.nand ≡ true → Knows (ram old) (image_in view.flash old) → KeepsArray old.geometry (image_in view.flash old) (ram mid) (image_in view.flash mid))
      → HasBegunFlush view old mid
  begun_by old mid done leaves still room keeps = record {
    still = still;
    room = room;
    honest_is = leaves.die.honest_is;
    goes = λ is_honest k. record { went = leaves.went is_honest (λ bus. (let no : ⊥ = cc in no)); keeps = keeps is_honest k };
  }

  -- the same by what is answered
  pub cleared_ok : (old mid : Engine N) (result : Result (Unit {0}) EngineFault) → old.mapping.share ≡ 0 → EngineLeaves view old result mid → OnOk result (HasMadeRoom 9 true (ram old) (ram mid))
      → EngineKeeps view old result mid
      → OnOk result (HasCleared view old mid)
  cleared_ok old mid (Ok done) none leaves room keeps = cleared_by old mid done leaves (λ same. room) (λ some. absurd (omega (arith, none, some))) keeps
  cleared_ok old mid (Err fault) none leaves room keeps = tt

  pub begun_ok : (old mid : Engine N) (result : Result (Unit {0}) EngineFault) → 0 < old.mapping.share → EngineLeaves view old result mid → OnOk result (HasMadeRoom (wanted reserve.Flush (ram old)) false (ram old) (ram mid))
      → EngineKeeps view old result mid
      → OnOk result (HasBegunFlush view old mid)
  begun_ok old mid (Ok done) some leaves room keeps = begun_by old mid done leaves (λ none. absurd (omega (arith, none, some))) (λ any. room) keeps
  begun_ok old mid (Err fault) some leaves room keeps = tt

  -- a page was programmed, and the array stays
  goes_by : (mid new : Engine N) (done : Unit {0}) → IsRam (ram mid) → IsRam (ram new) → LeavesPin (ram mid) (ram new) → Stands view mid new (Ok done)
      → (view.honest mid.nand ≡ true → IsTrue None (ram mid) (image_in view.flash mid) → IsSame (ram mid) (image_in view.flash mid) (ram new) (image_in view.flash new)) → GoesHonestly view mid new
  goes_by mid new done s s' beside stands same = λ is_honest k. record {
    went = stands.went is_honest (λ bus. (let no : ⊥ = cc in no));
    keeps = engine_keeps mid.geometry (ram mid) (ram new) (image_in view.flash mid) (image_in view.flash mid) (image_in view.flash new) refl s s' beside (keeps_same (ram mid) (image_in view.flash mid) k) (same is_honest k.truth);
  }

  -- a translation page was written back
  pub written_back : (t : ℕ) (mid new : Engine N) (result : Result (Unit {0}) EngineFault) → IsRam (ram mid) → IsRam (ram new) → LeavesPin (ram mid) (ram new) → Goes (ram mid) (ram new) → Stands view mid new result
      → OnOk result (new.mapping ≡ cleaned mid.mapping t) → OnOk result (IsLastPage kind.Translation t (ram new) (page_in_buffer new.page)) → WriteBackCosts (ram mid) (ram new) result
      → (view.honest mid.nand ≡ true → IsTrue None (ram mid) (image_in view.flash mid) → MatchResult result (λ done. IsWrittenBack t (ram mid) (image_in view.flash mid) (ram new) (image_in view.flash new)) (Refused (ram mid) (image_in view.flash mid) (ram new) (image_in view.flash new)))
      → OnOk result (WritesBack view t mid new)
  written_back t mid new (Ok done) s s' beside blocks stands mapping page cost truth = record {
    blocks = blocks;
    put = cost;
    page = page;
    mapping = mapping;
    honest_is = stands.honest_is;
    goes = goes_by mid new done s s' beside stands (λ is_honest true_of. (truth is_honest true_of).same);
    means = λ is_honest k. truth is_honest k.truth;
  }
  written_back t mid new (Err fault) s s' beside blocks stands mapping page cost truth = tt

  -- room first, and then the page, which lacked a row
  pub page_flushed : (t : ℕ) (old mid new : Engine N) (result : Result (Unit {0}) EngineFault) → (IsClean old.geometry t old.mapping → ⊥) → HasCleared view old mid → OnOk result (WritesBack view t mid new)
      → OnOk result (FlushesPage view t old new)
  page_flushed t old mid new (Ok done) lacks cleared back = record { clean = λ is. absurd (lacks is); lacking = λ also. record { mid = mid; cleared = cleared; back = back } }
  page_flushed t old mid new (Err fault) lacks cleared back = tt

  pub pages_then : (t : ℕ) (old mid new : Engine N) → FlushesPages view t old mid → FlushesPage view t mid new → FlushesPages view (t + 1) old new
  pages_then t old mid new before page =
      let one_more : suc t ≡ t + 1 = omega arith in
      subst (λ n. FlushesPages view n old new) one_more (mid, before, page)

  -- ---- table pages

  pub table_written : (u : ℕ) (mid new : Engine N) (done : Unit {0}) → IsRam (ram mid) → IsRam (ram new) → LeavesPin (ram mid) (ram new) → Goes (ram mid) (ram new) → Stands view mid new (Ok done)
      → new.mapping ≡ mid.mapping → IsLastPage kind.Table u (ram new) (page_in_buffer new.page) → new.page.body.items ≡ table_bytes (entries mid.geometry) (ram mid).blocks.table u → HasPut Meta (ram mid) (ram new)
      → (view.honest mid.nand ≡ true → IsTrue None (ram mid) (image_in view.flash mid) → IsTabled u (ram mid) (image_in view.flash mid) (ram new) (image_in view.flash new))
      → WritesTable view u mid new
  table_written u mid new done s s' beside blocks stands mapping page spelled cost truth = record {
    blocks = blocks;
    put = cost;
    page = page;
    spelled = spelled;
    mapping = mapping;
    honest_is = stands.honest_is;
    goes = goes_by mid new done s s' beside stands (λ is_honest true_of. (truth is_honest true_of).same);
    means = λ is_honest k. truth is_honest k.truth;
  }

  pub tables_then : (u : ℕ) (old mid new : Engine N) → WritesFirst view u old mid → WritesTable view u mid new → WritesFirst view (u + 1) old new
  tables_then u old mid new before page =
      let one_more : suc u ≡ u + 1 = omega arith in
      subst (λ n. WritesFirst view n old new) one_more (mid, before, page)

  -- rounds so far, of which each but the last saw a failure; so many blocks were good as the last began
  pub record IsInRounds (good : ℕ) (old now : Engine N) : Type 0 where
    pub starts : List (Engine N)
    pub last : Engine N
    pub failures : Repeats view old starts last
    pub round : HasRound view last now
    pub good_is : good ≡ good_count (ram last).blocks.table

  pub rounds_first : (good : ℕ) (a b : Engine N) → good ≡ good_count (ram a).blocks.table → HasRound view a b → IsInRounds good a b
  rounds_first good a b is round = record { starts = []; last = a; failures = refl; round = round; good_is = is }

  pub rounds_next : (good now : ℕ) (a b c : Engine N) → now ≡ good_count (ram b).blocks.table → now < good → IsInRounds good a b → HasRound view b c → IsInRounds now a c
  rounds_next good now a b c is lt i round = record { starts = i.last ∷ i.starts; last = b; failures = (i.failures, i.round, omega (arith, is, lt, i.good_is)); round = round; good_is = is }

  pub rounds_last : (good : ℕ) (a b : Engine N) → IsInRounds good a b → good ≤ good_count (ram b).blocks.table → good_count (ram b).blocks.table ≤ good → WritesRounds view a b
  rounds_last good a b i le ge = record { starts = i.starts; last = i.last; failed = i.failures; round = i.round; none = omega (arith, i.good_is, le, ge) }

-- the device noted nothing else
pub flushed_answer : {N : Type 0} (view : View N) (old mid new : Engine N) (answer : Result (Unit {0}) CallFault) (result : Result (Unit {0}) DeviceFault) (good : ℕ) → new ≡ mid → result ≡ answer_of (ram new) good answer
    → OnOk answer (HasFlushed view old mid) → OnOk result (HasFlushed view old new)
flushed_answer {N} view old mid new answer result good same is done =
    let here : OnOk answer (HasFlushed view old new) = subst (λ (e : Engine N). OnOk answer (HasFlushed view old e)) (sym same) done in
    subst (λ r. OnOk r (HasFlushed view old new)) (sym is) (done_too (HasFlushed view old new) answer good (ram new) here)

-- ---- the page of a sector

-- what was written is the sector's newest page
pub page_held : (kind : Kind) (n : ℕ) (body : List ℕ) (old : Ram) (before : Image) (new : Ram) (after : Image) → key_from kind n ≡ Sector n → IsWritten kind n body old before new after → HasPage kind n body new after
page_held kind n body old before new after is w = record {
  row = w.row;
  newest = subst (λ k. newest_row after k ≡ Some w.row) is w.writes.newest_now;
  its = w.writes.record_here;
  holds = w.writes.here;
}

pub one_kind : OneKindLaw
one_kind kind other n body bytes r image h o =
    let rows : Some h.row ≡ Some o.row = sym h.newest ∙ o.newest in
    let same : h.row ≡ o.row = cc in
    let its : Some (last_record kind n h.row r) ≡ Some (last_record other n o.row r) = sym h.its ∙ (ap (λ k. get_or (marks image) k None) same ∙ o.its) in
    let one : last_record kind n h.row r ≡ last_record other n o.row r = cc in
    (ap (λ (x : Record). x.kind) one, sym h.holds ∙ (ap (body_at image) same ∙ o.holds))

one_last : (kind other : Kind) (n : ℕ) (r : Ram) (p : Page) → IsLastPage kind n r p → IsLastPage other n r p → kind ≡ other
one_last kind other n r p h o =
    let both : Some h.its ≡ Some o.its = sym h.sound ∙ o.sound in
    let its : h.its ≡ o.its = cc in
    sym h.of_kind ∙ (ap (λ (x : Record). x.kind) its ∙ o.of_kind)

pub write_or_trim : WriteOrTrimLaw
write_or_trim g n bytes other r image p = (
  (λ h o. (let same : kind.Sector ≡ kind.Trim = (one_kind kind.Sector kind.Trim n bytes (zeros g) r image h o).0 in let no : ⊥ = cc in no)),
  (λ h o. (one_kind kind.Sector kind.Sector n bytes other r image h o).1),
  (λ h o. (let same : kind.Sector ≡ kind.Trim = one_last kind.Sector kind.Trim n r p h.0 o.0 in let no : ⊥ = cc in no)),
  (λ h o. sym h.1 ∙ o.1),
)

-- ---- a flush of what lacks nothing

module _ {N : Type 0} (view : View N) where
  pages_kept : (k : ℕ) (old back : Engine N) → ((t : ℕ) → t < k → IsClean old.geometry t old.mapping) → FlushesPages view k old back → back ≡ old
  pages_kept zero old back clean h = h
  pages_kept (suc k) old back clean h =
      let is : h.0 ≡ old = pages_kept k old h.0 (λ t lt. clean t (omega (arith, lt))) h.1 in
      let page : FlushesPage view k old back = subst (λ e. FlushesPage view k e back) is h.2 in
      page.clean (clean k (omega arith))

  -- each page takes a sequence, and each failure one more and a good block
  abbrev good_of : Engine N → ℕ
  good_of e = good_count (ram e).blocks.table

  abbrev data_of : Engine N → ℕ
  data_of e = (counts_of (ram e).blocks).data_left

  tables_counted : (k : ℕ) (a b : Engine N) → WritesFirst view k a b → (good_of b ≤ good_of a) × (b.next + good_of b ≡ a.next + good_of a + k) × (data_of b ≡ data_of a)
  tables_counted zero a b h =
      let goods : good_of b ≡ good_of a = ap good_of h in
      let nexts : b.next ≡ a.next = ap (λ (e : Engine N). e.next) h in
      (omega (arith, goods), omega (arith, goods, nexts), ap data_of h)
  tables_counted (suc k) a b h =
      let before = tables_counted k a h.0 h.1 in
      let good : good_of h.0 ≡ good_of b + h.2.put.failures = h.2.put.put.good in
      let next : b.next ≡ h.0.next + h.2.put.failures + 1 = h.2.put.next in
      (omega (arith, before.0, good), omega (arith, before.1, good, next), h.2.put.put.other ∙ before.2)

  repeats_lose : (starts : List (Engine N)) (a b : Engine N) → Repeats view a starts b → good_of b ≤ good_of a
  repeats_lose [] a b h = (let goods : good_of b ≡ good_of a = ap good_of h in omega (arith, goods))
  repeats_lose (start ∷ before) a b h = (let fewer = repeats_lose before a start h.0 in let less : good_of b < good_of start = h.2 in omega (arith, fewer, less))

  repeats_none : (starts : List (Engine N)) (a b : Engine N) → good_of b ≡ good_of a → Repeats view a starts b → b ≡ a
  repeats_none [] a b is h = h
  repeats_none (start ∷ before) a b is h = (let fewer = repeats_lose before a start h.0 in let less : good_of b < good_of start = h.2 in absurd (omega (arith, fewer, less, is)))

  -- nothing is done for a page where as many blocks are free as a flush wants
  pub cleared_rests : (old new : Engine N) → 9 ≤ free_count (ram old).blocks → HasCleared view old new → ram new ≡ ram old
  cleared_rests old new nine cleared = elim (cases_eq old.mapping.share 0) [
    | inl none ↦ (cleared.room none).rests nine
    | inr some ↦ ap (λ (e : Engine N). ram e) (cleared.still (omega (arith, some))).0
  ]

  -- nor as it begins
  begins_rests : (old new : Engine N) → wanted reserve.Flush (ram old) ≤ free_count (ram old).blocks → HasBegunFlush view old new → ram new ≡ ram old
  begins_rests old new enough begun = elim (cases_eq old.mapping.share 0) [
    | inl none ↦ ap (λ (e : Engine N). ram e) (begun.still none)
    | inr some ↦ (begun.room (omega (arith, some))).rests enough
  ]

  -- the die as room was made, where nothing was to be done: the memory is as it was
  rested : (old new : Engine N) → ((t : ℕ) → t < translation_pages old.geometry → IsClean old.geometry t old.mapping) → wanted reserve.Flush (ram old) ≤ free_count (ram old).blocks → (h : HasFlushed view old new) → ram h.ready ≡ ram old
  rested old new clean enough h =
      let first : ram h.begun ≡ ram old = begins_rests old h.begun enough h.begins in
      let still : (t : ℕ) → t < translation_pages h.begun.geometry → IsClean h.begun.geometry t h.begun.mapping =
      (let P : Ram → Type 0 = λ r. (t : ℕ) → t < translation_pages r.geometry → IsClean r.geometry t r.mapping in subst P (sym first) clean) in
      let sized : translation_pages old.geometry ≡ translation_pages h.begun.geometry = ap (λ (r : Ram). translation_pages r.geometry) (sym first) in
      let pages : FlushesPages view (translation_pages h.begun.geometry) h.begun h.back = subst (λ n. FlushesPages view n h.begun h.back) sized h.pages in
      let is : h.back ≡ h.begun = pages_kept (translation_pages h.begun.geometry) h.begun h.back still pages in
      let same : ram h.back ≡ ram old = ap (λ (e : Engine N). ram e) is ∙ first in
      let free : free_count (ram h.back).blocks ≡ free_count (ram old).blocks = ap (λ (r : Ram). free_count r.blocks) same in
      cleared_rests h.back h.ready (omega (arith, enough, free)) h.cleared ∙ same

  abbrev tables_of : Ram → ℕ
  tables_of r = table_pages r.geometry

  pub clean_flush : CleanFlushLaw view
  clean_flush old new clean enough good h =
      let rests : ram h.ready ≡ ram old = rested old new clean enough h in
      let begun : good_of h.ready ≡ good_of old = ap (λ (r : Ram). good_count r.blocks.table) rests in
      let ended : good_of new ≡ good_of h.tables.last = h.tables.none in
      let last : h.tables.last ≡ h.ready = repeats_none h.tables.starts h.ready h.tables.last (omega (arith, begun, ended, good)) h.tables.failed in
      let round : HasRound view h.ready new = subst (λ (e : Engine N). HasRound view e new) last h.tables.round in
      let counted = tables_counted (table_pages h.ready.geometry) h.ready new round.pages in
      let nexts : h.ready.next ≡ old.next = ap (λ (r : Ram). r.next) rests in
      let sized : table_pages h.ready.geometry ≡ table_pages old.geometry = ap tables_of rests in
      (omega (arith, counted.1, nexts, sized, begun, good), counted.2 ∙ ap (λ (r : Ram). (counts_of r.blocks).data_left) rests)

  -- one block failed, so in the first round of two
  sized_first : (k : ℕ) (a b : Engine N) → WritesFirst view k a b → b.geometry ≡ a.geometry
  sized_first zero a b h = ap (λ (e : Engine N). e.geometry) h
  sized_first (suc k) a b h = h.2.blocks.geometry ∙ sized_first k a h.0 h.1

  two_rounds : (starts : List (Engine N)) (a last new : Engine N) → Repeats view a starts last → HasRound view last new → good_of new ≡ good_of last → good_of a ≡ good_of new + 1
      → new.next ≡ a.next + 2 * table_pages a.geometry + 1
  two_rounds [] a last new h round none one = (let goods : good_of last ≡ good_of a = ap good_of h in absurd (omega (arith, goods, none, one)))
  two_rounds (start ∷ []) a last new h round none one =
      let first : HasRound view a last = subst (λ (e : Engine N). HasRound view e last) h.0 h.1 in
      let before = tables_counted (table_pages a.geometry) a last first.pages in
      let after = tables_counted (table_pages last.geometry) last new round.pages in
      let sized : table_pages last.geometry ≡ table_pages a.geometry = ap table_pages (sized_first (table_pages a.geometry) a last first.pages) in
      omega (arith, before.1, after.1, sized, none, one)
  two_rounds (start ∷ earlier ∷ before) a last new h round none one =
      let fewer = repeats_lose before a earlier h.0.0 in
      let less : good_of start < good_of earlier = h.0.2 in
      let least : good_of last < good_of start = h.2 in
      absurd (omega (arith, fewer, less, least, none, one))

  pub failed_flush : FailedFlushLaw view
  failed_flush old new clean enough one h =
      let rests : ram h.ready ≡ ram old = rested old new clean enough h in
      let begun : good_of h.ready ≡ good_of old = ap (λ (r : Ram). good_count r.blocks.table) rests in
      let twice = two_rounds h.tables.starts h.ready h.tables.last new h.tables.failed h.tables.round h.tables.none (omega (arith, begun, one)) in
      let nexts : h.ready.next ≡ old.next = ap (λ (r : Ram). r.next) rests in
      let sized : table_pages h.ready.geometry ≡ table_pages old.geometry = ap tables_of rests in
      omega (arith, twice, nexts, sized)

  pub lacking_page : LackingPageLaw view
  lacking_page t old new lacks nine h =
      let its = h.lacking lacks in
      let rests : ram its.mid ≡ ram old = cleared_rests old its.mid nine its.cleared in
      let begun : good_of its.mid ≡ good_of old = ap (λ (r : Ram). good_count r.blocks.table) rests in
      let nexts : its.mid.next ≡ old.next = ap (λ (r : Ram). r.next) rests in
      let good : good_of its.mid ≡ good_of new + its.back.put.failures = its.back.put.put.good in
      let next : new.next ≡ its.mid.next + its.back.put.failures + 1 = its.back.put.next in
      (omega (arith, begun, nexts, good, next), its.back.page, its.back.mapping ∙ ap (λ (r : Ram). cleaned r.mapping t) rests)
