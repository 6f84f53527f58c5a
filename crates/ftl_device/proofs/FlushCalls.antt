-- What is true after a flush.
use Rattle.std.proofs.Common.{◌≡◌, ◌≢◌, ◌↔◌, ℕ, ◌+◌, ◌<◌, ◌≤◌, min, Bool, true, List, [], inr, Option, None, Result, Ok, Err, MatchResult, refl, sym, ap, subst, ◌∙◌}
use Rattle.std.specs.Prelude.{OnOk, IfErr}
use Rattle.page_layout.specs.View.{View}
use Rattle.page_layout.specs.declared.geometry.Geometry.{Geometry}
use Rattle.page_layout.specs.Page.{Image}
use Rattle.page_layout.specs.Flash.{Flash, Operation}
use Rattle.page_layout.specs.Recording.{Recording}
use Rattle.page_layout.specs.Geometry.{table_pages}
use Rattle.page_layout.specs.Array.{HasOneArray}
use Rattle.bad_blocks.specs.Table.{good_count, wear_at, most_wear}
use Rattle.promises.specs.Log.{bad_of, passed_erases_of}
use Rattle.promises.specs.Step.{Command}
use Rattle.image_check.specs.Blocks.{erase_count}
use Rattle.image_check.specs.Stale.{stale_sectors}
use Rattle.image_check.specs.Mountable.{IsMountable}
use Rattle.collection.specs.declared.engine.Engine.{Engine}
use Rattle.collection.specs.State.{Ram}
use Rattle.collection.specs.Safe.{IsRam, ram, image_in}
use Rattle.collection.specs.Truth.{IsTrue}
use Rattle.collection.specs.Log.{Went}
use Rattle.collection.specs.declared.fault.EngineFault.TheVariants as engine_fault
use Rattle.ftl_device.specs.declared.fault.CallFault.{CallFault}
use Rattle.ftl_device.specs.declared.fault.CallFault.TheVariants as call
use Rattle.ftl_device.specs.declared.fault.DeviceFault.{DeviceFault}
use Rattle.ftl_device.specs.declared.fault.DeviceFault.TheVariants.{OutOfRange, ReadOnly, SequenceSpent, OutOfMemory, Damaged, BusFault}
use Rattle.ftl_device.specs.Calls.{stop_of, PinIsTrue, KeepsArray, CallRefused, CallTells, standing_after, answer_of}
use Rattle.ftl_device.specs.Counts.{is_bad_by, IsShownByRefusal, IsLeftReadOnly}
use Rattle.ftl_device.specs.Shortage.{CallShort, FlushShort}
use Rattle.ftl_device.specs.Flush.{IsFlushed, HasNewTables, MayNotFlush, ShowsBad, first_of, IsFlushedOut}
use Rattle.ftl_device.proofs.CallLemmas.{well_ram, pin_at}
use Rattle.ftl_device.proofs.CountLemmas.{short_law, bad_now_law}
use Rattle.ftl_device.proofs.ShownLemmas.{shown_after}
use Rattle.ftl_device.proofs.RenewedLemmas.{tables_new}
use Rattle.ftl_device.proofs.FlushLemmas.{fresh_law, anywhere_law, shown_bad_law, shown_wear_law}

pub flush_well : (answer : Result (Unit {0}) CallFault) (result : Result (Unit {0}) DeviceFault) (good : ℕ) (g : Geometry) (before after : Image)
    (r q : Ram) → r.fault ≡ standing_after answer → result ≡ answer_of q good answer → result ≢ Err BusFault
    → MatchResult answer (λ _. KeepsArray g before r after) (CallRefused g before r after)
    → (stop_of r.fault ≡ None) × IsTrue None r after × PinIsTrue r.fault r after
flush_well (Ok done) result good g before after r q fault is ne h = (ap stop_of fault, h.truth.truth, pin_at r after None fault (h.truth.passed, h.truth.few))
flush_well (Err f) result good g before after r q fault is ne h = well_ram (Err f) result good 0 [] g before after r q fault is ne h

pub flush_shown : {N : Type 0} (view : View N) (old e last : Engine N)
    (w : Went (ram old) (view.flash old.nand) (view.recorded old.nand) (ram last) (view.flash last.nand) (view.recorded last.nand)) (ro : Bool)
    (answer : Result (Unit {0}) CallFault) (result : Result (Unit {0}) DeviceFault) (good : ℕ) → last ≡ e → IsRam (ram old) → e.mapping.share ≡ old.mapping.share → IsRam (ram e)
    → e.geometry ≡ old.geometry → good ≡ good_count (ram old).blocks.table
    → result ≡ answer_of (ram last) good answer → CallTells (ram old) (ram e) answer
    → ((fault : CallFault) → answer ≡ Err fault → CallShort (ram old) (ram e) answer)
    → MatchResult answer (λ _. KeepsArray old.geometry (image_in view.flash old) (ram e) (image_in view.flash e))
    (CallRefused old.geometry (image_in view.flash old) (ram e) (image_in view.flash e))
    → result ≢ Err BusFault → IfErr result (IsShownByRefusal old.geometry old.mapping.share (is_bad_by (ram old)) old.next [] w.log ro (image_in view.flash last))
flush_shown view old e last w ro (Ok done) result good same safe shared safe' sized many is tells lacks so ne = subst (λ y. IfErr y (IsShownByRefusal old.geometry old.mapping.share (is_bad_by (ram old)) old.next [] w.log ro (image_in view.flash last))) (sym is) tt
flush_shown view old e last w ro (Err f) result good same safe shared safe' sized many is tells lacks so ne = shown_after view old e last w 0 [] ro (Err f) result good same safe shared safe' sized many is tells (lacks f refl) so ne

-- where it was not to begin
pub flush_refused : (r : Ram) (s : Flash) {told told' : Option Recording} (w : Went r s told r s told') (ro : Bool) (fault : DeviceFault) → IsRam r
    → IsTrue None r s.image → stop_of r.fault ≡ None → MayNotFlush r ro fault → IsShownByRefusal r.geometry r.mapping.share (is_bad_by r) r.next [] w.log ro s.image fault
flush_refused r s w ro OutOfRange safe truth going not = tt
flush_refused r s w ro (ReadOnly good wanted failed) safe truth going not = (short_law r r w.log s.image good wanted failed safe safe refl refl w.follows truth not.short, inr (inr not.closed))
flush_refused r s w ro SequenceSpent safe truth going not = sym w.next ∙ not.last
flush_refused r s w ro OutOfMemory safe truth going not = tt
flush_refused r s w ro Damaged safe truth going not = (let no : ⊥ = cc in no)
flush_refused r s w ro BusFault safe truth going not = (let no : ⊥ = cc in no)

pub flush_left_refused : (command : Command) (r : Ram) (log : List Operation) (ro : Bool) (fault : DeviceFault) → MayNotFlush r ro fault → IsLeftReadOnly command r.geometry r.mapping.share (is_bad_by r) [] log ro (Err fault)
flush_left_refused command r log ro OutOfRange not = absurd not
flush_left_refused command r log ro (ReadOnly good wanted failed) not = tt
flush_left_refused command r log ro SequenceSpent not = tt
flush_left_refused command r log ro OutOfMemory not = absurd not
flush_left_refused command r log ro Damaged not = tt
flush_left_refused command r log ro BusFault not = tt

-- what a refused flush lacks
pub flush_lacks : (answer : Result (Unit {0}) CallFault) (a b : Ram) → FlushShort a b answer → (fault : CallFault) → answer ≡ Err fault → CallShort a b answer
flush_lacks (Ok done) a b h fault is = (let no : ⊥ = cc in absurd no)
flush_lacks (Err (call.Engine engine_fault.ReadOnly)) a b h fault is = h
flush_lacks (Err (call.Engine engine_fault.SequenceSpent)) a b h fault is = tt
flush_lacks (Err (call.Engine engine_fault.Damaged)) a b h fault is = tt
flush_lacks (Err (call.Engine engine_fault.Bus)) a b h fault is = tt
flush_lacks (Err call.OutOfMemory) a b h fault is = absurd h

-- ---- where it was done

goes_anywhere : (g : Geometry) (r : Ram) (image : Image) → r.geometry ≡ g → IsRam r → IsTrue None r image → IsFlushed r image → (capacity : ℕ) → 1 ≤ capacity → capacity ≤ 65536 → IsMountable g capacity image
goes_anywhere g r image same s w f = λ capacity least most. subst (λ x. IsMountable x capacity image) same (anywhere_law r image capacity s w f least most)

is_fresh : (g : Geometry) (r : Ram) (image : Image) → r.geometry ≡ g → IsTrue None r image → IsFlushed r image → stale_sectors g image ≡ []
is_fresh g r image same w f = subst (λ x. stale_sectors x image ≡ []) same (fresh_law r image w f)

shows_wear : (old r : Ram) (s t : Flash) {told told' : Option Recording} → r.geometry ≡ old.geometry → IsTrue None old s.image → IsRam r
    → IsTrue None r t.image → IsFlushed r t.image → (w : Went old s told r t told') (b : ℕ) → b < old.geometry.blocks
    → erase_count old.geometry t.image b ≡ min (wear_at old.blocks.table b + passed_erases_of w.log b) most_wear
shows_wear old r s t same before safe truth f w b lt =
    let here = subst (λ (x : Geometry). (k : ℕ) → k < x.blocks → erase_count x t.image k ≡ wear_at r.blocks.table k) same (λ k few. shown_wear_law r t.image k safe truth f few) in
    here b lt ∙ w.wears.worn b (before.worn.most b)

shows_bad : (old r : Ram) (s t : Flash) {told told' : Option Recording} → r.geometry ≡ old.geometry → IsRam old → IsRam r → IsTrue None r t.image
    → IsFlushed r t.image → (w : Went old s told r t told') (b : ℕ) → b < old.geometry.blocks
    → ShowsBad old.geometry t.image b ↔ (bad_of old.geometry.pages (is_bad_by old) w.log b ≡ true)
shows_bad old r s t same before safe truth f w b lt =
    let here : ShowsBad r.geometry t.image b ↔ (is_bad_by r b ≡ true) = shown_bad_law r t.image b safe truth f (subst (λ (x : Geometry). b < x.blocks) (sym same) lt) in
    let now = bad_now_law old r w.log b before.blocks_of w.follows lt in
    subst (λ v. ShowsBad old.geometry t.image b ↔ (v ≡ true)) now (subst (λ x. ShowsBad x t.image b ↔ (is_bad_by r b ≡ true)) same here)

-- all of it, by the log that led there
pub flushed_out : (answer : Result (Unit {0}) CallFault) (old r : Ram) (s t : Flash) {told told' : Option Recording} → r.geometry ≡ old.geometry
    → IsRam old → IsRam r → IsTrue None old s.image
    → MatchResult answer (λ _. KeepsArray old.geometry s.image r t.image) (CallRefused old.geometry s.image r t.image)
    → OnOk answer (IsFlushed r t.image)
    → OnOk answer (HasNewTables (table_pages old.geometry) old.geometry t.image) → (w : Went old s told r t told') → OnOk answer (IsFlushedOut (first_of old) w.log t.image)
flushed_out (Ok done) old r s t same before safe known h f new w = record {
  anywhere = goes_anywhere old.geometry r t.image same safe h.truth.truth f;
  fresh = is_fresh old.geometry r t.image same h.truth.truth f;
  bad = shows_bad old r s t same before safe h.truth.truth f w;
  wear = shows_wear old r s t same known safe h.truth.truth f w;
  renewed = λ two. tables_new old.geometry t.image (subst (λ g. HasOneArray g t.image) same h.truth.truth.one) new two;
}
flushed_out (Err fault) old r s t same before safe known h f new w = tt
