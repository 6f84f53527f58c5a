-- What a refused call shows of the image and of its log.
use Rattle.std.proofs.Common.{◌≡◌, ◌≢◌, ℕ, ◌+◌, ◌≤◌, ◌<◌, ◌⊎◌, inl, inr, Bool, true, List, [], Option, None, Result, Ok, Err, MatchResult, refl, sym, ap}
use Rattle.std.proofs.Common.{subst, ◌∙◌, arith}
use Rattle.std.specs.Prelude.{IfErr}
use Rattle.std.proofs.lemmas.Bool.{ltb-true}
use Rattle.page_layout.specs.View.{View}
use Rattle.page_layout.specs.declared.geometry.Geometry.{Geometry}
use Rattle.page_layout.specs.Flash.{Flash, Operation}
use Rattle.page_layout.specs.Recording.{Recording}
use Rattle.bad_blocks.specs.Table.{good_count}
use Rattle.allocation.specs.State.{free_count}
use Rattle.promises.specs.Step.{Command}
use Rattle.promises.specs.Log.{failed_count}
use Rattle.collection.specs.declared.engine.Engine.{Engine}
use Rattle.collection.specs.declared.fault.EngineFault.TheVariants as engine_fault
use Rattle.collection.specs.State.{Ram}
use Rattle.collection.specs.Safe.{IsRam, ram, image_in}
use Rattle.collection.specs.Truth.{IsTrue}
use Rattle.collection.specs.Log.{Went}
use Rattle.ftl_device.specs.declared.fault.CallFault.{CallFault}
use Rattle.ftl_device.specs.declared.fault.CallFault.TheVariants as call
use Rattle.ftl_device.specs.declared.fault.DeviceFault.{DeviceFault}
use Rattle.ftl_device.specs.declared.fault.DeviceFault.TheVariants.{OutOfRange, ReadOnly, SequenceSpent, OutOfMemory, Damaged, BusFault}
use Rattle.ftl_device.specs.Calls.{stop_of, ChangesOneSector, CallTells, CallRefused, MayNot, answer_of}
use Rattle.ftl_device.specs.Counts.{is_bad_by, IsShownByRefusal, IsLeftReadOnly, is_flush}
use Rattle.ftl_device.specs.Shortage.{LacksGood, CallShort, FlushShort}
use Rattle.ftl_device.specs.Begin.{is_scarce}
use Rattle.ftl_device.proofs.CountLemmas.{short_law, lacks_short, failed_counted}

-- where the device was not to change a sector
pub shown_refused : (r : Ram) (s : Flash) {told told' : Option Recording} (w : Went r s told r s told') (ro : Bool) (n : ℕ) (fault : DeviceFault)
    → IsRam r → IsTrue None r s.image → stop_of r.fault ≡ None → MayNot r ro n fault
    → IsShownByRefusal r.geometry r.mapping.share (is_bad_by r) r.next [] w.log ro s.image fault
shown_refused r s w ro n OutOfRange safe truth going not = tt
shown_refused r s w ro n (ReadOnly good wanted failed) safe truth going not = (short_law r r w.log s.image good wanted failed safe safe refl refl w.follows truth not.short, inr (inr not.closed))
shown_refused r s w ro n SequenceSpent safe truth going not = sym w.next ∙ not.last
shown_refused r s w ro n OutOfMemory safe truth going not = tt
shown_refused r s w ro n Damaged safe truth going not = (let no : ⊥ = cc in no)
shown_refused r s w ro n BusFault safe truth going not = (let no : ⊥ = cc in no)

-- where it was stopped short
shown_at : (old r : Ram) (s t : Flash) {told told' : Option Recording} (w : Went old s told r t told') (g : Geometry) (n : ℕ) (bytes : List ℕ)
    (ro : Bool) (answer : Result (Unit {0}) CallFault) → IsRam old → r.mapping.share ≡ old.mapping.share → IsRam r → r.geometry ≡ old.geometry → CallTells old r answer
    → CallShort old r answer → MatchResult answer (λ _. ChangesOneSector g n bytes s.image r t.image) (CallRefused g s.image r t.image)
    → answer_of r (good_count old.blocks.table) answer ≢ Err BusFault → IfErr (answer_of r (good_count old.blocks.table) answer) (IsShownByRefusal old.geometry old.mapping.share (is_bad_by old) old.next [] w.log ro t.image)
shown_at old r s t w g n bytes ro (Ok done) safe shared safe' same tells lacks so ne = tt
shown_at old r s t w g n bytes ro (Err (call.Engine engine_fault.ReadOnly)) safe shared safe' same tells lacks so ne =
    (short_law old r w.log t.image _ _ _ safe safe' same shared w.follows so.truth (record { scarce = tells.0; good_is = refl; wanted_is = refl; failed_is = omega (arith, tells.1) }), lacks_short old r w.log safe safe' same w.follows ro lacks)
shown_at old r s t w g n bytes ro (Err (call.Engine engine_fault.SequenceSpent)) safe shared safe' same tells lacks so ne = sym w.next ∙ tells
shown_at old r s t w g n bytes ro (Err (call.Engine engine_fault.Damaged)) safe shared safe' same tells lacks so ne = so
shown_at old r s t w g n bytes ro (Err (call.Engine engine_fault.Bus)) safe shared safe' same tells lacks so ne = ne refl
shown_at old r s t w g n bytes ro (Err call.OutOfMemory) safe shared safe' same tells lacks so ne = tt

pub shown_after : {N : Type 0} (view : View N) (old e last : Engine N)
    (w : Went (ram old) (view.flash old.nand) (view.recorded old.nand) (ram last) (view.flash last.nand) (view.recorded last.nand)) (n : ℕ) (bytes : List ℕ)
    (ro : Bool) (answer : Result (Unit {0}) CallFault) (result : Result (Unit {0}) DeviceFault) (good : ℕ) → last ≡ e → IsRam (ram old) → e.mapping.share ≡ old.mapping.share
    → IsRam (ram e) → e.geometry ≡ old.geometry → good ≡ good_count (ram old).blocks.table
    → result ≡ answer_of (ram last) good answer → CallTells (ram old) (ram e) answer → CallShort (ram old) (ram e) answer
    → MatchResult answer (λ _. ChangesOneSector old.geometry n bytes (image_in view.flash old) (ram e) (image_in view.flash e))
    (CallRefused old.geometry (image_in view.flash old) (ram e) (image_in view.flash e))
    → result ≢ Err BusFault → IfErr result (IsShownByRefusal old.geometry old.mapping.share (is_bad_by (ram old)) old.next [] w.log ro (image_in view.flash last))
shown_after {N} view old e last w n bytes ro answer result good same safe shared safe' sized many is tells lacks so ne =
    let whole : result ≡ answer_of (ram e) (good_count (ram old).blocks.table) answer = is ∙ (ap (λ x. answer_of (ram x) good answer) same ∙ ap (λ k. answer_of (ram e) k answer) many) in
    let P : Engine N → Type 0 = λ x. (v : Went (ram old) (view.flash old.nand) (view.recorded old.nand) (ram x) (view.flash x.nand) (view.recorded x.nand)) → IfErr result (IsShownByRefusal old.geometry old.mapping.share (is_bad_by (ram old)) old.next [] v.log ro (image_in view.flash x)) in
    let here : P e = λ v. subst (λ y. IfErr y (IsShownByRefusal old.geometry old.mapping.share (is_bad_by (ram old)) old.next [] v.log ro (image_in view.flash e))) (sym whole)
    (shown_at (ram old) (ram e) (view.flash old.nand) (view.flash e.nand) v old.geometry n bytes ro answer safe shared safe' sized tells lacks so (λ bus. ne (whole ∙ bus))) in
    subst P (sym same) here w

-- ---- where the device is left read-only

-- five free blocks leave it as it was
not_scarce : (free : ℕ) → 5 ≤ free → is_scarce free ≡ true → ⊥
not_scarce free five is = (let less : free < 5 = ltb-true free 5 is in omega arith)

module _ (command : Command) (old r : Ram) (s t : Flash) {told told' : Option Recording} (w : Went old s told r t told') (ro : Bool) (safe : IsRam old) (safe' : IsRam r) (same : r.geometry ≡ old.geometry) (scarce : is_scarce (free_count r.blocks) ≡ true) where
  lacks_now : LacksGood old r ⊎ (5 ≤ free_count r.blocks) → LacksGood old r
  lacks_now (inl lacks) = lacks
  lacks_now (inr five) = absurd (not_scarce (free_count r.blocks) five scarce)

  pub left_at : (good : ℕ) (answer : Result (Unit {0}) CallFault) → CallShort old r answer → IsLeftReadOnly command old.geometry old.mapping.share (is_bad_by old) [] w.log ro (answer_of r good answer)
  left_at good (Ok done) h = inl (lacks_short old r w.log safe safe' same w.follows ro (lacks_now h))
  left_at good (Err (call.Engine engine_fault.ReadOnly)) h = tt
  left_at good (Err (call.Engine engine_fault.SequenceSpent)) h = tt
  left_at good (Err (call.Engine engine_fault.Damaged)) h = tt
  left_at good (Err (call.Engine engine_fault.Bus)) h = tt
  left_at good (Err call.OutOfMemory) h = lacks_short old r w.log safe safe' same w.follows ro (lacks_now h)

  two_failed : 2 + good_count r.blocks.table ≤ good_count old.blocks.table → 1 < failed_count old.geometry w.log
  two_failed two = omega (arith, failed_counted old r w.log safe safe' same w.follows)

  pub flush_left_at : is_flush command ≡ true → (good : ℕ) (answer : Result (Unit {0}) CallFault) → FlushShort old r answer → IsLeftReadOnly command old.geometry old.mapping.share (is_bad_by old) [] w.log ro (answer_of r good answer)
  flush_left_at its good (Ok done) (inl lacks) = inl (lacks_short old r w.log safe safe' same w.follows ro lacks)
  flush_left_at its good (Ok done) (inr (inl two)) = inr (its, two_failed two)
  flush_left_at its good (Ok done) (inr (inr five)) = absurd (not_scarce (free_count r.blocks) five scarce)
  flush_left_at its good (Err (call.Engine engine_fault.ReadOnly)) h = tt
  flush_left_at its good (Err (call.Engine engine_fault.SequenceSpent)) h = tt
  flush_left_at its good (Err (call.Engine engine_fault.Damaged)) h = tt
  flush_left_at its good (Err (call.Engine engine_fault.Bus)) h = tt
  flush_left_at its good (Err call.OutOfMemory) h = absurd h

module _ {N : Type 0} (view : View N) (command : Command) (old e last : Engine N)
    (w : Went (ram old) (view.flash old.nand) (view.recorded old.nand) (ram last) (view.flash last.nand) (view.recorded last.nand)) (ro after : Bool)
    (answer : Result (Unit {0}) CallFault) (result : Result (Unit {0}) DeviceFault) (good : ℕ)
    (same : last ≡ e) (is : result ≡ answer_of (ram last) good answer) (safe : IsRam (ram old)) (safe' : IsRam (ram last)) (sized : e.geometry ≡ old.geometry) (flag : after ≡ is_scarce (free_count (ram last).blocks)) (on : after ≡ true) where
  abbrev Left : Result (Unit {0}) DeviceFault → Type 0
  Left x = IsLeftReadOnly command old.geometry old.mapping.share (is_bad_by (ram old)) [] w.log ro x

  here : last.geometry ≡ old.geometry
  here = ap (λ (x : Engine N). x.geometry) same ∙ sized

  pub left_after : CallShort (ram old) (ram e) answer → IsLeftReadOnly command old.geometry old.mapping.share (is_bad_by (ram old)) [] w.log ro result
  left_after lacks = subst Left (sym is) (left_at command (ram old) (ram last) (view.flash old.nand) (view.flash last.nand) w ro safe safe' here (sym flag ∙ on) good answer (subst (λ (x : Engine N). CallShort (ram old) (ram x) answer) (sym same) lacks))

  pub flush_left_after : is_flush command ≡ true → FlushShort (ram old) (ram e) answer → IsLeftReadOnly command old.geometry old.mapping.share (is_bad_by (ram old)) [] w.log ro result
  flush_left_after its lacks = subst Left (sym is) (flush_left_at command (ram old) (ram last) (view.flash old.nand) (view.flash last.nand) w ro safe safe' here (sym flag ∙ on) its good answer (subst (λ (x : Engine N). FlushShort (ram old) (ram x) answer) (sym same) lacks))

-- where it was not to begin
pub left_refused : (command : Command) (r : Ram) (log : List Operation) (ro : Bool) (n : ℕ) (fault : DeviceFault) → MayNot r ro n fault → IsLeftReadOnly command r.geometry r.mapping.share (is_bad_by r) [] log ro (Err fault)
left_refused command r log ro n OutOfRange not = tt
left_refused command r log ro n (ReadOnly good wanted failed) not = tt
left_refused command r log ro n SequenceSpent not = tt
left_refused command r log ro n OutOfMemory not = absurd not
left_refused command r log ro n Damaged not = tt
left_refused command r log ro n BusFault not = tt
