-- What is true after a call.
use Rattle.std.proofs.Common.{◌≡◌, ◌≢◌, ℕ, ◌+◌, ◌≤◌, List, None, Option, Some, Result, Ok, Err, MatchResult, refl, sym, ap, subst, ◌∙◌, arith}
use Rattle.std.specs.Prelude.{OnOk}
use Rattle.page_layout.specs.View.{View}
use Rattle.page_layout.specs.declared.geometry.Geometry.{Geometry}
use Rattle.page_layout.specs.Page.{Image}
use Rattle.page_layout.specs.Flash.{Flash}
use Rattle.mapping_cache.specs.Mapping.{HasLimitsOf}
use Rattle.image_check.specs.Mountable.{IsMountable}
use Rattle.collection.specs.declared.engine.Engine.{Engine}
use Rattle.collection.specs.declared.fault.EngineFault.{EngineFault}
use Rattle.collection.specs.declared.fault.EngineFault.TheVariants as engine_fault
use Rattle.collection.specs.State.{Ram}
use Rattle.collection.specs.Stops.{room_of}
use Rattle.collection.specs.Safe.{IsRam, ram, image_in}
use Rattle.collection.specs.Truth.{IsTrue}
use Rattle.collection.specs.Log.{Went}
use Rattle.ftl_device.specs.declared.device.Device.{Device}
use Rattle.ftl_device.specs.declared.fault.CallFault.{CallFault}
use Rattle.ftl_device.specs.declared.fault.CallFault.TheVariants as call
use Rattle.ftl_device.specs.declared.fault.DeviceFault.{DeviceFault}
use Rattle.ftl_device.specs.declared.fault.DeviceFault.TheVariants.{BusFault, OutOfMemory}
use Rattle.ftl_device.specs.Calls.{stop_of, PinIsTrue, IsWell, ChangesOneSector, CallRefused, standing_after, answer_of, IsMostRecent}
use Rattle.ftl_device.proofs.MountableLemmas.{restart_more}

pub pin_at : (r : Ram) (image : Image) (fault : Option EngineFault) → r.fault ≡ fault → PinIsTrue fault r image → PinIsTrue r.fault r image
pin_at r image fault is h = subst (λ f. PinIsTrue f r image) (sym is) h

-- the engine isn't stopped, and what it knows is so
pub well_ram : (answer : Result (Unit {0}) CallFault) (result : Result (Unit {0}) DeviceFault) (good n : ℕ) (bytes : List ℕ) (g : Geometry)
    (before after : Image) (r q : Ram) → r.fault ≡ standing_after answer → result ≡ answer_of q good answer → result ≢ Err BusFault
    → MatchResult answer (λ _. ChangesOneSector g n bytes before r after) (CallRefused g before r after)
    → (stop_of r.fault ≡ None) × IsTrue None r after × PinIsTrue r.fault r after
well_ram (Ok done) result good n bytes g before after r q fault is ne h = (ap stop_of fault, h.truth.truth, pin_at r after None fault (h.truth.passed, h.truth.few))
well_ram (Err (call.Engine engine_fault.ReadOnly)) result good n bytes g before after r q fault is ne h = (ap stop_of fault, h.truth, pin_at r after (Some engine_fault.ReadOnly) fault tt)
well_ram (Err (call.Engine engine_fault.SequenceSpent)) result good n bytes g before after r q fault is ne h = (ap stop_of fault, h.truth, pin_at r after (Some engine_fault.SequenceSpent) fault h.few)
well_ram (Err (call.Engine engine_fault.Damaged)) result good n bytes g before after r q fault is ne h = absurd h
well_ram (Err (call.Engine engine_fault.Bus)) result good n bytes g before after r q fault is ne h = absurd (ne is)
well_ram (Err call.OutOfMemory) result good n bytes g before after r q fault is ne h = (ap stop_of fault, h.truth.truth, pin_at r after None fault (h.truth.passed, h.truth.few))

pub well_device : {N : Type 0} (flash : N → Flash) (d : Device N) (e : Engine N) → d.engine ≡ e → (stop_of e.fault ≡ None) × IsTrue None (ram e) (image_in flash e) × PinIsTrue e.fault (ram e) (image_in flash e) → IsWell flash d
well_device {N} flash d e same known =
    let P : Engine N → Type 0 = λ x. (stop_of x.fault ≡ None) × IsTrue None (ram x) (image_in flash x) × PinIsTrue x.fault (ram x) (image_in flash x) in
    let all : P d.engine = subst P (sym same) known in
    record { going = all.0; truth = all.1; pinned = all.2 }

-- a growth was refused while the sector was made ready
pub memory_only : (answer : Result (Unit {0}) CallFault) (result : Result (Unit {0}) DeviceFault) (good : ℕ) (q : Ram) → result ≡ answer_of q good answer → result ≡ Err OutOfMemory → answer ≡ Err call.OutOfMemory
memory_only (Ok done) result good q is e = (let no : ⊥ = cc in absurd no)
memory_only (Err (call.Engine engine_fault.ReadOnly)) result good q is e = (let no : ⊥ = cc in absurd no)
memory_only (Err (call.Engine engine_fault.SequenceSpent)) result good q is e = (let no : ⊥ = cc in absurd no)
memory_only (Err (call.Engine engine_fault.Damaged)) result good q is e = (let no : ⊥ = cc in absurd no)
memory_only (Err (call.Engine engine_fault.Bus)) result good q is e = (let no : ⊥ = cc in absurd no)
memory_only (Err call.OutOfMemory) result good q is e = refl

-- a certificate for the image is to be had, at the capacity that the device had before
pub mountable_after : {N : Type 0} (flash : N → Flash) (old : Engine N) (d : Device N) (e : Engine N) → d.engine ≡ e → e.geometry ≡ old.geometry
    → HasLimitsOf old.mapping e.mapping → IsRam (ram d.engine) → IsWell flash d → room_of (ram old) ≤ 65536
    → IsMountable old.geometry (room_of (ram old)) (image_in flash d.engine)
mountable_after {N} flash old d e same sized limits safe w most =
    let g : d.engine.geometry ≡ old.geometry = ap (λ (x : Engine N). x.geometry) same ∙ sized in
    let cap : d.engine.mapping.capacity ≡ old.mapping.capacity = ap (λ (x : Engine N). x.mapping.capacity) same ∙ limits.capacity in
    let share : d.engine.mapping.share ≡ old.mapping.share = ap (λ (x : Engine N). x.mapping.share) same ∙ limits.share in
    let room : room_of (ram d.engine) ≡ room_of (ram old) = rw (cap, share, g) refl in
    subst (λ h. IsMountable h (room_of (ram old)) (image_in flash d.engine)) g (restart_more (ram d.engine) (image_in flash d.engine) (room_of (ram old)) safe w.truth (omega (arith, room)) most)

-- so it is where nothing was programmed
pub mountable_kept : {N : Type 0} (flash : N → Flash) (old new : Engine N) → flash new.nand ≡ flash old.nand → IsRam (ram old)
    → IsTrue None (ram old) (image_in flash old) → room_of (ram old) ≤ 65536 → IsMountable old.geometry (room_of (ram old)) (image_in flash new)
mountable_kept flash old new same safe truth most = subst (λ (s : Flash). IsMountable old.geometry (room_of (ram old)) s.image) (sym same) (restart_more (ram old) (image_in flash old) (room_of (ram old)) safe truth (omega arith) most)

-- what is so of a call that was done is so of the answer
pub done_too : (P : Type 0) (answer : Result (Unit {0}) CallFault) (good : ℕ) (q : Ram) → OnOk answer P → OnOk (answer_of q good answer) P
done_too P (Ok done) good q h = h
done_too P (Err (call.Engine engine_fault.ReadOnly)) good q h = tt
done_too P (Err (call.Engine engine_fault.SequenceSpent)) good q h = tt
done_too P (Err (call.Engine engine_fault.Damaged)) good q h = tt
done_too P (Err (call.Engine engine_fault.Bus)) good q h = tt
done_too P (Err call.OutOfMemory) good q h = tt

pub recent_after : {N : Type 0} (e last : Engine N) (n : ℕ) (answer : Result (Unit {0}) CallFault) (result : Result (Unit {0}) DeviceFault) (good : ℕ)
    → last ≡ e → result ≡ answer_of (ram last) good answer → OnOk answer (IsMostRecent n e.mapping) → OnOk result (IsMostRecent n last.mapping)
recent_after {N} e last n answer result good same is first =
    let here : OnOk answer (IsMostRecent n last.mapping) = subst (λ (x : Engine N). OnOk answer (IsMostRecent n x.mapping)) (sym same) first in
    subst (λ r. OnOk r (IsMostRecent n last.mapping)) (sym is) (done_too (IsMostRecent n last.mapping) answer good (ram last) here)

-- and the log of a call is the engine's
pub went_after : {N : Type 0} (view : View N) (old e last : Engine N) (answer : Result (Unit {0}) CallFault)
    (result : Result (Unit {0}) DeviceFault) (good : ℕ) → last ≡ e → result ≡ answer_of (ram last) good answer
    → (answer ≢ Err (call.Engine engine_fault.Bus) → Went (ram old) (view.flash old.nand) (view.recorded old.nand) (ram e) (view.flash e.nand) (view.recorded e.nand))
    → result ≢ Err BusFault → Went (ram old) (view.flash old.nand) (view.recorded old.nand) (ram last) (view.flash last.nand) (view.recorded last.nand)
went_after {N} view old e last answer result good same is w ne =
    let P : Engine N → Type 0 = λ x. Went (ram old) (view.flash old.nand) (view.recorded old.nand) (ram x) (view.flash x.nand) (view.recorded x.nand) in
    subst P (sym same) (w (λ bus. ne (is ∙ ap (answer_of (ram last) good) bus)))
