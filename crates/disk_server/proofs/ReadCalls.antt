-- A read of the device as one of a disk.
use Rattle.std.proofs.Common.{◌≡◌, ◌≢◌, ◌+◌, ◌*◌, ◌<◌, ◌≤◌, ℕ, true, false, List, [], length, Some, None, Result, Ok, Err, refl, sym, ap, ◌∙◌, subst, arith}
use Rattle.std.specs.Prelude.{IsOk, IfOk, IfErr, OnOk}
use Rattle.std.specs.Option.{ForSome}
use Rattle.std.proofs.lemmas.Option.{get_or_from_slice_get}
use Rattle.page_layout.specs.View.{View}
use Rattle.page_layout.specs.declared.geometry.Geometry.{Geometry}
use Rattle.page_layout.specs.Array.{zeros}
use Rattle.page_layout.specs.Page.{Page}
use Rattle.page_layout.specs.DieCalls.{AsksOnly}
use Rattle.page_layout.specs.OnlyReads.{OnlyReads}
use Rattle.promises.specs.Step as step
use Rattle.promises.specs.Step.{ArrayState, ReadStep, ArrayStep}
use Rattle.promises.proofs.StepLemmas as steps
use Rattle.nbd_stream.specs.declared.task.Task.TheVariants.{Read}
use Rattle.nbd_stream.specs.Disk.{MayFailWith, PerformsTask, answer_from}
use Rattle.collection.specs.Stops.{room_of}
use Rattle.disk_server.specs.Flat.{AreSectors, flat}
use Rattle.disk_server.proofs.FlatLemmas.{flat_law}
use Rattle.mapping_cache.specs.Mapping.{HasLimitsOf}
use Rattle.image_check.specs.Mountable.{IsMountable}
use Rattle.collection.specs.State.{Ram}
use Rattle.collection.specs.Safe.{ram}
use Rattle.ftl_device.specs.declared.device.Device.{Device}
use Rattle.ftl_device.specs.declared.fault.DeviceFault.{DeviceFault}
use Rattle.ftl_device.specs.declared.fault.DeviceFault.TheVariants.{OutOfRange, ReadOnly, SequenceSpent, OutOfMemory, Damaged, BusFault}
use Rattle.ftl_device.specs.Device.{IsDevice}
use Rattle.ftl_device.specs.Calls.{array_in, state_in, stop_of, read_reply_of, IsWell}
use Rattle.ftl_device.specs.Read.{LeavesRead}
use Rattle.disk_server.specs.Disk.{AsksRead, holds, contents_of, IsDisk, read_answer}
use Rattle.disk_server.proofs.Sizes.{zeros_long}
use Rattle.disk_server.proofs.Tasks.{Sets, performs_by}
use Rattle.disk_server.proofs.Holding.{parts, holds_still, back, bytes, held, sized, array_sectors_of, array_count}
use Rattle.disk_server.proofs.Calls.{not_done}

-- what it leaves of the geometry, and of a fault that stops it
read_geometry : (n : ℕ) (result : Result (Unit {0}) DeviceFault) (old new : Ram) (p q : Page) (out : List ℕ) → LeavesRead n result old new p q out → new.geometry ≡ old.geometry
read_geometry n (Ok done) old new p q out left = ap (λ (r : Ram). r.geometry) left.others
read_geometry n (Err BusFault) old new p q out left = ap (λ (r : Ram). r.geometry) left
read_geometry n (Err OutOfRange) old new p q out left = ap (λ (r : Ram). r.geometry) left
read_geometry n (Err (ReadOnly good wanted failed)) old new p q out left = ap (λ (r : Ram). r.geometry) left
read_geometry n (Err SequenceSpent) old new p q out left = ap (λ (r : Ram). r.geometry) left
read_geometry n (Err OutOfMemory) old new p q out left = ap (λ (r : Ram). r.geometry) left
read_geometry n (Err Damaged) old new p q out left = ap (λ (r : Ram). r.geometry) left

read_going : (n : ℕ) (result : Result (Unit {0}) DeviceFault) (old new : Ram) (p q : Page) (out : List ℕ) → LeavesRead n result old new p q out → stop_of new.fault ≡ None → result ≢ Err BusFault
read_going n (Ok done) old new p q out left going = λ x. cc
read_going n (Err BusFault) old new p q out left going =
    let at : stop_of new.fault ≡ Some BusFault = ap (λ (r : Ram). stop_of r.fault) left in
    (let no : ⊥ = cc in absurd no)
read_going n (Err OutOfRange) old new p q out left going = λ x. cc
read_going n (Err (ReadOnly good wanted failed)) old new p q out left going = λ x. cc
read_going n (Err SequenceSpent) old new p q out left going = λ x. cc
read_going n (Err OutOfMemory) old new p q out left going = λ x. cc
read_going n (Err Damaged) old new p q out left going = λ x. cc

read_fault : (n : ℕ) (result : Result (Unit {0}) DeviceFault) (old new : Ram) (p q : Page) (out given : List ℕ) {P : Type 0} → LeavesRead n result old new p q out
    → (new.fault ≡ old.fault → P) → OnOk (answer_from (read_answer result) given) P
read_fault n (Ok done) old new p q out given left then = then (ap (λ (r : Ram). r.fault) left.others)
read_fault n (Err e) old new p q out given left then = tt

read_may : (offset count : ℕ) (result : Result (Unit {0}) DeviceFault) (given : List ℕ) → IfErr (answer_from (read_answer result) given) (MayFailWith (Read offset count))
read_may offset count (Ok done) given = tt
read_may offset count (Err e) given = refl

read_gives : (count : ℕ) (result : Result (Unit {0}) DeviceFault) (given : List ℕ) → length given ≡ count → IfOk (answer_from (read_answer result) given) (λ given. length given ≡ count)
read_gives count (Ok done) given is = is
read_gives count (Err e) given is = tt

sets_read : (g : Geometry) (n : ℕ) (out : List ℕ) (s t : ArrayState) (result : Result (Unit {0}) DeviceFault) → AreSectors g.data_bytes s.array → n < length s.array
    → ArrayStep g s (step.Read n) (read_reply_of out result) t → Sets (Read (n * g.data_bytes) g.data_bytes) [] (flat s.array) (answer_from (read_answer result) out) (flat t.array)
sets_read g n out s t (Ok done) are within h = record {
  done = ap (λ (x : ArrayState). flat x.array) h.same;
  gave = sym ((flat_law g.data_bytes n (zeros g) s.array are within (zeros_long g)).1 ∙ get_or_from_slice_get s.array n out [] h.bytes_are);
  not_done = tt;
}
sets_read g n out s t (Err e) are within h = record {
  done = tt;
  gave = tt;
  not_done = ap flat (steps.kept g s t (step.Read n) _ (not_done e) h);
}

given_by : (g : Geometry) (n : ℕ) (out : List ℕ) (s t : ArrayState) (result : Result (Unit {0}) DeviceFault) → n < g.sectors
    → ArrayStep g s (step.Read n) (read_reply_of out result) t → IsOk (read_answer result)
given_by g n out s t (Ok done) within h = refl
given_by g n out s t (Err OutOfRange) within h = absurd (omega (arith, within, h.past))
given_by g n out s t (Err (ReadOnly good wanted failed)) within h = absurd h
given_by g n out s t (Err SequenceSpent) within h = absurd h
given_by g n out s t (Err OutOfMemory) within h = absurd h
given_by g n out s t (Err Damaged) within h = absurd h
given_by g n out s t (Err BusFault) within h = absurd h

module _ {N : Type 0} (view : View N) (n : ℕ) (old new : Device N) (result : Result (Unit {0}) DeviceFault) (p q : Page) (out : List ℕ)
    (was : IsDisk view old) (same : view.honest new.engine.nand ≡ view.honest old.engine.nand)
    (stopped : ForSome (stop_of old.engine.fault) (λ fault. (result ≡ Err fault) × (new ≡ old)))
    (left : LeavesRead n result (ram old.engine) (ram new.engine) p q out) where
  pub geometry_is : new.engine.geometry ≡ old.engine.geometry
  geometry_is = read_geometry n result (ram old.engine) (ram new.engine) p q out left

  no_bus : holds view.honest new ≡ true → result ≢ Err BusFault
  no_bus h = read_going n result (ram old.engine) (ram new.engine) p q out left (parts view.honest new h).1

  back_here : holds view.honest new ≡ true → holds view.honest old ≡ true
  back_here = back view.honest old new result same stopped

  pub read_disk : (view.honest old.engine.nand ≡ true → IsWell view.flash old → result ≢ Err BusFault → IsWell view.flash new) → IsDevice view.flash new → IsDisk view new
  read_disk well device = record {
    device = device;
    well = λ h. (let before = back_here h in well (parts view.honest old before).0 (was.well before) (no_bus h));
  }

  -- it asked its die for reads, and left it as it was
  pub read_asks : OnlyReads view old.engine.nand new.engine.nand → AsksOnly view.called old.engine.nand new.engine.nand
      → HasLimitsOf old.engine.mapping new.engine.mapping → IsDisk view new
      → (view.honest old.engine.nand ≡ true → result ≢ Err BusFault → view.flash new.engine.nand ≡ view.flash old.engine.nand)
      → (view.honest old.engine.nand ≡ true → result ≢ Err BusFault → view.recorded new.engine.nand ≡ view.recorded old.engine.nand)
      → (view.honest old.engine.nand ≡ true → IsWell view.flash old → result ≢ Err BusFault → room_of (ram old.engine) ≤ 65536
      → IsMountable old.engine.geometry (room_of (ram old.engine)) (view.flash new.engine.nand).image)
      → AsksRead view old new
  read_asks only asked limits disk same told mounts = record {
    only_reads = only;
    asked = asked;
    limits = limits;
    disk = disk;
    back = back_here;
    leaves = λ held on. record {
      die_same = same (parts view.honest old held).0 (no_bus on);
      told_same = told (parts view.honest old held).0 (no_bus on);
      mountable = mounts (parts view.honest old held).0 (was.well held) (no_bus on);
    };
  }

  -- a device that holds its array still has given the sector
  pub read_given : n < old.engine.geometry.sectors
      → (view.honest old.engine.nand ≡ true → IsWell view.flash old → result ≢ Err BusFault
      → ArrayStep old.engine.geometry (state_in view.flash old) (step.Read n) (read_reply_of out result) (state_in view.flash new))
      → holds view.honest new ≡ true → IsOk (read_answer result)
  read_given within step_is h =
      let before : holds view.honest old ≡ true = back_here h in
      given_by old.engine.geometry n out (state_in view.flash old) (state_in view.flash new) result within (step_is (parts view.honest old before).0 (was.well before) (no_bus h))

  pub read_performs : n < old.engine.geometry.sectors → length out ≡ old.engine.geometry.data_bytes → IsDisk view new
      → (view.honest old.engine.nand ≡ true → IsWell view.flash old → result ≢ Err BusFault
      → ArrayStep old.engine.geometry (state_in view.flash old) (step.Read n) (read_reply_of out result) (state_in view.flash new))
      → PerformsTask (contents_of view) (holds view.honest) (λ d. false) (Read (n * old.engine.geometry.data_bytes) old.engine.geometry.data_bytes) [] old
      (answer_from (read_answer result) out) new
  read_performs within its_long now step_is = performs_by (bytes view) (holds view.honest) (Read (n * old.engine.geometry.data_bytes) old.engine.geometry.data_bytes) [] old
      (answer_from (read_answer result) out) new
      (sized view old new was now geometry_is)
      (read_fault n result (ram old.engine) (ram new.engine) p q out out left (holds_still view.honest old new same))
      back_here
      (read_may (n * old.engine.geometry.data_bytes) old.engine.geometry.data_bytes result out)
      (read_gives old.engine.geometry.data_bytes result out its_long)
      (λ h.
      let before : holds view.honest old ≡ true = back_here h in
      let taken = step_is (parts view.honest old before).0 (was.well before) (no_bus h) in
      let set_in = sets_read old.engine.geometry n out (state_in view.flash old) (state_in view.flash new) result (array_sectors_of view old was before)
      (omega (arith, array_count view old, within)) taken in
      subst (λ (l : List ℕ). Sets (Read (n * old.engine.geometry.data_bytes) old.engine.geometry.data_bytes) [] (bytes view old) (answer_from (read_answer result) out) l)
      (sym (held view new h))
      (subst (λ (l : List ℕ). Sets (Read (n * old.engine.geometry.data_bytes) old.engine.geometry.data_bytes) [] l (answer_from (read_answer result) out) (flat (array_in view.flash new)))
      (sym (held view old before)) set_in))
