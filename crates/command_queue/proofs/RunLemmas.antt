-- A run goes on by one call.
use Rattle.std.proofs.Common.{◌≡◌, ◌≢◌, ◌↔◌, ℕ, ◌==◌, ◌+◌, ◌<◌, ◌≤◌, min, inl, inr, Bool, true, false, not, ◌&&◌, List, [], ◌∷◌, ◌++◌, Option, Some, Result, Ok, Err, refl, sym, ap, subst}
use Rattle.std.proofs.Common.{◌∙◌, None, arith, append_assoc}
use Rattle.std.specs.Prelude.{◌⊎◌, IfErr, OnOk, IsSome, is_some}
use Rattle.std.proofs.lemmas.Bool.{eqb-true}
use Rattle.std.proofs.lemmas.List.{map-append, append-nil}
use Rattle.page_layout.specs.View.{View}
use Rattle.page_layout.specs.declared.geometry.Geometry.{Geometry}
use Rattle.page_layout.specs.Page.{Image, Page}
use Rattle.page_layout.specs.Flash.{Flash, Operation, Leads}
use Rattle.page_layout.specs.Recording.{Recording, Records}
use Rattle.page_layout.specs.declared.record.Key.TheVariants.{Table}
use Rattle.page_layout.specs.Sound.{version_for}
use Rattle.page_layout.specs.Version.{is_old, AddsNoOld}
use Rattle.page_layout.proofs.RecordingLemmas.{records_none}
use Rattle.ftl_device.specs.Stopped.{SurvivesStops}
use Rattle.page_layout.specs.Array.{array_of}
use Rattle.bad_blocks.specs.Table.{wear_at, most_wear}
use Rattle.allocation.specs.State.{State}
use Rattle.mapping_cache.specs.Mapping.{HasLimitsOf}
use Rattle.image_check.specs.Stale.{stale_sectors}
use Rattle.image_check.specs.Blocks.{erase_count}
use Rattle.image_check.specs.Mountable.{IsMountable}
use Rattle.promises.specs.Step as step
use Rattle.promises.specs.Step.{Reply, ArrayStep, WriteStep, ReadStep, QuietStep}
use Rattle.promises.specs.Log.{programs_in, bad_of, passed_erases_of}
use Rattle.promises.specs.Legal.{accounted_all}
use Rattle.promises.specs.Run as runs
use Rattle.promises.specs.Run.{Event, Run, Happens, DeviceView, state_of, commands_of, replies_of, log_of, last_of}
use Rattle.promises.proofs.LogLemmas.{counts}
use Rattle.promises.proofs.LegalLemmas.{accounts_join, legal_append}
use Rattle.promises.proofs.RunLemmas.{one_more_event, last, logs}
use Rattle.collection.specs.State.{Ram}
use Rattle.collection.specs.Safe.{IsRam, ram, image_in}
use Rattle.collection.specs.Stops.{room_of}
use Rattle.collection.specs.Log.{IsAccounted, FollowsLog, Wears, Went}
use Rattle.ftl_device.specs.declared.device.Device.{Device}
use Rattle.ftl_device.specs.declared.fault.DeviceFault.{DeviceFault}
use Rattle.ftl_device.specs.declared.fault.DeviceFault.TheVariants.{OutOfRange, ReadOnly, SequenceSpent, OutOfMemory, Damaged, BusFault}
use Rattle.ftl_device.specs.Calls.{IsWell, Says, HasRescued, state_in, reply_of, read_reply_of}
use Rattle.ftl_device.specs.Counts.{is_bad_by, is_flush, IsShownByRefusal, IsLeftReadOnly}
use Rattle.ftl_device.specs.Read.{LeavesRead, IsReadRefusal}
use Rattle.command_queue.specs.Commands.{needs_no_memory, is_read, is_turn}
use Rattle.ftl_device.specs.Changes.{MayPin}
use Rattle.ftl_device.proofs.ChangeLemmas.{unpinned_some}
use Rattle.command_queue.specs.Exchanges.{reply_to_command, reply_in, Exchange}
use Rattle.command_queue.specs.Tells.{die_in, Happened, Tells}
use Rattle.command_queue.specs.Run.{IsFair, AreFair, HasRun, IsEventOf, HappensEach, Ran}
use Rattle.ftl_device.specs.Turn.{HasTurned}
use Rattle.command_queue.specs.Rescues.{Rescues, LeavesTwelve}
use Rattle.command_queue.proofs.RescueLemmas.{rescues, rescues_as}
use Rattle.command_queue.proofs.QuietLemmas.{leaves_twelve, twelve_as}
use Rattle.ftl_device.specs.Flush.{ShowsBad, First, first_of, IsFlushedOut}
use Rattle.ftl_device.proofs.CountLemmas.{bad_now_law}
use Rattle.command_queue.proofs.RefusalLemmas.{NoDamage, shown_on, left_on}
use Rattle.ftl_device.proofs.CallLemmas.{mountable_after}

-- ---- one call

-- a read leaves all but the mapping as it was
leaves_mapping : (n : ℕ) (result : Result (Unit {0}) DeviceFault) (old new : Ram) (p q : Page) (bytes : List ℕ) → LeavesRead n result old new p q bytes → result ≢ Err BusFault → new ≡ record old { mapping = new.mapping }
leaves_mapping n (Ok done) old new p q bytes leaves ne = leaves.others
leaves_mapping n (Err OutOfRange) old new p q bytes leaves ne = subst (λ (x : Ram). new ≡ record old { mapping = x.mapping }) (sym leaves) leaves
leaves_mapping n (Err (ReadOnly good wanted failed)) old new p q bytes leaves ne = subst (λ (x : Ram). new ≡ record old { mapping = x.mapping }) (sym leaves) leaves
leaves_mapping n (Err SequenceSpent) old new p q bytes leaves ne = subst (λ (x : Ram). new ≡ record old { mapping = x.mapping }) (sym leaves) leaves
leaves_mapping n (Err OutOfMemory) old new p q bytes leaves ne = subst (λ (x : Ram). new ≡ record old { mapping = x.mapping }) (sym leaves) leaves
leaves_mapping n (Err Damaged) old new p q bytes leaves ne = subst (λ (x : Ram). new ≡ record old { mapping = x.mapping }) (sym leaves) leaves
leaves_mapping n (Err BusFault) old new p q bytes leaves ne = absurd (ne refl)

-- nor does it pin a block
pub read_pins : (n : ℕ) (result : Result (Unit {0}) DeviceFault) (old new : Ram) (p q : Page) (bytes : List ℕ) → LeavesRead n result old new p q bytes → old.pin.block ≡ None → IsSome new.pin.block → MayPin result
read_pins n (Ok done) old new p q bytes leaves none some = unpinned_some new.pin.block (ap (λ (x : Ram). x.pin.block) leaves.others ∙ none) some
read_pins n (Err OutOfRange) old new p q bytes leaves none some = unpinned_some new.pin.block (ap (λ (x : Ram). x.pin.block) leaves ∙ none) some
read_pins n (Err (ReadOnly good wanted failed)) old new p q bytes leaves none some = tt
read_pins n (Err SequenceSpent) old new p q bytes leaves none some = tt
read_pins n (Err OutOfMemory) old new p q bytes leaves none some = unpinned_some new.pin.block (ap (λ (x : Ram). x.pin.block) leaves ∙ none) some
read_pins n (Err Damaged) old new p q bytes leaves none some = tt
read_pins n (Err BusFault) old new p q bytes leaves none some = tt

-- what an event says of it
pins_so : {A : Type 0} (was is : Option A) (turn : Bool) (P : Type 0) → (turn ≡ false → was ≡ None → IsSome is → P) → is_some was ≡ false → is_some is ≡ true → (turn ≡ true) ⊎ P
pins_so None is true P h none some = inl refl
pins_so None (Some x) false P h none some = inr (h refl refl refl)
pins_so None None false P h none some = (let no : ⊥ = cc in absurd no)
pins_so (Some x) is turn P h none some = (let no : ⊥ = cc in absurd no)

pub read_geometry : (n : ℕ) (result : Result (Unit {0}) DeviceFault) (old new : Ram) (p q : Page) (bytes : List ℕ) → LeavesRead n result old new p q bytes → new.geometry ≡ old.geometry
read_geometry n (Ok done) old new p q bytes leaves = ap (λ (x : Ram). x.geometry) leaves.others
read_geometry n (Err OutOfRange) old new p q bytes leaves = ap (λ (x : Ram). x.geometry) leaves
read_geometry n (Err (ReadOnly good wanted failed)) old new p q bytes leaves = ap (λ (x : Ram). x.geometry) leaves
read_geometry n (Err SequenceSpent) old new p q bytes leaves = ap (λ (x : Ram). x.geometry) leaves
read_geometry n (Err OutOfMemory) old new p q bytes leaves = ap (λ (x : Ram). x.geometry) leaves
read_geometry n (Err Damaged) old new p q bytes leaves = ap (λ (x : Ram). x.geometry) leaves
read_geometry n (Err BusFault) old new p q bytes leaves = ap (λ (x : Ram). x.geometry) leaves

-- no operation was asked for
pub went_none : (old new : Ram) (s t : Flash) (told told' : Option Recording) → new ≡ record old { mapping = new.mapping } → t ≡ s → told' ≡ told → Went old s told new t told'
went_none old new s t told told' same kept still = record {
  log = [];
  leads = kept;
  records = subst (λ x. Records told [] x) (sym still) (records_none told);
  follows = record { legal = λ accounts a. tt; accounted = λ accounts a. subst (IsAccounted accounts) (sym (ap (λ (x : Ram). x.blocks) same)) a };
  next = ap (λ (x : Ram). x.next) same ∙ omega arith;
  wears = record { worn = λ b most. (let e : wear_at new.blocks.table b ≡ wear_at old.blocks.table b = ap (λ (x : Ram). wear_at x.blocks.table b) same in omega arith) };
  numbers = tt;
}

read_shown : (g : Geometry) (share : ℕ) (bad : ℕ → Bool) (next : ℕ) (before call : List Operation) (ro : Bool) (image : Image) (n : ℕ) (bytes : List ℕ)
    (s t : step.ArrayState) (result : Result (Unit {0}) DeviceFault) → IfErr result IsReadRefusal → ReadStep g s n (read_reply_of bytes result) t
    → result ≢ Err BusFault → IfErr result (IsShownByRefusal g share bad next before call ro image)
read_shown g share bad next before call ro image n bytes s t (Ok done) of_read is ne = tt
read_shown g share bad next before call ro image n bytes s t (Err OutOfRange) of_read is ne = tt
read_shown g share bad next before call ro image n bytes s t (Err (ReadOnly good wanted failed)) of_read is ne = absurd of_read
read_shown g share bad next before call ro image n bytes s t (Err SequenceSpent) of_read is ne = absurd of_read
read_shown g share bad next before call ro image n bytes s t (Err OutOfMemory) of_read is ne = tt
read_shown g share bad next before call ro image n bytes s t (Err Damaged) of_read is ne = is
read_shown g share bad next before call ro image n bytes s t (Err BusFault) of_read is ne = ne refl

read_left : (g : Geometry) (share : ℕ) (bad : ℕ → Bool) (before call : List Operation) (ro : Bool) (n : ℕ) (result : Result (Unit {0}) DeviceFault) → ro ≡ true → IsLeftReadOnly (step.Read n) g share bad before call ro result
read_left g share bad before call ro n (Ok done) on = inl (inr (inr on))
read_left g share bad before call ro n (Err OutOfRange) on = tt
read_left g share bad before call ro n (Err (ReadOnly good wanted failed)) on = tt
read_left g share bad before call ro n (Err SequenceSpent) on = tt
read_left g share bad before call ro n (Err OutOfMemory) on = inr (inr on)
read_left g share bad before call ro n (Err Damaged) on = tt
read_left g share bad before call ro n (Err BusFault) on = tt

no_memory : (result : Result (Unit {0}) DeviceFault) → IfErr result IsReadRefusal → result ≢ Err OutOfMemory
no_memory (Ok done) of_read e = (let no : ⊥ = cc in no)
no_memory (Err fault) of_read e = (let same : fault ≡ OutOfMemory = cc in subst IsReadRefusal same of_read)

-- no block was pinned, and the sector was stale
unpinned_here : {A : Type 0} (pinned : Option A) (stale : Bool) → (not (is_some pinned) && stale) ≡ true → (pinned ≡ None) × (stale ≡ true)
unpinned_here None stale is = (refl, is)
unpinned_here (Some p) stale is = (let no : ⊥ = cc in absurd no)

pub unpinned_stale : {A : Type 0} (share : ℕ) (pinned : Option A) (stale : Bool) → (share == 0 && not (is_some pinned) && stale) ≡ true → (share ≡ 0) × (pinned ≡ None) × (stale ≡ true)
unpinned_stale {A} share pinned stale is = by (share == 0) refl is
  where
    by : (b : Bool) → (share == 0) ≡ b → (b && not (is_some pinned) && stale) ≡ true → (share ≡ 0) × (pinned ≡ None) × (stale ≡ true)
    by false e h = (let no : ⊥ = cc in absurd no)
    by true e h = (let here = unpinned_here pinned stale h in (eqb-true share 0 e, here.0, here.1))

-- a step isn't answered `Damaged`
pub write_sound : (g : Geometry) (s t : step.ArrayState) (n : ℕ) (bytes : List ℕ) (result : Result (Unit {0}) DeviceFault) → WriteStep g s n bytes (reply_of result) t → NoDamage result
write_sound g s t n bytes (Ok done) is = tt
write_sound g s t n bytes (Err OutOfRange) is = tt
write_sound g s t n bytes (Err (ReadOnly good wanted failed)) is = tt
write_sound g s t n bytes (Err SequenceSpent) is = tt
write_sound g s t n bytes (Err OutOfMemory) is = tt
write_sound g s t n bytes (Err Damaged) is = is
write_sound g s t n bytes (Err BusFault) is = tt

pub quiet_sound : (s t : step.ArrayState) (result : Result (Unit {0}) DeviceFault) → QuietStep s (reply_of result) t → NoDamage result
quiet_sound s t (Ok done) is = tt
quiet_sound s t (Err OutOfRange) is = tt
quiet_sound s t (Err (ReadOnly good wanted failed)) is = tt
quiet_sound s t (Err SequenceSpent) is = tt
quiet_sound s t (Err OutOfMemory) is = tt
quiet_sound s t (Err Damaged) is = is
quiet_sound s t (Err BusFault) is = tt

module _ {N : Type 0} (view : View N) (old new : Device N) (result : Result (Unit {0}) DeviceFault) (ne : result ≢ Err BusFault) where
  read_view : view.flash new.engine.nand ≡ view.flash old.engine.nand → new.read_only ≡ old.read_only → is_some new.engine.pinned ≡ is_some old.engine.pinned → die_in view.flash new ≡ die_in view.flash old
  read_view kept flag pin =
      let seen : Flash → Bool → Bool → DeviceView = λ f ro pinned. record { flash = f; ro = ro; pinned = pinned } in
      ap (λ f. seen f new.read_only (is_some new.engine.pinned)) kept ∙ (ap (λ ro. seen (view.flash old.engine.nand) ro (is_some new.engine.pinned)) flag ∙ ap (seen (view.flash old.engine.nand) old.read_only) pin)

  pub read_happened : (n : ℕ) (bytes : List ℕ) (p q : Page)
      → ReadStep old.engine.geometry (state_in view.flash old) n (read_reply_of bytes result) (state_in view.flash new)
      → view.flash new.engine.nand ≡ view.flash old.engine.nand → view.recorded new.engine.nand ≡ view.recorded old.engine.nand
      → LeavesRead n result (ram old.engine) (ram new.engine) p q bytes → new.read_only ≡ old.read_only → IfErr result IsReadRefusal
      → SurvivesStops old.engine.geometry (room_of (ram old.engine)) (step.Read n) result (image_in view.flash old.engine) (image_in view.flash new.engine) (view.recorded new.engine.nand) [] → Happened view old (record { command = step.Read n; result = result; bytes = bytes }) new
  unfolding went_none
  read_happened n bytes p q is kept still leaves flag of_read survives = record {
    step = is;
    went = went_none (ram old.engine) (ram new.engine) (view.flash old.engine.nand) (view.flash new.engine.nand) (view.recorded old.engine.nand) (view.recorded new.engine.nand) (leaves_mapping n result (ram old.engine) (ram new.engine) p q bytes leaves ne) kept still;
    stopped = survives;
    versions = subst (λ (f : Flash). AddsNoOld old.engine.geometry (image_in view.flash old.engine) f.image) (sym kept) (λ two key row at. at);
    stale = λ any. no_memory result of_read;
    shown = λ bad next before bads spent. read_shown old.engine.geometry old.engine.mapping.share bad next before [] old.read_only (image_in view.flash new.engine) n bytes (state_in view.flash old) (state_in view.flash new) result of_read is ne;
    flushed = λ is. (let no : ⊥ = cc in absurd no);
    reads = λ is. (refl, read_view kept flag (ap (λ (r : Ram). is_some r.pin.block) (leaves_mapping n result (ram old.engine) (ram new.engine) p q bytes leaves ne)));
    rescues = λ is. (let no : ⊥ = cc in absurd no);
    quiet = λ is. (let no : ⊥ = cc in absurd no);
    left = λ bad before bads on. read_left old.engine.geometry old.engine.mapping.share bad before [] old.read_only n result (sym flag ∙ on);
  }

  module _ (safe : IsRam (ram old.engine)) (safe' : IsRam (ram new.engine)) (shared : new.engine.mapping.share ≡ old.engine.mapping.share) (sized : new.engine.geometry ≡ old.engine.geometry)
      (was : IsWell view.flash old) (well : IsWell view.flash new)
      (w : Went (ram old.engine) (view.flash old.engine.nand) (view.recorded old.engine.nand) (ram new.engine) (view.flash new.engine.nand)
      (view.recorded new.engine.nand)) (says : IfErr result (Says (ram old.engine) (ram new.engine)))
      (shown : IfErr result (IsShownByRefusal old.engine.geometry old.engine.mapping.share (is_bad_by (ram old.engine)) old.engine.next [] w.log old.read_only (image_in view.flash new.engine))) where
    -- with no operation the image is as it was
    unwritten : w.log ≡ [] → image_in view.flash new.engine ≡ image_in view.flash old.engine
    unwritten none = (let same : view.flash new.engine.nand ≡ view.flash old.engine.nand = subst (λ l. Leads (view.flash old.engine.nand) l (view.flash new.engine.nand)) none w.leads in ap (λ (f : Flash). f.image) same)

    rescued_so : HasRescued (ram old.engine) (ram new.engine) → Rescues old.engine.geometry (is_bad_by (ram old.engine)) w.log (image_in view.flash old.engine) (image_in view.flash new.engine)
    rescued_so h = rescues (ram old.engine) (ram new.engine) w.log safe safe' sized w.follows h (image_in view.flash old.engine) (image_in view.flash new.engine) was.truth well.truth unwritten

    twelve_so : HasRescued (ram old.engine) (ram new.engine) → HasTurned (ram old.engine) (ram new.engine) → LeavesTwelve old.engine.geometry old.engine.mapping.share (is_bad_by (ram old.engine)) w.log (image_in view.flash new.engine)
    twelve_so h t = leaves_twelve (ram old.engine) (ram new.engine) w.log safe safe' sized w.follows h w.next (image_in view.flash old.engine) (image_in view.flash new.engine) was.truth well.truth unwritten t

    -- a call that may change sectors
    pub changed : (command : step.Command) (bytes : List ℕ) → is_read command ≡ false
        → (is_turn command ≡ true → OnOk result (HasRescued (ram old.engine) (ram new.engine)))
        → (is_turn command ≡ true → OnOk result (HasTurned (ram old.engine) (ram new.engine)))
        → (is_flush command ≡ true → result ≡ Ok tt → IsFlushedOut (first_of (ram old.engine)) w.log (image_in view.flash new.engine))
        → (new.read_only ≡ true → IsLeftReadOnly command old.engine.geometry old.engine.mapping.share (is_bad_by (ram old.engine)) [] w.log old.read_only result)
        → NoDamage result
        → (needs_no_memory old.engine.mapping.share (is_some old.engine.pinned) old.engine.geometry (image_in view.flash old.engine) command ≡ true → result ≢ Err OutOfMemory)
        → ArrayStep old.engine.geometry (state_in view.flash old) command (reply_to_command command bytes result) (state_in view.flash new)
        → SurvivesStops old.engine.geometry (room_of (ram old.engine)) command result (image_in view.flash old.engine) (image_in view.flash new.engine)
        (view.recorded new.engine.nand) w.log → AddsNoOld old.engine.geometry (image_in view.flash old.engine) (image_in view.flash new.engine)
        → Happened view old (record { command = command; result = result; bytes = bytes }) new
    changed command bytes no_read rescued turned flushed left is stale whole survives versions = record {
      stopped = survives;
      versions = versions;
      flushed = flushed;
      reads = λ read. (let no : ⊥ = cc in absurd no);
      rescues = λ turn done. rescued_so (subst (λ r. OnOk r (HasRescued (ram old.engine) (ram new.engine))) done (rescued turn));
      quiet = λ turn done. twelve_so (subst (λ r. OnOk r (HasRescued (ram old.engine) (ram new.engine))) done (rescued turn)) (subst (λ r. OnOk r (HasTurned (ram old.engine) (ram new.engine))) done (turned turn));
      step = whole;
      went = w;
      stale = stale;
      shown = λ bad next before also spent. shown_on (ram old.engine) (ram new.engine) w.log safe safe' sized shared w.follows bad before also next old.read_only (image_in view.flash new.engine) result well.truth spent says shown is ne;
      left = λ bad before also on. left_on (ram old.engine) (ram new.engine) w.log safe safe' sized shared w.follows bad before also command old.read_only result (left on);
    }

-- ---- one more event

pub follows_then : (pages : ℕ) (xs ys : List Operation) (a b c : State) → FollowsLog pages xs a b → FollowsLog pages ys b c → FollowsLog pages (xs ++ ys) a c
follows_then pages xs ys a b c before after = record {
  legal = λ accounts s. legal_append pages accounts xs ys (before.legal accounts s) (after.legal (accounted_all pages accounts xs) (before.accounted accounts s));
  accounted = λ accounts s. rw (accounts_join pages accounts xs ys) (after.accounted (accounted_all pages accounts xs) (before.accounted accounts s));
}

fair_more : (first : First) (old mid : runs.DeviceView) (before total : List Operation) (events : List Event) (xs : List Exchange) (event : Event)
    (x : Exchange) → AreFair first old before events xs → mid ≡ last_of old events → total ≡ before ++ log_of events
    → IsFair first mid total event x → AreFair first old before (events ++ event ∷ []) (xs ++ x ∷ [])
fair_more first old mid before total [] [] event x fair here all is =
    let P : runs.DeviceView → List Operation → Type 0 = λ d l. IsFair first d l event x in
    (subst (λ d. P d before) here (subst (P mid) (all ∙ append-nil before) is), tt)
fair_more first old mid before total [] (y ∷ xs) event x fair here all is = absurd fair
fair_more first old mid before total (e ∷ events) [] event x fair here all is = absurd fair
fair_more first old mid before total (e ∷ events) (y ∷ xs) event x fair here all is =
    (fair.0, fair_more first e.left mid (before ++ e.piece) total events xs event x fair.1 here (all ∙ sym (append_assoc before e.piece (log_of events))) is)

each_more : {N : Type 0} (view : View N) (old mid new : Device N)
    (events : List Event) (xs : List Exchange) (event : Event) (x : Exchange)
    → HappensEach view old events xs mid → IsEventOf view mid event x new
    → HappensEach view old (events ++ event ∷ []) (xs ++ x ∷ []) new
each_more view old mid new [] [] event x each is = (new, subst (λ d. IsEventOf view d event x new) each is, refl)
each_more view old mid new [] (y ∷ xs) event x each is = absurd each
each_more view old mid new (e ∷ events) [] event x each is = absurd each
each_more view old mid new (e ∷ events) (y ∷ xs) event x each is = (each.0, each.1, each_more view each.0 mid new events xs event x each.2 is)

-- a flush later in the run
flushed_then : (a b c : Ram) (xs ys : List Operation) (image : Image) → b.geometry ≡ a.geometry → ((k : ℕ) → wear_at a.blocks.table k ≤ most_wear) → Wears xs a.blocks b.blocks
    → ((k : ℕ) → k < b.geometry.blocks → is_bad_by c k ≡ bad_of b.geometry.pages (is_bad_by b) ys k) → ((k : ℕ) → k < b.geometry.blocks → is_bad_by c k ≡ bad_of b.geometry.pages (is_bad_by a) (xs ++ ys) k)
    → IsFlushedOut (first_of b) ys image → IsFlushedOut (first_of a) (xs ++ ys) image
flushed_then a b c xs ys image same most wears here there f = record {
  anywhere = subst (λ (g : Geometry). (capacity : ℕ) → 1 ≤ capacity → capacity ≤ 65536 → IsMountable g capacity image) same f.anywhere;
  fresh = subst (λ (g : Geometry). stale_sectors g image ≡ []) same f.fresh;
  bad = subst (λ (g : Geometry). (k : ℕ) → k < g.blocks → ShowsBad g image k ↔ (bad_of g.pages (is_bad_by a) (xs ++ ys) k ≡ true)) same
      (λ k lt. subst (λ v. ShowsBad b.geometry image k ↔ (v ≡ true)) (sym (here k lt) ∙ there k lt) (f.bad k lt));
  wear = subst (λ (g : Geometry). (k : ℕ) → k < g.blocks → erase_count g image k ≡ min (wear_at a.blocks.table k + passed_erases_of (xs ++ ys) k) most_wear) same
      (λ k lt.
      let first : wear_at b.blocks.table k ≡ min (wear_at a.blocks.table k + passed_erases_of xs k) most_wear = wears.worn k (most k) in
      let second : erase_count b.geometry image k ≡ min (wear_at b.blocks.table k + passed_erases_of ys k) most_wear = f.wear k lt in
      omega (arith, (counts a.geometry.pages k xs ys).passed_erases_at));
  renewed = subst (λ (g : Geometry). version_for g ≡ 2 → (u : ℕ) → is_old image (Table u) ≡ false) same f.renewed;
}

-- with the last image, the last device and the last log
module _ {N : Type 0} (view : View N) (old mid new : Device N) (done : List Exchange) (x : Exchange)
    (sized : mid.engine.geometry ≡ old.engine.geometry) (sized' : new.engine.geometry ≡ mid.engine.geometry)
    (die : (view.flash mid.engine.nand).geometry ≡ mid.engine.geometry) (die' : (view.flash new.engine.nand).geometry ≡ new.engine.geometry)
    (limits : HasLimitsOf old.engine.mapping new.engine.mapping) (most : (b : ℕ) → wear_at (ram old.engine).blocks.table b ≤ most_wear)
    (safe : IsRam (ram old.engine)) (mid_limits : HasLimitsOf old.engine.mapping mid.engine.mapping) (mid_safe : IsRam (ram mid.engine))
    (safe' : IsRam (ram new.engine)) (well : IsWell view.flash new)
    (ran : Ran view old done mid) (tells : Tells view mid x new) (h : Happened view mid x new) where
  event : Event
  event = record { command = x.command; reply = reply_in x; piece = h.went.log; left = die_in view.flash new; told = view.recorded new.engine.nand }

  follows : FollowsLog old.engine.geometry.pages (log_of ran.run.events ++ h.went.log) (ram old.engine).blocks (ram new.engine).blocks
  follows = follows_then old.engine.geometry.pages (log_of ran.run.events) h.went.log (ram old.engine).blocks (ram mid.engine).blocks (ram new.engine).blocks ran.follows
      (subst (λ (g : Geometry). FollowsLog g.pages h.went.log (ram mid.engine).blocks (ram new.engine).blocks) sized h.went.follows)

  next : new.engine.next ≡ old.engine.next + programs_in (log_of ran.run.events ++ h.went.log)
  next = omega (arith, ran.next, h.went.next, (counts old.engine.geometry.pages 0 (log_of ran.run.events) h.went.log).programs)

  wears : Wears (log_of ran.run.events ++ h.went.log) (ram old.engine).blocks (ram new.engine).blocks
  wears = record {
    worn = λ b few.
        let first : wear_at (ram mid.engine).blocks.table b ≡ min (wear_at (ram old.engine).blocks.table b + passed_erases_of (log_of ran.run.events) b) most_wear = ran.wears.worn b few in
        let second : wear_at (ram new.engine).blocks.table b ≡ min (wear_at (ram mid.engine).blocks.table b + passed_erases_of h.went.log b) most_wear = h.went.wears.worn b (omega arith) in
        omega (arith, (counts old.engine.geometry.pages b (log_of ran.run.events) h.went.log).passed_erases_at);
  }

  state_is : (d : Device N) → (view.flash d.engine.nand).geometry ≡ d.engine.geometry → state_of (die_in view.flash d) ≡ state_in view.flash d
  state_is d e = ap (λ (g : Geometry). let s : step.ArrayState = record { array = array_of g (image_in view.flash d.engine); ro = d.read_only } in s) e

  happens : Happens (die_in view.flash mid) event
  unfolding event
  happens = record {
    leads = h.went.leads;
    step =
        let P : Geometry → step.ArrayState → step.ArrayState → Type 0 = λ g s t. ArrayStep g s x.command (reply_in x) t in
        subst (λ g. P g (state_of (die_in view.flash mid)) (state_of (die_in view.flash new))) (sym die)
        (subst (λ s. P mid.engine.geometry s (state_of (die_in view.flash new))) (sym (state_is mid die))
        (subst (P mid.engine.geometry (state_in view.flash mid)) (sym (state_is new (die'))) h.step));
  }

  -- the blocks that are bad by the log up to this event
  bads_then : (g : Geometry) → g ≡ old.engine.geometry → (b : ℕ) → b < g.blocks → is_bad_by (ram new.engine) b ≡ bad_of g.pages (is_bad_by (ram old.engine)) (log_of ran.run.events ++ h.went.log) b
  bads_then g same =
      let Q : Geometry → Type 0 = λ k. (b : ℕ) → b < k.blocks → is_bad_by (ram new.engine) b ≡ bad_of k.pages (is_bad_by (ram old.engine)) (log_of ran.run.events ++ h.went.log) b in
      let here : Q old.engine.geometry = λ b lt. bad_now_law (ram old.engine) (ram new.engine) (log_of ran.run.events ++ h.went.log) b safe.blocks_of follows lt in
      subst Q (sym same) here

  -- what is so of the sizes of the device before this event is so of those of the first
  by_size : (P : Geometry → ℕ → Type 0) → P mid.engine.geometry mid.engine.mapping.share → P old.engine.geometry old.engine.mapping.share
  by_size P here = subst (λ n. P old.engine.geometry n) mid_limits.share (subst (λ g. P g mid.engine.mapping.share) sized here)

  fair : IsFair (first_of (ram old.engine)) (die_in view.flash mid) (log_of ran.run.events) event x
  unfolding event
  fair = record {
    shown = λ fault e.
        let here = h.shown (is_bad_by (ram old.engine)) old.engine.next (log_of ran.run.events) (bads_then mid.engine.geometry sized) next in
        let there = by_size (λ g n. IfErr x.result (IsShownByRefusal g n (is_bad_by (ram old.engine)) old.engine.next (log_of ran.run.events) h.went.log mid.read_only (image_in view.flash new.engine))) here in
        subst (λ r. IfErr r (IsShownByRefusal old.engine.geometry old.engine.mapping.share (is_bad_by (ram old.engine)) old.engine.next (log_of ran.run.events) h.went.log mid.read_only (image_in view.flash new.engine))) e there;
    left = λ on. by_size (λ g n. IsLeftReadOnly x.command g n (is_bad_by (ram old.engine)) (log_of ran.run.events) h.went.log mid.read_only x.result) (h.left (is_bad_by (ram old.engine)) (log_of ran.run.events) (bads_then mid.engine.geometry sized) on);
    flushed = λ is done.
        let its = h.flushed is done in
        let mid_bad : (b : ℕ) → b < mid.engine.geometry.blocks → is_bad_by (ram new.engine) b ≡ bad_of mid.engine.geometry.pages (is_bad_by (ram mid.engine)) h.went.log b = λ b lt. bad_now_law (ram mid.engine) (ram new.engine) h.went.log b mid_safe.blocks_of h.went.follows lt in
        flushed_then (ram old.engine) (ram mid.engine) (ram new.engine) (log_of ran.run.events) h.went.log (image_in view.flash new.engine) sized most ran.wears mid_bad (bads_then mid.engine.geometry sized) its;
    stale = λ need e. h.stale (subst (λ (g : Geometry). needs_no_memory mid.engine.mapping.share (is_some mid.engine.pinned) g (image_in view.flash mid.engine) x.command ≡ true)
        (sym sized) (subst (λ n. needs_no_memory n (is_some mid.engine.pinned) old.engine.geometry (image_in view.flash mid.engine) x.command ≡ true) (sym mid_limits.share) need)) e;
    mountable = λ most. mountable_after view.flash old.engine new new.engine refl (sized' ∙ sized) limits safe' well most;
    reads = h.reads;
    versions = subst (λ (g : Geometry). AddsNoOld g (image_in view.flash mid.engine) (image_in view.flash new.engine)) sized h.versions;
    pins = λ none some. pins_so mid.engine.pinned new.engine.pinned (is_turn x.command) (MayPin x.result) tells.pins none some;
    stopped =
        let room : room_of (ram mid.engine) ≡ room_of (ram old.engine) = rw (mid_limits.capacity, mid_limits.share, sized) refl in
        subst (λ n. SurvivesStops old.engine.geometry n x.command x.result (image_in view.flash mid.engine) (image_in view.flash new.engine) (view.recorded new.engine.nand) h.went.log) room
        (subst (λ g. SurvivesStops g (room_of (ram mid.engine)) x.command x.result (image_in view.flash mid.engine) (image_in view.flash new.engine) (view.recorded new.engine.nand) h.went.log) sized h.stopped);
    rescues = λ is done.
        let here : Rescues old.engine.geometry (is_bad_by (ram mid.engine)) h.went.log (image_in view.flash mid.engine) (image_in view.flash new.engine) = subst
        (λ (g : Geometry). Rescues g (is_bad_by (ram mid.engine)) h.went.log (image_in view.flash mid.engine) (image_in view.flash new.engine)) sized
        (h.rescues is done) in
        rescues_as old.engine.geometry (is_bad_by (ram mid.engine)) (bad_of old.engine.geometry.pages (is_bad_by (ram old.engine)) (log_of ran.run.events)) (λ b lt. bad_now_law (ram old.engine) (ram mid.engine) (log_of ran.run.events) b safe.blocks_of ran.follows lt) h.went.log (image_in view.flash mid.engine) (image_in view.flash new.engine) here;
    quiet = λ is done.
        let here : LeavesTwelve old.engine.geometry old.engine.mapping.share (is_bad_by (ram mid.engine)) h.went.log (image_in view.flash new.engine) = by_size (λ g n. LeavesTwelve g n (is_bad_by (ram mid.engine)) h.went.log (image_in view.flash new.engine)) (h.quiet is done) in
        twelve_as old.engine.geometry (is_bad_by (ram mid.engine))
        (bad_of old.engine.geometry.pages (is_bad_by (ram old.engine)) (log_of ran.run.events))
        (λ b lt. bad_now_law (ram old.engine) (ram mid.engine) (log_of ran.run.events) b safe.blocks_of ran.follows lt) old.engine.mapping.share h.went.log
        (image_in view.flash new.engine) here;
  }

  run_more : HasRun (first_of (ram old.engine)) (die_in view.flash old) (die_in view.flash new) (done ++ x ∷ [])
  unfolding event
  run_more = record {
    events = ran.run.events ++ event ∷ [];
    commands = map-append (λ (e : Event). e.command) ran.run.events (event ∷ []) ∙ (ap (λ l. l ++ x.command ∷ []) ran.run.commands ∙ sym (map-append (λ (y : Exchange). y.command) done (x ∷ [])));
    replies = map-append (λ (e : Event). e.reply) ran.run.events (event ∷ []) ∙ (ap (λ l. l ++ reply_in x ∷ []) ran.run.replies ∙ sym (map-append reply_in done (x ∷ [])));
    run = one_more_event (die_in view.flash old) (die_in view.flash mid) ran.run.events event ran.run.run happens;
    fair = fair_more (first_of (ram old.engine)) (die_in view.flash old) (die_in view.flash mid) [] (log_of ran.run.events) ran.run.events done event x ran.run.fair (last (die_in view.flash old) (die_in view.flash mid) ran.run.events ran.run.run) refl fair;
  }

  log_is : log_of ran.run.events ++ h.went.log ≡ log_of (ran.run.events ++ event ∷ [])
  unfolding event
  log_is = sym (logs ran.run.events (event ∷ []) ∙ ap (λ l. log_of ran.run.events ++ l) (append-nil h.went.log))

  each : HappensEach view old (ran.run.events ++ event ∷ []) (done ++ x ∷ []) new
  unfolding event
  each = each_more view old mid new ran.run.events done event x ran.each (record { tells = tells; happened = h; piece = refl; left = refl; told = refl })

  pub ran_more : Ran view old (done ++ x ∷ []) new
  unfolding run_more
  ran_more = record {
    run = run_more;
    each = each;
    follows = subst (λ l. FollowsLog old.engine.geometry.pages l (ram old.engine).blocks (ram new.engine).blocks) log_is follows;
    next = next ∙ ap (λ l. old.engine.next + programs_in l) log_is;
    wears = subst (λ l. Wears l (ram old.engine).blocks (ram new.engine).blocks) log_is wears;
  }

pub ran_none : {N : Type 0} (view : View N) (old : Device N) → Ran view old [] old
ran_none view old = record {
  run = record { events = []; commands = refl; replies = refl; run = refl; fair = tt };
  each = refl;
  follows = record { legal = λ accounts a. tt; accounted = λ accounts a. a };
  next = omega arith;
  wears = record { worn = λ b few. omega arith };
}
