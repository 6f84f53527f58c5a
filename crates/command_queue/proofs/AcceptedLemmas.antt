-- A run that begins with an accepted certificate.
use Rattle.std.proofs.Common.{◌≡◌, ◌↔◌, ℕ, ◌+◌, ◌<◌, min, true, Bool, not, List, [], ◌∷◌, ◌++◌, ◌&&◌, ◌||◌, inl, inr, None, Result, Ok, Err, sym, ap}
use Rattle.std.proofs.Common.{subst, ◌∙◌, arith, false}
use Rattle.std.specs.Prelude.{is_some}
use Rattle.std.specs.List.{list_all}
use Rattle.page_layout.specs.View.{View}
use Rattle.page_layout.specs.declared.geometry.Geometry.{Geometry}
use Rattle.page_layout.specs.Page.{Image}
use Rattle.page_layout.specs.Sound.{is_erased_page}
use Rattle.page_layout.specs.Block.{block_pages}
use Rattle.page_layout.specs.Flash.{Flash, Operation}
use Rattle.certificate.specs.Claim.{Claim}
use Rattle.image_check.specs.Accepted.{Acceptance}
use Rattle.image_check.specs.Agrees.{Agrees}
use Rattle.promises.specs.Log as logs
use Rattle.promises.specs.Log.{programs_in, failed_in, bad_of, IsShort}
use Rattle.promises.specs.Step.{Command}
use Rattle.promises.specs.Legal.{Account, accounts_of, LegalFrom}
use Rattle.promises.specs.Run as runs
use Rattle.promises.specs.Run.{Event, log_of}
use Rattle.collection.specs.State.{Ram}
use Rattle.collection.specs.Safe.{ram, image_in}
use Rattle.collection.specs.Truth.{IsTrue}
use Rattle.collection.specs.Log.{IsAccounted, FollowsLog, Wears}
use Rattle.ftl_device.specs.declared.device.Device.{Device}
use Rattle.ftl_device.specs.declared.fault.DeviceFault.{DeviceFault}
use Rattle.ftl_device.specs.declared.fault.DeviceFault.TheVariants.{OutOfRange, ReadOnly, SequenceSpent, OutOfMemory, Damaged, BusFault}
use Rattle.ftl_device.specs.Begin.{begun_ram, is_bad_in, certified_wear, free_in, is_scarce}
use Rattle.ftl_device.specs.Device.{IsAcceptedFor}
use Rattle.ftl_device.specs.Calls.{stop_of, PinIsTrue, IsWell}
use Rattle.ftl_device.specs.Counts.{is_bad_by, IsShortIn, IsShownByRefusal, IsLeftReadOnly}
use Rattle.command_queue.specs.Exchanges.{Exchange}
use Rattle.command_queue.specs.Tells.{die_in}
use Rattle.command_queue.specs.Run.{AreFair, HasRun, HappensEach, Ran, accepted_device, RanFrom}
use Rattle.command_queue.proofs.RescueLemmas.{rescues_as}
use Rattle.command_queue.proofs.QuietLemmas.{twelve_as}
use Rattle.bad_blocks.specs.Table.{wear_at, most_wear}
use Rattle.allocation.specs.Begun.{begun}
use Rattle.std.proofs.lemmas.Option.{slice_get_within}
use Rattle.ftl_device.specs.Flush.{ShowsBad, First, first_of, IsFlushedOut}
use Rattle.ftl_device.proofs.WearLemmas.{begun_wear}
use Rattle.ftl_device.proofs.BlockLemmas.{given, good_same, bad_same, count_same}

-- nothing is pinned yet
begun_pinned : (r : Ram) (g : Geometry) (share : ℕ) (c : Claim) (stale : List ℕ) (image : Image) → r ≡ begun_ram g share c stale → PinIsTrue r.fault r image
begun_pinned r g share c stale image is = (let P : Ram → Type 0 = λ q. PinIsTrue q.fault q image in subst P (sym is) ((λ p at. (let no : ⊥ = cc in absurd no)), (λ p at. (let no : ⊥ = cc in absurd no))))

-- a device as it was started knows its image
pub started_well : {N : Type 0} (flash : N → Flash) (d : Device N) (g : Geometry) (share : ℕ) (c : Claim) (stale : List ℕ) → ram d.engine ≡ begun_ram g share c stale → IsTrue None (ram d.engine) (image_in flash d.engine) → IsWell flash d
started_well flash d g share c stale is truth = record { going = ap (λ (r : Ram). stop_of r.fault) is; truth = truth; pinned = begun_pinned (ram d.engine) g share c stale (image_in flash d.engine) is }

-- ---- the same bad blocks

abbrev first_by : Geometry → (share : ℕ) → (ℕ → Bool) → (ℕ → ℕ) → ℕ → ℕ → First
first_by g share bad wear capacity next = record { geometry = g; capacity = capacity; share = share; bad = bad; wear = wear; next = next }

module _ (g : Geometry) (share : ℕ) (p q : ℕ → Bool) (u v : ℕ → ℕ) (same : (b : ℕ) → b < g.blocks → p b ≡ q b) (worn : (b : ℕ) → b < g.blocks → u b ≡ min (v b) most_wear) where
  good_so : (log : List Operation) (b : ℕ) → b < g.blocks → logs.good_of g.pages p log b ≡ logs.good_of g.pages q log b
  good_so log b lt = ap (λ x. not (x || failed_in g.pages log b)) (same b lt)

  good_as : (log : List Operation) → logs.good_count_after g p log ≡ logs.good_count_after g q log
  good_as log = count_same (logs.good_of g.pages p log) (logs.good_of g.pages q log) 0 g.blocks (λ b low high. good_so log b (omega arith))

  free_as : (log : List Operation) (image : Image) → logs.free_count_after g p log image ≡ logs.free_count_after g q log image
  free_as log image = count_same (logs.free_of g p log image) (logs.free_of g q log image) 0 g.blocks (λ b low high. ap (λ x. x && list_all is_erased_page (block_pages g image b)) (good_so log b (omega arith)))

  short_as : (log call : List Operation) (image : Image) (good wanted failed : ℕ) → IsShortIn g share p log call image good wanted failed → IsShortIn g share q log call image good wanted failed
  short_as log call image good wanted failed short = record {
    scarce = subst (λ n. n < 5) (free_as log image) short.scarce;
    good_is = short.good_is ∙ good_as log;
    wanted_is = short.wanted_is;
    failed_is = short.failed_is;
  }

  scarce_as : (before call : List Operation) (ro : Bool) → IsShort g share p before call ro → IsShort g share q before call ro
  scarce_as before call ro (inl few) = inl (omega (arith, good_as (before ++ call)))
  scarce_as before call ro (inr more) = inr more

  left_as : (command : Command) (before call : List Operation) (ro : Bool) (result : Result (Unit {0}) DeviceFault) → IsLeftReadOnly command g share p before call ro result → IsLeftReadOnly command g share q before call ro result
  left_as command before call ro (Ok done) left = elim left [ inl short ↦ inl (scarce_as before call ro short) | inr flushes ↦ inr flushes ]
  left_as command before call ro (Err OutOfRange) left = tt
  left_as command before call ro (Err (ReadOnly good wanted failed)) left = tt
  left_as command before call ro (Err SequenceSpent) left = tt
  left_as command before call ro (Err OutOfMemory) left = scarce_as before call ro left
  left_as command before call ro (Err Damaged) left = tt
  left_as command before call ro (Err BusFault) left = tt

  shown_as : (next : ℕ) (before call : List Operation) (ro : Bool) (image : Image) (fault : DeviceFault) → IsShownByRefusal g share p next before call ro image fault → IsShownByRefusal g share q next before call ro image fault
  shown_as next before call ro image OutOfRange shown = tt
  shown_as next before call ro image (ReadOnly good wanted failed) shown = (short_as (before ++ call) call image good wanted failed shown.0, scarce_as before call ro shown.1)
  shown_as next before call ro image SequenceSpent shown = shown
  shown_as next before call ro image OutOfMemory shown = tt
  shown_as next before call ro image Damaged shown = shown
  shown_as next before call ro image BusFault shown = shown

  flushed_as : (capacity next : ℕ) (log : List Operation) (image : Image) → IsFlushedOut (first_by g share p u capacity next) log image → IsFlushedOut (first_by g share q v capacity next) log image
  flushed_as capacity next log image f = record {
    anywhere = f.anywhere;
    fresh = f.fresh;
    bad = λ b lt. subst (λ x. ShowsBad g image b ↔ ((x || failed_in g.pages log b) ≡ true)) (same b lt) (f.bad b lt);
    wear = λ b lt. omega (arith, f.wear b lt, worn b lt);
    renewed = f.renewed;
  }

  fair_as : (capacity next : ℕ) (old : runs.DeviceView) (before : List Operation) (events : List Event) (calls : List Exchange) → AreFair (first_by g share p u capacity next) old before events calls → AreFair (first_by g share q v capacity next) old before events calls
  fair_as capacity next old before [] [] fair = tt
  fair_as capacity next old before [] (c ∷ calls) fair = fair
  fair_as capacity next old before (e ∷ events) [] fair = fair
  fair_as capacity next old before (e ∷ events) (c ∷ calls) fair =
      let its = fair.0 in (
        record {
          shown = λ fault is. shown_as next before e.piece old.ro e.left.flash.image fault (its.shown fault is);
          left = λ on. left_as c.command before e.piece old.ro c.result (its.left on);
          flushed = λ is done. flushed_as capacity next (before ++ e.piece) e.left.flash.image (its.flushed is done);
          stale = its.stale;
          mountable = its.mountable;
          reads = its.reads;
          pins = its.pins;
          stopped = its.stopped;
          versions = its.versions;
          rescues = λ is done. rescues_as g (bad_of g.pages p before) (bad_of g.pages q before) (λ b lt. ap (λ x. x || failed_in g.pages before b) (same b lt)) e.piece old.flash.image e.left.flash.image (its.rescues is done);
          quiet = λ is done. twelve_as g (bad_of g.pages p before) (bad_of g.pages q before) (λ b lt. ap (λ x. x || failed_in g.pages before b) (same b lt)) share e.piece e.left.flash.image (its.quiet is done);
        },
        fair_as capacity next e.left (before ++ e.piece) events calls fair.1,
      )

-- ---- the certificate's bad blocks

bad_begun : (g : Geometry) (share capacity : ℕ) (image : Image) (c : Claim) (stale : List ℕ) → Agrees g capacity image c → (b : ℕ) → b < g.blocks → is_bad_by (begun_ram g share c stale) b ≡ is_bad_in c b
bad_begun g share capacity image c stale agrees b lt =
    let here = given g capacity image c b agrees lt in
    ap not (good_same g image c b here) ∙ sym (bad_same g image c b here)

wear_begun : (g : Geometry) (capacity : ℕ) (image : Image) (c : Claim) → Agrees g capacity image c → (b : ℕ) → b < g.blocks → wear_at (begun g c.blocks).table b ≡ min (certified_wear c b) most_wear
wear_begun g capacity image c agrees b lt =
    let state = agrees.wear.state b lt in
    begun_wear g c.blocks b (slice_get_within c.blocks b state.0 state.1)

-- what a run from a memory says, with the accounts that its log began with
record RanWith {N : Type 0} (view : View N) (d : Device N) (r : Ram) (old : runs.DeviceView) (accounts : List Account) (calls : List Exchange) (new : Device N) : Type 0 where
  pub run : HasRun (first_of r) old (die_in view.flash new) calls
  pub legal : LegalFrom r.geometry.pages accounts (log_of run.events)
  pub next : new.engine.next ≡ r.next + programs_in (log_of run.events)
  pub each : HappensEach view d run.events calls new
  pub follows : FollowsLog r.geometry.pages (log_of run.events) (ram d.engine).blocks (ram new.engine).blocks
  pub wears : Wears (log_of run.events) (ram d.engine).blocks (ram new.engine).blocks

pub ran_accepted : {N : Type 0} (view : View N) (s : Flash) (share : ℕ)
    (a : Acceptance) (d new : Device N) (calls : List Exchange) → view.flash d.engine.nand ≡ s
    → ram d.engine ≡ begun_ram s.geometry share a.claim a.stale → IsAcceptedFor s a → d.read_only ≡ is_scarce (free_in s.geometry a.claim s.image)
    → IsAccounted (accounts_of s.geometry s.image (is_bad_in a.claim)) (ram d.engine).blocks → Ran view d calls new → RanFrom view s share a.claim calls new
ran_accepted {N} view s share a d new calls die is accepted scarce accounts ran =
    let c = a.claim in
    let first : runs.DeviceView = accepted_device s c in
    let its = accounts_of s.geometry s.image (is_bad_in c) in
    let as_device : Flash → Bool → Bool → runs.DeviceView = λ f ro pinned. record { flash = f; ro = ro; pinned = pinned } in
    let unpinned : is_some d.engine.pinned ≡ false = ap (λ (r : Ram). is_some r.pin.block) is in
    let begins : die_in view.flash d ≡ first = ap (λ f. as_device f d.read_only (is_some d.engine.pinned)) die ∙ (ap (λ ro. as_device s ro (is_some d.engine.pinned)) scarce ∙ ap (as_device s (is_scarce (free_in s.geometry c s.image))) unpinned) in
    let whole : RanWith view d (ram d.engine) (die_in view.flash d) its calls new = record { run = ran.run; legal = ran.follows.legal its accounts; next = ran.next; each = ran.each; follows = ran.follows; wears = ran.wears } in
    let there : RanWith view d (begun_ram s.geometry share c a.stale) first its calls new =
    subst (λ r. RanWith view d r first its calls new) is (subst (λ o. RanWith view d (ram d.engine) o its calls new) begins whole) in
    record {
      first = d;
      held = die;
      begun = is ∙ ap (begun_ram s.geometry share c) accepted.accepted.stale_is;
      accounted = accounts;
      each = there.each;
      follows = there.follows;
      wears = there.wears;
      run = record {
        events = there.run.events;
        commands = there.run.commands;
        replies = there.run.replies;
        run = there.run.run;
        fair = fair_as s.geometry share (is_bad_by (begun_ram s.geometry share c a.stale)) (is_bad_in c) (wear_at (begun s.geometry c.blocks).table) (certified_wear c)
            (bad_begun s.geometry share c.capacity s.image c a.stale accepted.accepted.agrees)
            (wear_begun s.geometry c.capacity s.image c accepted.accepted.agrees) c.capacity c.next first [] there.run.events calls there.run.fair;
      };
      legal = there.legal;
      next = there.next;
    }

-- and its events are the calls from that device
pub ran_each : {N : Type 0} (view : View N) (s : Flash) (share : ℕ) (a : Acceptance) (d new : Device N) (calls : List Exchange)
    (die : view.flash d.engine.nand ≡ s) (is : ram d.engine ≡ begun_ram s.geometry share a.claim a.stale) (accepted : IsAcceptedFor s a)
    (scarce : d.read_only ≡ is_scarce (free_in s.geometry a.claim s.image)) (accounts : IsAccounted (accounts_of s.geometry s.image (is_bad_in a.claim)) (ram d.engine).blocks) (ran : Ran view d calls new)
    → HappensEach view d (ran_accepted view s share a d new calls die is accepted scarce accounts ran).run.events calls new
unfolding ran_accepted
ran_each view s share a d new calls die is accepted scarce accounts ran = (ran_accepted view s share a d new calls die is accepted scarce accounts ran).each
