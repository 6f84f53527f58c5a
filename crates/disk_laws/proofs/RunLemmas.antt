-- What is found of a disk where calls of its device are cut short.
use Rattle.std.proofs.Common.{◌≡◌, ◌≢◌, ◌⊎◌, inl, inr, ℕ, ◌+◌, ◌*◌, ◌<◌, ◌≤◌, Bool, true, false, not, List, [], ◌∷◌, ◌++◌, length, None, IsSome, Result, Err, refl, sym, ap, subst, ◌∙◌, arith, append_assoc, append-nil}
use Rattle.std.specs.List.{range_with_len}
use Rattle.std.specs.Prelude.{get_or, map}
use Rattle.std.proofs.lemmas.List.FromFn.{get_or-map-range_with_len, length-map-range_with_len}
use Rattle.page_layout.specs.View.{View}
use Rattle.page_layout.specs.declared.geometry.Geometry.{Geometry}
use Rattle.page_layout.specs.Page.{Image, IsImage}
use Rattle.page_layout.specs.Array.{array_of, marks, sector_of}
use Rattle.page_layout.specs.Change.{IsErasedAt, IsUnsoundAt}
use Rattle.page_layout.specs.Flash.{Flash, Operation, Program, Erase, Leads}
use Rattle.page_layout.specs.Recording.{Records, image_after, image_after_all}
use Rattle.page_layout.proofs.ErasedLemmas.{erased_at_unsound}
use Rattle.page_layout.proofs.FlashLemmas.{geometry-Leads}
use Rattle.page_layout.proofs.RecordingLemmas.{records_none}
use Rattle.bad_blocks.specs.Table.{is_good_at}
use Rattle.allocation.specs.State.{State, pointer_at}
use Rattle.promises.specs.Step.{Command, Trim}
use Rattle.promises.specs.Stop.{ErasesDead, LeftBy, MayLeave}
use Rattle.promises.specs.Legal.{Account, account_at, no_account, LegalFrom}
use Rattle.promises.proofs.LegalLemmas.{in_range}
use Rattle.promises.proofs.StopLemmas.{between, image_law, no_operation, stops_join}
use Rattle.image_check.specs.Mountable.{IsMountable}
use Rattle.mapping_cache.specs.Mapping.{HasLimitsOf}
use Rattle.collection.specs.State.{Ram}
use Rattle.collection.specs.Stops.{room_of}
use Rattle.collection.specs.Log.{IsAccounted, NumbersFrom}
use Rattle.collection.specs.Safe.{ram}
use Rattle.collection.specs.Truth.{IsTrue}
use Rattle.collection.proofs.Stops.{one_gain}
use Rattle.nbd_stream.specs.declared.fault.DiskFault.{DiskFault}
use Rattle.ftl_device.specs.declared.device.Device.{Device}
use Rattle.ftl_device.specs.declared.fault.DeviceFault.{DeviceFault}
use Rattle.ftl_device.specs.declared.fault.DeviceFault.TheVariants.{BusFault}
use Rattle.ftl_device.specs.Changes.{Logs, RefusesCall}
use Rattle.disk_server.specs.Flat.{flat}
use Rattle.disk_server.specs.Asked.{AsksCall}
use Rattle.disk_server.specs.Disk.{AsksChange, AsksClear, AsksRead, ChangesOne, LeavesDie, holds}
use Rattle.disk_server.proofs.Calls.{no_bus}
use Rattle.disk_server.proofs.Holding.{back, parts}
use Rattle.disk_laws.specs.Lost.{LostBy, MayLose}
use Rattle.disk_laws.specs.Runs.{CutInCall, CutLeavesLaw, DeviceCalls, IsRecordedCall, HasOnTheWay, IsCutIn, IsDiskCall, IsFoundAfterLoss, KilledRunLaw, LostRunLaw, NoCall, OnTheWayLaw, OneCallLaw, OneMore, image_on}
use Rattle.disk_laws.proofs.FitLemmas.{Fits}
use Rattle.disk_laws.proofs.InOrderLemmas.{Filled}
use Rattle.disk_laws.proofs.GrowLemmas.{GrewSince, Stands, since_begin}
use Rattle.disk_laws.proofs.LogLemmas.{Goes, grew, lasts_after, lost, lost_apart}

-- ---- images and sectors

all_after : (pages : ℕ) (image : Image) (xs ys : List Operation) → image_after_all pages image (xs ++ ys) ≡ image_after_all pages (image_after_all pages image xs) ys
all_after pages image [] ys = refl
all_after pages image (x ∷ xs) ys = all_after pages (image_after pages image x) xs ys

sector_in : (g : Geometry) (image : Image) (n : ℕ) → n < g.sectors → get_or (array_of g image) n [] ≡ sector_of g image n
unfolding array_of
sector_in g image n within = get_or-map-range_with_len (sector_of g image) 0 g.sectors n n [] within (omega arith)

pub same_sector : (g : Geometry) (a b : Image) (n : ℕ) → n < g.sectors → array_of g a ≡ array_of g b → sector_of g a n ≡ sector_of g b n
same_sector g a b n within same = sym (sector_in g a n within) ∙ (ap (λ l. get_or l n []) same ∙ sector_in g b n within)

-- ---- the accounts of blocks, as the memory has them

accounts_now : State → List Account
accounts_now s = map (λ b. record { next = pointer_at s b; barred = not (is_good_at s.table b) }) (range_with_len 0 s.geometry.blocks)

account_now : (s : State) (b : ℕ) → b < s.geometry.blocks → account_at (accounts_now s) b ≡ record { next = pointer_at s b; barred = not (is_good_at s.table b) }
unfolding accounts_now
account_now s b within = get_or-map-range_with_len (λ b. record { next = pointer_at s b; barred = not (is_good_at s.table b) }) 0 s.geometry.blocks b b no_account within (omega arith)

accounts_long : (s : State) → length (accounts_now s) ≡ s.geometry.blocks
unfolding accounts_now
accounts_long s = length-map-range_with_len (λ b. record { next = pointer_at s b; barred = not (is_good_at s.table b) }) 0 s.geometry.blocks

-- the accounts agree with the memory, and the image is by them
pub record Begun (pages next : ℕ) (image : Image) (s : State) : Type 0 where
  pub accounts : List Account
  pub accounted : IsAccounted accounts s
  pub fits : Fits pages image accounts next
  pub filled : Filled pages image accounts

good_by : (b : Bool) → not b ≡ false → b ≡ true
good_by true e = refl
good_by false e = (let no : ⊥ = cc in absurd no)

module _ {N : Type 0} (flash : N → Flash) (d : Device N) where
  begun : IsTrue None (ram d.engine) (flash d.engine.nand).image → (ram d.engine).blocks.geometry ≡ d.engine.geometry
      → Begun d.engine.geometry.pages (ram d.engine).next (flash d.engine.nand).image (ram d.engine).blocks
  begun truth of =
      let s : State = (ram d.engine).blocks in
      let image : Image = (flash d.engine.nand).image in
      let size : length (accounts_now s) ≡ s.geometry.blocks = accounts_long s in
      record {
        accounts = accounts_now s;
        accounted = record {
          size = size;
          barred = λ b within. ap (λ (a : Account). a.barred) (account_now s b within);
          next = λ b within good. ap (λ (a : Account). a.next) (account_now s b within);
        };
        fits = record {
          below = truth.below;
          free = λ b p free from within.
              let here : b < s.geometry.blocks = omega (arith, in_range (accounts_now s) b free, size) in
              let now = account_now s b here in
              let good : is_good_at s.table b ≡ true = good_by (is_good_at s.table b) (sym (ap (λ (a : Account). a.barred) now) ∙ free) in
              let erased : IsErasedAt image (b * s.geometry.pages + p) =
              truth.filled.erased b p here good (subst (λ (a : Account). a.next ≤ p) now from) (omega (arith, within, ap (λ (g : Geometry). g.pages) of)) in
              subst (λ (g : Geometry). IsUnsoundAt image (b * g.pages + p)) of (erased_at_unsound d.engine.geometry image (b * s.geometry.pages + p) truth.whole erased);
        };
        filled = record {
          sound = λ b p free below within.
              let here : b < s.geometry.blocks = omega (arith, in_range (accounts_now s) b free, size) in
              let now = account_now s b here in
              let good : is_good_at s.table b ≡ true = good_by (is_good_at s.table b) (sym (ap (λ (a : Account). a.barred) now) ∙ free) in
              subst (λ (g : Geometry). IsSome (get_or (marks image) (b * g.pages + p) None)) of (truth.filled.sound b p here good (subst (λ (a : Account). p < a.next) now below));
        };
      }

-- ---- one call

-- a device of the same sizes leaves as many stale entries
room_kept : (old new : Ram) → new.geometry ≡ old.geometry → HasLimitsOf old.mapping new.mapping → room_of new ≡ room_of old
room_kept old new sized limits = rw (limits.capacity, limits.share, sized) refl

-- WHAT ONE CALL COMES TO, by the state of its die before it, of a device with this geometry that leaves so many stale entries
pub record Called {N : Type 0} (g : Geometry) (most : ℕ) (die : View N) (before : Flash) (log : List Operation) (new : Device N) : Type 0 where
  pub sized : new.engine.geometry ≡ g
  pub room : room_of (ram new.engine) ≡ most
  pub die_sized : before.geometry ≡ g
  pub whole : IsImage g before.image
  pub accounts : List Account
  pub next : ℕ
  pub fits : Fits g.pages before.image accounts next
  pub filled : Filled g.pages before.image accounts
  pub leads : Leads before log (die.flash new.engine.nand)
  pub legal : LegalFrom g.pages accounts log
  pub numbers : NumbersFrom next log
  pub dead : ErasesDead g.pages before.image log
  pub survives : (left : Image) → MayLeave g before.image log left → (most ≤ 65536 → IsMountable g most left)
      × ((array_of g left ≡ array_of g before.image) ⊎ (array_of g left ≡ array_of g (image_on die new)))

module _ {N : Type 0} (die : View N) (old : Device N) (log : List Operation) (new : Device N) (does : IsRecordedCall die old log new) where
  its_die : die.honest old.engine.nand ≡ true
  its_die = (parts die.honest old does.through.held).0

  went_on : (answer : Result (Unit {0}) DeviceFault) → RefusesCall die.failed old answer new → answer ≢ Err BusFault
  went_on answer refuses = no_bus (ram old.engine) (ram new.engine) answer refuses.says (parts die.honest new does.through.holds_on).1

  truth : IsTrue None (ram old.engine) (image_on die old)
  truth = (does.through.was.well does.through.held).truth

  starts : Begun old.engine.geometry.pages (ram old.engine).next (image_on die old) (ram old.engine).blocks
  starts = begun die.flash old truth does.through.was.device.engine.memory.blocks_of

  logged : (command : Command) (answer : Result (Unit {0}) DeviceFault) → HasLimitsOf old.engine.mapping new.engine.mapping → Logs die command old answer new
      → Called old.engine.geometry (room_of (ram old.engine)) die (die.flash old.engine.nand) log new
  logged command answer limits logs =
      let one : logs.went.log ≡ log = sym (one_gain (die.recorded old.engine.nand) (die.recorded new.engine.nand) log logs.went.log does.told does.records logs.went.records) in
      let was = does.through.was.well does.through.held in
      let begins = starts in
      let sized : new.engine.geometry ≡ old.engine.geometry = sym does.through.is.device.engine.geometry ∙ (geometry-Leads (die.flash old.engine.nand) (die.flash new.engine.nand) logs.went.log logs.went.leads ∙ does.through.was.device.engine.geometry) in
      subst (λ l. Called old.engine.geometry (room_of (ram old.engine)) die (die.flash old.engine.nand) l new) one (record {
        sized = sized;
        room = room_kept (ram old.engine) (ram new.engine) sized limits;
        die_sized = does.through.was.device.engine.geometry;
        whole = truth.whole;
        accounts = begins.accounts;
        next = (ram old.engine).next;
        fits = begins.fits;
        filled = begins.filled;
        leads = logs.went.leads;
        legal = logs.went.follows.legal begins.accounts begins.accounted;
        numbers = logs.went.numbers;
        dead = logs.dead was does.told;
        survives = λ left m. (let s = logs.stopped was does.told left m in (s.mountable, elim s.array [ inl before ↦ inl before | inr after ↦ inr after.2 ]));
      })

  changed : (n : ℕ) (command : Command) (result : Result (Unit {0}) DiskFault) → AsksChange die n command old result new
      → Called old.engine.geometry (room_of (ram old.engine)) die (die.flash old.engine.nand) log new
  changed n command result asks = logged command asks.answer asks.changes.stays.limits (asks.changes.logs its_die (went_on asks.answer asks.changes.refuses))

  read : AsksRead die old new
      → Called old.engine.geometry (room_of (ram old.engine)) die (die.flash old.engine.nand) log new
  read asks =
      let leaves = asks.leaves does.through.held does.through.holds_on in
      let same : die.flash new.engine.nand ≡ die.flash old.engine.nand = leaves.die_same in
      let image_same : image_on die new ≡ image_on die old = ap (λ (s : Flash). s.image) same in
      let nothing : log ≡ [] =
      one_gain (die.recorded old.engine.nand) (die.recorded new.engine.nand) log [] does.told does.records
      (subst (λ x. Records (die.recorded old.engine.nand) [] x) (sym leaves.told_same) (records_none (die.recorded old.engine.nand))) in
      let begins = starts in
      let sized : new.engine.geometry ≡ old.engine.geometry = sym does.through.is.device.engine.geometry ∙ (ap (λ (s : Flash). s.geometry) same ∙ does.through.was.device.engine.geometry) in
      subst (λ l. Called old.engine.geometry (room_of (ram old.engine)) die (die.flash old.engine.nand) l new) (sym nothing) (record {
        sized = sized;
        room = room_kept (ram old.engine) (ram new.engine) sized asks.limits;
        die_sized = does.through.was.device.engine.geometry;
        whole = truth.whole;
        accounts = begins.accounts;
        next = (ram old.engine).next;
        fits = begins.fits;
        filled = begins.filled;
        leads = same;
        legal = tt;
        numbers = tt;
        dead = tt;
        survives = λ left m.
            let here : left ≡ image_on die old = no_operation old.engine.geometry (image_on die old) left m in (
              λ few. subst (IsMountable old.engine.geometry (room_of (ram old.engine))) (image_same ∙ sym here) (leaves.mountable few),
              inl (ap (array_of old.engine.geometry) here),
            );
      })

-- a sector that is cleared: a read, which leaves the die as it was, and then a trim, where that did not give zeros
module _ {N : Type 0} (die : View N) (old : Device N) (log : List Operation) (new : Device N) (does : IsRecordedCall die old log new) where
  trimmed : (mid : Device N) (n : ℕ) (result : Result (Unit {0}) DiskFault) → AsksRead die old mid
      → AsksChange die n (Trim n) mid result new → Called old.engine.geometry (room_of (ram old.engine)) die (die.flash old.engine.nand) log new
  unfolding AsksCall ChangesOne
  trimmed mid n result reads trims =
      let held : holds die.honest mid ≡ true =
      back die.honest mid new trims.answer trims.changes.stays.honest_is trims.changes.refuses.stopped does.through.holds_on in
      let leaves : LeavesDie die old mid = reads.leaves does.through.held held in
      let sized : mid.engine.geometry ≡ old.engine.geometry =
      sym reads.disk.device.engine.geometry ∙ (ap (λ (s : Flash). s.geometry) leaves.die_same ∙ does.through.was.device.engine.geometry) in
      let second : IsRecordedCall die mid log new = record {
        through = record { was = reads.disk; is = does.through.is; held = held; holds_on = does.through.holds_on };
        asks = inl (inr (inl (result, (n, inl (Trim n, trims)))));
        told = does.told;
        records = subst (λ r. Records r log (die.recorded new.engine.nand)) (sym leaves.told_same) does.records;
      } in
      subst (λ (s : Flash). Called old.engine.geometry (room_of (ram old.engine)) die s log new) leaves.die_same
      (subst (λ g. Called g (room_of (ram old.engine)) die (die.flash mid.engine.nand) log new) sized
      (subst (λ c. Called mid.engine.geometry c die (die.flash mid.engine.nand) log new) (room_kept (ram old.engine) (ram mid.engine) sized reads.limits) (changed die mid log new second n (Trim n) result trims)))

  cleared : (n : ℕ) (result : Result (Unit {0}) DiskFault) → AsksClear die n old result new
      → Called old.engine.geometry (room_of (ram old.engine)) die (die.flash old.engine.nand) log new
  cleared n result asks = elim asks.trims [
    | inl zeros ↦ read die old log new does (subst (λ d. AsksRead die old d) (sym zeros.3) asks.asks)
    | inr trims ↦ trimmed asks.mid n result asks.asks trims.1
  ]

  called_by : IsDiskCall die old new → Called old.engine.geometry (room_of (ram old.engine)) die (die.flash old.engine.nand) log new
  unfolding AsksCall ChangesOne
  called_by (inl (inl asks)) = read die old log new does asks
  called_by (inl (inr (inl (result, (n, inl (command, asks)))))) = changed die old log new does n command result asks
  called_by (inl (inr (inl (result, (n, inr asks))))) = cleared n result asks
  called_by (inl (inr (inr (result, asks)))) =
      logged die old log new does _ asks.answer asks.upkeeps.stays.limits (asks.upkeeps.logs (its_die die old log new does) (went_on die old log new does asks.answer asks.upkeeps.refuses))
  called_by (inr (result, asks)) =
      logged die old log new does _ asks.answer asks.upkeeps.stays.limits (asks.upkeeps.logs (its_die die old log new does) (went_on die old log new does asks.answer asks.upkeeps.refuses))

  called : (g : Geometry) (most : ℕ) → old.engine.geometry ≡ g → room_of (ram old.engine) ≡ most → Called g most die (die.flash old.engine.nand) log new
  called g most sized room =
      subst (λ h. Called h most die (die.flash old.engine.nand) log new) sized (subst (λ c. Called old.engine.geometry c die (die.flash old.engine.nand) log new) room (called_by does.asks))

-- ---- calls one after another

module _ {N : Type 0} (die : View N) (old : Device N) where
  pub run_sized : (log : List Operation) (new : Device N) → DeviceCalls die old log new → (new.engine.geometry ≡ old.engine.geometry) × (room_of (ram new.engine) ≡ room_of (ram old.engine))
  run_sized log new NoCall = (refl, refl)
  run_sized log new (OneMore before mid more last run does) =
      let at = run_sized before mid run in
      let its = called die mid more last does old.engine.geometry (room_of (ram old.engine)) at.0 at.1 in
      (its.sized, its.room)

  pub called_on : (before : List Operation) (mid : Device N) (log : List Operation) (new : Device N) → DeviceCalls die old before mid → IsRecordedCall die mid log new
      → Called old.engine.geometry (room_of (ram old.engine)) die (die.flash mid.engine.nand) log new
  called_on before mid log new run does = (let at = run_sized before mid run in called die mid log new does old.engine.geometry (room_of (ram old.engine)) at.0 at.1)

  pub run_image : (log : List Operation) (new : Device N) → DeviceCalls die old log new → image_after_all old.engine.geometry.pages (image_on die old) log ≡ image_on die new
  run_image log new NoCall = refl
  run_image log new (OneMore before mid more last run does) =
      let its = called_on before mid more last run does in
      all_after old.engine.geometry.pages (image_on die old) before more
      ∙ (ap (λ i. image_after_all old.engine.geometry.pages i more) (run_image before mid run)
      ∙ sym (image_law (die.flash mid.engine.nand) (die.flash last.engine.nand) more its.leads ∙ ap (λ (g : Geometry). image_after_all g.pages (image_on die mid) more) its.die_sized))

  -- ---- killed

  in_call : (before : List Operation) (mid : Device N) (log : List Operation) (new : Device N) (found : Image) → DeviceCalls die old before mid → IsRecordedCall die mid log new
      → MayLeave old.engine.geometry (image_on die mid) log found → CutInCall die old mid log new found
  in_call before mid log new found run does left =
      let s = (called_on before mid log new run does).survives found left in
      record { cut = left; whole = elim s.1 [ inl was ↦ inl (ap flat was) | inr now ↦ inr (ap flat now) ]; mounts = s.0 }

  killed : (before : List Operation) (mid : Device N) (log : List Operation) (new : Device N) (found : Image) (run : DeviceCalls die old before mid) (does : IsRecordedCall die mid log new)
      → MayLeave old.engine.geometry (image_on die old) (before ++ log) found → IsCutIn die old (before ++ log) new (OneMore before mid log new run does) found
  killed before mid log new found NoCall does m = inr (in_call [] old log new found NoCall does m)
  killed before mid log new found (OneMore earlier first more last run one) does m = elim ((stops_join old.engine.geometry.pages (image_on die old) found (earlier ++ more) log).0 m.by) [
    | inl here ↦ inl (killed earlier first more last found run one (record { whole = m.whole; by = here }))
    | inr store_behind ↦
        let so_far : DeviceCalls die old (earlier ++ more) last = OneMore earlier first more last run one in
        inr (in_call (earlier ++ more) last log new found so_far does (record {
          whole = m.whole;
          by = subst (λ i. LeftBy old.engine.geometry.pages i log found) (run_image (earlier ++ more) last so_far) store_behind;
        }))
  ]

  cut_leaves : (log : List Operation) (new : Device N) (found : Image) (run : DeviceCalls die old log new) → IsCutIn die old log new run found → MayLeave old.engine.geometry (image_on die old) log found
  cut_leaves log new found NoCall c = absurd c
  cut_leaves log new found (OneMore before mid more last run does) (inl c) =
      let m = cut_leaves before mid found run c in
      record { whole = m.whole; by = (stops_join old.engine.geometry.pages (image_on die old) found before more).1 (inl m.by) }
  cut_leaves log new found (OneMore before mid more last run does) (inr c) = record {
    whole = c.cut.whole;
    by = (stops_join old.engine.geometry.pages (image_on die old) found before more).1 (inr (subst (λ i. LeftBy old.engine.geometry.pages i more found) (sym (run_image before mid run)) c.cut.by));
  }

  -- ---- a loss of power

  -- a sector of the disk that is there after the calls
  way_end : (log : List Operation) (new : Device N) (n : ℕ) (run : DeviceCalls die old log new) → HasOnTheWay die old log new run n (sector_of old.engine.geometry (image_on die new) n)
  way_end log new n NoCall = refl
  way_end log new n (OneMore before mid more last run does) = inr refl

  module _ (before : List Operation) (mid : Device N) (log : List Operation) (new : Device N) (run : DeviceCalls die old before mid) (does : IsRecordedCall die mid log new) where
    abbrev pub its : Called old.engine.geometry (room_of (ram old.engine)) die (die.flash mid.engine.nand) log new
    its = called_on before mid log new run does

    abbrev pub OnTheWay : ℕ → List ℕ → Type 0
    OnTheWay n bytes = HasOnTheWay die old (before ++ log) new (OneMore before mid log new run does) n bytes

    abbrev pub Before : ℕ → List ℕ → Type 0
    Before n bytes = HasOnTheWay die old before mid run n bytes

    grew_on : (stored image : Image) → GrewSince old.engine.geometry Before stored image → GrewSince old.engine.geometry OnTheWay stored image
    grew_on stored image w = record {
      grows = w.grows;
      mounted = w.mounted;
      was = λ n within. inl (w.was n within);
      pages = λ n row within page. inl (w.pages n row within page);
    }

    module _ (few : room_of (ram old.engine) ≤ 65536) where
      -- each image that a stop inside the call may leave stands
      stands_in : (left : Image) → MayLeave old.engine.geometry (image_on die mid) log left → Stands old.engine.geometry (room_of (ram old.engine)) OnTheWay left
      stands_in left m =
          let s = its.survives left m in
          record {
            mounts = s.0 few;
            sectors = λ n within. elim s.1 [
              | inl was ↦ subst (OnTheWay n) (sym (same_sector old.engine.geometry left (image_on die mid) n within was)) (inl (way_end before mid n run))
              | inr now ↦ subst (OnTheWay n) (sym (same_sector old.engine.geometry left (image_on die new) n within now)) (inr refl)
            ];
          }

      pub stands_before : Stands old.engine.geometry (room_of (ram old.engine)) Before (image_on die mid)
      stands_before = record {
        mounts = (its.survives (image_on die mid) (record { whole = its.whole; by = between old.engine.geometry.pages (image_on die mid) [] log })).0 few;
        sectors = λ n within. way_end before mid n run;
      }

      pub goes : (stored : Image) → GrewSince old.engine.geometry Before stored (image_on die mid)
          → Goes old.engine.geometry (room_of (ram old.engine)) OnTheWay (die.flash mid.engine.nand) its.accounts its.next log stored
      goes stored since = record {
        sized = its.die_sized;
        fits = its.fits;
        whole = its.whole;
        moments = stands_in;
        since = grew_on stored (image_on die mid) since;
      }

  pub lasts_join : (pages : ℕ) (stored image : Image) (xs ys : List Operation) → lasts_after pages stored image (xs ++ ys) ≡ lasts_after pages (lasts_after pages stored image xs) (image_after_all pages image xs) ys
  lasts_join pages stored image [] ys = refl
  lasts_join pages stored image (Program row page passed left ∷ xs) ys = lasts_join pages stored (image_after pages image (Program row page passed left)) xs ys
  lasts_join pages stored image (Erase block passed left ∷ xs) ys = lasts_join pages (image_after pages image (Erase block passed left)) (image_after pages image (Erase block passed left)) xs ys

  -- the pages that last after these calls
  abbrev pub lasting : List Operation → Image
  lasting before = lasts_after old.engine.geometry.pages (image_on die old) (image_on die old) before

  module _ (few : room_of (ram old.engine) ≤ 65536) where
    grew_run : (log : List Operation) (new : Device N) (run : DeviceCalls die old log new) → Stands old.engine.geometry (room_of (ram old.engine)) (HasOnTheWay die old log new run) (image_on die new)
        → GrewSince old.engine.geometry (HasOnTheWay die old log new run) (lasting log) (image_on die new)
    grew_run log new NoCall stands = since_begin old.engine.geometry (room_of (ram old.engine)) (HasOnTheWay die old [] old NoCall) (image_on die old) stands
    grew_run log new (OneMore before mid more last run does) stands =
        let pages : ℕ = old.engine.geometry.pages in
        let c = called_on before mid more last run does in
        let so_far = grew_run before mid run (stands_before before mid more last run does few) in
        let now = grew old.engine.geometry (room_of (ram old.engine)) (OnTheWay before mid more last run does) more (die.flash mid.engine.nand) (die.flash last.engine.nand) c.accounts
        c.next (lasting before) (goes before mid more last run does few (lasting before) so_far) c.leads c.legal c.numbers in
        subst (λ i. GrewSince old.engine.geometry (OnTheWay before mid more last run does) i (image_on die last))
        (ap (λ i. lasts_after pages (lasting before) i more) (sym (run_image before mid run)) ∙ sym (lasts_join pages (image_on die old) (image_on die old) before more)) now

    -- the power goes in the last of the calls
    lost_in : (before : List Operation) (mid : Device N) (log : List Operation) (new : Device N) (found : Image) (run : DeviceCalls die old before mid) (does : IsRecordedCall die mid log new) → IsImage old.engine.geometry found
        → LostBy old.engine.geometry.pages (lasting before) (image_on die mid) log found → IsFoundAfterLoss die old (before ++ log) new (OneMore before mid log new run does) found
    lost_in before mid log new found run does whole by =
        let c = called_on before mid log new run does in
        let so_far = grew_run before mid run (stands_before before mid log new run does few) in
        let f = lost old.engine.geometry (room_of (ram old.engine)) (OnTheWay before mid log new run does) log (die.flash mid.engine.nand) (die.flash new.engine.nand) c.accounts
        c.next (lasting before) found (goes before mid log new run does few (lasting before) so_far) c.leads c.legal c.numbers whole by in
        record { one = f.one; mounts = f.mounts; sectors = f.sectors }

    lost_run : (before : List Operation) (mid : Device N) (log : List Operation) (new : Device N) (found : Image) (run : DeviceCalls die old before mid) (does : IsRecordedCall die mid log new)
        → MayLose old.engine.geometry (image_on die old) (before ++ log) found → IsFoundAfterLoss die old (before ++ log) new (OneMore before mid log new run does) found
    lost_run before mid log new found NoCall does m = lost_in [] old log new found NoCall does m.whole m.by
    lost_run before mid log new found (OneMore earlier first more last run one) does m =
        let so_far : DeviceCalls die old (earlier ++ more) last = OneMore earlier first more last run one in
        elim (lost_apart old.engine.geometry.pages (image_on die old) (image_on die old) found (earlier ++ more) log m.by) [
          | inl here ↦
              let f = lost_run earlier first more last found run one (record { whole = m.whole; by = here }) in
              record { one = f.one; mounts = f.mounts; sectors = λ n within. inl (f.sectors n within) }
          | inr store_behind ↦
              lost_in (earlier ++ more) last log new found so_far does m.whole
              (subst (λ i. LostBy old.engine.geometry.pages (lasting (earlier ++ more)) i log found) (run_image (earlier ++ more) last so_far) store_behind)
        ]

pub killed_run : {N : Type 0} (die : View N) → KilledRunLaw die
killed_run die old new log found NoCall m = inl (tt, no_operation old.engine.geometry (image_on die old) found m)
killed_run die old new log found (OneMore before mid more last run does) m = inr (killed die old before mid more last found run does m)

pub lost_run_law : {N : Type 0} (die : View N) → LostRunLaw die
lost_run_law die old new log found NoCall few m = inl (tt, m.by)
lost_run_law die old new log found (OneMore before mid more last run does) few m = inr (lost_run die old few before mid more last found run does m)

pub one_call : {N : Type 0} (die : View N) → OneCallLaw die
one_call die old new log does = OneMore [] old log new NoCall does

pub cut_leaves_law : {N : Type 0} (die : View N) → CutLeavesLaw die
cut_leaves_law die old new log found run c = cut_leaves die old log new found run c

pub on_the_way : {N : Type 0} (die : View N) → OnTheWayLaw die
on_the_way die old new log NoCall n bytes is = ([], old, [], NoCall, NoCall, refl, is)
on_the_way die old new log (OneMore before mid more last run does) n bytes (inl h) =
    let w = on_the_way die old mid before run n bytes h in
    (w.0, w.1, w.2 ++ more, w.3, OneMore w.2 mid more last w.4 does, sym (append_assoc w.0 w.2 more) ∙ ap (λ (l : List Operation). l ++ more) w.5, w.6)
on_the_way die old new log (OneMore before mid more last run does) n bytes (inr is) =
    (before ++ more, last, [], OneMore before mid more last run does, NoCall, append-nil (before ++ more), is)
