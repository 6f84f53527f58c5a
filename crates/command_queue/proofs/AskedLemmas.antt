-- Many calls of a device, `migrate_one` among them.
use Rattle.std.proofs.Common.{◌≡◌, ◌≢◌, inl, inr, ℕ, ◌+◌, ◌≤◌, min, Bool, true, false, List, [], ◌∷◌, ◌++◌, map, Result, Ok, Err, refl, sym, ap, subst, ◌∙◌, arith}
use Rattle.std.specs.Prelude.{if◌then◌else◌, nat_le}
use Rattle.std.proofs.lemmas.Bool.{le-leb}
use Rattle.page_layout.specs.View.{View}
use Rattle.page_layout.specs.declared.geometry.Geometry.{Geometry}
use Rattle.page_layout.specs.Flash.{Operation}
use Rattle.page_layout.specs.Sound.{version_for}
use Rattle.page_layout.proofs.FlashLemmas.{Leads-append}
use Rattle.page_layout.proofs.RecordingLemmas.{records_join, records_none}
use Rattle.promises.specs.Step.{ArrayRun}
use Rattle.promises.specs.Log.{passed_erases_of}
use Rattle.collection.specs.Safe.{ram, image_in}
use Rattle.collection.specs.Log.{FollowsLog}
use Rattle.bad_blocks.specs.Table.{wear_at, most_wear}
use Rattle.promises.proofs.LogLemmas.{counts}
use Rattle.command_queue.proofs.RunLemmas.{follows_then}
use Rattle.ftl_device.specs.declared.device.Device.{Device}
use Rattle.ftl_device.specs.declared.fault.DeviceFault.{DeviceFault}
use Rattle.ftl_device.specs.declared.fault.DeviceFault.TheVariants.{BusFault}
use Rattle.ftl_device.specs.Calls.{IsWell, state_in}
use Rattle.ftl_device.specs.Counts.{is_flush}
use Rattle.ftl_device.specs.Migrate.{ended}
use Rattle.ftl_device.specs.Renewed.{HasOldTablesOnly, HasNoneOld}
use Rattle.ftl_device.proofs.RenewedLemmas.{adds_then, stays_new, finishes}
use Rattle.command_queue.specs.Exchanges.{Exchange}
use Rattle.command_queue.specs.Tells.{Tells, ToldEach}
use Rattle.command_queue.specs.Asked.{Asked, Told, Migrated, command_asked, reply_asked, HaveOutcomes, HaveFlushed, MigratesOne, AskedEach, DoesCall, DoesEach, log_asked, DoesAll}

pub room_two : (g : Geometry) → 40 ≤ g.spare_bytes → version_for g ≡ 2
room_two g room = (let e : nat_le 40 g.spare_bytes ≡ true = le-leb 40 g.spare_bytes room in let pick : Bool → ℕ = λ b. if b then 2 else 1 in ap pick e)

module _ {N : Type 0} (view : View N) where
  pub told_asked : (old new : Device N) (xs : List Exchange) → ToldEach view old xs new → AskedEach view old (map Told xs) new
  told_asked old new [] each = each
  told_asked old new (x ∷ xs) each = (each.0, each.1, told_asked each.0 new xs each.2)

  pub asked_join : (old mid new : Device N) (calls later : List Asked) → AskedEach view old calls mid → AskedEach view mid later new
      → AskedEach view old (calls ++ later) new
  asked_join old mid new [] later each rest = subst (λ d. AskedEach view d later new) each rest
  asked_join old mid new (Told x ∷ calls) later each rest = (each.0, each.1, asked_join each.0 mid new calls later each.2 rest)
  asked_join old mid new (Migrated result ∷ calls) later each rest = (each.0, each.1, asked_join each.0 mid new calls later each.2 rest)

  -- ---- one call

  module _ (old mid : Device N) (is_honest : view.honest old.engine.nand ≡ true) (well : IsWell view.flash old) where
    does_told : (x : Exchange) → x.result ≢ Err BusFault → Tells view old x mid → DoesCall view old (Told x) mid
    does_told x some tells =
        let h = tells.happened is_honest well some in
        record { sized = tells.sized; step = h.step; went = h.went; stopped = h.stopped; versions = h.versions; well = tells.well is_honest well some }

    does_migrated : (result : Result Bool DeviceFault) → ended result ≢ Err BusFault → MigratesOne view old result mid → DoesCall view old (Migrated result) mid
    does_migrated result some m =
        let logs = m.upkeeps.logs is_honest some in
        let means = m.upkeeps.means is_honest well some in
        record { sized = m.sized; step = means.step; went = logs.went; stopped = logs.stopped well; versions = means.versions; well = means.well }

  pub does_each : (old new : Device N) (calls : List Asked) → view.honest old.engine.nand ≡ true → IsWell view.flash old → HaveOutcomes calls → AskedEach view old calls new → DoesEach view old calls new
  does_each old new [] is_honest well known each = each
  does_each old new (Told x ∷ calls) is_honest well known each =
      let here = does_told old each.0 is_honest well x known.0 each.1 in
      (each.0, here, does_each each.0 new calls (each.1.honest_is ∙ is_honest) here.well known.1 each.2)
  does_each old new (Migrated result ∷ calls) is_honest well known each =
      let here = does_migrated old each.0 is_honest well result known.0 each.1 in
      (each.0, here, does_each each.0 new calls (each.1.upkeeps.stays.honest_is ∙ is_honest) here.well known.1 each.2)

  -- ---- all of them together

  does_none : (old new : Device N) → IsWell view.flash old → new ≡ old → DoesAll view old [] new []
  does_none old new well same =
      let P : Device N → Type 0 = λ d. DoesAll view old [] d [] in
      subst P (sym same) (record {
        array = refl;
        leads = refl;
        records = records_none (view.recorded old.engine.nand);
        follows = record { legal = λ accounts a. tt; accounted = λ accounts a. a };
        next = omega arith;
        wears = record { worn = λ b most. omega arith };
        versions = λ two key row at. at;
        well = well;
      })

  does_more : (old mid new : Device N) (call : Asked) (calls : List Asked) (log : List Operation) (here : DoesCall view old call mid) → DoesAll view mid calls new log → DoesAll view old (call ∷ calls) new (here.went.log ++ log)
  does_more old mid new call calls log here rest = record {
    array = (state_in view.flash mid, here.step, subst (λ g. ArrayRun g (state_in view.flash mid) (map command_asked calls) (map reply_asked calls) (state_in view.flash new)) here.sized rest.array);
    leads = Leads-append (view.flash old.engine.nand) (view.flash mid.engine.nand) (view.flash new.engine.nand) here.went.log log here.went.leads rest.leads;
    records = records_join (view.recorded old.engine.nand) (view.recorded mid.engine.nand) (view.recorded new.engine.nand) here.went.log log here.went.records rest.records;
    follows = follows_then old.engine.geometry.pages here.went.log log (ram old.engine).blocks (ram mid.engine).blocks (ram new.engine).blocks here.went.follows
        (subst (λ (g : Geometry). FollowsLog g.pages log (ram mid.engine).blocks (ram new.engine).blocks) here.sized rest.follows);
    next = omega (arith, here.went.next, rest.next, (counts old.engine.geometry.pages 0 here.went.log log).programs);
    wears = record {
      worn = λ b few.
          let first : wear_at (ram mid.engine).blocks.table b ≡ min (wear_at (ram old.engine).blocks.table b + passed_erases_of here.went.log b) most_wear = here.went.wears.worn b few in
          let second : wear_at (ram new.engine).blocks.table b ≡ min (wear_at (ram mid.engine).blocks.table b + passed_erases_of log b) most_wear = rest.wears.worn b (omega arith) in
          omega (arith, (counts old.engine.geometry.pages b here.went.log log).passed_erases_at);
    };
    versions = adds_then old.engine.geometry mid.engine.geometry (image_in view.flash old.engine) (image_in view.flash mid.engine) (image_in view.flash new.engine) here.sized here.versions rest.versions;
    well = rest.well;
  }

  pub does_all : (old new : Device N) (calls : List Asked) → IsWell view.flash old → (each : DoesEach view old calls new) → DoesAll view old calls new (log_asked view old calls new each)
  does_all old new [] well each = does_none old new well each
  does_all old new (call ∷ calls) well each = does_more old each.0 new call calls (log_asked view each.0 calls new each.2) each.1 (does_all each.0 new calls each.1.well each.2)

  pub asked_run : (old new : Device N) (calls : List Asked) → view.honest old.engine.nand ≡ true → IsWell view.flash old → HaveOutcomes calls → AskedEach view old calls new
      → (each : DoesEach view old calls new) × DoesAll view old calls new (log_asked view old calls new each)
  asked_run old new calls is_honest well known each =
      let its = does_each old new calls is_honest well known each in
      (its, does_all old new calls well its)

  -- ---- all is brought forward

  -- a call that is a flush, and done
  flush_told : (old mid : Device N) (x : Exchange) → view.honest old.engine.nand ≡ true → IsWell view.flash old → version_for old.engine.geometry ≡ 2 → x.result ≢ Err BusFault → is_flush x.command ≡ true → x.result ≡ Ok tt → Tells view old x mid
      → HasOldTablesOnly (image_in view.flash old.engine) → HasNoneOld (image_in view.flash mid.engine)
  flush_told old mid x is_honest well two some its done tells only =
      let h = tells.happened is_honest well some in
      finishes old.engine.geometry (image_in view.flash old.engine) (image_in view.flash mid.engine) h.versions (h.flushed its done).renewed two only

  -- where none is old no call makes one so
  stays_none : (old new : Device N) (calls : List Asked) → view.honest old.engine.nand ≡ true → IsWell view.flash old → version_for old.engine.geometry ≡ 2 → HaveOutcomes calls → AskedEach view old calls new
      → HasNoneOld (image_in view.flash old.engine) → HasNoneOld (image_in view.flash new.engine)
  stays_none old new calls is_honest well two known each none =
      let all = (asked_run old new calls is_honest well known each).1 in
      (stays_new old.engine.geometry (image_in view.flash old.engine) (image_in view.flash new.engine) two all.versions).1 none

  none_after : (old new : Device N) (calls : List Asked) → view.honest old.engine.nand ≡ true → IsWell view.flash old → version_for old.engine.geometry ≡ 2 → HaveOutcomes calls → AskedEach view old calls new
      → HaveFlushed calls → HasOldTablesOnly (image_in view.flash old.engine) → HasNoneOld (image_in view.flash new.engine)
  none_after old new [] is_honest well two known each flushed only = absurd flushed
  none_after old new (Told x ∷ calls) is_honest well two known each (inl here) only =
      let its = does_told old each.0 is_honest well x known.0 each.1 in
      stays_none each.0 new calls (each.1.honest_is ∙ is_honest) its.well (ap version_for each.1.sized ∙ two) known.1 each.2
      (flush_told old each.0 x is_honest well two known.0 here.0 here.1 each.1 only)
  none_after old new (Told x ∷ calls) is_honest well two known each (inr later) only =
      let its = does_told old each.0 is_honest well x known.0 each.1 in
      none_after each.0 new calls (each.1.honest_is ∙ is_honest) its.well (ap version_for each.1.sized ∙ two) known.1 each.2 later
      ((stays_new old.engine.geometry (image_in view.flash old.engine) (image_in view.flash each.0.engine) two its.versions).0 only)
  none_after old new (Migrated result ∷ calls) is_honest well two known each (inl here) only = (let never : false ≡ true = here.0 in let no : ⊥ = cc in absurd no)
  none_after old new (Migrated result ∷ calls) is_honest well two known each (inr later) only =
      let its = does_migrated old each.0 is_honest well result known.0 each.1 in
      none_after each.0 new calls (each.1.upkeeps.stays.honest_is ∙ is_honest) its.well (ap version_for each.1.sized ∙ two) known.1 each.2 later
      ((stays_new old.engine.geometry (image_in view.flash old.engine) (image_in view.flash each.0.engine) two its.versions).0 only)

  pub asked_forward : (old new : Device N) (calls : List Asked) → view.honest old.engine.nand ≡ true → IsWell view.flash old → 40 ≤ old.engine.geometry.spare_bytes → HaveOutcomes calls
      → AskedEach view old (Migrated (Ok false) ∷ calls) new → HaveFlushed calls → HasNoneOld (image_in view.flash new.engine)
  asked_forward old new calls is_honest well room known each flushed =
      let some : ended (Ok false) ≢ Err BusFault = λ e. (let no : ⊥ = cc in no) in
      let its = does_migrated old each.0 is_honest well (Ok false) some each.1 in
      none_after each.0 new calls (each.1.upkeeps.stays.honest_is ∙ is_honest) its.well (ap version_for each.1.sized ∙ room_two old.engine.geometry room) known each.2 flushed (each.1.migrates is_honest well room)
