-- All that is asked of a device in a session, as calls one after another.
use Rattle.std.proofs.Common.{◌≡◌, ◌≢◌, inl, inr, ℕ, suc, zero, true, List, [], ◌++◌, IsSome, Result, Err, refl, sym, ap, subst, ◌∙◌}
use Rattle.std.proofs.Math.Path.{path_j'}
use Rattle.page_layout.specs.View.{View}
use Rattle.page_layout.specs.Flash.{Operation}
use Rattle.page_layout.specs.Recording.{Records}
use Rattle.page_layout.proofs.RecordingLemmas.{records_none, told_on}
use Rattle.promises.specs.Step.{Command, Flush, Turn}
use Rattle.collection.specs.Safe.{ram}
use Rattle.nbd_stream.specs.declared.fault.DiskFault.{DiskFault}
use Rattle.nbd_stream.specs.Through.{Through, Times}
use Rattle.ftl_device.specs.declared.device.Device.{Device}
use Rattle.ftl_device.specs.declared.fault.DeviceFault.{DeviceFault}
use Rattle.ftl_device.specs.declared.fault.DeviceFault.TheVariants.{BusFault}
use Rattle.ftl_device.specs.Changes.{Logs, RefusesCall, Stays}
use Rattle.disk_server.specs.Asked.{AsksCall}
use Rattle.disk_server.specs.Disk.{AsksChange, AsksClear, AsksFlush, AsksRead, AsksTurn, ChangesOne, IsDisk, holds}
use Rattle.disk_server.proofs.Calls.{no_bus}
use Rattle.disk_server.proofs.Holding.{back, parts}
use Rattle.disk_laws.specs.Runs.{DeviceCalls, IsRecordedCall, IsDiskCall, NoCall, OneMore, SessionLaw, calls_of}

module _ {N : Type 0} (die : View N) where
  -- a call that a session asked, and what it leaves to the call before it
  record Goes (old new : Device N) (call : IsDiskCall die old new) : Type 0 where
    pub held : holds die.honest old ≡ true
    pub told : IsSome (die.recorded old.engine.nand)
    pub log : List Operation
    pub does : IsRecordedCall die old log new
    pub same : does.asks ≡ call

  module _ (old new : Device N) (was : IsDisk die old) (on : holds die.honest new ≡ true) (some : IsSome (die.recorded new.engine.nand)) where
    one : (call : IsDiskCall die old new) (log : List Operation) → holds die.honest old ≡ true → IsDisk die new → Records (die.recorded old.engine.nand) log (die.recorded new.engine.nand) → Goes old new call
    one call log held is records = record {
      held = held;
      told = (told_on (die.recorded old.engine.nand) (die.recorded new.engine.nand) log records).1 some;
      log = log;
      does = record { through = record { was = was; is = is; held = held; holds_on = on }; asks = call; told = some; records = records };
      same = refl;
    }

    back_by : (answer : Result (Unit {0}) DeviceFault) → Stays die old new → RefusesCall die.failed old answer new → holds die.honest old ≡ true
    back_by answer stays refuses = back die.honest old new answer stays.honest_is refuses.stopped on

    logged : (command : Command) (answer : Result (Unit {0}) DeviceFault) → holds die.honest old ≡ true → RefusesCall die.failed old answer new
        → (die.honest old.engine.nand ≡ true → answer ≢ Err BusFault → Logs die command old answer new)
        → (log : List Operation) × Records (die.recorded old.engine.nand) log (die.recorded new.engine.nand)
    logged command answer held refuses logs =
        let l = logs (parts die.honest old held).0 (no_bus (ram old.engine) (ram new.engine) answer refuses.says (parts die.honest new on).1) in
        (l.went.log, l.went.records)

    of_read : (call : IsDiskCall die old new) → AsksRead die old new → Goes old new call
    of_read call asks =
        let held : holds die.honest old ≡ true = asks.back on in
        one call [] held asks.disk (subst (λ x. Records (die.recorded old.engine.nand) [] x) (sym (asks.leaves held on).told_same) (records_none (die.recorded old.engine.nand)))

    of_change : (call : IsDiskCall die old new) (n : ℕ) (command : Command) (result : Result (Unit {0}) DiskFault) → AsksChange die n command old result new → Goes old new call
    of_change call n command result asks =
        let held = back_by asks.answer asks.changes.stays asks.changes.refuses in
        let gained = logged command asks.answer held asks.changes.refuses asks.changes.logs in
        one call gained.0 held asks.disk gained.1

    of_flush : (call : IsDiskCall die old new) (result : Result (Unit {0}) DiskFault) → AsksFlush die old result new → Goes old new call
    of_flush call result asks =
        let held = back_by asks.answer asks.upkeeps.stays asks.upkeeps.refuses in
        let gained = logged Flush asks.answer held asks.upkeeps.refuses asks.upkeeps.logs in
        one call gained.0 held asks.disk gained.1

    of_turn : (call : IsDiskCall die old new) (result : Result (Unit {0}) DiskFault) → AsksTurn die old result new → Goes old new call
    of_turn call result asks =
        let held = back_by asks.answer asks.upkeeps.stays asks.upkeeps.refuses in
        let gained = logged Turn asks.answer held asks.upkeeps.refuses asks.upkeeps.logs in
        one call gained.0 held asks.disk gained.1

    -- a sector that is cleared is a read, and a change where that did not give zeros
    of_clear : (call : IsDiskCall die old new) (n : ℕ) (result : Result (Unit {0}) DiskFault)
        → AsksClear die n old result new → Goes old new call
    of_clear call n result asks = elim asks.trims [
      | inl zeros ↦ of_read call (subst (λ d. AsksRead die old d) (sym zeros.3) asks.asks)
      | inr trims ↦
          let middle : holds die.honest asks.mid ≡ true =
          back die.honest asks.mid new trims.1.answer trims.1.changes.stays.honest_is trims.1.changes.refuses.stopped on in
          let held : holds die.honest old ≡ true = asks.asks.back middle in
          let l = trims.1.changes.logs (parts die.honest asks.mid middle).0 (no_bus (ram asks.mid.engine) (ram new.engine) trims.1.answer trims.1.changes.refuses.says (parts die.honest new on).1) in
          one call l.went.log held trims.1.disk (subst (λ r. Records r l.went.log (die.recorded new.engine.nand)) (asks.asks.leaves held middle).told_same l.went.records)
    ]

    goes : (call : IsDiskCall die old new) → Goes old new call
    unfolding AsksCall ChangesOne
    goes (inl (inl read)) = of_read (inl (inl read)) read
    goes (inl (inr (inl (result, (n, inl (command, asks)))))) = of_change (inl (inr (inl (result, (n, inl (command, asks)))))) n command result asks
    goes (inl (inr (inl (result, (n, inr asks))))) = of_clear (inl (inr (inl (result, (n, inr asks))))) n result asks
    goes (inl (inr (inr (result, asks)))) = of_flush (inl (inr (inr (result, asks)))) result asks
    goes (inr (result, asks)) = of_turn (inr (result, asks)) result asks

  -- it stays a disk
  disk_on : (old new : Device N) → IsDisk die old → IsDiskCall die old new → IsDisk die new
  unfolding AsksCall ChangesOne
  disk_on old new was (inl (inl read)) = read.disk
  disk_on old new was (inl (inr (inl (result, (n, inl (command, asks)))))) = asks.disk
  disk_on old new was (inl (inr (inl (result, (n, inr asks))))) = elim asks.trims [
    | inl zeros ↦ subst (IsDisk die) (sym zeros.3) asks.asks.disk
    | inr trims ↦ trims.1.disk
  ]
  disk_on old new was (inl (inr (inr (result, asks)))) = asks.disk
  disk_on old new was (inr (result, asks)) = asks.disk

  disk_of : (n : ℕ) (old new : Device N) → IsDisk die old → Times (IsDiskCall die) n old new → IsDisk die new
  unfolding Times
  disk_of zero old new was same = subst (IsDisk die) (sym same) was
  disk_of (suc n) old new was (mid, before, call) = disk_on mid new (disk_of n old mid was before) call

  -- calls, and that they are the ones asked
  record Runs (old new : Device N) (asked : Through (IsDiskCall die) old new) : Type 0 where
    pub log : List Operation
    pub run : DeviceCalls die old log new
    pub these : calls_of die old log new run ≡ asked

  run_of : (n : ℕ) (old new : Device N) → IsDisk die old → (times : Times (IsDiskCall die) n old new) → holds die.honest new ≡ true → IsSome (die.recorded new.engine.nand)
      → Runs old new (n, times)
  unfolding Times calls_of
  run_of zero old new was same on some =
      path_j' (λ (d : Device N) (p : d ≡ old). Runs old d (0, p)) (record { log = []; run = NoCall; these = refl }) same
  run_of (suc n) old new was (mid, before, call) on some =
      let last = goes mid new (disk_of n old mid was before) on some call in
      let first = run_of n old mid was before last.held last.told in
      record {
        log = first.log ++ last.log;
        run = OneMore first.log mid last.log new first.run last.does;
        these = ap (λ (a : Through (IsDiskCall die) old mid). (suc a.0, (mid, a.1, last.does.asks))) first.these ∙ ap (λ c. (suc n, (mid, before, c))) last.same;
      }

  pub session : SessionLaw die
  session old new (n, times) was on some = (let r = run_of n old new was times on some in (r.log, r.run, r.these))
