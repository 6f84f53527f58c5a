-- What calls of a device ask its die, and that over an honest store it is calls of its driver.
use Rattle.std.proofs.Common.{◌≡◌, ◌⊎◌, inl, inr, ℕ, ◌<◌, Bool, true, List, [], ◌∷◌, ◌++◌, length, Some, Ok, Err, Result, IfOk, MatchResult, refl, sym, ap, subst, ◌∙◌}
use Rattle.page_layout.specs.View.{View}
use Rattle.page_layout.specs.DieCalls.{AskedNothing, AskedOneMore, AsksOnly, DieCall, EraseCall, ProgramCall, ReadCall}
use Rattle.page_layout.specs.Geometry.{row_count}
use Rattle.page_layout.specs.Page.{Page}
use Rattle.page_layout.specs.declared.source.SourceFault.{SourceFault}
use Rattle.page_layout.specs.Flash.{Erase, Operation, Program, Steps, block_at, page_at}
use Rattle.page_layout.specs.Recording as recording
use Rattle.page_layout.specs.Recording.{Recording, Records}
use Rattle.page_layout.proofs.AskedLemmas.{asks_then}
use Rattle.page_layout.proofs.RecordingLemmas.{records_join}
use Rattle.onfi_cycles.specs.declared.nand.BusFault.{BusFault}
use Rattle.onfi_cycles.specs.declared.nand.Outcome.{Outcome}
use Rattle.onfi_cycles.specs.Driver.{DriverState, cut_in, flash_by, gained}
use Rattle.onfi_cycles.specs.Outcomes.{is_passed}
use Rattle.onfi_cycles.specs.Sent.{Operates}
use Rattle.onfi_cycles.specs.Spelling.{erase_cycles, program_cycles}
use Rattle.promises.specs.Step as step
use Rattle.promises.specs.Step.{Command}
use Rattle.file_die.specs.Die.{ActsOnCycle, FileState, shown}
use Rattle.file_die.specs.Store.{Held}
use Rattle.nbd_stream.specs.declared.fault.DiskFault.{DiskFault}
use Rattle.ftl_device.specs.declared.device.Device.{Device}
use Rattle.disk_server.specs.Asked.{AsksCall}
use Rattle.disk_server.specs.Disk.{AsksChange, AsksClear, ChangesOne}
use Rattle.disk_server.specs.Opened.{view_in}
use Rattle.disk_laws.specs.AskedRuns.{AsksDriverLaw, IsInCall, IsInRun, IsInTrim, IsOnTheWay, RunAsksLaw}
use Rattle.disk_laws.specs.Driven.{AsksErase, AsksPage, AsksProgram, BlockErased, DriverCalls, NothingAsked, PageProgrammed, PageRead, StandsReady}
use Rattle.disk_laws.specs.Runs.{DeviceCalls, IsDiskCall, NoCall, OneMore}
use Rattle.disk_laws.proofs.CallLemmas.{asked_erase, asked_program, erase_stands, page_stands, program_stands}
use Rattle.disk_laws.proofs.DrivenLemmas.{calls_then, page_spared, tells, took_erase, took_program}

-- ---- calls of a die, and the states on the way

module _ {N : Type 0} (called : N → DieCall → N → Type 0) where
  -- calls in two parts
  abbrev pub Parts : (old at new : N) → Type 0
  Parts old at new = AsksOnly called old at × AsksOnly called at new

  pub way_parts : (old new at : N) (asked : AsksOnly called old new) → IsOnTheWay called old new asked at → Parts old at new
  way_parts old new at AskedNothing same = subst (λ x. Parts old x new) (sym same) (AskedNothing, AskedNothing)
  way_parts old new at (AskedOneMore mid last call more one) (inl before) = (let parts = way_parts old mid at more before in (parts.0, AskedOneMore mid last call parts.1 one))
  way_parts old new at (AskedOneMore mid last call more one) (inr same) = subst (λ x. Parts old x last) (sym same) (AskedOneMore mid last call more one, AskedNothing)

  pub way_first : (old new : N) (asked : AsksOnly called old new) → IsOnTheWay called old new asked old
  way_first old new AskedNothing = refl
  way_first old new (AskedOneMore mid last call more one) = inl (way_first old mid more)

  pub way_last : (old new : N) (asked : AsksOnly called old new) → IsOnTheWay called old new asked new
  way_last old new AskedNothing = refl
  way_last old new (AskedOneMore mid last call more one) = inr refl

-- ---- calls of a device

module _ {N : Type 0} (die : View N) where
  abbrev Asks : Device N → Device N → Type 0
  Asks old new = AsksOnly die.called old.engine.nand new.engine.nand

  abbrev On : (old new : Device N) → Asks old new → N → Type 0
  On old new asked at = IsOnTheWay die.called old.engine.nand new.engine.nand asked at

  -- what a clearing asked behind its read
  trim_asked : (n : ℕ) (old : Device N) (result : Result (Unit {0}) DiskFault) (new : Device N) (asks : AsksClear die n old result new) → Asks asks.mid new
  trim_asked n old result new asks = elim asks.trims [
    | inl zeros ↦ subst (λ (d : Device N). Asks asks.mid d) (sym zeros.3) AskedNothing
    | inr trims ↦ trims.1.changes.stays.asked
  ]

  call_asked : (old new : Device N) → IsDiskCall die old new → Asks old new
  unfolding AsksCall ChangesOne
  call_asked old new (inl (inl asks)) = asks.asked
  call_asked old new (inl (inr (inl (result, (n, inl (command, asks)))))) = asks.changes.stays.asked
  call_asked old new (inl (inr (inl (result, (n, inr asks))))) =
      asks_then die.called old.engine.nand asks.mid.engine.nand new.engine.nand asks.asks.asked (trim_asked n old result new asks)
  call_asked old new (inl (inr (inr (result, asks)))) = asks.upkeeps.stays.asked
  call_asked old new (inr (result, asks)) = asks.upkeeps.stays.asked

  abbrev Split : (old new : Device N) (at : N) → Type 0
  Split old new at = Parts die.called old.engine.nand at new.engine.nand

  trim_parts : {P Q : Type 0} (n : ℕ) (command : Command) (old : Device N) (result : Result (Unit {0}) DiskFault) (new : Device N) (trims : P ⊎ (Q × AsksChange die n command old result new)) (at : N)
      → IsInTrim die n command old result new trims at → Split old new at
  trim_parts n command old result new (inl zeros) at way = absurd way
  trim_parts n command old result new (inr (others, asks)) at way = way_parts die.called old.engine.nand new.engine.nand at asks.changes.stays.asked way

  call_parts : (old new : Device N) (at : N) (call : IsDiskCall die old new) → IsInCall die old new call at → Split old new at
  unfolding AsksCall ChangesOne IsInCall
  call_parts old new at (inl (inl asks)) way = way_parts die.called old.engine.nand new.engine.nand at asks.asked way
  call_parts old new at (inl (inr (inl (result, (n, inl (command, asks)))))) way = way_parts die.called old.engine.nand new.engine.nand at asks.changes.stays.asked way
  call_parts old new at (inl (inr (inl (result, (n, inr asks))))) (inl reading) =
      let parts = way_parts die.called old.engine.nand asks.mid.engine.nand at asks.asks.asked reading in
      (parts.0, asks_then die.called at asks.mid.engine.nand new.engine.nand parts.1 (trim_asked n old result new asks))
  call_parts old new at (inl (inr (inl (result, (n, inr asks))))) (inr trimming) =
      let parts = trim_parts n (step.Trim n) asks.mid result new asks.trims at trimming in
      (asks_then die.called old.engine.nand asks.mid.engine.nand at asks.asks.asked parts.0, parts.1)
  call_parts old new at (inl (inr (inr (result, asks)))) way = way_parts die.called old.engine.nand new.engine.nand at asks.upkeeps.stays.asked way
  call_parts old new at (inr (result, asks)) way = way_parts die.called old.engine.nand new.engine.nand at asks.upkeeps.stays.asked way

  call_first : (old new : Device N) (call : IsDiskCall die old new) → IsInCall die old new call old.engine.nand
  unfolding AsksCall ChangesOne IsInCall
  call_first old new (inl (inl asks)) = way_first die.called old.engine.nand new.engine.nand asks.asked
  call_first old new (inl (inr (inl (result, (n, inl (command, asks)))))) = way_first die.called old.engine.nand new.engine.nand asks.changes.stays.asked
  call_first old new (inl (inr (inl (result, (n, inr asks))))) = inl (way_first die.called old.engine.nand asks.mid.engine.nand asks.asks.asked)
  call_first old new (inl (inr (inr (result, asks)))) = way_first die.called old.engine.nand new.engine.nand asks.upkeeps.stays.asked
  call_first old new (inr (result, asks)) = way_first die.called old.engine.nand new.engine.nand asks.upkeeps.stays.asked

  -- the last state of a clearing: of the trim, or else of the read
  trim_last : {P Q : Type 0} (n : ℕ) (command : Command) (old mid : Device N) (result : Result (Unit {0}) DiskFault) (new : Device N) (trims : P ⊎ (Q × AsksChange die n command mid result new)) (asked : Asks old mid)
      → (P → new ≡ mid) → On old mid asked new.engine.nand ⊎ IsInTrim die n command mid result new trims new.engine.nand
  trim_last n command old mid result new (inl zeros) asked same =
      inl (subst (λ (d : Device N). On old mid asked d.engine.nand) (sym (same zeros)) (way_last die.called old.engine.nand mid.engine.nand asked))
  trim_last n command old mid result new (inr (others, asks)) asked same = inr (way_last die.called mid.engine.nand new.engine.nand asks.changes.stays.asked)

  call_last : (old new : Device N) (call : IsDiskCall die old new) → IsInCall die old new call new.engine.nand
  unfolding AsksCall ChangesOne IsInCall
  call_last old new (inl (inl asks)) = way_last die.called old.engine.nand new.engine.nand asks.asked
  call_last old new (inl (inr (inl (result, (n, inl (command, asks)))))) = way_last die.called old.engine.nand new.engine.nand asks.changes.stays.asked
  call_last old new (inl (inr (inl (result, (n, inr asks))))) = trim_last n (step.Trim n) old asks.mid result new asks.trims asks.asks.asked (λ zeros. zeros.3)
  call_last old new (inl (inr (inr (result, asks)))) = way_last die.called old.engine.nand new.engine.nand asks.upkeeps.stays.asked
  call_last old new (inr (result, asks)) = way_last die.called old.engine.nand new.engine.nand asks.upkeeps.stays.asked

  -- one call after another
  pub run_asked : (old new : Device N) (log : List Operation) → DeviceCalls die old log new → Asks old new
  run_asked old new log NoCall = AskedNothing
  run_asked old new log (OneMore before mid more last run does) =
      asks_then die.called old.engine.nand mid.engine.nand last.engine.nand (run_asked old mid before run) (call_asked mid last does.asks)

  pub run_parts : (old new : Device N) (log : List Operation) (run : DeviceCalls die old log new) (at : N) → IsInRun die old log new run at → Split old new at
  run_parts old new log NoCall at same = subst (λ x. Parts die.called old.engine.nand x new.engine.nand) (sym same) (AskedNothing, AskedNothing)
  run_parts old new log (OneMore before mid more last run does) at (inl way) =
      let parts = run_parts old mid before run at way in
      (parts.0, asks_then die.called at mid.engine.nand last.engine.nand parts.1 (call_asked mid last does.asks))
  run_parts old new log (OneMore before mid more last run does) at (inr way) =
      let parts = call_parts mid last at does.asks way in
      (asks_then die.called old.engine.nand mid.engine.nand at (run_asked old mid before run) parts.0, parts.1)

  run_first : (old new : Device N) (log : List Operation) (run : DeviceCalls die old log new) → IsInRun die old log new run old.engine.nand
  run_first old new log NoCall = refl
  run_first old new log (OneMore before mid more last run does) = inl (run_first old mid before run)

  run_last : (old new : Device N) (log : List Operation) (run : DeviceCalls die old log new) → IsInRun die old log new run new.engine.nand
  run_last old new log NoCall = refl
  run_last old new log (OneMore before mid more last run does) = inr (call_last mid last does.asks)

  pub run_asks : RunAsksLaw die
  run_asks old new log run = (λ at way. run_parts old new log run at way, run_first old new log run, run_last old new log run)

-- ---- over a store

pub no_cons : (op : Operation) (ops : List Operation) → op ∷ ops ≡ [] → ⊥
no_cons op ops is = cc

pub no_more : (ops : List Operation) (op : Operation) → ops ++ op ∷ [] ≡ [] → ⊥
no_more [] op is = no_cons op [] is
no_more (first ∷ ops) op is = no_cons first (ops ++ op ∷ []) is

no_fault : (hand : Operation) (old new : Recording) → new ≡ cut_in hand old → new.at_hand ≡ [] → ⊥
no_fault hand old new told clear = no_more old.at_hand hand (ap (λ (t : Recording). t.at_hand) (sym told) ∙ clear)

-- nothing is at hand only where nothing was
clear_before : (hand log : List Operation) → recording.hand_after hand log ≡ [] → hand ≡ []
clear_before [] log is = refl
clear_before (op ∷ hand) log is = absurd (no_cons op (hand ++ log) is)

kept_clear : (result : Result Outcome BusFault) (old new : Recording) (op : Outcome → Operation) (hand : Operation) → MatchResult result (λ outcome. new ≡ gained (op outcome) old) (λ fault. new ≡ cut_in hand old) → new.at_hand ≡ []
    → old.at_hand ≡ []
kept_clear (Ok outcome) old new op hand told clear = clear_before old.at_hand (op outcome ∷ []) (ap (λ (t : Recording). t.at_hand) (sym told) ∙ clear)
kept_clear (Err fault) old new op hand told clear = absurd (no_fault hand old new told clear)

module _ {S : Type 0} (held : S → Held) (honest : S → Bool) (failed : S → ℕ) where
  -- one call of the driver
  abbrev pub Called : DriverState (FileState S) → DieCall → DriverState (FileState S) → Type 0
  Called = (view_in held honest failed).called

  stays_clear : (old new : DriverState (FileState S)) (call : DieCall) → Called old call new → new.told.at_hand ≡ [] → old.told.at_hand ≡ []
  stays_clear old new (ReadCall row answered) one clear = ap (λ (t : Recording). t.at_hand) (sym one.told) ∙ clear
  stays_clear old new (ProgramCall row its passed) one clear =
      kept_clear one.result old.told new.told (λ outcome. Program row its (is_passed outcome) (page_at (flash_by (shown held) new) row)) (recording.asked_program row its) one.told clear
  stays_clear old new (EraseCall block passed) one clear =
      kept_clear one.result old.told new.told (λ outcome. Erase block (is_passed outcome) (block_at (flash_by (shown held) new) block)) (recording.asked_erase old.geometry block) one.told clear

  pub all_clear : (old new : DriverState (FileState S)) → AsksOnly Called old new → new.told.at_hand ≡ [] → old.told.at_hand ≡ []
  all_clear old new AskedNothing clear = clear
  all_clear old new (AskedOneMore mid last call more one) clear = all_clear old mid more (stays_clear mid last call one clear)

  -- what they come to
  pub record Driven (old new : DriverState (FileState S)) : Type 0 where
    pub log : List Operation
    pub calls : DriverCalls held honest failed old log new
    pub stands : StandsReady held new
    pub still : honest new.bus.store ≡ true

  programmed : (row : ℕ) (its : Page) (result : Result Outcome BusFault) (old new : DriverState (FileState S)) → honest old.bus.store ≡ true → StandsReady held old → row < row_count old.geometry
      → length its.body ≡ old.geometry.data_bytes → length its.spare ≡ old.geometry.spare_bytes → Operates (ActsOnCycle held honest failed) old.bus (program_cycles row its.body its.spare) result new.bus
      → IfOk result (λ outcome. honest old.bus.store ≡ true → Steps (flash_by (shown held) old) (Program row its (is_passed outcome) (page_at (flash_by (shown held) new) row)) (flash_by (shown held) new))
      → MatchResult result (λ outcome. new.told ≡ gained (Program row its (is_passed outcome) (page_at (flash_by (shown held) new) row)) old.told) (λ fault. new.told ≡ cut_in (recording.asked_program row its) old.told)
      → new.geometry ≡ old.geometry → new.told.at_hand ≡ [] → Driven old new
  programmed row its (Ok outcome) old new h stands lt m p sends step_is told same clear =
      let asks : AsksProgram held honest failed row its.body its.spare old (Ok outcome) new = asked_program held honest failed row its.body its.spare (Ok outcome) old new h stands lt m p sends step_is told in
      record {
        log = Program row its (is_passed outcome) (page_at (flash_by (shown held) new) row) ∷ [];
        calls = PageProgrammed row its.body its.spare outcome old new new [] asks (NothingAsked new);
        stands = program_stands held honest failed row its.body its.spare (Ok outcome) old new h asks same;
        still = (took_program held honest failed row its.body its.spare (Ok outcome) old new asks outcome h refl).still;
      }
  programmed row its (Err fault) old new h stands lt m p sends step_is told same clear = absurd (no_fault (recording.asked_program row its) old.told new.told told clear)

  erased : (block : ℕ) (result : Result Outcome BusFault) (old new : DriverState (FileState S)) → honest old.bus.store ≡ true → StandsReady held old → block < old.geometry.blocks
      → Operates (ActsOnCycle held honest failed) old.bus (erase_cycles old.geometry block) result new.bus
      → IfOk result (λ outcome. honest old.bus.store ≡ true → Steps (flash_by (shown held) old) (Erase block (is_passed outcome) (block_at (flash_by (shown held) new) block)) (flash_by (shown held) new))
      → MatchResult result (λ outcome. new.told ≡ gained (Erase block (is_passed outcome) (block_at (flash_by (shown held) new) block)) old.told) (λ fault. new.told ≡ cut_in (recording.asked_erase old.geometry block) old.told)
      → new.geometry ≡ old.geometry → new.told.at_hand ≡ [] → Driven old new
  erased block (Ok outcome) old new h stands lt sends step_is told same clear =
      let asks : AsksErase held honest failed block old (Ok outcome) new = asked_erase held honest failed block (Ok outcome) old new h stands lt sends step_is told in
      record {
        log = Erase block (is_passed outcome) (block_at (flash_by (shown held) new) block) ∷ [];
        calls = BlockErased block outcome old new new [] asks (NothingAsked new);
        stands = erase_stands held honest failed block (Ok outcome) old new h asks same;
        still = (took_erase held honest failed block (Ok outcome) old new asks outcome h refl).still;
      }
  erased block (Err fault) old new h stands lt sends step_is told same clear = absurd (no_fault (recording.asked_erase old.geometry block) old.told new.told told clear)

  read : (row : ℕ) (out : List ℕ) (result : Result (Unit {0}) SourceFault) (old new : DriverState (FileState S)) → honest old.bus.store ≡ true → new.geometry ≡ old.geometry → AsksPage held honest failed row out old result new
      → Driven old new
  read row out result old new h same asks = record {
    log = [];
    calls = PageRead row out result old new new [] asks (NothingAsked new);
    stands = page_stands held honest failed row out result old new h asks same;
    still = (page_spared held honest failed row out result old new h asks).still;
  }

  one_driven : (old new : DriverState (FileState S)) (call : DieCall) → honest old.bus.store ≡ true → StandsReady held old → Called old call new → new.told.at_hand ≡ [] → Driven old new
  one_driven old new (ReadCall row answered) h stands one clear =
      read row one.out one.result old new h one.geometry (record { stands = stands; in_range = one.in_range; sends = one.sends; told = one.told })
  one_driven old new (ProgramCall row its passed) h stands one clear = programmed row its one.result old new h stands one.in_range one.body_whole one.spare_whole one.sends one.step one.told one.geometry clear
  one_driven old new (EraseCall block passed) h stands one clear = erased block one.result old new h stands one.in_range one.sends one.step one.told one.geometry clear

  pub driven : (old new : DriverState (FileState S)) → AsksOnly Called old new → honest old.bus.store ≡ true → StandsReady held old → new.told.at_hand ≡ [] → Driven old new
  driven old new AskedNothing h stands clear = record { log = []; calls = NothingAsked old; stands = stands; still = h }
  driven old new (AskedOneMore mid last call more one) h stands clear =
      let first = driven old mid more h stands (stays_clear mid last call one clear) in
      let next = one_driven mid last call first.still first.stands one clear in
      record { log = first.log ++ next.log; calls = calls_then held honest failed old mid last first.log next.log first.calls next.calls; stands = next.stands; still = next.still }

  -- in two parts
  pub record DrivenBy (old at new : DriverState (FileState S)) : Type 0 where
    pub first : Driven old at
    pub later : Driven at new
    pub tells_so : Records (Some old.told) (first.log ++ later.log) (Some new.told)

  pub both_driven : (old at new : DriverState (FileState S)) → Parts Called old at new → honest old.bus.store ≡ true → StandsReady held old → new.told.at_hand ≡ [] → DrivenBy old at new
  both_driven old at new parts h stands clear =
      let first = driven old at parts.0 h stands (all_clear at new parts.1 clear) in
      let later = driven at new parts.1 first.still first.stands clear in
      record {
        first = first;
        later = later;
        tells_so = records_join (Some old.told) (Some at.told) (Some new.told) first.log later.log (tells held honest failed old at first.log first.calls) (tells held honest failed at new later.log later.calls);
      }

  pub asks_driver : AsksDriverLaw held honest failed
  asks_driver old new at asked h stands clear way =
      let both = both_driven old at new (way_parts Called old new at asked way) h stands clear in
      (both.first.log, both.later.log, both.first.calls, both.first.stands, both.later.calls, both.tells_so)
