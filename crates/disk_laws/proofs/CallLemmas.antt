-- What a real call of a driver over a die in a store is, what it did in the store, and that the driver stands ready behind it.
use Rattle.std.proofs.Common.{◌≡◌, inl, inr, ℕ, ◌<◌, Bool, true, List, [], ◌∷◌, length, Ok, Err, Result, IfOk, MatchResult, refl, sym, ap, subst, ◌∙◌, arith}
use Rattle.page_layout.specs.declared.geometry.Geometry.{Geometry}
use Rattle.page_layout.specs.declared.source.SourceFault.{SourceFault}
use Rattle.page_layout.specs.Geometry.{row_count}
use Rattle.page_layout.specs.Page.{page}
use Rattle.page_layout.specs.Flash.{Erase, Flash, Operation, Program, Steps, block_at, page_at}
use Rattle.page_layout.specs.Recording as recording
use Rattle.onfi_cycles.specs.declared.nand.BusFault.{BusFault}
use Rattle.onfi_cycles.specs.declared.nand.Outcome.{Outcome}
use Rattle.onfi_cycles.specs.Cycles.{Command, Cycle, CycleStep, DieState, Erases, IsCounted, NoOutput, Programs}
use Rattle.onfi_cycles.specs.Driver.{DriverState, IsReady, Operated, cut_in, flash_by, gained}
use Rattle.onfi_cycles.specs.Outcomes.{is_passed, outcome_of}
use Rattle.onfi_cycles.specs.Sent.{Operates, SendsRead}
use Rattle.onfi_cycles.specs.Spelling.{done, erase_cycles, program_cycles, read_cycles}
use Rattle.onfi_cycles.proofs.Operations.{erase_broke, erase_did, program_broke, program_did, read_broke, read_did}
use Rattle.onfi_cycles.proofs.Resets.{reset_does}
use Rattle.file_die.specs.Die.{ActsOnCycle, FileState, shown}
use Rattle.file_die.specs.Store.{Held}
use Rattle.disk_laws.specs.Driven.{AsksErase, AsksPage, AsksProgram, LeavesStore, StandsReady, store_behind}
use Rattle.disk_laws.proofs.DrivenLemmas.{page_spared, stopped_erase, stopped_program, took_erase, took_program}
use Rattle.disk_laws.proofs.SentLemmas.{sent_taken, until_fails}

-- what is said of an answer under a premise, where that is so
given : {A E Q : Type 0} (P : A → Type 0) (result : Result A E) → IfOk result (λ x. Q → P x) → Q → IfOk result P
given P (Ok x) says so = says so
given P (Err e) says so = tt

pub ok_part : {A E : Type 0} (P : A → Type 0) (Q : E → Type 0) (result : Result A E) → MatchResult result P Q → IfOk result P
ok_part P Q (Ok x) says = says
ok_part P Q (Err e) says = tt

-- both answers of an operation leave the die ready
ready_by : (op : Bool → Flash → Operation) (cycles : List Cycle) (a b : DieState) (f g : ℕ) (result : Result Outcome BusFault) → Operated op cycles a b f g result → IsReady b.phase
ready_by op cycles a b f g (Ok outcome) did = did.ready
ready_by op cycles a b f g (Err fault) broke = broke.ready

any_fault : (fault : BusFault) → IsCounted 0 1 fault
any_fault fault = λ is. inl (omega arith)

module _ {S : Type 0} (held : S → Held) (honest : S → Bool) (failed : S → ℕ) where
  abbrev die_of : DriverState (FileState S) → DieState
  die_of d = shown held d.bus

  -- ---- a program

  pub asked_program : (row : ℕ) (body spare : List ℕ) (result : Result Outcome BusFault) (old new : DriverState (FileState S)) → honest old.bus.store ≡ true → StandsReady held old → row < row_count old.geometry
      → length body ≡ old.geometry.data_bytes → length spare ≡ old.geometry.spare_bytes → Operates (ActsOnCycle held honest failed) old.bus (program_cycles row body spare) result new.bus
      → IfOk result (λ outcome. honest old.bus.store ≡ true → Steps (flash_by (shown held) old) (Program row (page body spare) (is_passed outcome) (page_at (flash_by (shown held) new) row)) (flash_by (shown held) new))
      → MatchResult result (λ outcome. new.told ≡ gained (Program row (page body spare) (is_passed outcome) (page_at (flash_by (shown held) new) row)) old.told)
      (λ fault. new.told ≡ cut_in (recording.asked_program row (page body spare)) old.told)
      → AsksProgram held honest failed row body spare old result new
  asked_program row body spare result old new h stands lt m p sends step told =
      record { stands = stands; in_range = lt; body_whole = m; spare_whole = p; sends = sends; step = given _ result step h; told = told }

  pub program_leaves : (row : ℕ) (body spare : List ℕ) (result : Result Outcome BusFault) (old new : DriverState (FileState S)) → honest old.bus.store ≡ true → AsksProgram held honest failed row body spare old result new
      → LeavesStore held (Programs row (page body spare)) old result new
  program_leaves row body spare (Ok outcome) old new h asks = (took_program held honest failed row body spare (Ok outcome) old new asks outcome h refl).leaves
  program_leaves row body spare (Err fault) old new h asks = (stopped_program held honest failed row body spare (Err fault) old new asks h).1

  program_ready : (row : ℕ) (body spare : List ℕ) (result : Result Outcome BusFault) (old new : DriverState (FileState S)) → honest old.bus.store ≡ true → AsksProgram held honest failed row body spare old result new
      → IsReady new.bus.phase
  program_ready row body spare result old new h asks =
      let same : old.geometry ≡ (store_behind held old).geometry = sym asks.stands.geometry in
      let lt : row < row_count (store_behind held old).geometry = subst (λ (g : Geometry). row < row_count g) same asks.in_range in
      let m : length body ≡ (store_behind held old).geometry.data_bytes = subst (λ (g : Geometry). length body ≡ g.data_bytes) same asks.body_whole in
      let p : length spare ≡ (store_behind held old).geometry.spare_bytes = subst (λ (g : Geometry). length spare ≡ g.spare_bytes) same asks.spare_whole in
      let cycles = program_cycles row body spare in
      elim asks.sends [
        | inl sent ↦
            ready_by (λ passed s. Program row (page body spare) passed (page_at s row)) cycles (die_of old) (die_of new) 0 1 (outcome_of new.bus.status)
            (program_did (die_of old) (die_of new) 0 1 row new.bus.status body spare (outcome_of new.bus.status) asks.stands.ready lt m p
            (sent_taken held honest failed old.bus new.bus cycles (sent.0 ∷ []) h sent.2) (λ at. refl) refl)
        | inr refused ↦
            (program_broke (die_of old) (die_of new) 0 1 row body spare refused.0 asks.stands.ready lt m p (until_fails held honest failed old.bus new.bus cycles refused.0 h refused.2) (any_fault refused.0)).ready
      ]

  pub program_stands : (row : ℕ) (body spare : List ℕ) (result : Result Outcome BusFault) (old new : DriverState (FileState S)) → honest old.bus.store ≡ true → AsksProgram held honest failed row body spare old result new
      → new.geometry ≡ old.geometry → StandsReady held new
  program_stands row body spare result old new h asks same = record {
    geometry = (stopped_program held honest failed row body spare result old new asks h).0 ∙ (asks.stands.geometry ∙ sym same);
    ready = program_ready row body spare result old new h asks;
  }

  -- ---- an erase

  pub asked_erase : (block : ℕ) (result : Result Outcome BusFault) (old new : DriverState (FileState S)) → honest old.bus.store ≡ true → StandsReady held old → block < old.geometry.blocks
      → Operates (ActsOnCycle held honest failed) old.bus (erase_cycles old.geometry block) result new.bus
      → IfOk result (λ outcome. honest old.bus.store ≡ true → Steps (flash_by (shown held) old) (Erase block (is_passed outcome) (block_at (flash_by (shown held) new) block)) (flash_by (shown held) new))
      → MatchResult result (λ outcome. new.told ≡ gained (Erase block (is_passed outcome) (block_at (flash_by (shown held) new) block)) old.told)
      (λ fault. new.told ≡ cut_in (recording.asked_erase old.geometry block) old.told)
      → AsksErase held honest failed block old result new
  asked_erase block result old new h stands lt sends step told = record { stands = stands; in_range = lt; sends = sends; step = given _ result step h; told = told }

  pub erase_leaves : (block : ℕ) (result : Result Outcome BusFault) (old new : DriverState (FileState S)) → honest old.bus.store ≡ true → AsksErase held honest failed block old result new
      → LeavesStore held (Erases block) old result new
  erase_leaves block (Ok outcome) old new h asks = (took_erase held honest failed block (Ok outcome) old new asks outcome h refl).leaves
  erase_leaves block (Err fault) old new h asks = (stopped_erase held honest failed block (Err fault) old new asks h).1

  erase_ready : (block : ℕ) (result : Result Outcome BusFault) (old new : DriverState (FileState S)) → honest old.bus.store ≡ true → AsksErase held honest failed block old result new → IsReady new.bus.phase
  erase_ready block result old new h asks =
      let cycles = erase_cycles old.geometry block in
      elim asks.sends [
        | inl sent ↦
            ready_by (λ passed s. Erase block passed (block_at s block)) cycles (die_of old) (die_of new) 0 1 (outcome_of new.bus.status)
            (erase_did (die_of old) (die_of new) 0 1 block new.bus.status old.geometry (outcome_of new.bus.status) asks.stands.ready asks.stands.geometry asks.in_range
            (sent_taken held honest failed old.bus new.bus cycles (sent.0 ∷ []) h sent.2) (λ at. refl) refl)
        | inr refused ↦
            (erase_broke (die_of old) (die_of new) 0 1 block old.geometry refused.0 asks.stands.ready asks.stands.geometry asks.in_range
            (until_fails held honest failed old.bus new.bus cycles refused.0 h refused.2) (any_fault refused.0)).ready
      ]

  pub erase_stands : (block : ℕ) (result : Result Outcome BusFault) (old new : DriverState (FileState S)) → honest old.bus.store ≡ true → AsksErase held honest failed block old result new → new.geometry ≡ old.geometry
      → StandsReady held new
  erase_stands block result old new h asks same = record {
    geometry = (stopped_erase held honest failed block result old new asks h).0 ∙ (asks.stands.geometry ∙ sym same);
    ready = erase_ready block result old new h asks;
  }

  -- ---- a read

  pub page_leaves : (row : ℕ) (out : List ℕ) (result : Result (Unit {0}) SourceFault) (old new : DriverState (FileState S)) → honest old.bus.store ≡ true → AsksPage held honest failed row out old result new
      → store_behind held new ≡ store_behind held old
  page_leaves row out result old new h asks = (page_spared held honest failed row out result old new h asks).store

  page_ready : (row : ℕ) (out : List ℕ) (result : Result (Unit {0}) SourceFault) (old new : DriverState (FileState S)) → honest old.bus.store ≡ true → StandsReady held old → row < row_count old.geometry
      → SendsRead (ActsOnCycle held honest failed) old.bus (read_cycles row old.geometry.data_bytes old.geometry.spare_bytes) out result new.bus → IsReady new.bus.phase
  page_ready row out (Ok _) old new h stands lt sent =
      (read_did (die_of old) (die_of new) row old.geometry.data_bytes old.geometry.spare_bytes stands.ready (subst (λ (g : Geometry). row < row_count g) (sym stands.geometry) lt)
      (ap (λ (g : Geometry). g.data_bytes) (sym stands.geometry)) (ap (λ (g : Geometry). g.spare_bytes) (sym stands.geometry))
      (sent_taken held honest failed old.bus new.bus (read_cycles row old.geometry.data_bytes old.geometry.spare_bytes) out h sent)).ready
  page_ready row out (Err e) old new h stands lt (fault, number, until) =
      (read_broke (die_of old) (die_of new) 0 1 row old.geometry.data_bytes old.geometry.spare_bytes fault stands.ready (subst (λ (g : Geometry). row < row_count g) (sym stands.geometry) lt)
      (ap (λ (g : Geometry). g.data_bytes) (sym stands.geometry)) (ap (λ (g : Geometry). g.spare_bytes) (sym stands.geometry))
      (until_fails held honest failed old.bus new.bus (read_cycles row old.geometry.data_bytes old.geometry.spare_bytes) fault h until) (any_fault fault)).ready

  pub page_stands : (row : ℕ) (out : List ℕ) (result : Result (Unit {0}) SourceFault) (old new : DriverState (FileState S)) → honest old.bus.store ≡ true → AsksPage held honest failed row out old result new
      → new.geometry ≡ old.geometry → StandsReady held new
  page_stands row out result old new h asks same = record {
    geometry = ap (λ (s : Held). s.geometry) (page_leaves row out result old new h asks) ∙ (asks.stands.geometry ∙ sym same);
    ready = page_ready row out result old new h asks.stands asks.in_range asks.sends;
  }

  -- ---- a driver that begins

  begun_stands : (die : FileState S) (driver : DriverState (FileState S)) → driver.geometry ≡ (held die.store).geometry → CycleStep (shown held die) (Command 0xFF) done (die_of driver) → StandsReady held driver
  begun_stands die driver same reset =
      let is = reset_does (shown held die) (die_of driver) reset in
      record { geometry = ap (λ (d : DieState). d.flash.geometry) is ∙ sym same; ready = (NoOutput, ap (λ (d : DieState). d.phase) is) }

  pub begun : {E : Type 0} (Q : E → Type 0) (die : FileState S) (g : Geometry) (result : Result (DriverState (FileState S)) E) → g ≡ (held die.store).geometry → IfOk result (λ driver. driver.geometry ≡ g)
      → (honest die.store ≡ true → MatchResult result (λ driver. CycleStep (shown held die) (Command 0xFF) done (die_of driver)) Q) → IfOk result (λ driver. honest die.store ≡ true → StandsReady held driver)
  begun Q die g (Ok driver) same sized reset = λ h. begun_stands die driver (sized ∙ same) (reset h)
  begun Q die g (Err e) same sized reset = tt
