-- What a record with one operation at hand tells of the calls of its driver: each was answered up to that one, and behind it each was a read.
use Rattle.std.proofs.Common.{◌≡◌, inl, inr, ℕ, ◌<◌, ◌≤◌, Bool, true, List, [], ◌∷◌, ◌++◌, length, Some, Ok, Err, Result, IfOk, MatchResult, refl, sym, ap, subst, ◌∙◌, arith}
use Rattle.std.specs.Prelude.{unwrap_or}
use Rattle.page_layout.specs.DieCalls.{AskedNothing, AskedOneMore, AsksOnly, DieCall, EraseCall, ProgramCall, ReadCall}
use Rattle.page_layout.specs.Geometry.{row_count}
use Rattle.page_layout.specs.Page.{Page}
use Rattle.page_layout.specs.declared.source.SourceFault.{SourceFault}
use Rattle.page_layout.specs.Flash.{Erase, Operation, Program, Steps, block_at, page_at}
use Rattle.page_layout.specs.Recording as recording
use Rattle.page_layout.specs.Recording.{EndsAt, Recording, cut_at, hand_after, noted}
use Rattle.page_layout.proofs.RecordingLemmas.{one_cut}
use Rattle.onfi_cycles.specs.declared.nand.BusFault.{BusFault}
use Rattle.onfi_cycles.specs.declared.nand.Outcome.{Outcome}
use Rattle.onfi_cycles.specs.Driver.{DriverState, cut_in, flash_by, gained}
use Rattle.onfi_cycles.specs.Outcomes.{is_passed}
use Rattle.onfi_cycles.specs.Sent.{Operates}
use Rattle.onfi_cycles.specs.Spelling.{erase_cycles, program_cycles}
use Rattle.file_die.specs.Die.{ActsOnCycle, FileState, shown}
use Rattle.file_die.specs.Store.{Held}
use Rattle.disk_laws.specs.Cut.{CallsToFault}
use Rattle.disk_laws.specs.Driven.{AsksErase, AsksPage, AsksProgram, DriverCalls, DriverFails, EraseFails, NothingAsked, PageRead, ProgramFails, ReadFails, StandsReady}
use Rattle.disk_laws.proofs.AskedRunLemmas.{Called, Driven, driven, no_cons, no_more}
use Rattle.disk_laws.proofs.CallLemmas.{asked_erase, asked_program, erase_stands, page_stands, program_stands}
use Rattle.disk_laws.proofs.DrivenLemmas.{calls_then, page_spared, tells}
use Rattle.disk_laws.proofs.SentLemmas.{operates_kept}

-- ---- one operation at hand

abbrev first_in : Operation → List Operation → Operation
first_in none [] = none
first_in none (op ∷ ops) = op

abbrev rest_in : List Operation → List Operation
rest_in [] = []
rest_in (op ∷ ops) = ops

-- it is there first behind nothing
alone : (hand : List Operation) (op its : Operation) → hand ++ op ∷ [] ≡ its ∷ [] → (hand ≡ []) × (op ≡ its)
alone [] op its is = (refl, ap (first_in op) is)
alone (first ∷ hand) op its is = absurd (no_more hand op (ap rest_in is))

-- and none was done behind it
none_behind : (hand : List Operation) (op its : Operation) → hand_after hand (op ∷ []) ≡ its ∷ [] → ⊥
none_behind [] op its is = no_cons its [] (sym is)
none_behind (first ∷ hand) op its is = no_more hand op (ap rest_in is)

-- what a record has at hand where a fault ended a call
hand_in : (old new : Recording) (log hand : List Operation) → old.at_hand ≡ [] → EndsAt hand (noted log (Some old)) (Some new) → new.at_hand ≡ hand
hand_in old new log hand clear (inl never) = cc
hand_in old new log [] clear (inr is) = ap (λ o. (unwrap_or o new).at_hand) is ∙ ap (λ h. hand_after h log) clear
hand_in old new log (op ∷ ops) clear (inr is) = ap (λ o. (unwrap_or o new).at_hand) is ∙ ap (λ h. hand_after h log ++ op ∷ ops) clear

-- ---- the calls of a driver, from the last one back

module _ {S : Type 0} (held : S → Held) (honest : S → Bool) (failed : S → ℕ) where
  -- what a refused call has at hand
  fails_told : (old new : DriverState (FileState S)) (hand : List Operation) → DriverFails held honest failed old hand new → Some new.told ≡ cut_at hand (Some old.told)
  fails_told old new hand (ReadFails row out fault last asks) = ap Some asks.told
  fails_told old new hand (ProgramFails row body spare fault last asks) = ap Some asks.told
  fails_told old new hand (EraseFails block fault last asks) = ap Some asks.told

  record Back (op : Operation) (old new : DriverState (FileState S)) : Type 0 where
    pub log : List Operation
    pub calls : CallsToFault held honest failed old log (op ∷ []) new
    pub told : new.told ≡ calls.behind.told
    pub stands : StandsReady held new
    pub still : honest new.bus.store ≡ true

  -- the refused call
  refused_last : (op its : Operation) (old mid last : DriverState (FileState S)) → Driven held honest failed old mid → DriverFails held honest failed mid (op ∷ []) last → op ≡ its → StandsReady held last
      → honest last.bus.store ≡ true → Back its old last
  refused_last op its old mid last so_far fails is stands still = record {
    log = so_far.log;
    calls = record {
      mid = mid;
      behind = last;
      calls = so_far.calls;
      refuses = subst (λ o. DriverFails held honest failed mid (o ∷ []) last) is fails;
      reads = NothingAsked last;
      same = refl;
    };
    told = refl;
    stands = stands;
    still = still;
  }

  program_last : (op : Operation) (row : ℕ) (its : Page) (result : Result Outcome BusFault) (old mid last : DriverState (FileState S)) → row < row_count mid.geometry → length its.body ≡ mid.geometry.data_bytes
      → length its.spare ≡ mid.geometry.spare_bytes → Operates (ActsOnCycle held honest failed) mid.bus (program_cycles row its.body its.spare) result last.bus
      → IfOk result (λ outcome. honest mid.bus.store ≡ true → Steps (flash_by (shown held) mid) (Program row its (is_passed outcome) (page_at (flash_by (shown held) last) row)) (flash_by (shown held) last))
      → MatchResult result (λ outcome. last.told ≡ gained (Program row its (is_passed outcome) (page_at (flash_by (shown held) last) row)) mid.told) (λ fault. last.told ≡ cut_in (recording.asked_program row its) mid.told)
      → last.geometry ≡ mid.geometry → (mid.told.at_hand ≡ [] → Driven held honest failed old mid) → last.told.at_hand ≡ op ∷ [] → Back op old last
  program_last op row its (Ok outcome) old mid last lt m p sends step_is told same before at =
      absurd (none_behind mid.told.at_hand (Program row its (is_passed outcome) (page_at (flash_by (shown held) last) row)) op (ap (λ (t : Recording). t.at_hand) (sym told) ∙ at))
  program_last op row its (Err fault) old mid last lt m p sends step_is told same before at =
      let is = alone mid.told.at_hand (recording.asked_program row its) op (ap (λ (t : Recording). t.at_hand) (sym told) ∙ at) in
      let so_far = before is.0 in
      let asks : AsksProgram held honest failed row its.body its.spare mid (Err fault) last =
      asked_program held honest failed row its.body its.spare (Err fault) mid last so_far.still so_far.stands lt m p sends step_is told in
      refused_last (recording.asked_program row its) op old mid last so_far (ProgramFails row its.body its.spare fault last asks) is.1
      (program_stands held honest failed row its.body its.spare (Err fault) mid last so_far.still asks same)
      (operates_kept held honest failed mid.bus last.bus (program_cycles row its.body its.spare) (Err fault) sends ∙ so_far.still)

  erase_last : (op : Operation) (block : ℕ) (result : Result Outcome BusFault) (old mid last : DriverState (FileState S)) → block < mid.geometry.blocks
      → Operates (ActsOnCycle held honest failed) mid.bus (erase_cycles mid.geometry block) result last.bus
      → IfOk result (λ outcome. honest mid.bus.store ≡ true → Steps (flash_by (shown held) mid) (Erase block (is_passed outcome) (block_at (flash_by (shown held) last) block)) (flash_by (shown held) last))
      → MatchResult result (λ outcome. last.told ≡ gained (Erase block (is_passed outcome) (block_at (flash_by (shown held) last) block)) mid.told) (λ fault. last.told ≡ cut_in (recording.asked_erase mid.geometry block) mid.told)
      → last.geometry ≡ mid.geometry → (mid.told.at_hand ≡ [] → Driven held honest failed old mid) → last.told.at_hand ≡ op ∷ [] → Back op old last
  erase_last op block (Ok outcome) old mid last lt sends step_is told same before at =
      absurd (none_behind mid.told.at_hand (Erase block (is_passed outcome) (block_at (flash_by (shown held) last) block)) op (ap (λ (t : Recording). t.at_hand) (sym told) ∙ at))
  erase_last op block (Err fault) old mid last lt sends step_is told same before at =
      let is = alone mid.told.at_hand (recording.asked_erase mid.geometry block) op (ap (λ (t : Recording). t.at_hand) (sym told) ∙ at) in
      let so_far = before is.0 in
      let asks : AsksErase held honest failed block mid (Err fault) last = asked_erase held honest failed block (Err fault) mid last so_far.still so_far.stands lt sends step_is told in
      refused_last (recording.asked_erase mid.geometry block) op old mid last so_far (EraseFails block fault last asks) is.1 (erase_stands held honest failed block (Err fault) mid last so_far.still asks same)
      (operates_kept held honest failed mid.bus last.bus (erase_cycles mid.geometry block) (Err fault) sends ∙ so_far.still)

  -- a read behind it
  read_last : (op : Operation) (row : ℕ) (out : List ℕ) (result : Result (Unit {0}) SourceFault) (old mid last : DriverState (FileState S)) → last.geometry ≡ mid.geometry → Back op old mid
      → AsksPage held honest failed row out mid result last → Back op old last
  read_last op row out result old mid last same so_far asks =
      let spared = page_spared held honest failed row out result mid last so_far.still asks in
      let to : CallsToFault held honest failed old so_far.log (op ∷ []) mid = so_far.calls in
      record {
        log = so_far.log;
        calls = record {
          mid = to.mid;
          behind = to.behind;
          calls = to.calls;
          refuses = to.refuses;
          reads = calls_then held honest failed to.behind mid last [] [] to.reads (PageRead row out result mid last last [] asks (NothingAsked last));
          same = spared.store ∙ to.same;
        };
        told = asks.told ∙ so_far.told;
        stands = page_stands held honest failed row out result mid last so_far.still asks same;
        still = spared.still;
      }

  last_back : (op : Operation) (old mid last : DriverState (FileState S)) (call : DieCall) → Called held honest failed mid call last → (mid.told.at_hand ≡ op ∷ [] → Back op old mid)
      → (mid.told.at_hand ≡ [] → Driven held honest failed old mid) → last.told.at_hand ≡ op ∷ [] → Back op old last
  last_back op old mid last (ReadCall row answered) one behind before at =
      let so_far = behind (ap (λ (t : Recording). t.at_hand) (sym one.told) ∙ at) in
      read_last op row one.out one.result old mid last one.geometry so_far (record { stands = so_far.stands; in_range = one.in_range; sends = one.sends; told = one.told })
  last_back op old mid last (ProgramCall row its passed) one behind before at =
      program_last op row its one.result old mid last one.in_range one.body_whole one.spare_whole one.sends one.step one.told one.geometry before at
  last_back op old mid last (EraseCall block passed) one behind before at = erase_last op block one.result old mid last one.in_range one.sends one.step one.told one.geometry before at

  back : (op : Operation) (old new : DriverState (FileState S)) → AsksOnly (Called held honest failed) old new → honest old.bus.store ≡ true → StandsReady held old → old.told.at_hand ≡ [] → new.told.at_hand ≡ op ∷ []
      → Back op old new
  back op old new AskedNothing h stands clear at = absurd (no_cons op [] (sym at ∙ clear))
  back op old new (AskedOneMore mid last call more one) h stands clear at =
      last_back op old mid last call one (λ is. back op old mid more h stands clear is) (λ none. driven held honest failed old mid more h stands none) at

  -- the calls of a driver whose record a fault cut, with one operation at hand or none
  pub to_fault : (old new : DriverState (FileState S)) (log hand : List Operation) → AsksOnly (Called held honest failed) old new → honest old.bus.store ≡ true → StandsReady held old → old.told.at_hand ≡ []
      → length hand ≤ 1 → EndsAt hand (noted log (Some old.told)) (Some new.told) → CallsToFault held honest failed old log hand new
  to_fault old new log [] asked h stands clear one ends =
      let all = driven held honest failed old new asked h stands (hand_in old.told new.told log [] clear ends) in
      let same : all.log ≡ log = (one_cut (Some old.told) (Some new.told) all.log log [] [] refl clear (inr (tells held honest failed old new all.log all.calls)) ends).0 in
      record { mid = new; behind = new; calls = subst (λ l. DriverCalls held honest failed old l new) same all.calls; refuses = refl; reads = NothingAsked new; same = refl }
  to_fault old new log (op ∷ []) asked h stands clear one ends =
      let its = back op old new asked h stands clear (hand_in old.told new.told log (op ∷ []) clear ends) in
      let to : CallsToFault held honest failed old its.log (op ∷ []) new = its.calls in
      let told : Some new.told ≡ cut_at (op ∷ []) (noted its.log (Some old.told)) =
      ap Some its.told ∙ (fails_told to.mid to.behind (op ∷ []) to.refuses ∙ ap (cut_at (op ∷ [])) (tells held honest failed old to.mid its.log to.calls)) in
      let same : its.log ≡ log = (one_cut (Some old.told) (Some new.told) its.log log (op ∷ []) (op ∷ []) refl clear (inr told) ends).0 in
      subst (λ l. CallsToFault held honest failed old l (op ∷ []) new) same to
  to_fault old new log (op ∷ (more ∷ ops)) asked h stands clear one ends = absurd (omega arith)
