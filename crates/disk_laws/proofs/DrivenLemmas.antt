-- What a driver's record tells of what is lost of a store, and of what a call that failed leaves there.
use Rattle.std.proofs.Common.{◌≡◌, ◌⊎◌, inl, inr, ℕ, ◌+◌, ◌*◌, ◌<◌, Bool, true, false, List, [], ◌∷◌, ◌++◌, length, replicate, Some, None, Ok, Err, Result, refl, sym, ap, subst, ◌∙◌, append-nil}
use Rattle.page_layout.specs.declared.geometry.Geometry.{Geometry}
use Rattle.page_layout.specs.declared.source.SourceFault.{SourceFault}
use Rattle.page_layout.specs.Geometry.{row_count}
use Rattle.page_layout.specs.Page.{Image, IsImage, page}
use Rattle.page_layout.specs.Sound.{record_of}
use Rattle.page_layout.specs.Change.{erased_page}
use Rattle.page_layout.specs.Flash.{Erase, Operation, Program, block_at, may_erase, page_at}
use Rattle.page_layout.specs.Recording.{Records, image_after, image_after_all}
use Rattle.page_layout.proofs.RecordingLemmas.{records_join, records_none}
use Rattle.onfi_cycles.specs.declared.nand.BusFault.{BusFault}
use Rattle.onfi_cycles.specs.declared.nand.Outcome.{Outcome}
use Rattle.onfi_cycles.specs.Cycles.{Command, Confirming, Due, Erases, ForErase, Loading, PageOut, Phase, Programs, Ready, command_due}
use Rattle.onfi_cycles.specs.Driver.{DriverState, flash_by}
use Rattle.onfi_cycles.specs.Outcomes.{is_passed}
use Rattle.onfi_cycles.specs.Spelling.{erase_cycles, load_cycles, program_cycles, read_cycles, row_address}
use Rattle.onfi_cycles.proofs.Leads.{LeadTo}
use Rattle.onfi_cycles.proofs.Operations.{confirms_program, erase_due, erase_leads, first_row, lead_at, load_leads, whole_read}
use Rattle.promises.specs.Stop.{LeftBy}
use Rattle.promises.proofs.StopLemmas.{stops_join}
use Rattle.image_laws.specs.Power.{LosesSince}
use Rattle.file_die.specs.declared.die.SyncWhen.{SyncWhen}
use Rattle.file_die.specs.Die.{ErasesInStore, FileState, IfDue, Leaves, shown}
use Rattle.file_die.specs.DieLaws.{AddsAlone, TakesStoreCycle, StoreCycle}
use Rattle.file_die.specs.Store.{AreImages, Held, page_in}
use Rattle.file_die.proofs.DieLawLemmas.{images, since_sync}
use Rattle.disk_server.proofs.PowerLemmas.{loses_since}
use Rattle.disk_laws.specs.Driven.{AddsOrErases, AsksErase, AsksPage, AsksProgram, BlockErased, DriverCalls, DriverFails, DriverLosesLaw, DriverStopsLaw, DriverTellsLaw, EraseFails, NothingAsked, PageProgrammed, PageRead, ProgramFails, ReadFails, StandsReady, StopLosesLaw, store_behind}
use Rattle.disk_laws.specs.Lost.{LostBy}
use Rattle.disk_laws.proofs.LossLemmas.{lost_then}
use Rattle.disk_laws.proofs.LogLemmas.{after_erase, after_program}
use Rattle.disk_laws.proofs.RefusedLemmas.{erase_left, erase_lost, erase_spared, program_left, program_spared}
use Rattle.disk_laws.proofs.SentLemmas.{Took, operated, quiet, quiet_until, until_kept, until_operated, until_sized}
use Rattle.disk_laws.proofs.StoreLostLemmas.{Since, adding_more, begin, stays}

pub no_ok : {A E : Type 0} (x : A) (e : E) → Ok x ≡ Err e → ⊥
no_ok x e is = cc

no_err : {A E : Type 0} (x : A) (e : E) → Err e ≡ Ok x → ⊥
no_err x e is = cc

-- the parts of a log that adds or erases
pub adds_apart : (pages : ℕ) (image : Image) (xs ys : List Operation) → AddsOrErases pages image (xs ++ ys) → AddsOrErases pages image xs × AddsOrErases pages (image_after_all pages image xs) ys
adds_apart pages image [] ys adds = (tt, adds)
adds_apart pages image (Program row page passed left ∷ xs) ys adds = (let rest = adds_apart pages (image_after pages image (Program row page passed left)) xs ys adds.1 in ((adds.0, rest.0), rest.1))
adds_apart pages image (Erase block passed left ∷ xs) ys adds = (let rest = adds_apart pages (image_after pages image (Erase block passed left)) xs ys adds.1 in ((adds.0, rest.0), rest.1))

module _ {S : Type 0} (held : S → Held) (honest : S → Bool) (failed : S → ℕ) where
  -- ---- one call that was done

  module _ (row : ℕ) (body spare : List ℕ) (result : Result Outcome BusFault) (old new : DriverState (FileState S)) (asks : AsksProgram held honest failed row body spare old result new) where
    program_leads : LeadTo (shown held old.bus).flash.geometry (shown held old.bus).phase (load_cycles row body spare) (Loading row (0 + length body + length spare) (body ++ spare))
    program_leads =
        let same : old.geometry ≡ (store_behind held old).geometry = sym asks.stands.geometry in
        let ready = asks.stands.ready in
        lead_at (shown held old.bus) ready.0 (load_cycles row body spare) (Loading row (0 + length body + length spare) (body ++ spare)) ready.1
        (load_leads (store_behind held old).geometry ready.0 row body spare (subst (λ (g : Geometry). row < row_count g) same asks.in_range)
        (subst (λ (g : Geometry). length body ≡ g.data_bytes) same asks.body_whole) (subst (λ (g : Geometry). length spare ≡ g.spare_bytes) same asks.spare_whole))

    program_due : command_due (shown held old.bus).flash.geometry (Loading row (0 + length body + length spare) (body ++ spare)) 0x10 ≡ Programs row (page body spare)
    program_due =
        confirms_program (store_behind held old).geometry row (0 + length body + length spare) body spare
        (subst (λ (g : Geometry). length body ≡ g.data_bytes) (sym asks.stands.geometry) asks.body_whole)

    pub took_program : (outcome : Outcome) → honest old.bus.store ≡ true → result ≡ Ok outcome → Took held honest failed (Programs row (page body spare)) old.bus new.bus
    unfolding program_cycles
    took_program outcome h is = elim asks.sends [
      | inl sent ↦
          operated held honest failed old.bus new.bus (load_cycles row body spare) (Loading row (0 + length body + length spare) (body ++ spare)) 0x10 (Programs row (page body spare)) (sent.0 ∷ []) h
          program_leads program_due tt sent.2
      | inr refused ↦ absurd (no_ok outcome refused.0 (sym is ∙ refused.1))
    ]

    pub stopped_program : honest old.bus.store ≡ true
        → ((store_behind held new).geometry ≡ (store_behind held old).geometry)
        × ((store_behind held new ≡ store_behind held old) ⊎ ((done : Bool) × Leaves (Programs row (page body spare)) (shown held old.bus).flash old.bus.sync_when (store_behind held old) done (store_behind held new)))
    unfolding program_cycles
    stopped_program h = elim asks.sends [
      | inl sent ↦
          let took = operated held honest failed old.bus new.bus (load_cycles row body spare) (Loading row (0 + length body + length spare) (body ++ spare)) 0x10 (Programs row (page body spare)) (sent.0 ∷ []) h
          program_leads program_due tt sent.2 in
          (took.geometry, inr (true, took.leaves))
      | inr refused ↦ (
        until_sized held honest failed old.bus new.bus (program_cycles row body spare) refused.0 refused.2,
        until_operated held honest failed old.bus new.bus (load_cycles row body spare) (Loading row (0 + length body + length spare) (body ++ spare)) 0x10 (Programs row (page body spare)) refused.0 h
            program_leads program_due tt refused.2,
      )
    ]

  module _ (block : ℕ) (result : Result Outcome BusFault) (old new : DriverState (FileState S)) (asks : AsksErase held honest failed block old result new) where
    abbrev its_row : ℕ
    its_row = block * old.geometry.pages

    erase_lead : LeadTo (shown held old.bus).flash.geometry (shown held old.bus).phase (Command 0x60 ∷ row_address its_row) (Confirming ForErase its_row 0)
    erase_lead =
        let ready = asks.stands.ready in
        lead_at (shown held old.bus) ready.0 (Command 0x60 ∷ row_address its_row) (Confirming ForErase its_row 0) ready.1
        (subst (λ g. LeadTo g (Ready ready.0) (Command 0x60 ∷ row_address its_row) (Confirming ForErase its_row 0)) (sym asks.stands.geometry)
        (erase_leads old.geometry ready.0 its_row (first_row old.geometry block asks.in_range)))

    erase_is_due : command_due (shown held old.bus).flash.geometry (Confirming ForErase its_row 0) 0xD0 ≡ Erases block
    erase_is_due = ap (λ g. command_due g (Confirming ForErase its_row 0) 0xD0) asks.stands.geometry ∙ erase_due old.geometry block

    pub took_erase : (outcome : Outcome) → honest old.bus.store ≡ true → result ≡ Ok outcome → Took held honest failed (Erases block) old.bus new.bus
    unfolding erase_cycles
    took_erase outcome h is = elim asks.sends [
      | inl sent ↦
          operated held honest failed old.bus new.bus (Command 0x60 ∷ row_address its_row) (Confirming ForErase its_row 0) 0xD0 (Erases block) (sent.0 ∷ []) h erase_lead erase_is_due tt sent.2
      | inr refused ↦ absurd (no_ok outcome refused.0 (sym is ∙ refused.1))
    ]

    pub stopped_erase : honest old.bus.store ≡ true
        → ((store_behind held new).geometry ≡ (store_behind held old).geometry)
        × ((store_behind held new ≡ store_behind held old) ⊎ ((done : Bool) × Leaves (Erases block) (shown held old.bus).flash old.bus.sync_when (store_behind held old) done (store_behind held new)))
    unfolding erase_cycles
    stopped_erase h = elim asks.sends [
      | inl sent ↦
          let took = operated held honest failed old.bus new.bus (Command 0x60 ∷ row_address its_row) (Confirming ForErase its_row 0) 0xD0 (Erases block) (sent.0 ∷ []) h erase_lead erase_is_due tt sent.2 in
          (took.geometry, inr (true, took.leaves))
      | inr refused ↦ (
        until_sized held honest failed old.bus new.bus (erase_cycles old.geometry block) refused.0 refused.2,
        until_operated held honest failed old.bus new.bus (Command 0x60 ∷ row_address its_row) (Confirming ForErase its_row 0) 0xD0 (Erases block) refused.0 h erase_lead erase_is_due tt refused.2,
      )
    ]

  -- where a read of a page leads
  abbrev pub read_to : ℕ → DriverState (FileState S) → Phase
  read_to row old = Ready (PageOut row (0 + old.geometry.data_bytes + old.geometry.spare_bytes))

  pub read_leads : (row : ℕ) (old : DriverState (FileState S)) → StandsReady held old → row < row_count old.geometry
      → LeadTo (shown held old.bus).flash.geometry (shown held old.bus).phase (read_cycles row old.geometry.data_bytes old.geometry.spare_bytes) (read_to row old)
  read_leads row old stands lt =
      let same : old.geometry ≡ (store_behind held old).geometry = sym stands.geometry in
      lead_at (shown held old.bus) stands.ready.0 (read_cycles row old.geometry.data_bytes old.geometry.spare_bytes) (read_to row old) stands.ready.1
      (whole_read (store_behind held old).geometry stands.ready.0 row old.geometry.data_bytes old.geometry.spare_bytes (subst (λ (g : Geometry). row < row_count g) same lt)
      (ap (λ (g : Geometry). g.data_bytes) same) (ap (λ (g : Geometry). g.spare_bytes) same))

  -- a read, whatever its answer, leaves the store
  pub record Spared (a b : FileState S) : Type 0 where
    pub store : held b.store ≡ held a.store
    pub still : honest b.store ≡ true
    pub syncs : b.sync_when ≡ a.sync_when

  pub page_spared : (row : ℕ) (out : List ℕ) (result : Result (Unit {0}) SourceFault) (old new : DriverState (FileState S)) → honest old.bus.store ≡ true → AsksPage held honest failed row out old result new
      → Spared old.bus new.bus
  page_spared row out (Ok done) old new h asks =
      let calm = quiet held honest failed old.bus new.bus (read_cycles row old.geometry.data_bytes old.geometry.spare_bytes) out (read_to row old) h (read_leads row old asks.stands asks.in_range) asks.sends in
      record { store = calm.store; still = calm.still; syncs = calm.syncs }
  page_spared row out (Err fault) old new h asks =
      let cycles = read_cycles row old.geometry.data_bytes old.geometry.spare_bytes in
      let kept = until_kept held honest failed old.bus new.bus cycles asks.sends.0 asks.sends.2 in
      record {
        store = quiet_until held honest failed old.bus new.bus cycles (read_to row old) asks.sends.0 h (read_leads row old asks.stands asks.in_range) asks.sends.2;
        still = kept.0 ∙ h;
        syncs = kept.1;
      }

  -- ---- calls one after another

  pub tells : DriverTellsLaw held honest failed
  tells old new log (NothingAsked d) = records_none (Some d.told)
  tells old new log (PageRead row out result first mid last more asks calls) = subst (λ t. Records (Some t) more (Some last.told)) asks.told (tells mid last more calls)
  tells old new log (PageProgrammed row body spare outcome first mid last more asks calls) =
      records_join (Some first.told) (Some mid.told) (Some last.told) (Program row (page body spare) (is_passed outcome) (page_at (flash_by (shown held) mid) row) ∷ []) more (ap Some asks.told) (tells mid last more calls)
  tells old new log (BlockErased block outcome first mid last more asks calls) =
      records_join (Some first.told) (Some mid.told) (Some last.told) (Erase block (is_passed outcome) (block_at (flash_by (shown held) mid) block) ∷ []) more (ap Some asks.told) (tells mid last more calls)

  pub calls_then : (a b c : DriverState (FileState S)) (xs ys : List Operation) → DriverCalls held honest failed a xs b → DriverCalls held honest failed b ys c → DriverCalls held honest failed a (xs ++ ys) c
  calls_then a b c xs ys (NothingAsked d) more = more
  calls_then a b c xs ys (PageRead row out result first mid last log asks calls) more = PageRead row out result first mid c (log ++ ys) asks (calls_then mid last c log ys calls more)
  calls_then a b c xs ys (PageProgrammed row body spare outcome first mid last log asks calls) more =
      PageProgrammed row body spare outcome first mid c (log ++ ys) asks (calls_then mid last c log ys calls more)
  calls_then a b c xs ys (BlockErased block outcome first mid last log asks calls) more = BlockErased block outcome first mid c (log ++ ys) asks (calls_then mid last c log ys calls more)

  -- the cycle of the die that a call was
  abbrev cycle_of : DriverState (FileState S) → Due → StoreCycle
  cycle_of old due = record { due = due; flash = (shown held old.bus).flash; done = true }

  takes : (sync_when : SyncWhen) (old new : DriverState (FileState S)) (due : Due) → old.bus.sync_when ≡ sync_when → Took held honest failed due old.bus new.bus
      → TakesStoreCycle sync_when (store_behind held old) (cycle_of old due) (store_behind held new)
  takes sync_when old new due same took = record {
    leaves = subst (λ w. Leaves due (shown held old.bus).flash w (store_behind held old) true (store_behind held new)) same took.leaves;
    geometry = took.geometry;
  }

  may_so : (b : Bool) (P Q : Type 0) → b ≡ true → IfDue b P Q → P
  may_so true P Q e h = h
  may_so false P Q e h = (let no : ⊥ = cc in absurd no)

  -- the same, and behind the calls other operations, of which it is known what may be lost in them
  module _ (found : Image) (hand : List Operation) where
    lose : (sync_when : SyncWhen) (g : Geometry) (start : Held) (old new : DriverState (FileState S)) (log : List Operation) → DriverCalls held honest failed old log new → honest old.bus.store ≡ true
        → old.bus.sync_when ≡ sync_when
        → ((s : Held) → Since sync_when found g s (store_behind held new) → new.bus.sync_when ≡ sync_when → LostBy g.pages s.pages (store_behind held new).pages hand found) → Since sync_when found g start (store_behind held old) → AddsOrErases g.pages (store_behind held old).pages log
        → LostBy g.pages start.pages (store_behind held old).pages (log ++ hand) found
    lose sync_when g start old new log (NothingAsked d) h same ends since adds = ends start since same
    lose sync_when g start old new log (PageRead row out result first mid last more asks calls) h same ends since adds =
        let calm = page_spared row out result first mid h asks in
        subst (λ (s : Held). LostBy g.pages start.pages s.pages (more ++ hand) found) calm.store
        (lose sync_when g start mid last more calls calm.still (calm.syncs ∙ same) ends (subst (Since sync_when found g start) (sym calm.store) since)
        (subst (λ (s : Held). AddsOrErases g.pages s.pages more) (sym calm.store) adds))
    lose sync_when g start old new log (PageProgrammed row body spare outcome first mid last more asks calls) h same ends since adds =
        let took = took_program row body spare (Ok outcome) first mid asks outcome h refl in
        let cycle : StoreCycle = cycle_of first (Programs row (page body spare)) in
        let alone : AddsAlone (store_behind held first) cycle.flash cycle.due = λ may. adds.0 in
        let now : Since sync_when found g start (store_behind held mid) = record {
          images = since.images;
          sized = since.sized;
          lasted = since.lasted;
          added = since.added ++ cycle ∷ [];
          goes = adding_more sync_when start (store_behind held first) (store_behind held mid) since.added cycle since.goes alone (takes sync_when first mid (Programs row (page body spare)) same took);
        } in
        let image : (store_behind held mid).pages ≡ image_after g.pages (store_behind held first).pages (Program row (page body spare) (is_passed outcome) (page_at (flash_by (shown held) mid) row)) =
        after_program g.pages (flash_by (shown held) first) (flash_by (shown held) mid) row (page body spare) (page_at (flash_by (shown held) mid) row) (is_passed outcome) asks.step in
        inr (subst (λ i. LostBy g.pages start.pages i (more ++ hand) found) image
        (lose sync_when g start mid last more calls took.still (took.syncs ∙ same) ends now (subst (λ i. AddsOrErases g.pages i more) (sym image) adds.1)))
    lose sync_when g start old new log (BlockErased block outcome first mid last more asks calls) h same ends since adds =
        let took = took_erase block (Ok outcome) first mid asks outcome h refl in
        let here = stays sync_when found g start (store_behind held first) since in
        let image : (store_behind held mid).pages ≡ image_after g.pages (store_behind held first).pages (Erase block (is_passed outcome) (block_at (flash_by (shown held) mid) block)) =
        after_erase g (flash_by (shown held) first) (flash_by (shown held) mid) block (is_passed outcome) (block_at (flash_by (shown held) mid) block) (sym asks.stands.geometry ∙ here.0) asks.step in
        let may : may_erase (shown held first.bus).flash block ≡ true = asks.step.lawful.due adds.0 in
        let erases : ErasesInStore (store_behind held first) block true (store_behind held mid) =
        may_so (may_erase (shown held first.bus).flash block) (ErasesInStore (store_behind held first) block true (store_behind held mid)) (store_behind held mid ≡ store_behind held first) may took.leaves in
        let again : Since sync_when found g (store_behind held mid) (store_behind held mid) =
        begin sync_when found g (store_behind held mid) (erases.clears.whole here.1) (took.geometry ∙ here.0) (erases.after refl) in
        inr (inr (subst (λ i. LostBy g.pages i i (more ++ hand) found) image
        (lose sync_when g (store_behind held mid) mid last more calls took.still (took.syncs ∙ same) ends again (subst (λ i. AddsOrErases g.pages i more) (sym image) adds.1))))

  -- the store after them
  pub record Came (old new : DriverState (FileState S)) (log : List Operation) : Type 0 where
    pub image : (store_behind held new).pages ≡ image_after_all (store_behind held old).geometry.pages (store_behind held old).pages log
    pub sized : (store_behind held new).geometry ≡ (store_behind held old).geometry
    pub whole : AreImages (store_behind held new)
    pub still : honest new.bus.store ≡ true

  pub came : (old new : DriverState (FileState S)) (log : List Operation) → DriverCalls held honest failed old log new → honest old.bus.store ≡ true → AreImages (store_behind held old) → Came old new log
  came old new log (NothingAsked d) h w = record { image = refl; sized = refl; whole = w; still = h }
  came old new log (PageRead row out result first mid last more asks calls) h w =
      let calm = page_spared row out result first mid h asks in
      let rest = came mid last more calls calm.still (subst AreImages (sym calm.store) w) in
      record {
        image = rest.image ∙ ap (λ (s : Held). image_after_all s.geometry.pages s.pages more) calm.store;
        sized = rest.sized ∙ ap (λ (s : Held). s.geometry) calm.store;
        whole = rest.whole;
        still = rest.still;
      }
  came old new log (PageProgrammed row body spare outcome first mid last more asks calls) h w =
      let took = took_program row body spare (Ok outcome) first mid asks outcome h refl in
      let cycle : StoreCycle = cycle_of first (Programs row (page body spare)) in
      let stay = images first.bus.sync_when (store_behind held first) (store_behind held mid) (cycle ∷ []) (store_behind held mid, takes first.bus.sync_when first mid (Programs row (page body spare)) refl took, refl) in
      let rest = came mid last more calls took.still (stay.1 w) in
      let g : Geometry = (store_behind held first).geometry in
      let image = after_program g.pages (flash_by (shown held) first) (flash_by (shown held) mid) row (page body spare) (page_at (flash_by (shown held) mid) row) (is_passed outcome) asks.step in
      record {
        image = rest.image ∙ (ap (λ (x : Geometry). image_after_all x.pages (store_behind held mid).pages more) took.geometry ∙ ap (λ i. image_after_all g.pages i more) image);
        sized = rest.sized ∙ took.geometry;
        whole = rest.whole;
        still = rest.still;
      }
  came old new log (BlockErased block outcome first mid last more asks calls) h w =
      let took = took_erase block (Ok outcome) first mid asks outcome h refl in
      let cycle : StoreCycle = cycle_of first (Erases block) in
      let stay = images first.bus.sync_when (store_behind held first) (store_behind held mid) (cycle ∷ []) (store_behind held mid, takes first.bus.sync_when first mid (Erases block) refl took, refl) in
      let rest = came mid last more calls took.still (stay.1 w) in
      let g : Geometry = (store_behind held first).geometry in
      let image = after_erase g (flash_by (shown held) first) (flash_by (shown held) mid) block (is_passed outcome) (block_at (flash_by (shown held) mid) block) (sym asks.stands.geometry) asks.step in
      record {
        image = rest.image ∙ (ap (λ (x : Geometry). image_after_all x.pages (store_behind held mid).pages more) took.geometry ∙ ap (λ i. image_after_all g.pages i more) image);
        sized = rest.sized ∙ took.geometry;
        whole = rest.whole;
        still = rest.still;
      }

  -- what lasts by now
  lasting : (sync_when : SyncWhen) (found : Image) (g : Geometry) (start s : Held) → Since sync_when found g start s → LosesSince start.pages s.pages s.durable
  lasting sync_when found g start s since =
      let here = stays sync_when found g start s since in
      let long : length s.durable ≡ length s.pages = here.1.durable_whole.rows ∙ sym here.1.pages_whole.rows in
      loses_since start.pages s long (since_sync sync_when start s since.added since.goes since.lasted)

  pub loses : DriverLosesLaw held honest failed
  loses old new log h w lasted calls adds =
      let g : Geometry = (store_behind held old).geometry in
      let end = came old new log calls h w in
      let found : Image = (store_behind held new).durable in
      let sync_when : SyncWhen = old.bus.sync_when in
      record {
        whole = subst (λ x. IsImage x found) end.sized end.whole.durable_whole;
        by = subst (λ l. LostBy g.pages (store_behind held old).pages (store_behind held old).pages l found) (append-nil log)
            (lose found [] sync_when g (store_behind held old) old new log calls h refl (λ s since same. lasting sync_when found g s (store_behind held new) since) (begin sync_when found g (store_behind held old) w refl lasted) adds);
      }

  -- ---- a call that the file refused

  -- what it leaves of the pages, by the operation at hand
  record Refused (old new : DriverState (FileState S)) (hand : List Operation) : Type 0 where
    pub left : LeftBy (store_behind held old).geometry.pages (store_behind held old).pages hand (store_behind held new).pages
    pub sized : (store_behind held new).geometry ≡ (store_behind held old).geometry
    pub whole : AreImages (store_behind held new)

  read_refused : (row : ℕ) (out : List ℕ) (fault : SourceFault) (old new : DriverState (FileState S)) → honest old.bus.store ≡ true → AreImages (store_behind held old)
      → AsksPage held honest failed row out old (Err fault) new → Refused old new []
  read_refused row out fault old new h w asks =
      let same : store_behind held new ≡ store_behind held old = (page_spared row out (Err fault) old new h asks).store in
      record { left = ap (λ (s : Held). s.pages) same; sized = ap (λ (s : Held). s.geometry) same; whole = subst AreImages (sym same) w }

  refused : (old new : DriverState (FileState S)) (hand : List Operation) → DriverFails held honest failed old hand new → honest old.bus.store ≡ true → AreImages (store_behind held old) → Refused old new hand
  refused old new hand (ReadFails row out fault last asks) h w = read_refused row out fault old last h w asks
  refused old new hand (ProgramFails row body spare fault last asks) h w =
      let stopped = stopped_program row body spare (Err fault) old last asks h in
      let left : LeftBy (store_behind held old).geometry.pages (store_behind held old).pages (Program row (page body spare) true (page body spare) ∷ []) (store_behind held last).pages × AreImages (store_behind held last) = elim stopped.1 [
        | inl same ↦ program_spared (store_behind held old) (store_behind held last) stopped.0 w row (page body spare) same
        | inr took ↦ program_left (store_behind held old) (store_behind held last) stopped.0 w (shown held old.bus).flash old.bus.sync_when row (page body spare) took.0 took.1
      ] in
      record { left = left.0; sized = stopped.0; whole = left.1 }
  refused old new hand (EraseFails block fault last asks) h w =
      let stopped = stopped_erase block (Err fault) old last asks h in
      let g : Geometry = (store_behind held old).geometry in
      let left : LeftBy g.pages (store_behind held old).pages (Erase block true (replicate g.pages (erased_page g)) ∷ []) (store_behind held last).pages × AreImages (store_behind held last) = elim stopped.1 [
        | inl same ↦ erase_spared (store_behind held old) (store_behind held last) stopped.0 w block same
        | inr took ↦ erase_left (store_behind held old) (store_behind held last) stopped.0 w (shown held old.bus).flash old.bus.sync_when block took.0 took.1
      ] in
      record {
        left = subst (λ (x : Geometry). LeftBy g.pages (store_behind held old).pages (Erase block true (replicate x.pages (erased_page x)) ∷ []) (store_behind held last).pages) asks.stands.geometry left.0;
        sized = stopped.0;
        whole = left.1;
      }

  pub stops : DriverStopsLaw held honest failed
  stops old mid new log hand h w calls fails =
      let g : Geometry = (store_behind held old).geometry in
      let so_far = came old mid log calls h w in
      let last = refused mid new hand fails so_far.still so_far.whole in
      record {
        whole = subst (λ x. IsImage x (store_behind held new).pages) (last.sized ∙ so_far.sized) last.whole.pages_whole;
        by = (stops_join g.pages (store_behind held old).pages (store_behind held new).pages log hand).1 (inr (subst (λ i. LeftBy g.pages i hand (store_behind held new).pages) so_far.image
            (subst (λ (x : Geometry). LeftBy x.pages (store_behind held mid).pages hand (store_behind held new).pages) so_far.sized last.left)));
      }

  -- and of what lasts: a program
  program_lost : (sync_when : SyncWhen) (found : Image) (g : Geometry) (start : Held) (row : ℕ) (body spare : List ℕ) (fault : BusFault) (old new : DriverState (FileState S)) → honest old.bus.store ≡ true
      → AsksProgram held honest failed row body spare old (Err fault) new → Since sync_when found g start (store_behind held old) → old.bus.sync_when ≡ sync_when → record_of (page_in (store_behind held old).pages row) ≡ None
      → LostBy g.pages start.pages (store_behind held old).pages (Program row (page body spare) true (page body spare) ∷ []) (store_behind held new).durable
  program_lost sync_when found g start row body spare fault old new h asks since same none =
      let stopped = stopped_program row body spare (Err fault) old new asks h in
      let here = stays sync_when found g start (store_behind held old) since in
      let hand : Operation = Program row (page body spare) true (page body spare) in
      elim stopped.1 [
        | inl as_was ↦
            lost_then g.pages start.pages (store_behind held old).pages (store_behind held new).durable (hand ∷ [])
            (subst (λ (s : Held). LosesSince start.pages (store_behind held old).pages s.durable) (sym as_was) (lasting sync_when found g start (store_behind held old) since))
        | inr took ↦
            let cycle : StoreCycle = record { due = Programs row (page body spare); flash = (shown held old.bus).flash; done = took.0 } in
            let alone : AddsAlone (store_behind held old) cycle.flash cycle.due = λ may. none in
            let takes_it : TakesStoreCycle sync_when (store_behind held old) cycle (store_behind held new) = record {
              leaves = subst (λ w. Leaves cycle.due cycle.flash w (store_behind held old) took.0 (store_behind held new)) same took.1;
              geometry = stopped.0;
            } in
            let now : Since sync_when found g start (store_behind held new) = record {
              images = since.images;
              sized = since.sized;
              lasted = since.lasted;
              added = since.added ++ cycle ∷ [];
              goes = adding_more sync_when start (store_behind held old) (store_behind held new) since.added cycle since.goes alone takes_it;
            } in
            let loses : LosesSince start.pages (store_behind held new).pages (store_behind held new).durable = lasting sync_when found g start (store_behind held new) now in
            let left = program_left (store_behind held old) (store_behind held new) stopped.0 here.1 cycle.flash old.bus.sync_when row (page body spare) took.0 took.1 in
            let left_by : LeftBy g.pages (store_behind held old).pages (hand ∷ []) (store_behind held new).pages = subst (λ (x : Geometry). LeftBy x.pages (store_behind held old).pages (hand ∷ []) (store_behind held new).pages) here.0 left.0 in
            elim left_by [
              | inl torn ↦ inl ((store_behind held new).pages, torn, loses)
              | inr after ↦ inr (subst (λ i. LosesSince start.pages i (store_behind held new).durable) after loses)
            ]
      ]

  erase_lost_by : (sync_when : SyncWhen) (found : Image) (g : Geometry) (start : Held) (block : ℕ) (fault : BusFault) (old new : DriverState (FileState S)) → honest old.bus.store ≡ true
      → AsksErase held honest failed block old (Err fault) new → Since sync_when found g start (store_behind held old)
      → LostBy g.pages start.pages (store_behind held old).pages (Erase block true (replicate old.geometry.pages (erased_page old.geometry)) ∷ []) (store_behind held new).durable
  erase_lost_by sync_when found g start block fault old new h asks since =
      let stopped = stopped_erase block (Err fault) old new asks h in
      let s : Held = store_behind held old in
      let here = stays sync_when found g start s since in
      let loses : LosesSince start.pages s.pages s.durable = lasting sync_when found g start s since in
      let lost : LostBy s.geometry.pages start.pages s.pages (Erase block true (replicate s.geometry.pages (erased_page s.geometry)) ∷ []) (store_behind held new).durable = elim stopped.1 [
        | inl same ↦ inl (subst (λ (t : Held). LosesSince start.pages s.pages t.durable) (sym same) loses)
        | inr took ↦
            erase_lost start.pages s (store_behind held new) stopped.0 here.1 (since_sync sync_when start s since.added since.goes since.lasted) (shown held old.bus).flash old.bus.sync_when block took.0 took.1 loses
      ] in
      subst (λ (x : Geometry). LostBy x.pages start.pages s.pages (Erase block true (replicate old.geometry.pages (erased_page old.geometry)) ∷ []) (store_behind held new).durable) here.0
      (subst (λ (x : Geometry). LostBy s.geometry.pages start.pages s.pages (Erase block true (replicate x.pages (erased_page x)) ∷ []) (store_behind held new).durable) asks.stands.geometry lost)

  refused_lost : (sync_when : SyncWhen) (found : Image) (g : Geometry) (start : Held) (old new : DriverState (FileState S)) (hand : List Operation) → DriverFails held honest failed old hand new → honest old.bus.store ≡ true
      → (store_behind held new).durable ≡ found → Since sync_when found g start (store_behind held old) → old.bus.sync_when ≡ sync_when → AddsOrErases g.pages (store_behind held old).pages hand
      → LostBy g.pages start.pages (store_behind held old).pages hand found
  refused_lost sync_when found g start old new hand (ReadFails row out fault last asks) h is since same adds =
      let as_was : store_behind held last ≡ store_behind held old = (page_spared row out (Err fault) old last h asks).store in
      subst (LosesSince start.pages (store_behind held old).pages) (ap (λ (s : Held). s.durable) (sym as_was) ∙ is) (lasting sync_when found g start (store_behind held old) since)
  refused_lost sync_when found g start old new hand (ProgramFails row body spare fault last asks) h is since same adds =
      subst (LostBy g.pages start.pages (store_behind held old).pages (Program row (page body spare) true (page body spare) ∷ [])) is
      (program_lost sync_when found g start row body spare fault old last h asks since same adds.0)
  refused_lost sync_when found g start old new hand (EraseFails block fault last asks) h is since same adds =
      subst (LostBy g.pages start.pages (store_behind held old).pages (Erase block true (replicate old.geometry.pages (erased_page old.geometry)) ∷ [])) is
      (erase_lost_by sync_when found g start block fault old last h asks since)

  pub stop_loses : StopLosesLaw held honest failed
  stop_loses old mid new log hand h w lasted calls fails adds =
      let g : Geometry = (store_behind held old).geometry in
      let so_far = came old mid log calls h w in
      let last = refused mid new hand fails so_far.still so_far.whole in
      let found : Image = (store_behind held new).durable in
      let sync_when : SyncWhen = old.bus.sync_when in
      let apart = adds_apart g.pages (store_behind held old).pages log hand adds in
      let ends : (s : Held) → Since sync_when found g s (store_behind held mid) → mid.bus.sync_when ≡ sync_when → LostBy g.pages s.pages (store_behind held mid).pages hand found = λ s since same.
      refused_lost sync_when found g s mid new hand fails so_far.still refl since same (subst (λ i. AddsOrErases g.pages i hand) (sym so_far.image) apart.1) in
      record {
        whole = subst (λ x. IsImage x found) (last.sized ∙ so_far.sized) last.whole.durable_whole;
        by = lose found hand sync_when g (store_behind held old) old mid log calls h refl ends (begin sync_when found g (store_behind held old) w refl lasted) apart.0;
      }
