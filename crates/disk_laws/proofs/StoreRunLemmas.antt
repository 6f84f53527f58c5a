-- What calls of a device are for the driver of its store, and what lasts of that in them.
use Rattle.std.proofs.Common.{◌≡◌, inl, inr, ℕ, ◌+◌, Bool, List, [], ◌∷◌, ◌++◌, refl, sym, ap, subst, ◌∙◌}
use Rattle.std.specs.Prelude.{unwrap_or}
use Rattle.std.proofs.lemmas.Option.{slice_get-get_or}
use Rattle.page_layout.specs.View.{View}
use Rattle.page_layout.specs.declared.geometry.Geometry.{Geometry}
use Rattle.page_layout.specs.Page.{Image}
use Rattle.page_layout.specs.Flash.{Erase, Flash, Leads, Operation, Program, no_page, page_at}
use Rattle.page_layout.specs.Recording.{Records, hand_after, image_after, image_after_all}
use Rattle.page_layout.proofs.ArrayLemmas.{mark-page}
use Rattle.page_layout.proofs.FlashLemmas.{geometry-Steps}
use Rattle.page_layout.proofs.RecordingLemmas.{records_join, records_none}
use Rattle.promises.specs.Legal.{Account, accounted, IsDueProgram, LegalFrom}
use Rattle.collection.specs.Log.{NumbersFrom}
use Rattle.collection.proofs.Stops.{one_gain}
use Rattle.onfi_cycles.specs.Driver.{DriverState}
use Rattle.file_die.specs.Die.{FileState}
use Rattle.file_die.specs.Store.{Held}
use Rattle.ftl_device.specs.declared.device.Device.{Device}
use Rattle.disk_laws.specs.Driven.{AddsOrErases, DriverCalls, store_behind}
use Rattle.disk_laws.specs.Lost.{LostBy, MayLose}
use Rattle.disk_laws.specs.Runs.{DeviceCalls, NoCall, OneMore, image_on}
use Rattle.disk_server.specs.Opened.{view_in}
use Rattle.disk_laws.specs.StoreRuns.{ErasesPass, StandsClear, StoreRunLaw}
use Rattle.disk_laws.proofs.AskedRunLemmas.{Driven, both_driven, driven, run_asked, run_parts}
use Rattle.disk_laws.proofs.DrivenLemmas.{adds_apart, loses, tells}
use Rattle.disk_laws.proofs.FitLemmas.{Fits, erase_fits, program_fits, unsound}
use Rattle.disk_laws.proofs.LogLemmas.{after_erase, after_program}
use Rattle.disk_laws.proofs.LossLemmas.{lost_then}
use Rattle.disk_laws.proofs.RunLemmas.{called_on, lost_run_law, run_image}

-- ---- a log is cut

pub erases_apart : (xs ys : List Operation) → ErasesPass (xs ++ ys) → ErasesPass xs × ErasesPass ys
erases_apart [] ys e = (tt, e)
erases_apart (Program row page passed left ∷ xs) ys e = erases_apart xs ys e
erases_apart (Erase block passed left ∷ xs) ys e = (let rest = erases_apart xs ys e.1 in ((e.0, rest.0), rest.1))

pub adds_join : (pages : ℕ) (image : Image) (xs ys : List Operation) → AddsOrErases pages image xs → AddsOrErases pages (image_after_all pages image xs) ys → AddsOrErases pages image (xs ++ ys)
adds_join pages image [] ys first second = second
adds_join pages image (Program row page passed left ∷ xs) ys first second = (first.0, adds_join pages (image_after pages image (Program row page passed left)) xs ys first.1 second)
adds_join pages image (Erase block passed left ∷ xs) ys first second = (first.0, adds_join pages (image_after pages image (Erase block passed left)) xs ys first.1 second)

-- what may be lost by operations may be lost by more
lost_first : (pages : ℕ) (stored image found : Image) (xs ys : List Operation) → LostBy pages stored image xs found → LostBy pages stored image (xs ++ ys) found
lost_first pages stored image found [] ys loses = lost_then pages stored image found ys loses
lost_first pages stored image found (Program row page passed left ∷ xs) ys (inl here) = inl here
lost_first pages stored image found (Program row page passed left ∷ xs) ys (inr later) = inr (lost_first pages stored (image_after pages image (Program row page passed left)) found xs ys later)
lost_first pages stored image found (Erase block passed left ∷ xs) ys (inl here) = inl here
lost_first pages stored image found (Erase block passed left ∷ xs) ys (inr (inl torn)) = inr (inl torn)
lost_first pages stored image found (Erase block passed left ∷ xs) ys (inr (inr later)) =
    (let now : Image = image_after pages image (Erase block passed left) in inr (inr (lost_first pages now now found xs ys later)))

-- ---- what a legal log adds

legal_adds : (g : Geometry) (log : List Operation) (s t : Flash) (accounts : List Account) (next : ℕ) → s.geometry ≡ g → Fits g.pages s.image accounts next → Leads s log t → LegalFrom g.pages accounts log → NumbersFrom next log
    → ErasesPass log → AddsOrErases g.pages s.image log
legal_adds g [] s t accounts next sized fits leads legal numbers erases = tt
legal_adds g (Program row page passed left ∷ log) s t accounts next sized fits (mid, step, leads) legal numbers erases =
    let here = subst (λ (h : Geometry). Fits h.pages s.image accounts next) (sym sized) fits in
    let due = subst (λ (h : Geometry). IsDueProgram h.pages accounts row) (sym sized) legal.0 in
    let none = unsound s mid row page left passed accounts next step due numbers.0 here in
    let now = subst (λ (h : Geometry). Fits h.pages mid.image (accounted h.pages accounts (Program row page passed left)) (next + 1)) sized
    (program_fits s mid row page left passed accounts next step due numbers.0 here) in (
      sym (mark-page s.image row (page_at s row) (slice_get-get_or s.image row no_page step.lawful.in_range)) ∙ none,
      subst (λ i. AddsOrErases g.pages i log) (after_program g.pages s mid row page left passed step)
          (legal_adds g log mid t (accounted g.pages accounts (Program row page passed left)) (next + 1) (geometry-Steps s mid (Program row page passed left) step ∙ sized) now leads legal.1 numbers.1 erases),
    )
legal_adds g (Erase block passed left ∷ log) s t accounts next sized fits (mid, step, leads) legal numbers erases =
    let here = subst (λ (h : Geometry). Fits h.pages s.image accounts next) (sym sized) fits in
    let now = subst (λ (h : Geometry). Fits h.pages mid.image (accounted h.pages accounts (Erase block passed left)) next) sized
    (erase_fits s mid block passed left accounts next step legal.0 here) in (
      erases.0,
      subst (λ i. AddsOrErases g.pages i log) (after_erase g s mid block passed left sized step)
          (legal_adds g log mid t (accounted g.pages accounts (Erase block passed left)) next (geometry-Steps s mid (Erase block passed left) step ∙ sized) now leads legal.1 numbers erases.1),
    )

module _ {N : Type 0} (die : View N) (old : Device N) where
  pub run_adds : (log : List Operation) (new : Device N) → DeviceCalls die old log new → ErasesPass log → AddsOrErases old.engine.geometry.pages (image_on die old) log
  run_adds log new NoCall erases = tt
  run_adds log new (OneMore before mid more last run does) erases =
      let pages : ℕ = old.engine.geometry.pages in
      let c = called_on die old before mid more last run does in
      let apart = erases_apart before more erases in
      adds_join pages (image_on die old) before more (run_adds before mid run apart.0)
      (subst (λ i. AddsOrErases pages i more) (sym (run_image die old before mid run))
      (legal_adds old.engine.geometry more (die.flash mid.engine.nand) (die.flash last.engine.nand) c.accounts c.next c.die_sized c.fits c.leads c.legal c.numbers apart.1))

  pub run_records : (log : List Operation) (new : Device N) → DeviceCalls die old log new → Records (die.recorded old.engine.nand) log (die.recorded new.engine.nand)
  run_records log new NoCall = records_none (die.recorded old.engine.nand)
  run_records log new (OneMore before mid more last run does) =
      records_join (die.recorded old.engine.nand) (die.recorded mid.engine.nand) (die.recorded last.engine.nand) before more (run_records before mid run) does.records

-- ---- down to the store

module _ {S : Type 0} (held : S → Held) (honest : S → Bool) (failed : S → ℕ) where
  -- calls of a device leave nothing at hand
  pub run_clear : (old new : Device (DriverState (FileState S))) (log : List Operation) → DeviceCalls (view_in held honest failed) old log new → old.engine.nand.told.at_hand ≡ [] → new.engine.nand.told.at_hand ≡ []
  run_clear old new log run clear = ap (λ t. (unwrap_or t new.engine.nand.told).at_hand) (run_records (view_in held honest failed) old log new run) ∙ ap (λ h. hand_after h log) clear

  -- and are calls of its driver
  pub run_calls : (old new : Device (DriverState (FileState S))) (log : List Operation) → DeviceCalls (view_in held honest failed) old log new → StandsClear held honest failed old
      → Driven held honest failed old.engine.nand new.engine.nand
  run_calls old new log run stands =
      driven held honest failed old.engine.nand new.engine.nand (run_asked (view_in held honest failed) old new log run) stands.is_honest stands.ready (run_clear old new log run stands.clear)

  -- with the same operations
  pub run_driven : (old new : Device (DriverState (FileState S))) (log : List Operation) → DeviceCalls (view_in held honest failed) old log new → StandsClear held honest failed old
      → DriverCalls held honest failed old.engine.nand log new.engine.nand
  run_driven old new log run stands =
      let die = view_in held honest failed in
      let nand = old.engine.nand in
      let calls = run_calls old new log run stands in
      let one : calls.log ≡ log =
      one_gain (die.recorded nand) (die.recorded new.engine.nand) calls.log log refl (tells held honest failed nand new.engine.nand calls.log calls.calls) (run_records die old log new run) in
      subst (λ l. DriverCalls held honest failed nand l new.engine.nand) one calls.calls

  pub store_run : StoreRunLaw held honest failed
  store_run old new log run mid few synced erases way =
      let die = view_in held honest failed in
      let nand = old.engine.nand in
      let stands = synced.stands in
      let both = both_driven held honest failed nand mid new.engine.nand (run_parts die old new log run mid way) stands.is_honest stands.ready (run_clear old new log run stands.clear) in
      let first : List Operation = both.first.log in
      let later : List Operation = both.later.log in
      let one : log ≡ first ++ later = one_gain (die.recorded nand) (die.recorded new.engine.nand) log (first ++ later) refl (run_records die old log new run) both.tells_so in
      let sized : (store_behind held nand).geometry ≡ old.engine.geometry = stands.ready.geometry ∙ stands.disk.device.engine.geometry in
      let adds : AddsOrErases old.engine.geometry.pages (image_on die old) (first ++ later) = subst (AddsOrErases old.engine.geometry.pages (image_on die old)) one (run_adds die old log new run erases) in
      let before : AddsOrErases (store_behind held nand).geometry.pages (store_behind held nand).pages first =
      subst (λ (g : Geometry). AddsOrErases g.pages (store_behind held nand).pages first) (sym sized) (adds_apart old.engine.geometry.pages (image_on die old) first later adds).0 in
      let lost = loses held honest failed nand mid first stands.is_honest stands.images synced.lasted both.first.calls before in
      let whole : MayLose old.engine.geometry (image_on die old) first (store_behind held mid).durable =
      subst (λ g. MayLose g (store_behind held nand).pages first (store_behind held mid).durable) sized lost in
      let all : MayLose old.engine.geometry (image_on die old) log (store_behind held mid).durable = record {
        whole = whole.whole;
        by = subst (λ l. LostBy old.engine.geometry.pages (image_on die old) (image_on die old) l (store_behind held mid).durable) (sym one)
            (lost_first old.engine.geometry.pages (image_on die old) (image_on die old) (store_behind held mid).durable first later whole.by);
      } in
      lost_run_law die old new log (store_behind held mid).durable run few all
