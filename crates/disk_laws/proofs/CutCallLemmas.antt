-- What is found of a disk where a fault of its die ended a call of its device, and of its store.
use Rattle.std.proofs.Common.{◌≡◌, inl, inr, ℕ, Bool, true, List, [], ◌∷◌, ◌++◌, refl, sym, ap, subst, ◌∙◌, append-nil}
use Rattle.std.proofs.lemmas.List.{append_assoc}
use Rattle.page_layout.specs.View.{View}
use Rattle.page_layout.specs.DieCalls.{AsksOnly}
use Rattle.page_layout.specs.declared.geometry.Geometry.{Geometry}
use Rattle.page_layout.specs.Page.{Image, IsImage}
use Rattle.page_layout.specs.Flash.{Operation}
use Rattle.onfi_cycles.specs.Driver.{DriverState}
use Rattle.promises.specs.Step.{Command, Flush, Turn}
use Rattle.promises.specs.Stop.{LeftBy, MayLeave}
use Rattle.promises.proofs.CutLemmas.{cut_looked}
use Rattle.promises.proofs.StopLemmas.{stops_join}
use Rattle.collection.specs.Stops.{room_of}
use Rattle.collection.specs.Safe.{ram}
use Rattle.file_die.specs.Die.{FileState}
use Rattle.file_die.specs.Store.{AreImages, Held}
use Rattle.ftl_device.specs.declared.device.Device.{Device}
use Rattle.ftl_device.specs.Changes.{Changes, IsCallCut, Upkeeps}
use Rattle.ftl_device.specs.Stopped.{SurvivesCut}
use Rattle.ftl_device.proofs.MountableLemmas.{restart_law}
use Rattle.disk_server.specs.Opened.{view_in}
use Rattle.disk_server.proofs.Holding.{parts}
use Rattle.disk_laws.specs.Cut.{CallsToFault, CutCallLaw, CutCallLeavesLaw, CutInLast, DiskFaultLaw, EndsByFault, FaultIsCutLaw, Faults, StoreCutLaw, StoreCutLosesLaw, ToldCutLaw}
use Rattle.disk_laws.specs.Driven.{AddsOrErases, DriverCalls, store_behind}
use Rattle.disk_laws.specs.Lost.{MayLose}
use Rattle.disk_laws.specs.Runs.{DeviceCalls, NoCall, OneMore, image_on}
use Rattle.disk_laws.proofs.DrivenLemmas.{calls_then, came, loses, stop_loses, stops}
use Rattle.disk_laws.proofs.HandLemmas.{to_fault}
use Rattle.disk_laws.proofs.RunLemmas.{cut_leaves_law, killed_run, run_image, run_sized}
use Rattle.disk_laws.proofs.StoreRunLemmas.{adds_join, run_adds, run_calls, run_clear, run_driven}

-- ---- one call that a fault ended

module _ {N : Type 0} (die : View N) where
  ended : (old new : Device N) (command : Command) → Faults die command old new → EndsByFault die command old new → IsCallCut die command old new
  ended old new command f (inl (n, changes)) =
      let its = parts die.honest old f.held in
      changes.cut its.0 (f.disk.well f.held) its.1 refl
  ended old new command f (inr (inl upkeeps)) =
      let its = parts die.honest old f.held in
      upkeeps.cut its.0 (f.disk.well f.held) its.1 refl
  ended old new command f (inr (inr (sector, is, ends, asked))) =
      cut_looked (die.flash old.engine.nand) (die.recorded old.engine.nand) (die.recorded new.engine.nand) (SurvivesCut old.engine.geometry (room_of (ram old.engine)) command (image_on die old)) ends (record {
        array = inl refl;
        mountable = λ few. restart_law (ram old.engine) (image_on die old) f.disk.device.engine.memory (f.disk.well f.held).truth few;
      })

  pub fault_asked : (old new : Device N) (command : Command) → EndsByFault die command old new → AsksOnly die.called old.engine.nand new.engine.nand
  fault_asked old new command (inl (n, changes)) = changes.stays.asked
  fault_asked old new command (inr (inl upkeeps)) = upkeeps.stays.asked
  fault_asked old new command (inr (inr (sector, is, ends, asked))) = asked

  pub fault_is_cut : FaultIsCutLaw die
  fault_is_cut old new command f = ended old new command f f.ends

  pub disk_fault : DiskFaultLaw die
  disk_fault old new result is held = (
    λ n command asks e. record { disk = is; held = held; ends = inl (n, subst (λ r. Changes die n command old r new) e asks.changes) },
    λ asks e. record { disk = is; held = held; ends = inr (inl (subst (λ r. Upkeeps die Flush old r new) e asks.upkeeps)) },
    λ asks e. record { disk = is; held = held; ends = inr (inl (subst (λ r. Upkeeps die Turn old r new) e asks.upkeeps)) },
  )

  -- what it may leave, behind calls of a device
  pub in_last : (old last new : Device N) (command : Command) (found : Image) → last.engine.geometry ≡ old.engine.geometry → room_of (ram last.engine) ≡ room_of (ram old.engine) → Faults die command last new
      → (cut : IsCallCut die command last new) → MayLeave old.engine.geometry (image_on die last) (cut.log ++ cut.at_hand) found → CutInLast die old last command (cut.log ++ cut.at_hand) found
  in_last old last new command found sized room f cut m =
      let here : (die.flash last.engine.nand).geometry ≡ old.engine.geometry = f.disk.device.engine.geometry ∙ sized in
      record {
        cut = m;
        survives = subst (λ g. SurvivesCut g (room_of (ram old.engine)) command (image_on die last) found) sized
            (subst (λ c. SurvivesCut last.engine.geometry c command (image_on die last) found) room
            (cut.left found (subst (λ g. MayLeave g (image_on die last) (cut.log ++ cut.at_hand) found) (sym here) m)));
      }

  pub cut_call : CutCallLaw die
  cut_call old last new log command found NoCall f cut m = inr (in_last old last new command found refl refl f cut m)
  cut_call old last new log command found (OneMore before mid more end run does) f cut m =
      let pages : ℕ = old.engine.geometry.pages in
      let so_far : DeviceCalls die old (before ++ more) last = OneMore before mid more last run does in
      elim ((stops_join pages (image_on die old) found (before ++ more) (cut.log ++ cut.at_hand)).0 m.by) [
        | inl here ↦ elim (killed_run die old last (before ++ more) found so_far (record { whole = m.whole; by = here })) [
          | inl none ↦ absurd none.0
          | inr cut_in ↦ inl cut_in
        ]
        | inr behind ↦
            let sized = run_sized die old (before ++ more) last so_far in
            inr (in_last old last new command found sized.0 sized.1 f cut (record {
              whole = m.whole;
              by = subst (λ i. LeftBy pages i (cut.log ++ cut.at_hand) found) (run_image die old (before ++ more) last so_far) behind;
            }))
      ]

  pub cut_call_leaves : CutCallLeavesLaw die
  cut_call_leaves old last log more command found run (inl c) =
      let m = cut_leaves_law die old last log found run c in
      record { whole = m.whole; by = (stops_join old.engine.geometry.pages (image_on die old) found log more).1 (inl m.by) }
  cut_call_leaves old last log more command found run (inr c) = record {
    whole = c.cut.whole;
    by = (stops_join old.engine.geometry.pages (image_on die old) found log more).1
        (inr (subst (λ i. LeftBy old.engine.geometry.pages i more found) (sym (run_image die old log last run)) c.cut.by));
  }

-- ---- over a store

module _ {S : Type 0} (held : S → Held) (honest : S → Bool) (failed : S → ℕ) where
  pub told_cut : ToldCutLaw held honest failed
  told_cut old new command ready clear f cut =
      let die = view_in held honest failed in
      to_fault held honest failed old.engine.nand new.engine.nand cut.log cut.at_hand (fault_asked die old new command f.ends) (parts die.honest old f.held).0 ready clear cut.one cut.ends

  -- calls before them
  calls_before : (a b new : DriverState (FileState S)) (log more hand : List Operation) → DriverCalls held honest failed a log b → CallsToFault held honest failed b more hand new
      → CallsToFault held honest failed a (log ++ more) hand new
  calls_before a b new log more hand first to = record {
    mid = to.mid;
    behind = to.behind;
    calls = calls_then held honest failed a b to.mid log more first to.calls;
    refuses = to.refuses;
    reads = to.reads;
    same = to.same;
  }

  -- what they leave of the pages
  fault_leaves : (old new : DriverState (FileState S)) (log hand : List Operation) → honest old.bus.store ≡ true → AreImages (store_behind held old) → CallsToFault held honest failed old log hand new
      → MayLeave (store_behind held old).geometry (store_behind held old).pages (log ++ hand) (store_behind held new).pages
  fault_leaves old new log [] h w to =
      let g : Geometry = (store_behind held old).geometry in
      let pages : Image = (store_behind held old).pages in
      let so_far = came held honest failed old to.mid log to.calls h w in
      let same : store_behind held new ≡ store_behind held to.mid = to.same ∙ ap (store_behind held) to.refuses in
      subst (λ (s : Held). MayLeave g pages (log ++ []) s.pages) (sym same) (record {
        whole = subst (λ x. IsImage x (store_behind held to.mid).pages) so_far.sized so_far.whole.pages_whole;
        by = (stops_join g.pages pages (store_behind held to.mid).pages log []).1 (inr so_far.image);
      })
  fault_leaves old new log (op ∷ ops) h w to =
      subst (λ (s : Held). MayLeave (store_behind held old).geometry (store_behind held old).pages (log ++ op ∷ ops) s.pages) (sym to.same)
      (stops held honest failed old to.mid to.behind log (op ∷ ops) h w to.calls to.refuses)

  -- and of what lasts
  fault_loses : (old new : DriverState (FileState S)) (log hand : List Operation) → honest old.bus.store ≡ true → AreImages (store_behind held old) → (store_behind held old).durable ≡ (store_behind held old).pages
      → CallsToFault held honest failed old log hand new → AddsOrErases (store_behind held old).geometry.pages (store_behind held old).pages (log ++ hand)
      → MayLose (store_behind held old).geometry (store_behind held old).pages (log ++ hand) (store_behind held new).durable
  fault_loses old new log [] h w lasted to adds =
      let g : Geometry = (store_behind held old).geometry in
      let pages : Image = (store_behind held old).pages in
      let same : store_behind held new ≡ store_behind held to.mid = to.same ∙ ap (store_behind held) to.refuses in
      let lost = loses held honest failed old to.mid log h w lasted to.calls (subst (AddsOrErases g.pages pages) (append-nil log) adds) in
      subst (λ (s : Held). MayLose g pages (log ++ []) s.durable) (sym same) (subst (λ l. MayLose g pages l (store_behind held to.mid).durable) (sym (append-nil log)) lost)
  fault_loses old new log (op ∷ ops) h w lasted to adds =
      subst (λ (s : Held). MayLose (store_behind held old).geometry (store_behind held old).pages (log ++ op ∷ ops) s.durable) (sym to.same)
      (stop_loses held honest failed old to.mid to.behind log (op ∷ ops) h w lasted to.calls to.refuses adds)

  pub store_cut : StoreCutLaw held honest failed
  store_cut old last new log command run stands f cut =
      let die = view_in held honest failed in
      let found : Image = (store_behind held new.engine.nand).pages in
      let there = came held honest failed old.engine.nand last.engine.nand log (run_driven held honest failed old last log run stands) stands.is_honest stands.images in
      let geometry : (store_behind held last.engine.nand).geometry ≡ old.engine.geometry = there.sized ∙ (stands.ready.geometry ∙ stands.disk.device.engine.geometry) in
      let to = told_cut last new command (run_calls held honest failed old last log run stands).stands (run_clear held honest failed old last log run stands.clear) f cut in
      let left : MayLeave old.engine.geometry (image_on die last) (cut.log ++ cut.at_hand) found =
      subst (λ g. MayLeave g (image_on die last) (cut.log ++ cut.at_hand) found) geometry (fault_leaves last.engine.nand new.engine.nand cut.log cut.at_hand there.still there.whole to) in
      let sized = run_sized die old log last run in
      in_last die old last new command found sized.0 sized.1 f cut left

  pub store_cut_loses : StoreCutLosesLaw held honest failed
  store_cut_loses old last new log command run synced erases f cut adds =
      let die = view_in held honest failed in
      let nand = old.engine.nand in
      let stands = synced.stands in
      let pages : ℕ = old.engine.geometry.pages in
      let found : Image = (store_behind held new.engine.nand).durable in
      let sized : (store_behind held nand).geometry ≡ old.engine.geometry = stands.ready.geometry ∙ stands.disk.device.engine.geometry in
      let to = told_cut last new command (run_calls held honest failed old last log run stands).stands (run_clear held honest failed old last log run stands.clear) f cut in
      let all : AddsOrErases pages (image_on die old) (log ++ (cut.log ++ cut.at_hand)) =
      adds_join pages (image_on die old) log (cut.log ++ cut.at_hand) (run_adds die old log last run erases)
      (subst (λ i. AddsOrErases pages i (cut.log ++ cut.at_hand)) (sym (run_image die old log last run)) adds) in
      let same : (log ++ cut.log) ++ cut.at_hand ≡ log ++ (cut.log ++ cut.at_hand) = append_assoc log cut.log cut.at_hand in
      let here : AddsOrErases (store_behind held nand).geometry.pages (store_behind held nand).pages ((log ++ cut.log) ++ cut.at_hand) =
      subst (λ (g : Geometry). AddsOrErases g.pages (store_behind held nand).pages ((log ++ cut.log) ++ cut.at_hand)) (sym sized) (subst (AddsOrErases pages (image_on die old)) (sym same) all) in
      let lost = fault_loses nand new.engine.nand (log ++ cut.log) cut.at_hand stands.is_honest stands.images synced.lasted
      (calls_before nand last.engine.nand new.engine.nand log cut.log cut.at_hand (run_driven held honest failed old last log run stands) to) here in
      subst (λ l. MayLose old.engine.geometry (image_on die old) l found) same (subst (λ g. MayLose g (store_behind held nand).pages ((log ++ cut.log) ++ cut.at_hand) found) sized lost)
