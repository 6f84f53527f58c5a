-- What a disk is after a loss of power and an opening.
use Rattle.std.proofs.Common.{◌≡◌, inl, inr, ℕ, ◌+◌, ◌≤◌, true, List, refl, sym, subst, ◌∙◌}
use Rattle.std.specs.Prelude.{length}
use Rattle.page_layout.specs.View.{View}
use Rattle.page_layout.specs.declared.geometry.Geometry.{Geometry}
use Rattle.page_layout.specs.Page.{Image}
use Rattle.page_layout.specs.Array.{sector_of, HasOneArray}
use Rattle.page_layout.specs.Flash.{Operation}
use Rattle.image_check.specs.Torn.{StandsFor}
use Rattle.file_die.specs.Store.{Held, AreImages}
use Rattle.crash_recovery.specs.Torn.{IsDeadRow}
use Rattle.crash_recovery.specs.Taken.{RecoversSome, lasting}
use Rattle.crash_recovery.proofs.TakenLemmas.{dead_spare}
use Rattle.collection.specs.Stops.{room_of}
use Rattle.collection.specs.Safe.{ram}
use Rattle.ftl_device.specs.declared.device.Device.{Device}
use Rattle.disk_server.specs.Disk.{IsDisk, holds}
use Rattle.disk_laws.specs.Lost.{MayLose}
use Rattle.disk_laws.specs.Runs.{DeviceCalls, HasOnTheWay, IsFoundAfterLoss, NoCall, OneMore, image_on}
use Rattle.disk_laws.specs.Spared.{CutsSpare, IsMarkedBehind, LostOpenedLaw}
use Rattle.disk_laws.specs.StoreRuns.{ErasesPass}
use Rattle.ftl_device.proofs.MountableLemmas.{restart_law}
use Rattle.disk_laws.proofs.GrowLemmas.{Stands, found_lost, since_begin}
use Rattle.disk_laws.proofs.LostCutLemmas.{lost_cut}
use Rattle.disk_laws.proofs.RunLemmas.{lost_run_law, same_sector}
use Rattle.disk_laws.proofs.SparedLemmas.{one_taken, once_some, spared_some}
use Rattle.disk_laws.proofs.SparedRuns.{spare_found}

-- pages that stand for those that were found are as these
found_for : {N : Type 0} (die : View N) (old : Device N) (log : List Operation) (new : Device N) (run : DeviceCalls die old log new) (found left : Image) → StandsFor old.engine.geometry found left
    → HasOneArray old.engine.geometry left → IsFoundAfterLoss die old log new run found → IsFoundAfterLoss die old log new run left
found_for die old log new run found left stands one f = record {
  one = one;
  mounts = λ capacity least most few. stands.mountable capacity (f.mounts capacity least most (subst (λ l. length l ≤ capacity) stands.stale few));
  sectors = λ n within. subst (HasOnTheWay die old log new run n) (sym (same_sector old.engine.geometry left found n within stands.array)) (f.sectors n within);
}

module _ {N : Type 0} (die : View N) (old : Device N) (few : room_of (ram old.engine) ≤ 65536) (is : IsDisk die old) (held : holds die.honest old ≡ true) where
  abbrev g : Geometry
  g = old.engine.geometry

  abbrev most : ℕ
  most = room_of (ram old.engine)

  -- where no call was made since, too
  found_after : (log : List Operation) (new : Device N) (run : DeviceCalls die old log new) (found : Image) → MayLose g (image_on die old) log found → IsFoundAfterLoss die old log new run found
  found_after log new NoCall found m =
      let truth = (is.well held).truth in
      let so : ℕ → List ℕ → Type 0 = λ n bytes. bytes ≡ sector_of g (image_on die old) n in
      let stands : Stands g most so (image_on die old) = record { mounts = restart_law (ram old.engine) (image_on die old) is.device.engine.memory truth few; sectors = λ n within. refl } in
      let f = found_lost g most so (image_on die old) (image_on die old) found truth.whole stands (since_begin g most so (image_on die old) stands) m.by in
      record { one = f.one; mounts = f.mounts; sectors = f.sectors }
  found_after log new (OneMore before mid more last run does) found m = elim (lost_run_law die old new log found (OneMore before mid more last run does) few m) [
    | inl none ↦ absurd none.0
    | inr f ↦ f
  ]

  module _ (mark : ℕ) (behind : (block : ℕ) → IsMarkedBehind g (image_on die old) mark block) (log : List Operation) (new : Device N) (run : DeviceCalls die old log new) (passes : ErasesPass log)
      (s t : Held) (w : AreImages s) (sized : s.geometry ≡ g) (m : MayLose g (image_on die old) log s.pages) where
    before : IsFoundAfterLoss die old log new run s.pages
    before = found_after log new run s.pages m

    one : HasOneArray s.geometry s.pages
    one = subst (λ h. HasOneArray h s.pages) (sym sized) before.one

    left_for : StandsFor s.geometry s.pages t.pages → HasOneArray s.geometry t.pages → IsFoundAfterLoss die old log new run t.pages
    left_for stands its = found_for die old log new run s.pages t.pages (subst (λ h. StandsFor h s.pages t.pages) sized stands) (subst (λ h. HasOneArray h t.pages) sized its) before

    pub lost_some : RecoversSome mark s t → IsFoundAfterLoss die old log new run t.pages
    lost_some (inl takes) = elim (lost_cut die old new log run s t mark behind passes w sized m takes) [
      | inl lost ↦ found_after log new run t.pages lost
      | inr killed ↦
          let cuts : CutsSpare g s.pages mark = spare_found die old mark few log new s.pages run (λ block. inl (behind block)) killed in
          let all = spared_some mark s t w one (subst (λ h. CutsSpare h s.pages mark) (sym sized) cuts) (inl takes) in
          left_for all.stands all.one
    ]
    lost_some (inr (inl syncs)) = subst (λ i. IsFoundAfterLoss die old log new run i) (sym syncs.same) before
    lost_some (inr (inr takes)) =
        let all : AreImages (lasting s) = record { pages_whole = w.pages_whole; durable_whole = w.pages_whole } in
        left_for (dead_spare s t w one takes).0 (one_taken (IsDeadRow s.geometry s.pages) (lasting s) t all takes one)

pub lost_opened : {N : Type 0} (die : View N) → LostOpenedLaw die
lost_opened die old new log run s t mark few is held behind passes sized m once =
    lost_some die old few is held mark behind log new run passes once.opened t once.images (once.opened_as ∙ sized)
    (subst (MayLose old.engine.geometry (image_on die old) log) (sym once.pages) m) (once_some mark s t once)
