-- A device as it was started knows its image.
use Rattle.std.proofs.Common.{◌≡◌, ℕ, true, List, None, sym, ap, ◌∙◌, subst}
use Rattle.page_layout.specs.View.{View}
use Rattle.page_layout.specs.declared.geometry.Geometry.{Geometry}
use Rattle.page_layout.specs.Page.{Image}
use Rattle.certificate.specs.Claim.{Claim}
use Rattle.image_check.specs.Accepted.{Acceptance}
use Rattle.collection.specs.State.{Ram}
use Rattle.collection.specs.Safe.{ram, image_in}
use Rattle.collection.specs.Truth.{IsTrue}
use Rattle.ftl_device.specs.declared.device.Device.{Device}
use Rattle.ftl_device.specs.Begin.{begun_ram}
use Rattle.ftl_device.specs.Device.{IsDevice, IsAcceptedFor}
use Rattle.ftl_device.specs.Calls.{stop_of, PinIsTrue}
use Rattle.disk_server.specs.Disk.{IsDisk}
use Rattle.disk_server.proofs.Holding.{parts}

-- nothing is pinned yet
begun_pinned : (r : Ram) (g : Geometry) (share : ℕ) (c : Claim) (stale : List ℕ) (image : Image) → r ≡ begun_ram g share c stale → PinIsTrue r.fault r image
begun_pinned r g share c stale image is =
    let P : Ram → Type 0 = λ q. PinIsTrue q.fault q image in
    subst P (sym is) ((λ p at. (let no : ⊥ = cc in absurd no)), (λ p at. (let no : ⊥ = cc in absurd no)))

pub started_disk : {N : Type 0} (view : View N) (d : Device N) (nand : N) (g : Geometry) (share : ℕ) (a : Acceptance) → IsDevice view.flash d → d.engine.nand ≡ nand
    → ram d.engine ≡ begun_ram g share a.claim a.stale
    → (view.honest nand ≡ true → IsAcceptedFor (view.flash nand) a → IsTrue None (ram d.engine) (image_in view.flash d.engine))
    → (view.honest nand ≡ true → IsAcceptedFor (view.flash nand) a) → IsDisk view d
started_disk view d nand g share a device is begun truth accepted = record {
  device = device;
  well = λ h.
      let its : view.honest nand ≡ true = sym (ap view.honest is) ∙ (parts view.honest d h).0 in
      record {
        going = ap (λ (r : Ram). stop_of r.fault) begun;
        truth = truth its (accepted its);
        pinned = begun_pinned (ram d.engine) g share a.claim a.stale (image_in view.flash d.engine) begun;
      };
}
