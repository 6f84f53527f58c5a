-- A DEVICE AS POWER BRINGS IT.
use Rattle.std.specs.Prelude.{◌≡◌, true, None}
use Rattle.page_layout.specs.View.{View}
use Rattle.allocation.specs.View.{state}
use Rattle.promises.specs.Legal.{accounts_of}
use Rattle.image_check.specs.Accepted.{Acceptance}
use Rattle.collection.specs.Safe.{ram, image_in}
use Rattle.collection.specs.Truth.{IsTrue}
use Rattle.collection.specs.Log.{IsAccounted}
use Rattle.ftl_device.specs.declared.device.Device.{Device}
use Rattle.ftl_device.specs.Begin.{begun_ram, is_bad_in, free_in, is_scarce}
use Rattle.ftl_device.specs.Device.{IsDevice, IsAcceptedFor}
use Rattle.ftl_device.specs.Calls.{stop_of, IsWell}

-- WHAT IS KEPT OF A DEVICE BETWEEN CALLS: whatever its die does it is one, and over an honest die it is well unless it was stopped
pub record IsDeviceKept {N : Type 0} (view : View N) (d : Device N) : Type 0 where
  pub device : IsDevice view.flash d
  pub well : view.honest d.engine.nand ≡ true → stop_of d.engine.fault ≡ None → IsWell view.flash d

-- `Device::start` began it over the die that it has, from a certificate and its stale sectors, which of an honest die were accepted for its image: so it knows that
-- image, is read-only just where fewer than five blocks are free in it, and its counts are those of the image
pub record IsDeviceBegun {N : Type 0} (view : View N) (d : Device N) : Type 0 where
  pub accepted : Acceptance
  pub kept : IsDeviceKept view d
  pub begun : ram d.engine ≡ begun_ram (view.flash d.engine.nand).geometry 0 accepted.claim accepted.stale
  pub its : view.honest d.engine.nand ≡ true → IsAcceptedFor (view.flash d.engine.nand) accepted
  pub truth : view.honest d.engine.nand ≡ true → IsTrue None (ram d.engine) (image_in view.flash d.engine)
  pub free : view.honest d.engine.nand ≡ true → d.read_only ≡ is_scarce (free_in (view.flash d.engine.nand).geometry accepted.claim (view.flash d.engine.nand).image)
  pub accounts : view.honest d.engine.nand ≡ true → IsAccounted (accounts_of (view.flash d.engine.nand).geometry (view.flash d.engine.nand).image (is_bad_in accepted.claim)) (state d.engine.blocks)
