-- What holds of a device.
use Rattle.std.specs.Prelude.{◌≡◌, ◌-◌, ◌^◌, true, Some, None}
use Rattle.page_layout.specs.Page.{IsImage}
use Rattle.page_layout.specs.Flash.{Flash}
use Rattle.allocation.specs.State.{free_count}
use Rattle.allocation.specs.View.{state}
use Rattle.image_check.specs.Accepted.{Acceptance, IsAcceptance}
use Rattle.collection.specs.declared.fault.EngineFault.TheVariants.{ReadOnly, SequenceSpent}
use Rattle.collection.specs.Safe.{IsSafe, ram}
use Rattle.collection.specs.Left.{IsCalm}
use Rattle.ftl_device.specs.declared.device.Device.{Device}
use Rattle.ftl_device.specs.Begin.{is_scarce}

-- Whatever its die does: it is read-only just where fewer than five blocks are free, and a fault that doesn't stop it is one that it
-- answers by itself. Where none stands, no translation page is marked, and with no block pinned no more sectors are moved than may wait for their translation pages.
pub record IsDevice {N : Type 0} (flash : N → Flash) (d : Device N) : Type 0 where
  pub engine : IsSafe flash d.engine
  pub read_only : d.read_only ≡ is_scarce (free_count (state d.engine.blocks))
  pub refuses : d.engine.fault ≡ Some ReadOnly → d.read_only ≡ true
  pub spent : d.engine.fault ≡ Some SequenceSpent → d.engine.next ≡ 2 ^ 64 - 1
  pub calm : d.engine.fault ≡ None → IsCalm (ram d.engine)

-- the certificate was accepted for the image on this die
pub record IsAcceptedFor (s : Flash) (a : Acceptance) : Type 0 where
  pub whole : IsImage s.geometry s.image
  pub accepted : IsAcceptance s.geometry a.claim.capacity s.image a.claim a
