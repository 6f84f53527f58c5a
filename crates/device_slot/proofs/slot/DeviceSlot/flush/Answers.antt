use Rattle.std.proofs.Common.{refl}
use Rattle.device_slot.proofs.slot.DeviceSlot.flush.Goals as goal

pub returns : goal.returns
returns g c = rw (← c.self.view_is) (rw c.in-Some.is (c.told_only.new.device, refl, c.told_only.ensures.told))
