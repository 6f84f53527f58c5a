use Rattle.std.proofs.Common.{refl}
use Rattle.device_slot.proofs.slot.DeviceSlot.read.Goals as goal

pub returns : goal.returns
returns g c = rw (← c.self.view_is) (rw c.in-Some.is (c.read.new.device, refl, c.read.ensures.told))
