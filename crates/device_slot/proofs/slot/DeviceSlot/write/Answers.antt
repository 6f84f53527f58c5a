use Rattle.std.proofs.Common.{refl}
use Rattle.device_slot.proofs.slot.DeviceSlot.write.Goals as goal

pub returns : goal.returns
returns g c = rw (← c.self.view_is) (rw c.in-Some.is (c.write.new.device, refl, c.write.ensures.told))
