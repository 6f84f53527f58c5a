-- Steps of the flash behind a driver, whose geometry the driver keeps.
use Rattle.std.proofs.Common.{◌≡◌}
use Rattle.page_layout.specs.declared.geometry.Geometry.{Geometry}
use Rattle.page_layout.specs.Flash.{Flash, Operation, Steps}
use Rattle.onfi_cycles.specs.Driver.{seen}
use Rattle.onfi_cycles.proofs.Resets.{seen_is}

pub seen_steps : (g : Geometry) (a b : Flash) (op : Flash → Operation) → a.geometry ≡ g → b.geometry ≡ g → Steps a (op b) b → Steps (seen g a) (op (seen g b)) (seen g b)
seen_steps g a b op same same' step = rw (seen_is g a same, seen_is g b same') step
