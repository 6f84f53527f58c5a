-- The fields of a chip, of which a cycle changed the bus state, and the register.
use Rattle.std.proofs.Common.{◌≡◌, List, ℕ, length}
use Rattle.page_layout.specs.Geometry.{page_bytes}
use Rattle.nand_die.specs.declared.bus_state.BusState.{BusState}
use Rattle.nand_die.specs.declared.chip.Chip.TheInside.{Inside}
use Rattle.nand_die.specs.BusState.{IsWithin}
use Rattle.nand_die.specs.ChipValue.{AreFields}

pub loaded_fits : (i : Inside) (register : List ℕ) (state : BusState) → AreFields i.geometry i.bytes.items i.register.items i.next_pages.items i.bus_state i.faults.items
    → length register ≡ page_bytes i.geometry → IsWithin i.geometry state → AreFields i.geometry i.bytes.items register i.next_pages.items state i.faults.items
loaded_fits i register state fit whole within = record { raw = fit.raw; register_whole = whole; blocks = fit.blocks; within = within; left = fit.left }

pub moved_fits : (i : Inside) (state : BusState) → AreFields i.geometry i.bytes.items i.register.items i.next_pages.items i.bus_state i.faults.items → IsWithin i.geometry state
    → AreFields i.geometry i.bytes.items i.register.items i.next_pages.items state i.faults.items
moved_fits i state fit within = loaded_fits i i.register.items state fit fit.register_whole within
