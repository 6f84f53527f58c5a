-- What comes out of a die through another bus.
use Rattle.std.proofs.Common.{◌∙◌, ap}
use Rattle.nand_die.specs.Buses.{garbled}
use Rattle.nand_die.specs.Laws.{GarbledDieLaw, FusedDieLaw}

pub garbled_die_law : GarbledDieLaw
garbled_die_law old new count out call = call.2 ∙ ap (garbled old) call.1.puts_out.gives

pub fused_die_law : FusedDieLaw
fused_die_law old new count out whole call = (call.passes whole).puts_out.gives
