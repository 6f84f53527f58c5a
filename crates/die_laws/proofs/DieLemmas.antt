-- What a blown fuse answers, and which pages a stop leaves, each by the fields of its definition.
use Rattle.std.proofs.Common.{◌≡◌, None, ap, ◌∙◌}
use Rattle.page_layout.specs.Page.{Page}
use Rattle.page_layout.specs.Sound.{record_of}
use Rattle.nand_die.specs.DieValue.{DieValue}
use Rattle.nand_die.specs.declared.fault.Stop.TheVariants.{Before, After, Torn}
use Rattle.nand_die.specs.Buses.{FuseState}
use Rattle.die_laws.specs.Buses.{BlownLaw}
use Rattle.die_laws.specs.Stops.{UnsoundStopLaw}

pub blown : BlownLaw
blown old new cycle answer out is call = (call.fails is, ap (λ (f : FuseState DieValue). f.bus) (call.blown is))

pub unsound_stop : UnsoundStopLaw
unsound_stop g Before torn may leaves = absurd leaves
unsound_stop g After torn may leaves = absurd leaves
unsound_stop g (Torn bytes) torn may leaves = ap (λ (p : Page). record_of p) leaves ∙ may.1
