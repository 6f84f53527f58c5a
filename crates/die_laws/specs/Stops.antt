-- Which pages a stop may leave.
use Rattle.std.specs.Prelude.{◌≡◌, None}
use Rattle.page_layout.specs.declared.geometry.Geometry.{Geometry}
use Rattle.page_layout.specs.Page.{Page}
use Rattle.page_layout.specs.Sound.{record_of}
use Rattle.nand_die.specs.declared.fault.Stop.{Stop}
use Rattle.nand_die.specs.Stopping.{IsStop}
use Rattle.nand_die.specs.Laws.{TornTo}

-- NO TORN PAGE IS SOUND of a stop that may be set
abbrev pub UnsoundStopLaw : Type 0
UnsoundStopLaw = (g : Geometry) (stop : Stop) (torn : Page) → IsStop g stop → TornTo g stop torn → record_of torn ≡ None
