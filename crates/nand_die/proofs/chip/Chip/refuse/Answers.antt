use Rattle.std.proofs.Common.{ap}
use Rattle.onfi_cycles.specs.Cycles.{to_phase}
use Rattle.nand_die.specs.contracts.chip.Chip.{the_view}
use Rattle.nand_die.specs.ChipValue.{ChipValue, in_state}
use Rattle.nand_die.proofs.ActLemmas.{acts_refuses, fields_whole}
use Rattle.nand_die.proofs.chip.Chip.refuse.Goals as goal

pub returns : goal.returns
returns c =
    let i = c.self.inside in
    let d : ChipValue = the_view i in
    rw (← c.self.view_is) (acts_refuses _ d _ c.args.fault c.requires (ap (λ p. in_state (to_phase p d.state) d) (c.given_up-self-inside.ensures.phase i.register.items)) (fields_whole i c.self.invariant))
