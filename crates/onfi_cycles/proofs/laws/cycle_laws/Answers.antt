use Rattle.onfi_cycles.proofs.TurnLaws.{reset_law, no_reset_law, unknown_law, taken_law, refused_law, given_up_law}
use Rattle.onfi_cycles.proofs.laws.cycle_laws.Goals as goal

pub returns : goal.returns
returns c = record { reset = reset_law; no_reset = no_reset_law; unknown = unknown_law; taken = taken_law; refused = refused_law; given_up = given_up_law }
