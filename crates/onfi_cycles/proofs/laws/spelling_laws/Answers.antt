use Rattle.onfi_cycles.proofs.Operations.{program_spelling, erase_spelling, read_spelling}
use Rattle.onfi_cycles.proofs.laws.spelling_laws.Goals as goal

pub returns : goal.returns
returns c = record { program = program_spelling; erase = erase_spelling; read = read_spelling }
