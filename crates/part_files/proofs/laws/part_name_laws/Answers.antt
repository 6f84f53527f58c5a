use Rattle.part_files.proofs.NameLemmas.{part_apart, part_once, path_once}
use Rattle.part_files.proofs.laws.part_name_laws.Goals as goal

pub returns : goal.returns
returns c = record { apart = part_apart; once = part_once; path = path_once }
