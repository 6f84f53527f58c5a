use Rattle.part_files.proofs.MeansLemmas.{makes_part, makes_none, publishes, publishes_not, replaces}
use Rattle.part_files.proofs.laws.folder_laws.Goals as goal

pub returns : goal.returns
returns c = record { made = makes_part; none = makes_none; published = publishes; unpublished = publishes_not; replaced = replaces }
