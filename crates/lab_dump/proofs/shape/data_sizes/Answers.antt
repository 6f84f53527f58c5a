use Rattle.std.proofs.Common.{refl}
use Rattle.lab_dump.specs.Shape.{data_sizes}
use Rattle.lab_dump.proofs.ShapeLemmas.{all_sizes}
use Rattle.lab_dump.proofs.shape.data_sizes.Goals as goal

pub returns-clause-is : goal.returns-clause-is
unfolding data_sizes
returns-clause-is c = refl

pub returns-clause-sizes : goal.returns-clause-sizes
unfolding data_sizes
returns-clause-sizes c = all_sizes
