use Rattle.lab_shapes.proofs.OrderLemmas.{ordered_page, ordered_size}
use Rattle.lab_shapes.proofs.laws.ordered_law.Goals as goal

pub returns : goal.returns
returns c = λ g a all. record { size = ordered_size g a all; pages = ordered_page g a all }
