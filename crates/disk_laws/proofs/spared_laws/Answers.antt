use Rattle.disk_laws.proofs.SparedLemmas.{all_marked, cut_spares, later_mark, opening_spares, unmarked}
use Rattle.disk_laws.proofs.spared_laws.Goals as goal

pub returns : goal.returns
returns c = record { marked = all_marked; later = later_mark; cut = cut_spares; unmarked = unmarked; opening = opening_spares }
