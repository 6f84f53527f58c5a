use Rattle.std.proofs.Common.{◌<◌, sym, subst, arith}
use Rattle.lab_dump.specs.PageBytes.{page_from_bytes, bits_of}
use Rattle.lab_mend.proofs.BitLemmas.{count_page}
use Rattle.lab_mend.proofs.PairLemmas.{two_makes}
use Rattle.lab_mend.proofs.mending.turn_pair.Goals as goal

pub turn_both-requires-clause-low_in : goal.turn_both-requires-clause-low_in
turn_both-requires-clause-low_in g c =
    let size = c.args.geometry.now.data_bytes in
    let bytes = c.args.bytes.now in
    let makes = two_makes (page_from_bytes size bytes) c.in-Two.pair c.try_pairs-turn.result c.try_pairs-turn.ensures.turn c.in-Two.is in
    let high : c.in-Two.pair.high < bits_of bytes = subst (λ n. c.in-Two.pair.high < n) (count_page size bytes) makes.within in
    let up = makes.rising in
    subst (λ bs. c.in-Two.pair.low < bits_of bs) (sym c.try_pairs-turn.ensures.same) (omega arith)

pub turn_both-requires-clause-high_in : goal.turn_both-requires-clause-high_in
turn_both-requires-clause-high_in g c =
    let size = c.args.geometry.now.data_bytes in
    let bytes = c.args.bytes.now in
    let makes = two_makes (page_from_bytes size bytes) c.in-Two.pair c.try_pairs-turn.result c.try_pairs-turn.ensures.turn c.in-Two.is in
    subst (λ bs. c.in-Two.pair.high < bits_of bs) (sym c.try_pairs-turn.ensures.same) (subst (λ n. c.in-Two.pair.high < n) (count_page size bytes) makes.within)
