use Rattle.std.proofs.Common.{◌∙◌, min, sym, ap}
use Rattle.std.specs.Prelude.{◌||◌, nat_lt, not}
use Rattle.lab_shapes.specs.Ordered.{ordered, sample_first, shows_more}
use Rattle.lab_shapes.proofs.looking.is_likely.Goals as goal

pub returns-then-is_none-clause-likely : goal.returns-then-is_none-clause-likely
returns-then-is_none-clause-likely g c = λ all told size.
    let geo = c.args.geometry.now in
    ap (λ b. not b || shows_more geo (ordered geo c.args.arrangement.now all)) (sym c.if-is_none.ensures)

pub returns-clause-likely : goal.returns-clause-likely
returns-clause-likely g c = λ all told size.
    let geo = c.args.geometry.now in
    let bytes = ordered geo c.args.arrangement.now all in
    let places = c.min-places.ensures ∙ ap (λ k. min k 64) c.rows.ensures in
    let first = c.in_ok-first.ensures.sample all told size ∙ ap (sample_first geo bytes) places in
    ap (λ x. nat_lt x.unsound x.sound) first ∙ ap (λ b. not b || shows_more geo bytes) (sym c.if-is_none.ensures)
