use Rattle.std.proofs.Common.{◌+◌, List, arith, sym, subst}
use Rattle.std.proofs.lemmas.Option.{slice_get-get_or}
use Rattle.certificate.specs.declared.block_state.BlockState.{BlockState}
use Rattle.image_check.proofs.StateLemmas.{AreStatesTo, row_at, wear_at, top_for, states_start, states_more, states_are, state_made, states_fit}
use Rattle.image_check.proofs.states.block_states.Goals as goal

pub loop-block-init : goal.loop-block-init
loop-block-init c = record { made = subst (λ xs. AreStatesTo c.args.table.now c.args.looks.now c.args.counts.now 0 xs) (sym {A = List BlockState} c.requires.empty) (states_start c.args.table.now c.args.looks.now c.args.counts.now); room = omega arith }

pub loop-block-preserved : goal.loop-block-preserved
loop-block-preserved c =
    let n = c.loop-block.block in
    let rows = c.args.table.now in
    let looks = c.args.looks.now in
    let made = c.loop-block.invariant.made in
    let row = row_at rows n c.class-class.result (omega arith) c.class-class.ensures in
    let wear = wear_at rows n row.row c.wear-wear.result row.at c.wear-wear.ensures.is in
    let at = slice_get-get_or looks n _ (omega arith) in
    let top = top_for rows looks _ _ _ c.of-top.result _ c.tops_of-tops.ensures.of_data c.tops_of-tops.ensures.of_meta c.of-top.ensures.of_data c.of-top.ensures.of_meta in
    record {
      made = subst (λ xs. AreStatesTo rows looks c.args.counts.now (n + 1) xs) (sym {A = List BlockState} c.push_reserved.ensures.items)
          (states_more rows looks c.args.counts.now n c.loop-block.states.items row.row _ c.of-top.result c.state_of.result made row.at at top (state_made c.state_of.result c.class-class.result c.wear-wear.result row.row _ _ _ c.state_of.ensures row.class_is wear));
      room = omega arith;
    }

pub push_reserved-requires : goal.push_reserved-requires
push_reserved-requires c = let size = c.loop-block.invariant.made.size in omega arith

pub returns-clause-states : goal.returns-clause-states
returns-clause-states c = λ g image numbers looked table lives.
    states_are g image c.args.table.now c.args.looks.now c.args.counts.now c.loop-block.block c.loop-block.states.items (omega arith) c.requires.size numbers table looked lives c.loop-block.invariant.made

pub returns-clause-size : goal.returns-clause-size
returns-clause-size c = let size = c.loop-block.invariant.made.size in omega arith

pub returns-clause-fits : goal.returns-clause-fits
returns-clause-fits c = states_fit c.args.table.now c.args.looks.now c.args.counts.now c.loop-block.block c.loop-block.states.items c.loop-block.invariant.made
