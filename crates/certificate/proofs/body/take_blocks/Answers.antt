use Rattle.std.proofs.Common.{◌<◌, ◌++◌, ◌∷◌, [], List, length, ap, sym, ◌∙◌, append_assoc, arith}
use Rattle.std.proofs.lemmas.List.{append-nil}
use Rattle.certificate.specs.declared.block_state.BlockState.{BlockState}
use Rattle.certificate.specs.Reading.{blocks_of}
use Rattle.certificate.proofs.BlockLemmas.{blocks_more, blocks_end}
use Rattle.certificate.proofs.body.take_blocks.Goals as goal

pub loop-preserved : goal.loop-preserved
loop-preserved c =
    let rest = c.loop.rest.now in
    let after = c.split_at.result.1.now in
    let items = c.loop.states.items in
    let more = blocks_more rest c.split_at.result.0.now after c.read_block.result (omega arith) c.split_at.ensures.front c.split_at.ensures.back c.read_block.ensures in
    let grown = rw c.unwrap.ensures at c.push.ensures.items in
    let longer = rw c.unwrap.ensures at c.push.ensures.len in
    record {
      read = rw grown (append_assoc items (c.read_block.result ∷ []) (blocks_of after) ∙ (ap (λ (states : List BlockState). items ++ states) (sym more) ∙ c.loop.invariant.read));
      left = omega arith;
      room = omega (arith, longer, c.push.ensures.capacity);
    }

pub returns : goal.returns
returns c =
    let short : length c.loop.rest.now < 9 = omega arith in
    sym (append-nil c.loop.states.items) ∙ (ap (λ (states : List BlockState). c.loop.states.items ++ states) (sym (blocks_end c.loop.rest.now short)) ∙ c.loop.invariant.read)
