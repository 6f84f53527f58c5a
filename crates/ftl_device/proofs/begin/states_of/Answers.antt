use Rattle.std.proofs.Common.{◌∙◌, ◌++◌, ◌∷◌, [], ap, sym}
use Rattle.ftl_device.proofs.LoadLemmas.{take_next}
use Rattle.ftl_device.proofs.begin.states_of.Goals as goal

pub loop-block-preserved : goal.loop-block-preserved
loop-block-preserved c =
    c.in_ok-push.ensures.items ∙ (ap (λ xs. xs ++ c.block.result ∷ []) c.loop-block.invariant ∙ sym (take_next c.args.certificate.now.blocks c.loop-block.block c.block.result c.block.ensures.is))
