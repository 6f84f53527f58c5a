use Rattle.std.proofs.Common.{◌≡◌, suc, ◌+◌, [], ◌∷◌, ◌++◌, ap, sym, ◌∙◌, take, arith}
use Rattle.image_check.proofs.LookLemmas.{take_one}
use Rattle.disk_commands.proofs.printed.states_of.Goals as goal

pub loop-block-preserved : goal.loop-block-preserved
loop-block-preserved c =
    let next : suc c.loop-block.block ≡ c.loop-block.block + 1 = omega arith in
    c.in_ok-push.ensures.items ∙ ap (λ l. l ++ (c.block.result ∷ [])) c.loop-block.invariant
    ∙ sym (take_one c.args.certificate.now.blocks c.loop-block.block c.block.result c.block.ensures.is) ∙ ap (λ k. take k c.args.certificate.now.blocks) next
