use Rattle.std.proofs.Common.{◌≡◌, arith, ap, ◌∙◌}
use Rattle.page_layout.proofs.CountLemmas.{bit}
use Rattle.allocation.specs.State.{is_free}
use Rattle.allocation.specs.View.{state}
use Rattle.allocation.proofs.SafeLemmas.{safe_without_read, free_has, byte_is, good_class}
use Rattle.allocation.proofs.blocks.Blocks.retire.Goals as goal

pub overflow_sub-self : goal.overflow_sub-self
overflow_sub-self c =
    let one : c.from.result ≡ bit (is_free (state c.args.self.now) c.args.block) = c.from.ensures ∙ byte_is c.is_free.result ∙ ap bit c.is_free.ensures in
    omega (arith, free_has _ (state c.args.self.now) _ c.requires.within c.args.self.now.safe)

pub invariant_of-self : goal.invariant_of-self
invariant_of-self c =
    let one : c.from.result ≡ bit (is_free (state c.args.self.now) c.args.block) = c.from.ensures ∙ byte_is c.is_free.result ∙ ap bit c.is_free.ensures in
    record { safe = safe_without_read _ _ (state c.args.self.now) _ _ _ _ c.requires.within one (c.retire.ensures.good (good_class c.args.self.now.table c.args.block c.requires.good)) c.other_than-self.ensures c.other_than-self-2.ensures c.args.self.now.safe }
