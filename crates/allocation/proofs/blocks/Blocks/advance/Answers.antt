use Rattle.std.proofs.Common.{◌≡◌, ◌==◌, ◌+◌, ◌∙◌, ℕ, ap, subst, arith}
use Rattle.std.specs.Prelude.{nat_lt}
use Rattle.std.specs.Bool.{then_some}
use Rattle.page_layout.proofs.CountLemmas.{bit}
use Rattle.budget.specs.declared.stream.Stream.{Stream}
use Rattle.allocation.specs.Step.{IsNextBlock}
use Rattle.budget.specs.declared.stream.Stream.TheVariants.{Data, Meta}
use Rattle.allocation.specs.View.{state}
use Rattle.allocation.proofs.SafeLemmas.{safe_taken_read, taken_has, byte_is}
use Rattle.allocation.proofs.blocks.Blocks.advance.Goals as goal

pub overflow_sub-self : goal.overflow_sub-self
overflow_sub-self c =
    let s = c.args.self.now in
    let one : c.from.result ≡ bit (c.index-fill.result.now.pointer == 0) = c.from.ensures ∙ byte_is (c.index-fill.result.now.pointer == 0) in
    omega (arith, one, taken_has s.free (state s) c.args.stream c.args.block c.index-fill.result.now c.requires c.index-fill.ensures s.safe)

pub invariant_of-self : goal.invariant_of-self
invariant_of-self c =
    let s = c.args.self.now in
    let fill = c.index-fill.result.now in
    let one : c.from.result ≡ bit (fill.pointer == 0) = c.from.ensures ∙ byte_is (fill.pointer == 0) in
    let now : c.then_some-open.result ≡ (then_some (nat_lt (fill.pointer + 1) s.geometry.pages) c.args.block) = c.then_some-open.ensures ∙ ap (λ (n : ℕ). then_some (nat_lt (fill.pointer + 1) n) c.args.block) c.pages.ensures in
    record { safe = safe_taken_read s.free _ (state s) Data c.args.block fill _ (subst (λ (t : Stream). IsNextBlock (state s) t c.args.block) c.in-Data.is c.requires) c.index-fill.ensures one now s.safe }

pub invariant_of-self-in-Meta : goal.invariant_of-self-in-Meta
invariant_of-self-in-Meta c =
    let s = c.args.self.now in
    let fill = c.index-fill.result.now in
    let one : c.from.result ≡ bit (fill.pointer == 0) = c.from.ensures ∙ byte_is (fill.pointer == 0) in
    let now : c.then_some-open.result ≡ (then_some (nat_lt (fill.pointer + 1) s.geometry.pages) c.args.block) = c.then_some-open.ensures ∙ ap (λ (n : ℕ). then_some (nat_lt (fill.pointer + 1) n) c.args.block) c.pages.ensures in
    record { safe = safe_taken_read s.free _ (state s) Meta c.args.block fill _ (subst (λ (t : Stream). IsNextBlock (state s) t c.args.block) c.in-Meta.is c.requires) c.index-fill.ensures one now s.safe }
