use Rattle.std.proofs.Common.{◌∙◌, sym, ◌*◌, ◌+◌, eqb, ◌/◌, length, arith, refl}
use Rattle.page_layout.proofs.LaneLemmas.{none_first, none_more, none_rest, one_in}
use Rattle.page_layout.proofs.lanes.has_zero.Goals as goal

pub loop-i-init : goal.loop-i-init
loop-i-init c = none_first (λ b. eqb b 0) 0 c.args.bytes.now refl

pub loop-i-preserved : goal.loop-i-preserved
loop-i-preserved c = none_more (λ b. eqb b 0) (c.loop-i.i * 32) 32 ((c.loop-i.i + 1) * 32) c.args.bytes.now (omega arith) c.loop-i.invariant (sym c.has_same.ensures ∙ c.if-has_same.false)

pub returns-then-has_same : goal.returns-then-has_same
returns-then-has_same c = sym (one_in (λ b. eqb b 0) (c.loop-i.i * 32) 32 c.args.bytes.now (sym c.has_same.ensures ∙ c.if-has_same.true))

pub returns : goal.returns
returns c = c.has_zero_by_bytes.ensures ∙ sym (none_rest (λ b. eqb b 0) (c.loop-i.i * 32) (length c.args.bytes.now / 32 * 32) c.args.bytes.now (omega arith) c.loop-i.invariant)
