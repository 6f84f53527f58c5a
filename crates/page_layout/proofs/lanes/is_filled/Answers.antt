use Rattle.std.proofs.Common.{◌∙◌, sym, ◌*◌, ◌+◌, ◌/◌, length, arith, refl}
use Rattle.page_layout.proofs.LaneLemmas.{is_other, none_first, none_more, not_filled, filled_rest}
use Rattle.page_layout.proofs.lanes.is_filled.Goals as goal

pub loop-i-init : goal.loop-i-init
loop-i-init c = none_first is_other 0 c.args.bytes.now refl

pub loop-i-preserved : goal.loop-i-preserved
loop-i-preserved c = none_more is_other (c.loop-i.i * 32) 32 ((c.loop-i.i + 1) * 32) c.args.bytes.now (omega arith) c.loop-i.invariant (sym c.has_other.ensures ∙ c.if-has_other.false)

pub returns-then-has_other : goal.returns-then-has_other
returns-then-has_other c = sym (not_filled (c.loop-i.i * 32) 32 c.args.bytes.now (sym c.has_other.ensures ∙ c.if-has_other.true))

pub returns : goal.returns
returns c = c.is_filled_by_bytes.ensures ∙ sym (filled_rest (c.loop-i.i * 32) (length c.args.bytes.now / 32 * 32) c.args.bytes.now (omega arith) c.loop-i.invariant)
