use Rattle.std.proofs.Common.{sym, ◌∙◌, arith}
use Rattle.lab_mend.proofs.TriedLemmas.{apart_at, apart_more, apart_none}
use Rattle.lab_mend.proofs.trial.is_apart.Goals as goal

pub returns-then-bit_of-first : goal.returns-then-bit_of-first
returns-then-bit_of-first c =
    apart_at c.args.geometry.now c.args.pages.now c.args.places.now c.loop-n.n c.args.bit (omega arith) (λ e. c.if-bit_of-first.true (c.bit_of.ensures ∙ (e ∙ sym c.bit_of-first.ensures)))

pub loop-n-preserved : goal.loop-n-preserved
loop-n-preserved c =
    apart_more c.args.geometry.now c.args.pages.now c.args.places.now c.loop-n.n c.args.bit (omega arith) (sym c.bit_of.ensures ∙ (c.if-bit_of-first.false ∙ c.bit_of-first.ensures)) c.loop-n.invariant

pub returns : goal.returns
returns c = apart_none c.args.geometry.now c.args.pages.now c.args.places.now c.loop-n.n c.args.bit (omega arith) c.loop-n.invariant
