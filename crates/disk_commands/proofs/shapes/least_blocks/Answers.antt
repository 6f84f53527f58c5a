use Rattle.std.proofs.Common.{below_more, arith, ◌≡◌, true, false}
use Rattle.disk_commands.proofs.shapes.least_blocks.Goals as goal

pub loop-blocks-preserved : goal.loop-blocks-preserved
loop-blocks-preserved c = below_more _ _ c.loop-blocks.invariant (λ formats. let is : c.formats.result ≡ true = c.formats.ensures.1 formats in let not : c.formats.result ≡ false = c.if-formats.false in absurd (cc))

pub returns-then-formats-clause-some : goal.returns-then-formats-clause-some
returns-then-formats-clause-some c = record { formats = c.formats.ensures.0 c.if-formats.true; least = c.loop-blocks.invariant }

pub returns-clause-none : goal.returns-clause-none
returns-clause-none c = λ none blocks few. c.loop-blocks.invariant blocks (omega (arith, few, c.loop-blocks-test.false))
