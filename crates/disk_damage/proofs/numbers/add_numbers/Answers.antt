use Rattle.std.proofs.Common.{arith, sym}
use Rattle.std.specs.Prelude.{string_bytes}
use Rattle.disk_damage.specs.Numbers.{between}
use Rattle.disk_damage.proofs.NumberLemmas.{nothing_behind, number_more}
use Rattle.disk_damage.proofs.numbers.add_numbers.Goals as goal

pub loop-number-init : goal.loop-number-init
unfolding between
loop-number-init c = sym (nothing_behind (string_bytes c.args.text.now))

pub loop-number-preserved : goal.loop-number-preserved
loop-number-preserved c =
    number_more (string_bytes c.args.text.now) (string_bytes c.loop-number.text) (string_bytes c.write.new.self) c.args.front.now c.args.end.now c.args.numbers.now c.loop-number.number-index
    (omega (arith, c.loop-number-test.true)) c.loop-number.invariant c.in_ok-write.ensures.bytes
