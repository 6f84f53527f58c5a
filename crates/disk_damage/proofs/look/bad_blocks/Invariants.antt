use Rattle.std.proofs.Common.{◌≡◌}
use Rattle.std.specs.Prelude.{filter}
use Rattle.std.specs.List.{range_with_len}
use Rattle.disk_damage.specs.Look.{has_bad_class_in}
use Rattle.disk_damage.proofs.look.bad_blocks.Given as goal

abbrev pub invariant-loop-block : goal.invariant-loop-block
invariant-loop-block l = l.blocks.items ≡ filter (has_bad_class_in l.certificate.blocks) (range_with_len 0 l.block)
