use Rattle.std.proofs.Common.{◌≡◌, ◌-◌, ◌++◌, []}
use Rattle.std.specs.Prelude.{filter}
use Rattle.std.specs.List.{range_with_len}
use Rattle.ftl_device.specs.Begin.{is_bad_in}
use Rattle.commands.proofs.serve.bad_blocks.Given as goal

abbrev pub invariant-loop-block : goal.invariant-loop-block
invariant-loop-block l = l.bad.items ≡ [] ++ filter (is_bad_in l.certificate) (range_with_len 0 (l.block - 0))
