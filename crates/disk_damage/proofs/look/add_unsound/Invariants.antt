use Rattle.std.proofs.Common.{◌≡◌, true}
use Rattle.std.specs.Prelude.{filter}
use Rattle.std.specs.List.{range_with_len}
use Rattle.file_die.specs.Open.{OnlyLooks}
use Rattle.disk_damage.specs.Look.{is_unsound_unmarked}
use Rattle.disk_damage.proofs.look.add_unsound.Given as goal

abbrev pub invariant-loop-row : goal.invariant-loop-row
invariant-loop-row g l = record {
  looks : OnlyLooks g.S.Store.held g.S.Store.honest l.fn.store l.store;
  settled : g.S.Store.failed l.store ≡ g.S.Store.failed l.fn.store;
  rows : g.S.Store.honest l.fn.store ≡ true → l.rows.items ≡ filter (is_unsound_unmarked l.geometry (g.S.Store.held l.fn.store).pages l.certificate.blocks) (range_with_len 0 l.row);
}
