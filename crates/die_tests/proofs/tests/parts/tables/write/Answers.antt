use Rattle.std.proofs.Common.{refl, lit≤}
use lib.Count.{ones}
use Rattle.die_tests.proofs.tests.parts.tables.write.Goals as goal

pub write_table_page-requires : goal.write_table_page-requires
unfolding ones
write_table_page-requires c = rw c.told-page (record { power = refl; least = lit≤ tt; most = lit≤ tt })
