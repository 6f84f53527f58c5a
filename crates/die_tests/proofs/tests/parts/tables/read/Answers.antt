use Rattle.std.proofs.Common.{refl, lit≤}
use lib.Count.{ones}
use Rattle.die_tests.proofs.tests.parts.tables.read.Goals as goal

pub read_table_page-requires : goal.read_table_page-requires
unfolding ones
read_table_page-requires c = rw c.told-page (record { power = refl; least = lit≤ tt; most = lit≤ tt })
