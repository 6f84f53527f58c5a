use Rattle.disk_tests.proofs.StoreLemmas.{erased}
use Rattle.disk_tests.proofs.tests.commands.files.MemoryFilesDiskFiles.create.Goals as goal

pub returns-clause-erased : goal.returns-clause-erased
returns-clause-erased c = erased c.store_of.result c.args.shape.now.geometry c.in-Ok.pages.items c.dump_bytes.result (c.in-Ok.ensures.items_if_clones_equal (λ y e. e)) c.dump_bytes.ensures c.store_of.ensures
