use Rattle.lab_commands.proofs.GeometryLemmas.{found_in, nothing_in}
use Rattle.lab_commands.proofs.geometry.find_fits.Goals as goal

pub returns-clause-found : goal.returns-clause-found
returns-clause-found g c = found_in _ c.args.path.now _ c.search.result c.in_ok-dump.ensures.bytes c.search.ensures.found

pub returns-clause-fault : goal.returns-clause-fault
returns-clause-fault g c = nothing_in _ c.args.path.now _ _ c.search.result c.in_ok-dump.ensures.bytes (c.in_ok-dump.ensures.fails c.search.new.dump) c.search.ensures.fault
