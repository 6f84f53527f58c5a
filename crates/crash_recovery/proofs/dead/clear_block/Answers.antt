use Rattle.crash_recovery.proofs.Kept.{keeps_call}
use Rattle.crash_recovery.proofs.LookLemmas.{on_ok}
use Rattle.crash_recovery.proofs.TakesLemmas.{clear_erases, clear_takes}
use Rattle.crash_recovery.proofs.dead.clear_block.Goals as goal

pub returns-clause-takes : goal.returns-clause-takes
returns-clause-takes g c h = clear_takes c.args.geometry.now _ _ c.args.block _ c.requires.geometry (c.requires.images h) c.requires.in_range (c.clear.ensures.clears h) c.clear.ensures.geometry

pub returns-clause-erased : goal.returns-clause-erased
returns-clause-erased g c = on_ok c.clear.result _ (λ done h. clear_erases c.args.geometry.now _ _ c.args.block _ c.requires.geometry (c.requires.images h) c.requires.in_range (c.clear.ensures.clears h) c.clear.ensures.geometry done)

pub returns-clause-keeps : goal.returns-clause-keeps
returns-clause-keeps g c = keeps_call _ _ _ _ _ c.clear.result c.clear.ensures.geometry c.clear.ensures.honest c.clear.ensures.settled c.clear.ensures.rose
