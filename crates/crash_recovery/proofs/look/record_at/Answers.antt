use Rattle.crash_recovery.proofs.Kept.{keeps_done, keeps_undone, looks_failed}
use Rattle.crash_recovery.proofs.look.record_at.Goals as goal

pub load-requires-clause-in_range : goal.load-requires-clause-in_range
load-requires-clause-in_range g c = rw c.requires.look.geometry c.requires.in_range

pub load-requires-clause-room : goal.load-requires-clause-room
load-requires-clause-room g c = rw c.requires.look.geometry c.requires.look.room

pub returns-in_err-load-clause-looks : goal.returns-in_err-load-clause-looks
returns-in_err-load-clause-looks g c = looks_failed _ _ _ _ _ c.from_residual.result c.from_residual.ensures.0 (record {
  same = λ h. (c.in_err-load.ensures.loads h).same;
  keeps = keeps_undone _ _ _ _ _ c.load.ensures.geometry c.load.ensures.honest c.in_err-load.ensures.rose;
})

pub returns-clause-looks : goal.returns-clause-looks
returns-clause-looks g c = record { same = λ h. (c.in_ok-load.ensures.loads h).same; keeps = keeps_done _ _ _ _ _ c.load.ensures.geometry c.load.ensures.honest c.in_ok-load.ensures.settled }
