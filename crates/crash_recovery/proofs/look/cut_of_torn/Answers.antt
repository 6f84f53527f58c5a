use Rattle.crash_recovery.proofs.Kept.{looked_again, looks_failed, looks_then}
use Rattle.crash_recovery.proofs.look.cut_of_torn.Goals as goal

pub sound_run-requires-clause-look : goal.sound_run-requires-clause-look
sound_run-requires-clause-look g c = c.requires.look

pub returns-in_err-from-clause-looks : goal.returns-in_err-from-clause-looks
returns-in_err-from-clause-looks g c = looks_failed _ _ _ _ _ c.from_residual.result c.from_residual.ensures.0 c.in_err-from.ensures.looks

pub none_is_marked-requires-clause-look : goal.none_is_marked-requires-clause-look
none_is_marked-requires-clause-look g c = looked_again _ _ _ _ _ _ _ _ c.requires.look c.in_ok-from.ensures.looks c.sound_run.auto.page

pub returns-in_err-none_is_marked-clause-looks : goal.returns-in_err-none_is_marked-clause-looks
returns-in_err-none_is_marked-clause-looks g c =
    looks_failed _ _ _ _ _ c.from_residual-in_err-none_is_marked.result c.from_residual-in_err-none_is_marked.ensures.0 (looks_then _ _ _ _ _ _ _ c.in_ok-from.ensures.looks c.in_err-none_is_marked.ensures.looks)

pub returns-then-not-branch-clause-looks : goal.returns-then-not-branch-clause-looks
returns-then-not-branch-clause-looks g c = looks_then _ _ _ _ _ _ _ c.in_ok-from.ensures.looks c.in_ok-none_is_marked.ensures.looks

pub returns-clause-looks : goal.returns-clause-looks
returns-clause-looks g c = looks_then _ _ _ _ _ _ _ c.in_ok-from.ensures.looks c.in_ok-none_is_marked.ensures.looks
