use Rattle.crash_recovery.proofs.Kept.{looked_again, looks_failed, looks_then}
use Rattle.crash_recovery.proofs.look.cut_of.Goals as goal

pub returns-in_err-is_torn-clause-looks : goal.returns-in_err-is_torn-clause-looks
returns-in_err-is_torn-clause-looks g c = looks_failed _ _ _ _ _ c.from_residual.result c.from_residual.ensures.0 c.in_err-is_torn.ensures.looks

pub returns-then-not-branch-clause-looks : goal.returns-then-not-branch-clause-looks
returns-then-not-branch-clause-looks g c = c.in_ok-is_torn.ensures.looks

pub cut_of_torn-requires-clause-look : goal.cut_of_torn-requires-clause-look
cut_of_torn-requires-clause-look g c = looked_again _ _ _ _ _ _ _ _ c.requires.look c.in_ok-is_torn.ensures.looks c.is_torn.auto.page

pub returns-clause-looks : goal.returns-clause-looks
returns-clause-looks g c = looks_then _ _ _ _ _ _ _ c.in_ok-is_torn.ensures.looks c.cut_of_torn.ensures.looks
