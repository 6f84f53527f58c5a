use Rattle.std.proofs.Common.{◌∙◌}
use Rattle.disk_recovery.proofs.RecoveredLemmas.{recovered_of}
use Rattle.disk_recovery.proofs.recovered.recover_again.Goals as goal

pub returns-in-Ok-recover_once-clause-recovered : goal.returns-in-Ok-recover_once-clause-recovered
returns-in-Ok-recover_once-clause-recovered g c = λ h. (
  c.in-Ok-recover_once.field-0,
  recovered_of g.S.Store.held g.S.Store.honest c.args.store c.in-Ok.mounted.0 (g.S.Store.held c.recover_once.new.store) c.args.mark c.in-Ok-recover_once.field-0 c.in-Ok.ensures.back h
      (c.in-Ok-recover_once.ensures.recovered (c.in-Ok.ensures.back.as_honest ∙ h)),
)
