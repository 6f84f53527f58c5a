use Rattle.std.proofs.Common.{Err, ap, inl, inr, refl}
use Rattle.disk_recovery.proofs.RecoveredLemmas.{stands}
use Rattle.disk_recovery.proofs.recovered.recover_once.Goals as goal

pub returns-in-Ok-clause-recovered : goal.returns-in-Ok-clause-recovered
returns-in-Ok-clause-recovered g c = λ h.
    stands c.args.mark (g.S.Store.held c.args.store.now) (g.S.Store.held c.recover.new.store) c.in-Ok.changed (c.in-Ok.ensures.recovers h 65536 (c.requires.mounted h))

pub returns-in-Err-OutOfMemory-clause-fault : goal.returns-in-Err-OutOfMemory-clause-fault
returns-in-Err-OutOfMemory-clause-fault g c = record {
  as_honest = c.recover.ensures.honest;
  some = λ h. c.in-Err-OutOfMemory.ensures.some h 65536 (c.requires.mounted h);
  why = inl (refl, c.in-Err-OutOfMemory.ensures.unchanged (ap Err c.in-Err-OutOfMemory.field-0-is));
}

pub returns-in-Err-Store-clause-fault : goal.returns-in-Err-Store-clause-fault
returns-in-Err-Store-clause-fault g c = record {
  as_honest = c.recover.ensures.honest;
  some = λ h. c.in-Err-Store.ensures.some h 65536 (c.requires.mounted h);
  why = inr (refl, c.in-Err-Store.ensures.rose (ap Err c.in-Err-Store.field-0-is));
}
