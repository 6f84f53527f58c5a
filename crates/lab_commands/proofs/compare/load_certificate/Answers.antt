use Rattle.std.proofs.Common.{List, ℕ, subst}
use Rattle.certificate.specs.Faults.{IsFirstCertificateFault}
use Rattle.lab_commands.proofs.CompareLemmas.{broken_by}
use Rattle.lab_commands.proofs.compare.load_certificate.Goals as goal

pub returns-clause-fault : goal.returns-clause-fault
returns-clause-fault g c =
    let loaded = c.in-Ok.ensures.bytes in
    record {
      known = loaded.known;
      opened = loaded.opened;
      broken = broken_by loaded.known c.in-Err.broken c.in-Ok.bytes.items loaded.taken (subst (λ (xs : List ℕ). IsFirstCertificateFault xs c.in-Err.broken) c.deref.ensures.value c.in-Err.ensures.err);
    }
