use Rattle.std.proofs.Common.{◌≢◌, Result, Err, ap}
use Rattle.image_check.specs.declared.refusal.Refusal.{Refusal}
use Rattle.image_check.specs.declared.refusal.Refusal.TheVariants.{Source}
use Rattle.disk_server.proofs.open.open_checked.Goals as goal

other : {A : Type 0} (why : Refusal) → why ≢ Source → ◌≢◌ {A = Result A Refusal} (Err why) (Err Source)
other why ne = λ e. ne (let same = e in cc)

pub returns-in-Err-clause-unopened : goal.returns-in-Err-clause-unopened
returns-in-Err-clause-unopened g c = record {
  refused = c.in-Err.ensures.err;
  same = λ ne. c.in-Err.ensures.same (other c.in-Err.refusal ne);
  rose = λ is. c.in-Err.ensures.rose (ap Err is);
  memory = λ is. c.in-Err.ensures.memory (ap Err is);
}
