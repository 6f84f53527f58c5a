use Rattle.std.proofs.Common.{◌≤◌, arith, refl}
use Rattle.image_check.specs.declared.refusal.Refusal.TheVariants.{Source}
use Rattle.block_server.proofs.Checking.{not_refused, refusal_is}
use Rattle.commands.proofs.MigrateEnds.{starts_over}
use Rattle.commands.proofs.ServeLemmas.{read_through}
use Rattle.commands.proofs.migrate.start_over.Goals as goal

pub returns-in-Err : goal.returns-in-Err
returns-in-Err c =
    let its = c.in-Err.ensures in
    record {
      ok = tt;
      fault = read_through c.args.asked.now.geometry c.args.asked.now.capacity _ c.args.certificate.now c.in-Err.refusal _ _ (its.err refl) (λ is. its.rose (refusal_is c.in-Err.refusal is)) c.let_go.ensures;
    }

pub returns-in-Ok-start : goal.returns-in-Ok-start
returns-in-Ok-start c =
    let g = c.args.asked.now.geometry in
    let its = c.in-Ok.ensures in
    let begun = c.in-Ok-start.ensures in
    let roomy : 40 ≤ g.spare_bytes = omega (arith, c.spare_bytes.ensures, c.if-spare_bytes-lt-SPARE_FOR_VERSION_2.false) in
    record {
      ok = starts_over c.args.driver c.check.new.source g c.args.asked.now.capacity c.args.certificate.now c.in-Ok.accepted c.in-Ok-start.device roomy
          c.requires.same its.only_reads (its.same (not_refused c.in-Ok.accepted Source) refl) (its.told (not_refused c.in-Ok.accepted Source) refl) (its.whole refl) its.accepted.0 (its.ok refl)
          begun.device begun.nand begun.begun (begun.truth refl) (begun.free refl) (begun.accounts refl) begun.cursor;
      fault = tt;
    }
