use Rattle.std.proofs.Common.{◌∙◌}
use Rattle.std.proofs.KnownBytes.{Keeps-refl}
use Rattle.image_check.specs.declared.refusal.Refusal.TheVariants.{Source}
use Rattle.block_server.proofs.Checking.{not_refused, refusal_same, refusal_is, is_served}
use Rattle.block_server.proofs.checked.serve_checked_at.Goals as goal

pub returns-in-Err-clause-fault : goal.returns-in-Err-clause-fault
returns-in-Err-clause-fault g c =
    let its = c.in-Err.ensures in (
      record { read = Keeps-refl _; written = Keeps-refl _ },
      record {
        refused = its.err;
        same = λ ne. its.same (refusal_same c.in-Err.refusal ne);
        rose = λ is. its.rose (refusal_is c.in-Err.refusal is);
        back = record { honest_is = its.only_reads.honest_is; calm_is = its.only_reads.calm_is; sized = its.only_reads.geometry_is ∙ c.requires.same_geometry; failed_is = its.only_reads.failed_is };
      },
    )

pub returns-in-Ok-served-clause-served : goal.returns-in-Ok-served-clause-served
returns-in-Ok-served-clause-served g c =
    let its = c.in-Ok.ensures in
    let begun = c.in-Ok-start_at.ensures in
    is_served g.N.PageSource.view
    c.args.nand c.check.new.source c.into_nand-nand.result c.args.geometry.now c.args.share c.args.capacity c.args.certificate.now c.in-Ok.accepted
    c.in-Ok-start_at.device
    c.requires.same_geometry its.only_reads.geometry_is its.only_reads.honest_is its.only_reads.calm_is its.only_reads.failed_is
    (its.same (not_refused c.in-Ok.accepted Source)) (its.told (not_refused c.in-Ok.accepted Source)) its.whole its.accepted.0 its.ok begun.device
    begun.nand begun.begun begun.truth begun.free begun.accounts c.serve-served.new.device c.into_nand-nand.ensures
    _ _ _ _ _ c.serve-served.ensures.calm c.in-Ok-served.ensures.session

pub returns-in-Err-served-clause-fault : goal.returns-in-Err-served-clause-fault
returns-in-Err-served-clause-fault g c =
    let its = c.in-Ok.ensures in
    let begun = c.in-Ok-start_at.ensures in
    is_served g.N.PageSource.view
    c.args.nand c.check.new.source c.into_nand-nand.result c.args.geometry.now c.args.share c.args.capacity c.args.certificate.now c.in-Ok.accepted
    c.in-Ok-start_at.device
    c.requires.same_geometry its.only_reads.geometry_is its.only_reads.honest_is its.only_reads.calm_is its.only_reads.failed_is
    (its.same (not_refused c.in-Ok.accepted Source)) (its.told (not_refused c.in-Ok.accepted Source)) its.whole its.accepted.0 its.ok begun.device
    begun.nand begun.begun begun.truth begun.free begun.accounts c.serve-served.new.device c.into_nand-nand.ensures
    _ _ _ _ _ c.serve-served.ensures.calm c.in-Err-served.ensures.session
