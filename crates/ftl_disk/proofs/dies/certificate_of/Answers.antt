use Rattle.std.proofs.Common.{rules}
use Rattle.certificate.specs.Spelling as spelling
use Rattle.ftl_disk.proofs.SizeLemmas.{certificate_sized}
use Rattle.ftl_disk.proofs.dies.certificate_of.Goals as goal

pub returns-in-Ok-write_certificate-clause-made : goal.returns-in-Ok-write_certificate-clause-made
returns-in-Ok-write_certificate-clause-made g c =
    let fits : spelling.Fits c.in-Ok.certificate = search rules in
    let asked = c.in-Ok.ensures.asked in
    let spelled = c.in-Ok-write_certificate.ensures.ok in
    record {
      claim = c.in-Ok.certificate;
      fits = fits;
      spelled = spelled;
      sized = certificate_sized c.args.plan.now.geometry c.args.plan.now.cache c.in-Ok.certificate c.in-Ok-write_certificate.bytes.items spelled fits asked;
      asked = asked;
      mounted = c.in-Ok.ensures.ok;
    }
