use Rattle.std.proofs.Common.{◌≡◌, ℕ, List, sym, subst, rules}
use Rattle.ftl_disk.specs.Dies.{IsCertifiedBy}
use Rattle.ftl_disk.proofs.DieLemmas.{filled}
use Rattle.ftl_disk.proofs.dies.certify_over.Goals as goal

pub returns-in-Ok : goal.returns-in-Ok
returns-in-Ok g c =
    let s = g.N.PageSource in
    let same : c.deref.result.now ≡ c.in-Ok.bytes.items = search rules in
    let its = subst (λ (b : List ℕ). IsCertifiedBy s.view c.args.plan.now.geometry c.args.plan.now.cache c.args.die.now b) (sym same) c.in-Ok.ensures.made in
    filled s.view c.args.plan.now.geometry c.args.plan.now.cache c.args.die.now c.certificate_of.new.die c.args.out.now c.fill.new.out c.deref.result.now c.fill.result c.certificate_of.ensures.looked its c.fill.ensures.same c.fill.ensures.other
