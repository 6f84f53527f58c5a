use Rattle.std.proofs.Common.{refl, subst, sym}
use Rattle.page_layout.specs.declared.geometry.Geometry.{Geometry}
use Rattle.commands.specs.Check.{HasImageLength}
use Rattle.commands.proofs.ServeLemmas.{die_served, read_through}
use Rattle.commands.proofs.serve.serve_die.Goals as goal

pub image_back-requires : goal.image_back-requires
image_back-requires g c = record { whole = subst (λ (k : Geometry). HasImageLength k c.args.image.now) (sym c.in-Ok.ensures.served.back.sized) c.requires.whole }

pub returns-in-Ok : goal.returns-in-Ok
returns-in-Ok g c = record {
  ok = die_served c.args.driver _ c.args.asked.now.geometry _ _ _ _ _ _ _ _ _ c.in-Ok.ensures.served c.stop_of.ensures c.image_back.ensures;
  fault = tt;
  unread = tt;
  unwritten = tt;
}

pub image_back-requires-in-Err-Serve : goal.image_back-requires-in-Err-Serve
image_back-requires-in-Err-Serve g c =
    let its = rw c.in-Err-Serve.field-0-is at c.in-Err-Serve.ensures.fault in
    record { whole = subst (λ (k : Geometry). HasImageLength k c.args.image.now) (sym its.back.sized) c.requires.whole }

pub returns-in-Err-Serve : goal.returns-in-Err-Serve
returns-in-Err-Serve g c =
    let its = rw c.in-Err-Serve.field-0-is at c.in-Err-Serve.ensures.fault in
    record {
      ok = die_served c.args.driver _ c.args.asked.now.geometry _ _ _ _ _ _ _ _ _ its refl c.image_back-in-Err-Serve.ensures;
      fault = tt;
      unread = tt;
      unwritten = tt;
    }

pub returns-in-Err-Refused : goal.returns-in-Err-Refused
returns-in-Err-Refused g c =
    let its = rw c.in-Err-Refused.field-0-is at c.in-Err-Refused.ensures.fault in
    record { ok = tt; fault = read_through _ _ _ _ _ _ _ (its.1.refused refl) its.1.rose c.let_go.ensures; unread = its.0.read; unwritten = its.0.written }
