use Rattle.std.proofs.Common.{sym, ◌∙◌, refl, inl, inr}
use Rattle.std.proofs.lemmas.Bool.{false≢true}
use Rattle.std.proofs.lemmas.Result.{err_from_is_err_and}
use Rattle.image_check.proofs.RefusalLemmas.{own_asked}
use Rattle.image_check.proofs.checker.begin.Goals as goal

pub new-requires : goal.new-requires
new-requires c = record { asked = own_asked _ _ _ (c.is_asked.ensures.asked.0 c.if-not-is_asked.false); certificate = c.is_asked.ensures.sized c.if-not-is_asked.false }

pub returns-then-not-is_asked : goal.returns-then-not-is_asked
returns-then-not-is_asked c = record {
  asked = tt;
  begun = tt;
  unbegun = inl (refl, λ asked. false≢true (sym c.if-not-is_asked.true ∙ c.is_asked.ensures.asked.1 asked));
}

pub returns-in_err-begun : goal.returns-in_err-begun
returns-in_err-begun c =
    let p = err_from_is_err_and c.from_residual.result c.from_residual.ensures.1 in
    rw (p.1, p.2) (record {
      asked = tt;
      begun = tt;
      unbegun = inr (refl, c.is_asked.ensures.asked.0 c.if-not-is_asked.false);
    })

pub returns : goal.returns
returns c = record {
  asked = c.is_asked.ensures.asked.0 c.if-not-is_asked.false;
  begun = c.in_ok-begun.ensures;
  unbegun = tt;
}
