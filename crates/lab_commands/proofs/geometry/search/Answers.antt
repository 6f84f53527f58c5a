use Rattle.std.proofs.Common.{◌∙◌, sym, subst, arith, IfSome}
use Rattle.std.proofs.lemmas.Bool.{eqb-true}
use Rattle.lab_shapes.specs.Arranged.{IsBest, IsPossibleAs}
use Rattle.lab_commands.proofs.GeometryLemmas.{known_best, known_nearest, none_fit}
use Rattle.lab_commands.proofs.geometry.search.Goals as goal

pub returns-in-Ok-Some-clause-found : goal.returns-in-Ok-Some-clause-found
returns-in-Ok-Some-clause-found g c =
    let known = g.D.Dump.bytes c.args.dump.now in
    record {
      none = none_fit known c.in-Ok.fits.items c.in-Ok.ensures.found (omega (arith, eqb-true _ 0 (sym c.is_empty.ensures ∙ c.if-not-is_empty.false)));
      best = subst (λ o. IfSome known (λ bytes. IsBest bytes o)) c.in-Ok-Some.field-0-is (known_best known c.in-Ok-Some.field-0 (λ all told. c.in-Ok-Some.ensures.best all (c.find_all_geometries.ensures.same ∙ told)));
      possible = subst (λ o. IfSome o IsPossibleAs) c.in-Ok-Some.field-0-is c.in-Ok-Some.ensures.possible;
    }

pub returns-in-Ok-find_nearest-clause-fault : goal.returns-in-Ok-find_nearest-clause-fault
returns-in-Ok-find_nearest-clause-fault g c =
    let known = g.D.Dump.bytes c.args.dump.now in
    let same = c.find_all_geometries.ensures.same in
    record {
      none = none_fit known c.in-Ok.fits.items c.in-Ok.ensures.found (omega (arith, eqb-true _ 0 (sym c.is_empty.ensures ∙ c.if-not-is_empty.false)));
      nowhere = subst (λ o. IfSome known (λ bytes. IsBest bytes o)) c.in-Ok-None.field-0-is (known_best known c.in-Ok-None.field-0 (λ all told. c.in-Ok-None.ensures.best all (same ∙ told)));
      nearest_is = known_nearest known c.in-Ok-find_nearest.nearest (λ all told. c.in-Ok-find_nearest.ensures.nearest all (c.in-Ok-None.ensures.same ∙ (same ∙ told)));
    }
