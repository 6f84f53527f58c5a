use Rattle.std.proofs.Common.{sym, ap, subst, ◌∙◌, Some, None, eqb, refl}
use Rattle.mapping_cache.specs.Mapping.{IsMapping}
use Rattle.std.specs.Map.{lookup}
use Rattle.mapping_cache.specs.View.{mapping_state}
use Rattle.mapping_cache.proofs.Steps.{known-at}
use Rattle.mapping_cache.proofs.mapping.Mapping.peek.Goals as goal

pub returns-in-Some-clause-value : goal.returns-in-Some-clause-value
returns-in-Some-clause-value c =
    let row = ap (lookup (eqb c.args.sector)) (sym c.deref.ensures.value) ∙ sym c.row_in.ensures ∙ c.in-Some.is in
    rw (← c.self.view_is) (sym (known-at (mapping_state c.self.inside) c.args.sector _ (Some c.in-Some.row) refl row))

pub returns-in-Some-copied-clause-value : goal.returns-in-Some-copied-clause-value
returns-in-Some-copied-clause-value c =
    let unmoved = ap (lookup (eqb c.args.sector)) (sym c.deref.ensures.value) ∙ sym (c.in_default.ensures) in
    let slot = sym c.peek.ensures ∙ sym c.copied.ensures ∙ c.in-Some-copied.is in
    rw (← c.self.view_is) (sym (known-at (mapping_state c.self.inside) c.args.sector (Some c.in-Some-copied.slot) None slot unmoved))

pub returns-in-None-clause-value : goal.returns-in-None-clause-value
returns-in-None-clause-value c =
    let unmoved = ap (lookup (eqb c.args.sector)) (sym c.deref.ensures.value) ∙ sym (c.in_default.ensures) in
    let slot = sym c.peek.ensures ∙ sym c.copied.ensures ∙ c.in-None.is in
    rw (← c.self.view_is) (sym (known-at (mapping_state c.self.inside) c.args.sector None None slot unmoved))

pub returns-in-Some-clause-row : goal.returns-in-Some-clause-row
returns-in-Some-clause-row c = let v = subst IsMapping c.self.view_is c.self.invariant.0 in λ x e. v.known_in c.args.sector x (sym (returns-in-Some-clause-value c) ∙ e)

pub returns-in-Some-copied-clause-row : goal.returns-in-Some-copied-clause-row
returns-in-Some-copied-clause-row c = let v = subst IsMapping c.self.view_is c.self.invariant.0 in λ x e. v.known_in c.args.sector x (sym (returns-in-Some-copied-clause-value c) ∙ e)
