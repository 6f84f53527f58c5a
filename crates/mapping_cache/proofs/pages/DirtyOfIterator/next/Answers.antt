use Rattle.std.proofs.Common.{◌≡◌, sym, ap, ◌∙◌, rules, Some, None, eqb}
use Rattle.std.specs.Option.{option_and_then}
use Rattle.std.specs.Map.{lookup}
use Rattle.mapping_cache.specs.Mapping.{dirty_row}
use Rattle.mapping_cache.proofs.Rows.{dirty_from_some, dirty_from_none, past_moved}
use Rattle.mapping_cache.proofs.pages.DirtyOfIterator.next.Goals as goal

pub returns-in-Some-dirty_row-clause-steps : goal.returns-in-Some-dirty_row-clause-steps
returns-in-Some-dirty_row-clause-steps c =
    let es = c.self.inside.cache.now.entries in
    let none = c.in_default.ensures.steps in
    let found : option_and_then dirty_row (lookup (eqb c.loop-self.self-inside.sector) es) ≡ Some c.in-Some-dirty_row.row = ap
    (λ x. option_and_then dirty_row (lookup (eqb c.loop-self.self-inside.sector) x.now.entries)) (sym c.loop-self.invariant.cache) ∙ sym
    c.dirty_row.ensures ∙ c.in-Some-dirty_row.is in
    rw (c.loop-self.invariant.cache, c.loop-self.invariant.end)
    (sym c.self.view_is
    ∙ past_moved c.self.inside.moved c.loop-self.self-inside.moved _ _ _ (c.loop-self.self-inside.sector, c.in-Some-dirty_row.row) none.0
    (c.loop-self.invariant.moved ∙ none.1) c.loop-self.invariant.left
    (dirty_from_some es c.loop-self.self-inside.sector c.self.inside.end c.in-Some-dirty_row.row c.loop-self-test.true found))

pub returns-in-Some-dirty_row-clause-goes : goal.returns-in-Some-dirty_row-clause-goes
returns-in-Some-dirty_row-clause-goes c = rw (returns-in-Some-dirty_row-clause-steps c) (search rules)

pub loop-self-preserved : goal.loop-self-preserved
loop-self-preserved c =
    let found : option_and_then dirty_row (lookup (eqb c.loop-self.self-inside.sector) c.self.inside.cache.now.entries) ≡ None = ap
    (λ x. option_and_then dirty_row (lookup (eqb c.loop-self.self-inside.sector) x.now.entries)) (sym c.loop-self.invariant.cache) ∙ sym
    c.dirty_row.ensures ∙ c.in_default-dirty_row.is in
    record {
      moved = c.loop-self.invariant.moved;
      cache = c.loop-self.invariant.cache;
      end = c.loop-self.invariant.end;
      left = dirty_from_none c.self.inside.cache.now.entries c.loop-self.self-inside.sector c.self.inside.end c.loop-self-test.true found ∙ c.loop-self.invariant.left;
    }
