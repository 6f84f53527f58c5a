use Rattle.std.proofs.Common.{arith, ◌≡◌, ◌<◌, length, ap, true, false, nat_eq, sym, subst, ◌∙◌}
use Rattle.std.proofs.lemmas.Bool.{cond-true}
use Rattle.std.specs.Option.{is_some}
use Rattle.std.specs.Map.{lookup}
use Rattle.mapping_cache.specs.Mapping.{IsPlace}
use Rattle.mapping_cache.proofs.Entries.{none_from}
use Rattle.mapping_cache.proofs.Places.{found_there, placed_there, placed_new}
use Rattle.mapping_cache.proofs.moved.list_sector.Goals as goal

pub index_mut-requires : goal.index_mut-requires
index_mut-requires c = let there = (found_there c.args.sector c.args.moved.now.items c.place_of-place.result c.requires.by_sector (subst (λ ms. IsPlace ms c.args.sector c.place_of-place.result) c.deref.ensures.value c.place_of-place.ensures) (subst (λ ms. is_some (lookup (nat_eq c.args.sector) ms) ≡ true) c.deref-2.ensures.value (sym c.if-has_at.ensures))).0 in let same = c.deref.ensures.value in let len = sym (ap length same) ∙ c.deref.ensures.len in subst (λ n. c.place_of-place.result < n) len there

pub returns-then-has_at-clause-items : goal.returns-then-has_at-clause-items
returns-then-has_at-clause-items c = sym (placed_there c.args.sector c.args.moved.now.items c.place_of-place.result c.requires.by_sector (subst (λ ms. IsPlace ms c.args.sector c.place_of-place.result) c.deref.ensures.value c.place_of-place.ensures) c.args.row (subst (λ ms. is_some (lookup (nat_eq c.args.sector) ms) ≡ true) c.deref-2.ensures.value (sym c.if-has_at.ensures)))

pub returns-else-has_at-clause-items : goal.returns-else-has_at-clause-items
returns-else-has_at-clause-items c =
    let missing : is_some (lookup (nat_eq c.args.sector) c.args.moved.now.items) ≡ false = subst (λ ms. is_some (lookup (nat_eq c.args.sector) ms) ≡ false) c.deref-2.ensures.value (sym c.if-has_at.ensures) in
    let short = c.requires.room (none_from _ (sym missing)) in
    let done = c.insert.ensures.succeeds (omega arith) in
    c.insert.ensures.items ∙ cond-true _ _ _ done
    ∙ sym (placed_new c.args.sector c.args.moved.now.items c.place_of-place.result c.requires.by_sector (subst (λ ms. IsPlace ms c.args.sector c.place_of-place.result) c.deref.ensures.value c.place_of-place.ensures) c.args.row missing)
