use Rattle.std.proofs.Common.{◌≡◌, ◌<◌, length, ap, true, false, nat_eq, sym, subst, ◌∙◌}
use Rattle.std.specs.Option.{is_some}
use Rattle.std.specs.Map.{lookup}
use Rattle.mapping_cache.specs.Mapping.{IsPlace}
use Rattle.mapping_cache.proofs.Places.{found_there, without_there, without_none}
use Rattle.mapping_cache.proofs.moved.forget_sector.Goals as goal

pub remove-requires : goal.remove-requires
remove-requires c = let there = (found_there c.args.sector c.args.moved.now.items c.place_of-place.result c.requires (subst (λ ms. IsPlace ms c.args.sector c.place_of-place.result) c.deref.ensures.value c.place_of-place.ensures) (subst (λ ms. is_some (lookup (nat_eq c.args.sector) ms) ≡ true) c.deref-2.ensures.value (sym c.if-has_at.ensures))).0 in let same = c.deref.ensures.value in let len = sym (ap length same) ∙ c.deref.ensures.len in subst (λ n. c.place_of-place.result < n) len there

pub returns-then-has_at-clause-items : goal.returns-then-has_at-clause-items
returns-then-has_at-clause-items c = c.remove.ensures.items ∙ sym (without_there c.args.sector c.args.moved.now.items c.place_of-place.result c.requires (subst (λ ms. IsPlace ms c.args.sector c.place_of-place.result) c.deref.ensures.value c.place_of-place.ensures) (subst (λ ms. is_some (lookup (nat_eq c.args.sector) ms) ≡ true) c.deref-2.ensures.value (sym c.if-has_at.ensures)))

pub returns-else-has_at-clause-items : goal.returns-else-has_at-clause-items
returns-else-has_at-clause-items c = sym (without_none c.args.sector c.args.moved.now.items c.place_of-place.result c.requires (subst (λ ms. IsPlace ms c.args.sector c.place_of-place.result) c.deref.ensures.value c.place_of-place.ensures) (subst (λ ms. is_some (lookup (nat_eq c.args.sector) ms) ≡ false) c.deref-2.ensures.value (sym c.if-has_at.ensures)))
