use Rattle.std.proofs.Common.{◌≡◌, ℕ, ◌≤◌, false, ltb, length, arith, ◌∙◌}
use Rattle.std.proofs.lemmas.Bool.Decides.{nat_tests}
use Rattle.mapping_cache.proofs.Places.{here_is, nowhere_is}
use Rattle.mapping_cache.proofs.moved.has_at.Goals as goal

pub returns-then-place-moved : goal.returns-then-place-moved
returns-then-place-moved c = here_is c.args.sector c.args.moved.now c.args.place c.requires.by_sector c.requires.place _ (omega arith)

pub returns-else-place-moved : goal.returns-else-place-moved
returns-else-place-moved c = not_below c.args.place (length c.args.moved.now) c.if-place-moved.false ∙ nowhere_is c.args.sector c.args.moved.now c.args.place c.requires.by_sector c.requires.place (omega arith)
  where
    not_below : (i n : ℕ) → n ≤ i → ltb i n ≡ false
    not_below i n le = grind (arith, nat_tests)
