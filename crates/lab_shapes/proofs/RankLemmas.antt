-- The order of geometries in arrangements, as it is derived, is that of the words.
use Rattle.std.proofs.Common.{◌≡◌, ◌<◌, refl, sym, ap, ◌∙◌, subst, true, false, Option, Some, None}
use Rattle.std.specs.declared.cmp.Ordering.{Ordering}
use Rattle.std.specs.declared.cmp.Ordering.TheVariants.{Less, Equal, Greater}
use Rattle.std.specs.Ordering.{bool_cmp, is_gt, is_lt, nat_cmp, ordering_reverse, ordering_then}
use Rattle.std.specs.Option.{option_cmp}
use Rattle.std.specs.Cmp.{IsTotalOrder, nat_cmp_is, tied_itself, upto}
use Rattle.lab_dump.proofs.RankLemmas.{same_rank}
use Rattle.lab_dump.specs.Fits.{rank}
use Rattle.lab_arrange.specs.declared.arrangement.Spares.{Spares}
use Rattle.lab_arrange.specs.declared.arrangement.Spares.TheVariants.{Block, Die}
use Rattle.lab_arrange.specs.declared.arrangement.Arrangement.{Arrangement}
use Rattle.lab_arrange.specs.contracts.arrangement.SparesOrd.TheImpl as spares
use Rattle.lab_arrange.specs.contracts.arrangement.ArrangementOrd.TheImpl as order
use Rattle.lab_shapes.specs.declared.find.ArrangedFit.{ArrangedFit}
use Rattle.lab_shapes.specs.contracts.find.ArrangedFitOrd.TheImpl as arranged
use Rattle.lab_shapes.specs.contracts.find.ArrangedFitOrd.TheImpl.Laws.{total-law}
use Rattle.lab_shapes.specs.Arranged.{IsNotAfter, arranged_rank, arrangement_rank, spares_cmp}

same_spares : (x y : Option Spares) → option_cmp spares.ghosts.cmp x y ≡ option_cmp spares_cmp x y
same_spares None None = refl
same_spares None (Some y) = refl
same_spares (Some x) None = refl
same_spares (Some Block) (Some Block) = refl
same_spares (Some Block) (Some Die) = refl
same_spares (Some Die) (Some Block) = refl
same_spares (Some Die) (Some Die) = refl

same_arrangement : (x y : Arrangement) → order.ghosts.cmp x y ≡ arrangement_rank x y
same_arrangement x y =
    ap (λ o. ordering_then (option_cmp nat_cmp x.header y.header) (ordering_then (option_cmp nat_cmp x.tail y.tail) (ordering_then (option_cmp nat_cmp x.cut y.cut)
    (ordering_then o (ordering_then (bool_cmp x.spare_first y.spare_first) (ordering_then (bool_cmp x.swapped y.swapped)
    (ordering_then (bool_cmp x.inverted y.inverted) (bool_cmp x.planes y.planes)))))))) (same_spares x.spares y.spares)

pub same_arranged_rank : (x y : ArrangedFit) → arranged.ghosts.cmp x y ≡ arranged_rank x y
same_arranged_rank x y =
    ap (λ o. ordering_then (nat_cmp y.in_turn.0 x.in_turn.0) (ordering_then o (order.ghosts.cmp x.arrangement y.arrangement))) (same_rank x.fit y.fit)
    ∙ ap (λ o. ordering_then (nat_cmp y.in_turn.0 x.in_turn.0) (ordering_then (rank x.fit y.fit) o)) (same_arrangement x.arrangement y.arrangement)

rank_total : IsTotalOrder arranged_rank
rank_total = subst IsTotalOrder (λ i x y. same_arranged_rank x y i) total-law

-- ---- what follows

pub not_after_itself : (x : ArrangedFit) → IsNotAfter x x
not_after_itself x = ap is_gt (tied_itself rank_total x)

-- one that comes before another one does not come after it
pub before_not_after : (x y : ArrangedFit) → is_lt (arranged_rank x y) ≡ true → IsNotAfter x y
before_not_after x y e = by (arranged_rank x y) e
  where
    by : (o : Ordering) → is_lt o ≡ true → is_gt o ≡ false
    by Less h = refl
    by Equal h = refl
    by Greater h = absurd (let clash : false ≡ true = h in cc)

-- and one that does not come before it leaves that one not after it
pub not_before : (x y : ArrangedFit) → is_lt (arranged_rank x y) ≡ false → IsNotAfter y x
not_before x y e = ap is_gt (rank_total.antisymm y x) ∙ by (arranged_rank x y) e
  where
    by : (o : Ordering) → is_lt o ≡ false → is_gt (ordering_reverse o) ≡ false
    by Less h = absurd (let clash : true ≡ false = h in cc)
    by Equal h = refl
    by Greater h = refl

pub not_after_then : (x y z : ArrangedFit) → IsNotAfter x y → IsNotAfter y z → IsNotAfter x z
not_after_then x y z a b = upto rank_total x y z a b

-- one with fewer pages in their turn comes behind
pub fewer_not_after : (x y : ArrangedFit) → y.in_turn.0 < x.in_turn.0 → IsNotAfter x y
fewer_not_after x y l = ap (λ o. is_gt (ordering_then o (ordering_then (rank x.fit y.fit) (arrangement_rank x.arrangement y.arrangement)))) (sym (nat_cmp_is y.in_turn.0 x.in_turn.0 Less l))
