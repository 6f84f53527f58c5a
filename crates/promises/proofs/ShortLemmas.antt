-- The shortages that were worked out by hand.
use Rattle.std.proofs.Common.{◌≡◌, inl, inr, ℕ, Bool, false, List, [], ◌∷◌, refl, ◌∙◌, ap, arith}
use Rattle.std.specs.Prelude.{count_by}
use Rattle.std.specs.List.{range_with_len}
use Rattle.page_layout.specs.declared.geometry.Geometry.{Geometry}
use Rattle.page_layout.specs.Count.{blocks_that}
use Rattle.promises.specs.Log.{good_of, good_count_after, failed_in, failed_count, bad_from, failing, FewGoodLaw, ThreeFailedLaw, ReadOnlyBeforeLaw, TwoFailedLaw}
use Rattle.promises.specs.Log.{FewLeftLaw, FailedProgramLaw}
use Rattle.page_layout.specs.Flash.{Operation, Program}

-- the count over 24 blocks
over_24 : (g : Geometry) (test : ℕ → Bool) → g.blocks ≡ 24 → blocks_that g test ≡ count_by test (range_with_len 0 24)
over_24 g test size = ap (λ n. count_by test (range_with_len 0 n)) size

pub few_good : FewGoodLaw
few_good g share size needs = inl (let five : good_count_after g (bad_from 5) [] ≡ 5 = over_24 g (good_of g.pages (bad_from 5) []) size in omega (arith, five, needs))

pub three_failed : ThreeFailedLaw
three_failed g share size needs = inr (inl (let three : failed_count g (failing (1 ∷ 2 ∷ 3 ∷ [])) ≡ 3 = over_24 g (failed_in g.pages (failing (1 ∷ 2 ∷ 3 ∷ []))) size in omega (arith, three)))

pub few_left : FewLeftLaw
few_left g share size needs = inl (let left : good_count_after g (bad_from 18) (failing (1 ∷ 2 ∷ [])) ≡ 16 = over_24 g (good_of g.pages (bad_from 18) (failing (1 ∷ 2 ∷ []))) size in omega (arith, left, needs))

pub failed_program : FailedProgramLaw
failed_program g share page left size eight needs =
    let call : List Operation = Program 31 page false left ∷ failing (1 ∷ 2 ∷ []) in
    let three : failed_count g call ≡ 3 = over_24 g (failed_in g.pages call) size ∙ ap (λ pages. count_by (failed_in pages call) (range_with_len 0 24)) eight in
    inr (inl (omega (arith, three)))

pub read_only_before : ReadOnlyBeforeLaw
read_only_before g share = inr (inr refl)

pub two_failed : TwoFailedLaw
two_failed g share size needs (inl few) =
    let good : good_count_after g (bad_from 20) (failing (0 ∷ 1 ∷ 2 ∷ 2 ∷ [])) ≡ 17 = over_24 g (good_of g.pages (bad_from 20) (failing (0 ∷ 1 ∷ 2 ∷ 2 ∷ []))) size in
    omega (arith, good, needs, few)
two_failed g share size needs (inr (inl many)) =
    let two : failed_count g (failing (1 ∷ 2 ∷ 2 ∷ [])) ≡ 2 = over_24 g (failed_in g.pages (failing (1 ∷ 2 ∷ 2 ∷ []))) size in
    omega (arith, two, many)
two_failed g share size needs (inr (inr ro)) = cc
