-- Words that are found one by one, and collected.
use Rattle.std.proofs.Common.{◌≡◌, ◌∙◌, ℕ, List, Option, Result, Ok, Err, Bor, IfOk, ap, map, Vec}
use Rattle.std.specs.Vec.{vec_items}
use Rattle.std.proofs.lemmas.Iterator.{IsCollectResult, YieldsList, items_from_drains}

-- what collected references point to, in their order
pub texts_from_collect : {S Z E : Type 0} {steps : S → Option (Bor (List ℕ)) → S → Type 0} {s : S} {all : List (List ℕ)} (r : Result (Vec (Bor (List ℕ)) Z) E)
    → IsCollectResult steps s r → YieldsList steps (λ (x : Bor (List ℕ)). x.now) s all → IfOk r (λ w. map (λ (x : Bor (List ℕ)). x.now) (vec_items w) ≡ all)
texts_from_collect (Ok w) (xs, drains, gives) chain = ap (λ ys. map (λ (x : Bor (List ℕ)). x.now) ys) gives.0 ∙ items_from_drains xs drains chain
texts_from_collect (Err e) ran chain = tt
