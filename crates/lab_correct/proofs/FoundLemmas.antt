-- The geometries of both sorts in one list.
use Rattle.std.proofs.Common.{◌≡◌, ℕ, ◌+◌, ◌<◌, Bool, true, false, All, List, [], ◌∷◌, ◌++◌, length, map, take, get_or, sym, ap, ◌∙◌, subst}
use Rattle.std.proofs.Common.{append_assoc}
use Rattle.std.specs.Ordering.{bool_cmp, ordering_then}
use Rattle.std.proofs.lemmas.List.{take_more, map-append}
use Rattle.std.proofs.lemmas.List.Elements.{All-append, All-map}
use Rattle.lab_dump.specs.declared.fit.Fit.{Fit}
use Rattle.lab_dump.specs.Fits.{IsPossible}
use Rattle.lab_dump.proofs.RankLemmas.{same_rank}
use Rattle.lab_correct.specs.declared.found.FoundFit.{FoundFit}
use Rattle.lab_correct.specs.contracts.found.FoundFitOrd.TheImpl as found
use Rattle.lab_correct.specs.Coded.{ArePossible, coded_fits, found_as, found_rank}

-- one more
pub found_more : (coded : Bool) (old mid new : List FoundFit) (fits : List Fit) (i : ℕ) (d : Fit) → i < length fits → mid ≡ old ++ map (found_as coded) (take i fits) → new ≡ mid ++ found_as coded (get_or fits i d) ∷ []
    → new ≡ old ++ map (found_as coded) (take (i + 1) fits)
found_more coded old mid new fits i d l was is =
    is ∙ (ap (λ z. z ++ found_as coded (get_or fits i d) ∷ []) was ∙ (append_assoc old (map (found_as coded) (take i fits)) (found_as coded (get_or fits i d) ∷ [])
    ∙ ap (λ z. old ++ z) (sym (map-append (found_as coded) (take i fits) (get_or fits i d ∷ [])) ∙ ap (map (found_as coded)) (sym (take_more fits i d l)))))

-- both
pub found_both : (all : List ℕ) (plain coded : List Fit) (none one two : List FoundFit) → none ≡ [] → one ≡ none ++ map (found_as false) plain → two ≡ one ++ map (found_as true) coded → coded ≡ coded_fits all
    → two ≡ map (found_as false) plain ++ map (found_as true) (coded_fits all)
found_both all plain coded none one two e f g h =
    g ∙ (ap (λ z. z ++ map (found_as true) coded) (f ∙ ap (λ z. z ++ map (found_as false) plain) e) ∙ ap (λ z. map (found_as false) plain ++ map (found_as true) z) h)

pub possible_both : (plain coded : List Fit) (none one two : List FoundFit) → none ≡ [] → one ≡ none ++ map (found_as false) plain → two ≡ one ++ map (found_as true) coded → All IsPossible plain → All IsPossible coded → ArePossible two
possible_both plain coded none one two e f g p q =
    let P : FoundFit → Type 0 = λ x. IsPossible x.fit in
    let is : two ≡ map (found_as false) plain ++ map (found_as true) coded = g ∙ ap (λ z. z ++ map (found_as true) coded) (f ∙ ap (λ z. z ++ map (found_as false) plain) e) in
    subst (All P) (sym is) (All-append P (map (found_as false) plain) (map (found_as true) coded) (All-map P (found_as false) plain p) (All-map P (found_as true) coded q))

-- the order of them, as it is derived
pub same_found_rank : (x y : FoundFit) → found.ghosts.cmp x y ≡ found_rank x y
same_found_rank x y = ap (λ o. ordering_then o (bool_cmp x.coded y.coded)) (same_rank x.fit y.fit)
