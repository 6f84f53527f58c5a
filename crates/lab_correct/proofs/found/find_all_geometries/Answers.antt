use Rattle.std.proofs.Common.{◌≡◌, ◌+◌, ◌++◌, ◌∙◌, All, List, map, get_or, ap, sym, subst, false, true}
use Rattle.std.specs.Ordering.{is_lt}
use Rattle.std.specs.Prelude.{IsPermutation}
use Rattle.std.proofs.lemmas.List.Sorted.{All-permutation, IsPermutation-append_left, IsPermutation-map, IsPermutation-trans}
use Rattle.lab_dump.specs.declared.fit.Fit.{Fit}
use Rattle.lab_dump.specs.Fits.{IsPossible, fits_of}
use Rattle.lab_dump.proofs.FitLemmas.{possible_none}
use Rattle.lab_correct.specs.declared.found.FoundFit.{FoundFit}
use Rattle.lab_correct.specs.Coded.{coded_fits, found_as, found_fits_of}
use Rattle.lab_correct.proofs.FoundLemmas.{found_both, possible_both, same_found_rank}
use Rattle.lab_correct.proofs.found.find_all_geometries.Goals as goal

pub returns-clause-found : goal.returns-clause-found
unfolding found_fits_of
returns-clause-found g c = λ all told.
    let here = c.find_geometries.ensures.same ∙ told in
    let plain : IsPermutation (fits_of all) c.deref.result.now = subst (IsPermutation (fits_of all)) (sym c.deref.ensures.value) (c.in_ok-plain.ensures.found all told) in
    let coded : c.deref-2.result.now ≡ coded_fits all =
    c.deref-2.ensures.value ∙ (c.in_ok-add_coded.ensures.added all (c.size.ensures.same ∙ here) (c.in_ok-size.ensures.size all here) ∙ ap (λ (l : List Fit). l ++ coded_fits all) c.requires.none_coded) in
    let both = found_both all c.deref.result.now c.deref-2.result.now c.args.room.found.items c.add_found.new.found.items c.add_found-2.new.found.items c.requires.none_found c.add_found.ensures.added c.add_found-2.ensures.added coded in
    let rest : List FoundFit = map (found_as true) (coded_fits all) in
    let unsorted = IsPermutation-append_left rest (map (found_as false) (fits_of all)) (map (found_as false) c.deref.result.now) (IsPermutation-map (found_as false) (fits_of all) c.deref.result.now plain) in
    IsPermutation-trans _ _ _ (subst (IsPermutation (map (found_as false) (fits_of all) ++ rest)) (sym both) unsorted) c.sort_unstable.ensures.permutation

pub returns-clause-ranked : goal.returns-clause-ranked
returns-clause-ranked g c = λ k d zero within.
    let items = c.sort_unstable.new.self.items in
    ap is_lt (sym (same_found_rank (get_or items (k + 1) d) (get_or items k d))) ∙ c.sort_unstable.ensures.sorted k d zero within

pub returns-clause-possible : goal.returns-clause-possible
returns-clause-possible g c =
    let P : FoundFit → Type 0 = λ x. IsPossible x.fit in
    All-permutation P _ _ c.sort_unstable.ensures.permutation
    (possible_both c.deref.result.now c.deref-2.result.now c.args.room.found.items c.add_found.new.found.items c.add_found-2.new.found.items c.requires.none_found c.add_found.ensures.added c.add_found-2.ensures.added
    (subst (All IsPossible) (sym c.deref.ensures.value) c.in_ok-plain.ensures.possible)
    (subst (All IsPossible) (sym c.deref-2.ensures.value) (c.in_ok-add_coded.ensures.any.possible (possible_none c.args.room.coded.items c.requires.none_coded))))
