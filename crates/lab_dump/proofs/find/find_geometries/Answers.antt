use Rattle.std.proofs.Common.{◌≡◌, ◌+◌, ◌++◌, ◌∙◌, List, get_or, ap, sym, subst}
use Rattle.std.specs.Ordering.{is_lt}
use Rattle.std.specs.Prelude.{IsPermutation}
use Rattle.std.proofs.lemmas.List.Sorted.{All-permutation}
use Rattle.std.proofs.lemmas.Result.{err_from_is_err_and}
use Rattle.lab_dump.specs.declared.fit.Fit.{Fit}
use Rattle.lab_dump.specs.Fits.{fits_of, IsPossible}
use Rattle.lab_dump.proofs.FitLemmas.{few_found, possible_none}
use Rattle.lab_dump.proofs.RankLemmas.{same_rank}
use Rattle.lab_dump.proofs.find.find_geometries.Goals as goal

pub returns-in_err-size : goal.returns-in_err-size
returns-in_err-size g c =
    let p = err_from_is_err_and c.from_residual.result c.from_residual.ensures.1 in
    rw p.1 (record { found = tt; ranked = tt; possible = tt; few = tt; source = c.in_err-size.ensures.failed; same = c.size.ensures.same })

pub returns-in_err-add_all : goal.returns-in_err-add_all
returns-in_err-add_all g c =
    let p = err_from_is_err_and c.from_residual-in_err-add_all.result c.from_residual-in_err-add_all.ensures.1 in
    rw p.1 (record { found = tt; ranked = tt; possible = tt; few = tt; source = c.in_err-add_all.ensures.source; same = c.add_all.ensures.same ∙ c.size.ensures.same })

pub returns : goal.returns
returns g c =
    let items = c.sort_unstable.new.self.items in
    let moved = c.sort_unstable.ensures.permutation in
    let added = c.in_ok-add_all.ensures in
    record {
      found = λ all told.
          let fits : c.add_all.new.fits.items ≡ fits_of all = added.added all (c.size.ensures.same ∙ told) (c.in_ok-size.ensures.size all told) ∙ ap (λ (l : List Fit). l ++ fits_of all) c.requires.none in
          subst (λ l. IsPermutation l items) fits moved;
      ranked = λ k d zero within. ap is_lt (sym (same_rank (get_or items (k + 1) d) (get_or items k d))) ∙ c.sort_unstable.ensures.sorted k d zero within;
      possible = All-permutation IsPossible _ _ moved (added.any.possible (possible_none c.args.room.fits.items c.requires.none));
      few = few_found _ _ _ c.requires.none added.any moved;
      source = tt;
      same = c.add_all.ensures.same ∙ c.size.ensures.same;
    }
