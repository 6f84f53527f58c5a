use Rattle.std.proofs.Common.{◌≤◌, ℕ, List, arith, sym, ap, subst}
use Rattle.std.specs.List.Sorted.{IsNonDecreasingBy}
use Rattle.std.proofs.lemmas.List.Sorted.{IsNonDecreasingBy-from_sort}
use Rattle.std.proofs.lemmas.Result.{err_from_is_err_and}
use Rattle.page_layout.specs.Array.{marks}
use Rattle.page_layout.specs.Geometry.{row_count}
use Rattle.certificate.specs.Claim.{Sizes}
use Rattle.image_check.specs.declared.refusal.Refusal.TheVariants as refusals
use Rattle.image_check.specs.Survey.{HasPassed}
use Rattle.image_check.specs.Rising.{IsRisingBelow}
use Rattle.image_check.specs.Refused.{HoldBetween, IsFirstWrong}
use Rattle.image_check.proofs.NotedLemmas.{sorted_rising}
use Rattle.image_check.proofs.PassLemmas.{surveys_from, first_wrong, finish_stale, finish_accepted}
use Rattle.image_check.proofs.pass.Pass.finish.Goals as goal

pub returns-in_err-judge-clause-err : goal.returns-in_err-judge-clause-err
returns-in_err-judge-clause-err c =
    let p = err_from_is_err_and c.from_residual.result c.from_residual.ensures.1 in
    rw (p.1, p.2) (λ image whole h.
    let g = c.args.self.survey.geometry in
    let claim = c.args.self.certificate.now in
    let passes : HasPassed (marks image) (row_count g) claim.sectors c.deref.result.now = subst (λ xs. HasPassed (marks image) (row_count g) claim.sectors xs) (sym c.deref.ensures.value) h.claims in
    first_wrong g claim.capacity image claim _ c.requires.asked (c.in_err-judge.ensures.err claim.capacity image (surveys_from g image c.args.self.survey whole h.survey) passes))

pub returns-then-stale-capacity-clause-err : goal.returns-then-stale-capacity-clause-err
returns-then-stale-capacity-clause-err c = λ image whole h.
    let g = c.args.self.survey.geometry in
    let claim = c.args.self.certificate.now in
    let x = c.args.self.noted in
    let passes : HasPassed (marks image) (row_count g) claim.sectors c.deref.result.now = subst (λ xs. HasPassed (marks image) (row_count g) claim.sectors xs) (sym c.deref.ensures.value) h.claims in
    let holds : HoldBetween g claim.capacity image claim 1 11 = c.in_ok-judge.ensures.ok claim.capacity image (surveys_from g image c.args.self.survey whole h.survey) passes in
    subst (λ n. IsFirstWrong g claim.capacity image claim (refusals.TooStale x.count n)) (sym c.capacity-capacity.ensures.is) (finish_stale g claim.capacity image claim x c.requires.asked whole holds h.noted (omega arith))

pub new-requires-clause-rising : goal.new-requires-clause-rising
new-requires-clause-rising c =
    let g = c.args.self.survey.geometry in
    let claim = c.args.self.certificate.now in
    let x = c.args.self.noted in
    let ys : List ℕ = c.sort_unstable.new.self.items in
    let order : IsNonDecreasingBy (λ k. k) ys = IsNonDecreasingBy-from_sort (λ k. k) ys c.sort_unstable.ensures.sorted in
    let fits : x.count ≤ x.most = omega arith in
    subst (λ n. IsRisingBelow n ys) (sym (ap (λ (s : Sizes). s.sectors) c.requires.asked.geometry)) (sorted_rising g claim (row_count g) x ys c.requires.noted fits c.sort_unstable.ensures.permutation order)

pub returns-clause-ok : goal.returns-clause-ok
returns-clause-ok c = λ image whole h.
    let g = c.args.self.survey.geometry in
    let claim = c.args.self.certificate.now in
    let x = c.args.self.noted in
    let ys : List ℕ = c.sort_unstable.new.self.items in
    let order : IsNonDecreasingBy (λ k. k) ys = IsNonDecreasingBy-from_sort (λ k. k) ys c.sort_unstable.ensures.sorted in
    let passes : HasPassed (marks image) (row_count g) claim.sectors c.deref.result.now = subst (λ xs. HasPassed (marks image) (row_count g) claim.sectors xs) (sym c.deref.ensures.value) h.claims in
    let holds : HoldBetween g claim.capacity image claim 1 11 = c.in_ok-judge.ensures.ok claim.capacity image (surveys_from g image c.args.self.survey whole h.survey) passes in
    finish_accepted g claim.capacity image claim x ys c.new.result c.requires.asked whole holds h.noted (omega arith) (omega arith) c.sort_unstable.ensures.permutation order c.new.ensures.claim c.new.ensures.stale

pub returns-in_err-judge-clause-ok : goal.returns-in_err-judge-clause-ok
returns-in_err-judge-clause-ok c =
    let p = err_from_is_err_and c.from_residual.result c.from_residual.ensures.1 in
    rw p.1 (tt)

pub returns-in_err-judge-clause-claim : goal.returns-in_err-judge-clause-claim
returns-in_err-judge-clause-claim c =
    let p = err_from_is_err_and c.from_residual.result c.from_residual.ensures.1 in
    rw p.1 (tt)

pub returns-in_err-judge-clause-named : goal.returns-in_err-judge-clause-named
returns-in_err-judge-clause-named c =
    let p = err_from_is_err_and c.from_residual.result c.from_residual.ensures.1 in
    rw (p.1, p.2) c.in_err-judge.ensures.named
