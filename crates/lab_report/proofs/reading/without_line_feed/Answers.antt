use Rattle.std.proofs.Common.{rules, ◌≡◌, ◌==◌, false, [], ◌∷◌, ◌++◌, ap, sym, ◌∙◌, arith}
use Rattle.lab_report.specs.Reading.{without_feed}
use Rattle.lab_report.proofs.ReadingLemmas.{feed_left_out, none_left_out}
use Rattle.lab_report.proofs.reading.without_line_feed.Goals as goal

pub returns-in-Some : goal.returns-in-Some
returns-in-Some c =
    let front = c.in-Some.front.now in
    let is : c.in-Some.last.now ≡ 10 = omega (arith, c.if-last-eq10.true) in
    let split : c.args.text.now ≡ front ++ (10 ∷ []) = c.in-Some.ensures.cases.0 ∙ ap (λ n. front ++ (n ∷ [])) is in
    sym (ap without_feed split ∙ feed_left_out front)

pub returns-in_default : goal.returns-in_default
returns-in_default c =
    let front = c.in-Some.front.now in
    let last = c.in-Some.last.now in
    let other : (last == 10) ≡ false = search rules in
    let split : c.args.text.now ≡ front ++ (last ∷ []) = c.in-Some.ensures.cases.0 in
    sym (ap without_feed split ∙ (none_left_out front last other ∙ sym split))
