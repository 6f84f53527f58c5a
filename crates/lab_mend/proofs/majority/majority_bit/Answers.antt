use Rattle.std.proofs.Common.{◌≡◌, sym, subst, arith}
use Rattle.lab_mend.specs.Majority.{votes}
use Rattle.lab_mend.specs.Pages.{bytes_at}
use Rattle.lab_mend.proofs.MajorityLemmas.{votes_none, votes_step, bit_small, majority_yes, majority_no, length-bytes_at}
use Rattle.lab_mend.proofs.majority.majority_bit.Goals as goal

pub loop-i-init : goal.loop-i-init
loop-i-init c = record { votes_are = sym (votes_none c.args.pages.now c.args.size c.args.place c.args.bit); few = omega arith }

pub loop-i-preserved : goal.loop-i-preserved
loop-i-preserved c =
    let inv = c.loop-i.invariant in
    let few = inv.few in
    record {
      votes_are = votes_step c.args.pages.now c.args.size c.loop-i.i c.args.place c.args.bit c.loop-i.votes inv.votes_are;
      few = omega (arith, bit_small);
    }

pub returns-then-votes-count : goal.returns-then-votes-count
returns-then-votes-count c =
    let inv = c.loop-i.invariant in
    let all : c.loop-i.i ≡ c.args.count = omega arith in
    let count = length-bytes_at c.args.pages.now c.args.size c.args.count c.args.place in
    let said : c.loop-i.votes ≡ votes (bytes_at c.args.pages.now c.args.size c.args.count c.args.place) c.args.bit =
    subst (λ n. c.loop-i.votes ≡ votes (bytes_at c.args.pages.now c.args.size n c.args.place) c.args.bit) all inv.votes_are in
    sym (majority_yes (bytes_at c.args.pages.now c.args.size c.args.count c.args.place) c.args.bit c.args.count count (omega arith))

pub returns-else-votes-count : goal.returns-else-votes-count
returns-else-votes-count c =
    let inv = c.loop-i.invariant in
    let all : c.loop-i.i ≡ c.args.count = omega arith in
    let count = length-bytes_at c.args.pages.now c.args.size c.args.count c.args.place in
    let said : c.loop-i.votes ≡ votes (bytes_at c.args.pages.now c.args.size c.args.count c.args.place) c.args.bit =
    subst (λ n. c.loop-i.votes ≡ votes (bytes_at c.args.pages.now c.args.size n c.args.place) c.args.bit) all inv.votes_are in
    sym (majority_no (bytes_at c.args.pages.now c.args.size c.args.count c.args.place) c.args.bit c.args.count count (omega arith))
