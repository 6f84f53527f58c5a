use Rattle.std.proofs.Common.{◌≡◌, ◌∙◌, ap, arith, length}
use Rattle.std.specs.Prelude.{filter}
use Rattle.std.specs.List.{range_with_len}
use Rattle.lost_sectors.specs.Lost.{is_listed_in}
use Rattle.disk_damage.specs.Numbers.{listed_sectors}
use Rattle.disk_damage.proofs.NumberLemmas.{fails, passes}
use Rattle.disk_damage.proofs.numbers.numbers_of.Goals.{then-is_lost+in_ok-push, else-is_lost}
use Rattle.disk_damage.proofs.numbers.numbers_of.Goals as goal

pub loop-n-preserved : goal.loop-n-preserved
loop-n-preserved c =
    let lost = c.args.lost.now in
    elim c.if-is_lost.branch [
      | then-is_lost+in_ok-push w ↦ passes (is_listed_in lost) c.loop-n.n c.loop-n.sectors.items _ w.if-is_lost.true c.loop-n.invariant (ap (λ s. s.items) w.sectors-is ∙ w.in_ok-push.ensures.items)
      | else-is_lost w ↦ ap (λ s. s.items) w.sectors-is ∙ fails (is_listed_in lost) c.loop-n.n c.loop-n.sectors.items w.if-is_lost.false c.loop-n.invariant
    ]

pub returns : goal.returns
unfolding listed_sectors
returns c =
    let all : c.loop-n.n ≡ length c.args.lost.now = omega (arith, c.loop-n-test.false) in
    c.loop-n.invariant ∙ ap (λ n. filter (is_listed_in c.args.lost.now) (range_with_len 0 n)) all
