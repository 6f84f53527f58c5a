use Rattle.std.proofs.Common.{◌+◌, sym, subst, ◌∙◌, arith, refl}
use Rattle.image_check.proofs.SequenceLemmas.{Looked, looked_start, looked_kept, looked_found, looked_apart, looked_end, looked_some, looked_none, found_of, none_of}
use Rattle.image_check.proofs.sequences.find_repeated.Goals.{then-first-second+in-Some, then-first-second+in_default-2, then-first-second+in_default}
use Rattle.image_check.proofs.sequences.find_repeated.Goals.{else-first-second}
use Rattle.image_check.proofs.sequences.find_repeated.Goals as goal

pub loop-i-preserved : goal.loop-i-preserved
loop-i-preserved c =
    let n = c.loop-i.i in
    let pairs = c.args.pairs.now in
    let inv = c.loop-i.invariant.looked in
    let looked : Looked (n + 1) pairs c.if-first-second.lowest = elim c.if-first-second.branch [
      | then-first-second+in-Some w ↦
          let is = w.in-Some.is in
          let le = w.if-found-second.true in
          subst (λ o. Looked (n + 1) pairs o) (is ∙ sym w.lowest-is) (looked_kept n pairs c.loop-i.lowest w.in-Some.found is (omega arith) le inv)
      | then-first-second+in_default-2 w ↦
          let is = w.in-Some.is in
          let lt = w.if-found-second.false in
          subst (λ o. Looked (n + 1) pairs o) (sym w.lowest-is) (looked_found n pairs c.loop-i.lowest _ _ (omega arith) refl refl w.if-first-second.true (looked_some c.loop-i.lowest w.in-Some.found _ is (omega arith)) inv)
      | then-first-second+in_default w ↦
          subst (λ o. Looked (n + 1) pairs o) (sym w.lowest-is) (looked_found n pairs c.loop-i.lowest _ _ (omega arith) refl refl w.if-first-second.true (looked_none c.loop-i.lowest _ w.in_default.is) inv)
      | else-first-second w ↦
          subst (λ o. Looked (n + 1) pairs o) (sym w.lowest-is) (looked_apart n pairs c.loop-i.lowest (omega arith) w.if-first-second.false inv)
    ] in
    record { looked = looked; near = omega arith }

pub returns-clause-found : goal.returns-clause-found
returns-clause-found c = found_of _ c.args.pairs.now c.loop-i.lowest (looked_end c.loop-i.i c.args.pairs.now c.loop-i.lowest (omega arith) c.loop-i.invariant.near c.loop-i.auto.i-end c.loop-i.invariant.looked)

pub returns-clause-none : goal.returns-clause-none
returns-clause-none c = none_of _ c.args.pairs.now c.loop-i.lowest (looked_end c.loop-i.i c.args.pairs.now c.loop-i.lowest (omega arith) c.loop-i.invariant.near c.loop-i.auto.i-end c.loop-i.invariant.looked)

pub loop-i-init : goal.loop-i-init
loop-i-init c = record { looked = looked_start c.args.pairs.now; near = omega arith }
