use Rattle.std.proofs.Common.{◌≡◌, ℕ, ◌+◌, Option, arith, subst, sym}
use Rattle.allocation.specs.View.{state}
use Rattle.allocation.proofs.VictimLemmas.{Best, victim_stays, victim_next, victim_first, best_passed}
use Rattle.allocation.proofs.TallyLemmas.{small_found}
use Rattle.allocation.proofs.blocks.Blocks.victim.Goals as goal
use Rattle.allocation.proofs.blocks.Blocks.victim.Goals.{then-closed+in-Some, then-closed+in_default-2, then-closed+in_default, else-closed}

pub candidates-preserved : goal.candidates-preserved
candidates-preserved c =
    let s = state c.args.self.now in
    let n = c.candidates.block in
    let so_far : Best s n c.candidates.best = c.candidates.invariant in
    elim c.if-closed.branch [
      | then-closed+in-Some w ↦ subst (λ (x : Option ℕ). Best s (n + 1) x) (sym w.best-is) (victim_stays s n w.in-Some.other (subst (λ (x : Option ℕ). Best s n x) w.in-Some.is so_far) w.if-is_before.ensures.before)
      | then-closed+in_default-2 w ↦ subst (λ (x : Option ℕ). Best s (n + 1) x) (sym w.best-is) (victim_next s n w.in-Some.other (subst (λ (x : Option ℕ). Best s n x) w.in-Some.is so_far) w.if-is_before.ensures.after (sym w.if-closed.ensures))
      | then-closed+in_default w ↦ subst (λ (x : Option ℕ). Best s (n + 1) x) (sym w.best-is) (victim_first s n (subst (λ (x : Option ℕ). Best s n x) w.in_default.is so_far) (sym w.if-closed.ensures))
      | else-closed w ↦ subst (λ (x : Option ℕ). Best s (n + 1) x) (sym w.best-is) (best_passed s n c.candidates.best so_far (sym w.if-closed.ensures))
    ]

pub returns-clause-small : goal.returns-clause-small
returns-clause-small c =
    let s = c.args.self.now in
    let last : c.candidates.block ≡ s.geometry.blocks = omega (arith, c.candidates-test.false, c.candidates.auto.block-end, c.blocks-block-end.ensures) in
    let all : Best (state s) s.geometry.blocks c.candidates.best = subst (λ (n : ℕ). Best (state s) n c.candidates.best) last c.candidates.invariant in
    λ marks. small_found s.free (state s) marks c.candidates.best s.safe all
