use Rattle.std.proofs.Common.{◌≡◌, ◌∙◌, ap, arith, true}
use Rattle.page_layout.specs.Sound.{record_of}
use Rattle.file_die.specs.Store.{Held, page_in}
use Rattle.crash_recovery.proofs.Kept.{looked_again, looks_failed, looks_none, looks_then}
use Rattle.crash_recovery.proofs.LookLemmas.{late_none, late_some, marked_here, unmarked_all, unmarked_more, unmarked_start}
use Rattle.crash_recovery.proofs.look.none_is_marked.Given.{Over}
use Rattle.crash_recovery.proofs.look.none_is_marked.Goals.{In_ok-found}
use Rattle.crash_recovery.proofs.look.none_is_marked.Goals as goal
use Rattle.crash_recovery.proofs.look.none_is_marked.Goals.{in-Some+else-found-mark, in_default}

-- what is read is the record of the row in the store as it was
its_record : (g : Over) (c : In_ok-found g) → g.S.Store.honest c.args.store.now ≡ true → c.in_ok-found.field-0 ≡ record_of (page_in (g.S.Store.held c.args.store.now).pages c.row.result)
its_record g c h =
    let looks = c.loop-k.invariant.looks in
    c.in_ok-found.ensures.found (looks.keeps.as_honest ∙ h) ∙ ap (λ (s : Held). record_of (page_in s.pages c.row.result)) (looks.same h)

pub loop-k-init : goal.loop-k-init
loop-k-init g c = record { looks = looks_none _ _ _ _; unmarked = λ h. unmarked_start _ _ _ _ _ }

pub record_at-requires-clause-look : goal.record_at-requires-clause-look
record_at-requires-clause-look g c = looked_again _ _ _ _ _ _ _ _ c.requires.look c.loop-k.invariant.looks c.loop-k.auto.page

pub record_at-requires-clause-in_range : goal.record_at-requires-clause-in_range
record_at-requires-clause-in_range g c = c.row.ensures.within

pub returns-in_err-found-clause-looks : goal.returns-in_err-found-clause-looks
returns-in_err-found-clause-looks g c =
    looks_failed _ _ _ _ _ c.from_residual.result c.from_residual.ensures.0 (looks_then _ _ _ _ _ _ _ c.loop-k.invariant.looks c.in_err-found.ensures.looks)

pub returns-then-found-mark-clause-looks : goal.returns-then-found-mark-clause-looks
returns-then-found-mark-clause-looks g c = looks_then _ _ _ _ _ _ _ c.loop-k.invariant.looks c.in_ok-found.ensures.looks

pub returns-clause-looks : goal.returns-clause-looks
returns-clause-looks g c = c.loop-k.invariant.looks

pub returns-then-found-mark-clause-some : goal.returns-then-found-mark-clause-some
returns-then-found-mark-clause-some g c h e =
    marked_here c.args.geometry.now _ c.args.mark c.args.block c.args.from c.loop-k.k c.row.result c.in_ok-found.field-0 c.in-Some.found (c.requires.look.rows h) c.requires.in_range c.loop-k.auto.k
    (omega (arith, c.loop-k-test.true, c.pages-k-end.ensures)) c.row.ensures.is (its_record g (goal.at.returns-then-found-mark-clause-some g c).In_ok-found h)
    c.in-Some.is c.if-found-mark.true

pub loop-k-preserved : goal.loop-k-preserved
loop-k-preserved g c =
    record {
      looks = looks_then _ _ _ _ _ _ _ c.loop-k.invariant.looks c.in_ok-found.ensures.looks;
      unmarked = λ h. unmarked_more c.args.geometry.now _ c.args.mark c.args.block c.args.from c.loop-k.k c.row.result c.in_ok-found.field-0 (c.requires.look.rows h) c.requires.in_range
          (omega (arith, c.loop-k-test.true, c.pages-k-end.ensures)) c.row.ensures.is (its_record g (goal.at.loop-k-preserved g c).In_ok-found h)
          (λ r some. elim c.match-branch-2.branch [
            | in-Some+else-found-mark w ↦ late_some c.args.mark c.in_ok-found.field-0 w.in-Some.found r w.in-Some.is w.if-found-mark.false some
            | in_default w ↦ late_none c.args.mark c.in_ok-found.field-0 r w.in_default.is some
          ])
          (c.loop-k.invariant.unmarked h);
    }

pub returns-clause-none : goal.returns-clause-none
returns-clause-none g c h e = unmarked_all c.args.geometry.now _ c.args.mark c.args.block c.args.from c.loop-k.k (omega (arith, c.loop-k-test.false, c.pages-k-end.ensures)) (c.loop-k.invariant.unmarked h)
