use Rattle.std.proofs.Common.{◌≡◌, ◌∙◌, ap, arith, true}
use Rattle.page_layout.specs.Sound.{record_of}
use Rattle.file_die.specs.Store.{Held, page_in}
use Rattle.crash_recovery.proofs.Kept.{looked_again, looks_failed, looks_none, looks_then}
use Rattle.crash_recovery.proofs.LookLemmas.{run_all, run_ends, some_is, sound_more, sound_start}
use Rattle.crash_recovery.proofs.look.sound_run.Given.{Over}
use Rattle.crash_recovery.proofs.look.sound_run.Goals.{In_ok-record_at}
use Rattle.crash_recovery.proofs.look.sound_run.Goals as goal

-- what is read is the record of the row in the store as it was
its_record : (g : Over) (c : In_ok-record_at g) → g.S.Store.honest c.args.store.now ≡ true → c.in_ok-record_at.field-0 ≡ record_of (page_in (g.S.Store.held c.args.store.now).pages c.row.result)
its_record g c h =
    let looks = c.loop-k.invariant.looks in
    c.in_ok-record_at.ensures.found (looks.keeps.as_honest ∙ h) ∙ ap (λ (s : Held). record_of (page_in s.pages c.row.result)) (looks.same h)

pub loop-k-init : goal.loop-k-init
loop-k-init g c = record { looks = looks_none _ _ _ _; sound = λ h. sound_start c.args.geometry.now _ c.args.block }

pub record_at-requires-clause-look : goal.record_at-requires-clause-look
record_at-requires-clause-look g c = looked_again _ _ _ _ _ _ _ _ c.requires.look c.loop-k.invariant.looks c.loop-k.auto.page

pub record_at-requires-clause-in_range : goal.record_at-requires-clause-in_range
record_at-requires-clause-in_range g c = c.row.ensures.within

pub returns-in_err-record_at-clause-looks : goal.returns-in_err-record_at-clause-looks
returns-in_err-record_at-clause-looks g c =
    looks_failed _ _ _ _ _ c.from_residual.result c.from_residual.ensures.0 (looks_then _ _ _ _ _ _ _ c.loop-k.invariant.looks c.in_err-record_at.ensures.looks)

pub returns-in_default-clause-looks : goal.returns-in_default-clause-looks
returns-in_default-clause-looks g c = looks_then _ _ _ _ _ _ _ c.loop-k.invariant.looks c.in_ok-record_at.ensures.looks

pub returns-in_default-clause-run : goal.returns-in_default-clause-run
returns-in_default-clause-run g c h =
    run_ends c.args.geometry.now _ c.args.block c.loop-k.k c.row.result c.in_ok-record_at.field-0 (c.requires.look.rows h) c.requires.in_range (omega (arith, c.loop-k-test.true, c.pages-k-end.ensures)) c.row.ensures.is
    (its_record g (goal.at.returns-in_default-clause-run g c).In_ok-record_at h) c.in_default.is (c.loop-k.invariant.sound h)

pub loop-k-preserved : goal.loop-k-preserved
loop-k-preserved g c =
    record {
      looks = looks_then _ _ _ _ _ _ _ c.loop-k.invariant.looks c.in_ok-record_at.ensures.looks;
      sound = λ h. sound_more c.args.geometry.now _ c.args.block c.loop-k.k c.row.result c.in_ok-record_at.field-0 (c.requires.look.rows h) c.requires.in_range (omega (arith, c.loop-k-test.true, c.pages-k-end.ensures)) c.row.ensures.is
          (its_record g (goal.at.loop-k-preserved g c).In_ok-record_at h) (some_is _ _ c.in-Some.is) (c.loop-k.invariant.sound h);
    }

pub returns-clause-looks : goal.returns-clause-looks
returns-clause-looks g c = c.loop-k.invariant.looks

pub returns-clause-run : goal.returns-clause-run
returns-clause-run g c h = rw c.pages.ensures (run_all c.args.geometry.now _ c.args.block c.loop-k.k (omega (arith, c.loop-k-test.false, c.pages-k-end.ensures)) (c.loop-k.invariant.sound h))
