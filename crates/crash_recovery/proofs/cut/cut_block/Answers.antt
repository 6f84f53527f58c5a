use Rattle.std.proofs.Common.{◌∙◌, ◌-◌, arith}
use Rattle.crash_recovery.proofs.Kept.{keeps_done, keeps_failed, keeps_none, keeps_then, keeps_undone}
use Rattle.crash_recovery.proofs.TakesLemmas.{erased_none, put_erases, put_takes, tail_erased, takes_none, takes_then}
use Rattle.crash_recovery.proofs.cut.cut_block.Goals as goal

pub loop-next-init : goal.loop-next-init
loop-next-init g c = record {
  takes = λ h. takes_none _ _;
  erased = λ h. rw c.pages-next.ensures (erased_none c.args.geometry.now _ c.args.block);
  most = omega (arith, c.pages-next.ensures);
  keeps = keeps_none _ _ _ _;
}

pub put-requires-clause-in_range : goal.put-requires-clause-in_range
put-requires-clause-in_range g c = rw (c.loop-next.invariant.keeps.geometry ∙ c.requires.geometry) c.row.ensures.within

pub put-requires-clause-whole : goal.put-requires-clause-whole
put-requires-clause-whole g c = rw (c.loop-next.invariant.keeps.geometry ∙ c.requires.geometry) c.requires.long

pub returns-in_err-put-clause-keeps : goal.returns-in_err-put-clause-keeps
returns-in_err-put-clause-keeps g c =
    keeps_failed _ _ _ _ _ c.from_residual.result c.from_residual.ensures.0
    (keeps_then _ _ _ _ _ _ _ c.loop-next.invariant.keeps (keeps_undone _ _ _ _ _ c.put.ensures.geometry c.put.ensures.honest c.in_err-put.ensures.rose))

pub returns-clause-keeps : goal.returns-clause-keeps
returns-clause-keeps g c = c.loop-next.invariant.keeps

pub returns-in_err-put-clause-takes : goal.returns-in_err-put-clause-takes
returns-in_err-put-clause-takes g c h =
    let loop = c.loop-next.invariant in
    takes_then _ _ _ _ (loop.takes h)
    (put_takes c.args.geometry.now _ _ c.args.block (c.loop-next.next - 1) c.args.from c.row.result c.args.erased.now _ (loop.keeps.geometry ∙ c.requires.geometry) ((loop.takes h).whole (c.requires.images h)) c.row.ensures.within
    (omega (arith, loop.most, c.loop-next-test.true)) (omega (arith, c.loop-next-test.true)) c.row.ensures.is c.requires.erased (c.put.ensures.puts (loop.keeps.as_honest ∙ h)) c.put.ensures.geometry)

pub loop-next-preserved : goal.loop-next-preserved
loop-next-preserved g c =
    let loop = c.loop-next.invariant in
    record {
      takes = λ h. takes_then _ _ _ _ (loop.takes h)
          (put_takes c.args.geometry.now _ _ c.args.block (c.loop-next.next - 1) c.args.from c.row.result c.args.erased.now _ (loop.keeps.geometry ∙ c.requires.geometry) ((loop.takes h).whole (c.requires.images h)) c.row.ensures.within
          (omega (arith, loop.most, c.loop-next-test.true)) (omega (arith, c.loop-next-test.true)) c.row.ensures.is c.requires.erased (c.put.ensures.puts (loop.keeps.as_honest ∙ h)) c.put.ensures.geometry);
      erased = λ h. put_erases c.args.geometry.now _ _ c.args.block c.loop-next.next c.row.result c.args.erased.now (loop.keeps.geometry ∙ c.requires.geometry) ((loop.takes h).whole (c.requires.images h)) c.row.ensures.within
          (omega (arith, c.loop-next-test.true)) c.row.ensures.is c.requires.erased (c.in_ok-put.ensures.puts (loop.keeps.as_honest ∙ h)) (loop.erased h);
      most = omega (arith, loop.most);
      keeps = keeps_then _ _ _ _ _ _ _ loop.keeps (keeps_done _ _ _ _ _ c.put.ensures.geometry c.put.ensures.honest c.in_ok-put.ensures.settled);
    }

pub returns-clause-erased : goal.returns-clause-erased
returns-clause-erased g c h = tail_erased c.args.geometry.now _ c.args.block c.args.from c.loop-next.next (c.loop-next.invariant.keeps.geometry ∙ c.requires.geometry) c.loop-next-test.false (c.loop-next.invariant.erased h)
