use Rattle.std.proofs.Common.{arith, ◌≡◌, ◌<◌, ◌∙◌, sym, subst}
use Rattle.std.proofs.lemmas.Result.{err_from_is_err_and}
use Rattle.page_layout.specs.Geometry.{table_pages}
use Rattle.bad_blocks.specs.Table.{unworn}
use Rattle.image_check.proofs.ReadLemmas.{risen_over, at_end, reads_start, reads_next, reads_to, reads_stopped}
use Rattle.mount.specs.Attempt.{IsTrying}
use Rattle.mount.proofs.AttemptLemmas.{tries_more, tries_failed}
use Rattle.mount.proofs.CountLemmas.{wrote_none, wrote_then, sum_start, sum_next, sum_to, sum_before, sum_within, least_next, least_one}
use Rattle.mount.proofs.TriesLemmas.{passed_not_failed}
use Rattle.mount.proofs.format_tables.write_in_block.Goals as goal

pub loop-u-init : goal.loop-u-init
loop-u-init g c = record {
  trying = λ h first failed trying. trying;
  sequences = sum_start _;
  only_writes = wrote_none _ _;
  programs = reads_start _;
  at_least = omega arith;
}

pub program_table-requires : goal.program_table-requires
program_table-requires g c = record {
  geometry = c.loop-u.invariant.only_writes.geometry_was ∙ c.requires.geometry;
  block_in = c.requires.block_in;
  page_in = subst (λ n. c.loop-u.u < n) c.table_pages-u-end.ensures c.loop-u-test.true;
  body_whole = c.loop-u.auto.body ∙ c.requires.body_whole;
  spare_whole = c.loop-u.auto.spare ∙ c.requires.spare_whole;
}

pub loop-u-preserved : goal.loop-u-preserved
loop-u-preserved g c =
    let i = c.loop-u.invariant in
    let page_in : c.loop-u.u < table_pages c.args.geometry.now = subst (λ n. c.loop-u.u < n) c.table_pages-u-end.ensures c.loop-u-test.true in
    record {
      trying = λ h first failed trying.
          tries_more c.args.geometry.now first _ _ (unworn c.args.classes.now) c.args.block c.loop-u.u c.loop-u.sequence failed c.in_ok-outcome.outcome
          (i.trying h first failed trying) c.requires.block_in page_in c.requires.good
          (c.in_ok-outcome.ensures.programmed (i.only_writes.honest_was ∙ h)) (sym c.if-not-passed.ensures);
      sequences = sum_next _ _ _ i.sequences;
      only_writes = wrote_then _ _ _ _ i.only_writes c.program_table.ensures.only_writes;
      programs = reads_next _ _ _ _ i.programs c.program_table.ensures.programs;
      at_least = least_next _ _ _ _ i.at_least c.program_table.ensures.programs;
    }

pub returns-in_err-outcome : goal.returns-in_err-outcome
returns-in_err-outcome g c =
    let p = err_from_is_err_and c.from_residual.result c.from_residual.ensures.1 in
    let i = c.loop-u.invariant in
    let made = c.program_table.ensures in
    rw p.1 (record {
      tries = tt;
      sequences = sum_before _ _ _ _ _ i.sequences c.loop-u-test.true c.table_pages-u-end.ensures;
      only_writes = wrote_then _ _ _ _ i.only_writes made.only_writes;
      programs = reads_stopped _ _ _ _ _ _ i.programs made.programs c.loop-u-test.true c.table_pages-u-end.ensures;
      tried = tt;
      rose = risen_over _ _ _ i.only_writes.failed_was c.in_err-outcome.ensures.rose;
    })

pub returns-then-not-passed : goal.returns-then-not-passed
returns-then-not-passed g c =
    let i = c.loop-u.invariant in
    let made = c.program_table.ensures in
    let page_in : c.loop-u.u < table_pages c.args.geometry.now = subst (λ n. c.loop-u.u < n) c.table_pages-u-end.ensures c.loop-u-test.true in
    record {
      tries = λ h first failed trying.
          tries_failed c.args.geometry.now first _ _ (unworn c.args.classes.now) c.args.block c.loop-u.u c.loop-u.sequence failed c.in_ok-outcome.outcome
          (i.trying h first failed trying) c.requires.block_in page_in c.requires.good c.requires.lowest
          (c.in_ok-outcome.ensures.programmed (i.only_writes.honest_was ∙ h)) (sym c.if-not-passed.ensures);
      sequences = sum_within _ _ _ _ _ i.sequences c.loop-u-test.true c.table_pages-u-end.ensures;
      only_writes = wrote_then _ _ _ _ i.only_writes made.only_writes;
      programs = reads_stopped _ _ _ _ _ _ i.programs made.programs c.loop-u-test.true c.table_pages-u-end.ensures;
      tried = λ failed. least_one _ _ _ _ i.at_least made.programs;
      rose = tt;
    }

pub returns : goal.returns
returns g c =
    let i = c.loop-u.invariant in
    let geo = c.args.geometry.now in
    let end : c.loop-u.u ≡ table_pages geo = at_end _ _ _ c.loop-u.auto.u-end c.loop-u-test.false c.table_pages-u-end.ensures in
    record {
      tries = λ h first failed trying. subst (λ n. IsTrying geo first (g.N.PageSource.view.flash c.loop-u.nand) (unworn c.args.classes.now) c.args.block n c.loop-u.sequence failed) end (i.trying h first failed trying);
      sequences = sum_to _ _ _ _ i.sequences end;
      only_writes = i.only_writes;
      programs = reads_to _ _ _ _ i.programs end;
      tried = λ failed. absurd (passed_not_failed failed);
      rose = tt;
    }
