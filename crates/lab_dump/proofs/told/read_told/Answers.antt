use Rattle.std.proofs.Common.{◌∙◌, arith, rules}
use Rattle.std.proofs.lemmas.Result.{err_from_is_err_and}
use Rattle.lab_dump.proofs.SampleLemmas.{page_is}
use Rattle.lab_dump.proofs.ToldLemmas.{told_none, told_page}
use Rattle.lab_dump.proofs.told.read_told.Goals as goal

pub loop-row-init : goal.loop-row-init
loop-row-init g c = record {
  whole = c.requires;
  same = search rules;
  told = λ all told. told_none _ _ all _ (search rules);
}

pub loop-row-preserved : goal.loop-row-preserved
loop-row-preserved g c =
    let inv = c.loop-row.invariant in
    let geo = c.args.geometry.now in
    record {
      whole = search rules;
      same = c.read_row.ensures.same ∙ inv.same;
      told = λ all told. told_page geo c.loop-row.row all c.read_row.new.page c.loop-row.told _ (inv.told all told)
          (page_is geo.data_bytes geo.spare_bytes _ c.loop-row.row all c.read_row.new.page (omega arith) (c.in_ok-read_row.ensures.read all (inv.same ∙ told))) (omega arith) c.noted-told.ensures;
    }

pub returns-in_err-read_row : goal.returns-in_err-read_row
returns-in_err-read_row g c =
    let p = err_from_is_err_and c.from_residual.result c.from_residual.ensures.1 in
    rw p.1 (record { told = tt; failed = c.in_err-read_row.ensures.failed; same = c.read_row.ensures.same ∙ c.loop-row.invariant.same })
