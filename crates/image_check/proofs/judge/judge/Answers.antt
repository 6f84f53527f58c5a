use Rattle.std.proofs.Common.{◌≡◌, ◌+◌, length, refl, sym, ap, ◌∙◌}
use Rattle.std.proofs.lemmas.Result.{err_from_is_err_and}
use Rattle.page_layout.specs.declared.geometry.Geometry.{Geometry}
use Rattle.page_layout.specs.Geometry.{translation_pages, table_pages}
use Rattle.image_check.specs.Refused.{Next}
use Rattle.image_check.proofs.ChainLemmas.{hold_more, fails_here}
use Rattle.image_check.proofs.JudgeLemmas.{still_sized, blocks_few, rows_held, rows_refused, blocks_held, blocks_refused, pairs_sorted}
use Rattle.image_check.proofs.judge.judge.Goals as goal

pub describe-requires : goal.describe-requires
describe-requires c = record { sized = c.requires.sized; scratch = c.requires.scratch }

pub judge_rows-requires : goal.judge_rows-requires
judge_rows-requires c =
    let still = still_sized c.args.survey.now c.describe.new.survey _ c.describe.ensures.others c.requires.sized in
    let same : c.args.survey.now.geometry ≡ c.describe.new.survey.geometry = sym still.geometry_is in
    record {
      newest = still.newest;
      directory = c.requires.certificate.directory ∙ ap (λ (g : Geometry). translation_pages g + table_pages g) same;
      sectors = c.requires.certificate.sectors ∙ ap (λ (g : Geometry). g.sectors) same;
      passed = c.requires.passed ∙ ap (λ (g : Geometry). g.sectors) same;
    }

pub judge_blocks-requires : goal.judge_blocks-requires
judge_blocks-requires c =
    let size : length c.deref.result.now ≡ c.args.survey.now.geometry.blocks = ap length c.deref.ensures.value ∙ c.in_ok-describe.ensures.size in
    record { few = blocks_few c.args.survey.now.geometry _ size; sized = c.requires.certificate.blocks ∙ sym size }

pub returns-in_err-describe : goal.returns-in_err-describe
returns-in_err-describe c =
    let p = err_from_is_err_and c.from_residual.result c.from_residual.ensures.1 in
    let bad = c.in_err-describe.ensures in
    rw (p.1, p.2) (record {
      ok = tt;
      err = λ capacity image h passes. bad.err capacity image c.args.certificate.now h;
      named = bad.named;
    })

pub returns-in_err-judge_rows : goal.returns-in_err-judge_rows
returns-in_err-judge_rows c =
    let p = err_from_is_err_and c.from_residual-in_err-judge_rows.result c.from_residual-in_err-judge_rows.ensures.1 in
    let old = c.args.survey.now in
    let claim = c.args.certificate.now in
    let done = c.in_ok-describe.ensures in
    rw (p.1, p.2) (record {
      ok = tt;
      err = λ capacity image h passes.
          rows_refused capacity image old c.describe.new.survey claim c.args.passed.now _ h done.others done.permutation passes (done.ok capacity image claim h) c.in_err-judge_rows.ensures.err;
      named = c.in_err-judge_rows.ensures.named;
    })

pub returns-in_err-judge_blocks : goal.returns-in_err-judge_blocks
returns-in_err-judge_blocks c =
    let p = err_from_is_err_and c.from_residual-in_err-judge_blocks.result c.from_residual-in_err-judge_blocks.ensures.1 in
    let claim = c.args.certificate.now in
    let old = c.args.survey.now in
    let done = c.in_ok-describe.ensures in
    rw (p.1, p.2) (record {
      ok = tt;
      err = λ capacity image h passes.
          let rows = rows_held capacity image old c.describe.new.survey claim c.args.passed.now h done.others done.permutation passes (done.ok capacity image claim h) c.in_ok-judge_rows.ensures.ok in
          blocks_refused old.geometry capacity image claim _ c.deref.result.now _ rows c.deref.ensures.value (done.states image h) c.in_err-judge_blocks.ensures.err;
      named = c.in_err-judge_blocks.ensures.named;
    })

pub returns-in_err-check_next : goal.returns-in_err-check_next
returns-in_err-check_next c =
    let p = err_from_is_err_and c.from_residual-in_err-check_next.result c.from_residual-in_err-check_next.ensures.1 in
    let old = c.args.survey.now in
    let done = c.in_ok-describe.ensures in
    let claim = c.args.certificate.now in
    rw (p.1, p.2) (record {
      ok = tt;
      err = λ capacity image h passes.
          let rows = rows_held capacity image old c.describe.new.survey claim c.args.passed.now h done.others done.permutation passes (done.ok capacity image claim h) c.in_ok-judge_rows.ensures.ok in
          let blocks = blocks_held old.geometry capacity image claim _ c.deref.result.now rows c.deref.ensures.value (done.states image h) c.in_ok-judge_blocks.ensures.ok in
          let pairs = pairs_sorted image old c.describe.new.survey c.deref-2.result.now h done.others done.permutation c.deref-2.ensures.value in
          fails_here old.geometry capacity image claim Next 1 _ blocks (c.in_err-check_next.ensures.err old.geometry capacity image pairs);
      named = c.in_err-check_next.ensures.named;
    })

pub returns : goal.returns
returns c =
    let old = c.args.survey.now in
    let claim = c.args.certificate.now in
    let done = c.in_ok-describe.ensures in
    record {
      ok = λ capacity image h passes.
          let rows = rows_held capacity image old c.describe.new.survey claim c.args.passed.now h done.others done.permutation passes (done.ok capacity image claim h) c.in_ok-judge_rows.ensures.ok in
          let blocks = blocks_held old.geometry capacity image claim _ c.deref.result.now rows c.deref.ensures.value (done.states image h) c.in_ok-judge_blocks.ensures.ok in
          let pairs = pairs_sorted image old c.describe.new.survey c.deref-2.result.now h done.others done.permutation c.deref-2.ensures.value in
          hold_more old.geometry capacity image claim Next 1 10 11 refl refl blocks (c.in_ok-check_next.ensures.ok old.geometry image pairs);
      err = tt;
      named = tt;
    }
