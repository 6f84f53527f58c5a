use Rattle.std.proofs.lemmas.Result.{err_from_is_err_and}
use Rattle.lab_dump.proofs.SampleLemmas.{page_is}
use Rattle.std.proofs.Common.{arith}
use Rattle.lab_dump.proofs.row_page.look_at_row.Goals as goal

pub returns : goal.returns
returns g c = record {
  read = λ all told. page_is _ _ _ c.args.row all _ (omega arith) (c.in_ok-read_row.ensures.read all told);
  look = c.look_in.ensures;
  failed = tt;
  same = c.read_row.ensures.same;
}

pub returns-in_err-read_row : goal.returns-in_err-read_row
returns-in_err-read_row g c =
    let p = err_from_is_err_and c.from_residual.result c.from_residual.ensures.1 in
    rw p.1 (record { look = tt; read = tt; failed = c.in_err-read_row.ensures.failed; same = c.read_row.ensures.same })
