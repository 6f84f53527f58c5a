use Rattle.std.proofs.lemmas.Result.{err_from_is_err_and}
use Rattle.lab_dump.proofs.MapLemmas.{then_last}
use Rattle.lab_dump.proofs.map_head.print_map_head.Goals as goal

pub returns : goal.returns
returns g c = record {
  printed = then_last _ _ _ _ _ c.print_status.result c.in_ok-print_remark.ensures.printed c.print_status.ensures.printed;
  failed = c.print_status.ensures.failed;
}

pub returns-in_err-print_remark : goal.returns-in_err-print_remark
returns-in_err-print_remark g c =
    let p = err_from_is_err_and c.from_residual.result c.from_residual.ensures.1 in
    rw p.1 (record { printed = tt; failed = c.in_err-print_remark.ensures.failed })
