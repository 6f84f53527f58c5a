use Rattle.std.proofs.Common.{inl, inr, ◌∙◌}
use Rattle.lab_commands.proofs.UndoneLemmas.{handed, no_more_then, unwritten_before}
use Rattle.lab_commands.proofs.opening.begin_file.Goals as goal

pub returns-in_err-reader : goal.returns-in_err-reader
returns-in_err-reader g c =
    rw (handed c.from_residual.result _ c.from_residual.ensures.1) (record {
      bytes = tt;
      reads = tt;
      blank = tt;
      writes = tt;
      fault = inl c.in_err-reader.ensures.fault;
      no_more = c.open_file.ensures.no_more;
      made = tt;
      kept = c.open_file.ensures.kept;
      opened = c.open_file.ensures.opened;
    })

pub returns-in_err-target : goal.returns-in_err-target
returns-in_err-target g c =
    rw (handed c.from_residual-in_err-target.result _ c.from_residual-in_err-target.ensures.1) (record {
      bytes = tt;
      reads = tt;
      blank = tt;
      writes = tt;
      fault = inr (unwritten_before (g.F.LabFiles.answers c.args.files.now) (g.F.LabFiles.answers c.open_file.new.files) c.args.path.now _ c.open_file.ensures.no_more c.in_err-target.ensures.fault);
      no_more = no_more_then _ _ _ c.open_file.ensures.no_more c.create_beside.ensures.no_more;
      made = tt;
      kept = c.in_err-target.ensures.kept ∙ c.open_file.ensures.kept;
      opened = c.create_beside.ensures.opened ∙ c.open_file.ensures.opened;
    })

pub returns : goal.returns
returns g c =
    let first = c.open_file.ensures in
    record {
      bytes = c.in_ok-reader.ensures.bytes;
      reads = first.fails;
      blank = c.in_ok-target.ensures.blank;
      writes = λ target failed. first.no_more.writes_same (c.create_beside.ensures.fails target failed);
      fault = tt;
      no_more = no_more_then _ _ _ first.no_more c.create_beside.ensures.no_more;
      made = c.in_ok-target.ensures.made ∙ first.kept;
      kept = tt;
      opened = c.create_beside.ensures.opened ∙ first.opened;
    }
