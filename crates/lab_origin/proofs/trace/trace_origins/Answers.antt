use Rattle.std.proofs.Common.{◌∙◌}
use Rattle.lab_origin.proofs.TracingLemmas.{all_marks, nothing_yet}
use Rattle.lab_origin.proofs.trace.trace_origins.Goals as goal

pub take_rows-requires-clause-none : goal.take_rows-requires-clause-none
take_rows-requires-clause-none g c = nothing_yet c.args.geometry.now c.args.room.latest.items c.args.room.marks.items c.requires.latest c.requires.marks

pub returns-clause-ok : goal.returns-clause-ok
returns-clause-ok g c = λ all files dumped told.
    let sizes = c.in_ok-expect_sizes.ensures in
    record {
      whole = sizes.whole all dumped;
      readings_whole = sizes.readings_whole files told;
      marks_are = all_marks c.args.geometry.now c.args.until all files _ _ c.in_ok-take_rows.ensures.sized (c.in_ok-take_rows.ensures.shows all files (sizes.dump_same ∙ dumped) (sizes.same ∙ told));
    }
