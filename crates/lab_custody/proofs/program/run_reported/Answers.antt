use Rattle.std.proofs.Common.{◌≡◌, ℕ, inr, map, refl, subst, arith}
use Rattle.program_words.specs.Met.{texts}
use Rattle.lab_commands.specs.Program.{LabCommandRuns}
use Rattle.lab_report.specs.Note.{noted_of}
use Rattle.lab_custody.proofs.program.run_reported.Goals as goal

pub returns : goal.returns
returns g c =
    let begun = c.begin.new.files in
    let done = c.run-status.new.files in
    let none : c.run-status.result ≡ 0 = omega (arith, c.if-status-ne-DONE.false) in
    inr (inr (inr (record {
      begun = begun;
      done = done;
      read = map noted_of c.in-Ok.notes.read.items;
      said = record { before = g.E.Output.contents c.args.err.now; after = g.E.Output.contents c.run-status.new.err; broke = g.E.Output.failed c.run-status.new.err };
      begins = record { may = c.in-Ok.ensures.may; noted = c.in-Ok.ensures.noted; no_more = c.in-Ok.ensures.no_more; same = c.in-Ok.ensures.kept; once = c.in-Ok.ensures.once };
      ran =
          subst (λ (status : ℕ). LabCommandRuns (g.F.LabFiles.answers begun) (texts c.args.words.now) (g.F.LabFiles.kept begun) (g.F.LabFiles.kept done) (g.F.LabFiles.opened begun) (g.F.LabFiles.opened done)
          (record { before = g.W.Output.contents c.args.out.now; after = g.W.Output.contents c.run-status.new.out; broke = g.W.Output.failed c.run-status.new.out })
          (record { before = g.E.Output.contents c.args.err.now; after = g.E.Output.contents c.run-status.new.err; broke = g.E.Output.failed c.run-status.new.err }) status) none c.run-status.ensures;
      first = refl;
      why = c.in-Err-finish.fault;
      is = c.in-Err-finish.ensures.fault;
      same = c.in-Err-finish.ensures.kept;
      told = c.tell-in-Err-finish.ensures;
    })))
