use Rattle.lab_commands.specs.Undone.{IsUnread}
use Rattle.lab_commands.proofs.UndoneLemmas.{unasked_file, unasked_dump, handed}
use Rattle.std.proofs.Common.{subst, ◌∙◌, rules}
use Rattle.lab_commands.proofs.opening.allow.Goals as goal

pub returns-in_err-there : goal.returns-in_err-there
returns-in_err-there g c =
    let a = g.F.LabFiles.answers c.args.files.now in
    rw (handed c.from_residual.result _ c.from_residual.ensures.1) (record {
      ok = tt;
      fault = (unasked_file a c.args.dump.now c.args.path.now c.args.force _ c.in_err-there.ensures.fault);
      same = c.standing.ensures.same;
    })

pub returns-in_err-is_dump : goal.returns-in_err-is_dump
returns-in_err-is_dump g c =
    rw (handed c.from_residual-in_err-is_dump.result _ c.from_residual-in_err-is_dump.ensures.1) (record {
      ok = tt;
      fault = unasked_dump (g.F.LabFiles.answers c.args.files.now) c.args.dump.now c.args.path.now c.args.force _ (c.in_ok-there.there, search rules, c.in_ok-there.ensures.said) (subst (λ f. IsUnread (g.F.LabFiles.answers f) c.args.dump.now c.in_err-is_dump.field-0.0) c.standing.ensures.same c.in_err-is_dump.ensures.fault);
      same = c.is_dump.ensures.same ∙ c.standing.ensures.same;
    })
