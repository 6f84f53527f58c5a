use Rattle.std.proofs.Common.{ℕ, List, subst, ◌∙◌, rules}
use Rattle.std.specs.Borrow.{Bor}
use Rattle.program_words.specs.Met.{texts}
use Rattle.lab_commands.specs.Merge.{IsSomeUnread}
use Rattle.lab_commands.proofs.MergeLemmas.{unasked_dumps, unasked_out}
use Rattle.lab_commands.proofs.UndoneLemmas.{handed}
use Rattle.lab_commands.proofs.merge.allow_merge.Goals as goal

pub returns-in_err-there : goal.returns-in_err-there
returns-in_err-there g c =
    rw (handed c.from_residual.result _ c.from_residual.ensures.1) (record {
      ok = tt;
      fault = unasked_out (g.F.LabFiles.answers c.args.files.now) c.args.words.now _ c.in_err-there.ensures.fault;
      same = c.standing.ensures.same;
    })

pub returns-in_err-is_some_dump : goal.returns-in_err-is_some_dump
returns-in_err-is_some_dump g c =
    let told = c.in_err-is_some_dump.field-0.0 in
    rw (handed c.from_residual-in_err-is_some_dump.result _ c.from_residual-in_err-is_some_dump.ensures.1) (record {
      ok = tt;
      fault = unasked_dumps (g.F.LabFiles.answers c.args.files.now) c.args.words.now told (c.in_ok-there.there, search rules, c.in_ok-there.ensures.said) (subst (λ (ds : List (Bor (List ℕ))). IsSomeUnread (g.F.LabFiles.answers c.args.files.now) (texts ds) told) c.deref.ensures.value (subst (λ f. IsSomeUnread (g.F.LabFiles.answers f) (texts c.deref.result.now) told) c.standing.ensures.same c.in_err-is_some_dump.ensures.fault));
      same = c.is_some_dump.ensures.same ∙ c.standing.ensures.same;
    })
