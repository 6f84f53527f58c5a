use Rattle.std.proofs.Common.{false, sym, subst, ◌∙◌}
use Rattle.lab_commands.specs.Array.{IsMapNotAllowed}
use Rattle.lab_commands.specs.Undone.{MayNotWrite, MayWrite}
use Rattle.lab_commands.proofs.ArrayLemmas.{map_not_allowed, map_unasked_out}
use Rattle.lab_commands.proofs.UndoneLemmas.{handed}
use Rattle.lab_commands.proofs.array.allow_map.Goals as goal

pub returns-in_err-is_out : goal.returns-in_err-is_out
returns-in_err-is_out g c =
    let a = g.F.LabFiles.answers c.args.files.now in
    rw (handed c.from_residual.result _ c.from_residual.ensures.1) (record { other = tt; ok = tt; fault = map_unasked_out a c.args.words.now c.args.file.now _ c.in_err-is_out.ensures.fault; same = c.is_out.ensures.same })

pub returns-in-Ok-clause-ok : goal.returns-in-Ok-clause-ok
returns-in-Ok-clause-ok g c =
    let words = c.args.words.now in
    subst (λ f. MayWrite (g.F.LabFiles.answers f) words.dump.now c.args.file.now words.force) c.is_out.ensures.same c.in-Ok.ensures.ok

pub returns-in-Ok-clause-same : goal.returns-in-Ok-clause-same
returns-in-Ok-clause-same g c = c.allow.ensures.same ∙ c.is_out.ensures.same

pub returns-in-Err : goal.returns-in-Err
returns-in-Err g c =
    let a = g.F.LabFiles.answers c.args.files.now in
    let words = c.args.words.now in
    let file = c.args.file.now in
    let told = c.in-Err.fault in
    let other : a.says_same words.out.now file false = subst (λ same. a.says_same words.out.now file same) c.if-branch.false c.in_ok-is_out.ensures.said in
    let why = map_not_allowed a words file told other (subst (λ f. MayNotWrite (g.F.LabFiles.answers f) words.dump.now file words.force told) c.is_out.ensures.same c.in-Err.ensures.fault) in
    record { other = tt; ok = tt; fault = subst (λ it. IsMapNotAllowed a words file it) (sym c.as_map.ensures) why; same = c.allow.ensures.same ∙ c.is_out.ensures.same }
