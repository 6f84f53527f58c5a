use Rattle.std.proofs.lemmas.Result.{IfOk-weaker}
use Rattle.part_files.proofs.NameLemmas.{named_behind, named_alone, split_at, not_split}
use Rattle.part_files.proofs.parts.part_name.Goals as goal

pub returns-in-Some : goal.returns-in-Some
returns-in-Some c =
    let at = c.in-Some.ensures.cases in
    let split = split_at c.args.path.now c.in-Some.folder.now c.in-Some.name.now at.0 at.1 at.2 at.3 at.4 in
    IfOk-weaker c.format.result _ _ (λ part made. named_behind c.args.path.now c.args.program.now c.in-Some.folder.now c.in-Some.name.now _ split.0 split.1 made) c.format.ensures.ok

pub returns-in-None : goal.returns-in-None
returns-in-None c = IfOk-weaker c.format-in-None.result _ _ (λ part made. named_alone c.args.path.now c.args.program.now _ (not_split c.args.path.now c.in-None.ensures.cases) made) c.format-in-None.ensures.ok
