use Rattle.std.proofs.Common.{rules, inl, Err, List, ℕ, map, refl, subst, ◌∙◌, ap, Bor}
use Rattle.commands.specs.declared.text.CommandFault.TheVariants.{OutOfMemory}
use Rattle.commands.specs.Commands.{CommandRuns}
use Rattle.commands.specs.Files.{left_behind}
use Rattle.system_program.proofs.program.run_words.Goals as goal

pub returns-in-Ok : goal.returns-in-Ok
returns-in-Ok g c =
    let P : List (List ℕ) → Type 0 = λ texts. CommandRuns (g.F.FileStore.gives c.args.files.now) (g.F.FileStore.tells c.args.files.now) texts
    (g.R.Read.remaining c.args.input.now) (g.R.Read.remaining c.run.new.input)
    (left_behind (g.F.FileStore.stores c.args.files.now) (g.W.Write.contents c.args.out.now))
    (left_behind (g.F.FileStore.stores c.run.new.files) (g.W.Write.contents c.run.new.out))
    (g.F.FileStore.taken c.args.files.now) (g.F.FileStore.taken c.run.new.files)
    (g.E.Write.contents c.args.err.now) (g.E.Write.contents c.run.new.err) c.run.result in
    subst P (ap (λ (words : List (Bor (List ℕ))). map (λ (w : Bor (List ℕ)). w.now) words) c.as_slice.ensures.value ∙ c.in-Ok.ensures) c.run.ensures

pub returns-in-Err : goal.returns-in-Err
returns-in-Err g c = (Err OutOfMemory, inl (search rules, search rules), inl refl, c.tell.ensures)
