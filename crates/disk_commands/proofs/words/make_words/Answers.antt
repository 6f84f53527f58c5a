use Rattle.std.proofs.Common.{sym, ◌∙◌}
use Rattle.program_words.specs.Met.{command_entries}
use Rattle.disk_commands.proofs.MakeLemmas.{made, unmade}
use Rattle.disk_commands.proofs.words.make_words.Goals as goal

pub returns-clause-some : goal.returns-clause-some
returns-clause-some c =
    rw c.make.ensures (made (command_entries c.args.found.now) c.word.result c.word-2.result c.word-3.result (record {
      size_is = sym c.word.ensures;
      geometry_is = sym c.word-2.ensures;
      from_is = sym c.word-3.ensures;
    }))

pub returns-clause-none : goal.returns-clause-none
returns-clause-none c = λ none.
    unmade (command_entries c.args.found.now) c.word.result c.word-2.result c.word-3.result (record {
      size_is = sym c.word.ensures;
      geometry_is = sym c.word-2.ensures;
      from_is = sym c.word-3.ensures;
    }) (sym c.make.ensures ∙ none)
