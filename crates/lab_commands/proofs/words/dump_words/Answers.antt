use Rattle.std.proofs.Common.{List, arith}
use Rattle.std.specs.Borrow.{Bor}
use Rattle.clap.specs.Walk.{Text}
use Rattle.program_words.specs.Met.{texts}
use Rattle.program_words.proofs.WordLemmas.{as_many, entry_of, lacks}
use Rattle.lab_commands.proofs.words.dump_words.Goals as goal

pub returns-in_err-dumps-clause-none : goal.returns-in_err-dumps-clause-none
returns-in_err-dumps-clause-none c = λ none dumps are. lacks (λ (ws : Bor (List (Bor Text))). texts ws.now) _ _ _ c.words.ensures c.in_err-dumps.was are.dumps_are

pub returns-then-dumps-lt2-clause-none : goal.returns-then-dumps-lt2-clause-none
returns-then-dumps-lt2-clause-none c = λ none dumps are.
    let its = entry_of (λ (ws : Bor (List (Bor Text))). texts ws.now) _ _ _ c.words.ensures c.in_ok-dumps.was in
    omega (arith, are.enough, as_many _ _ dumps its are.dumps_are)

pub returns-else-dumps-lt2-clause-some : goal.returns-else-dumps-lt2-clause-some
returns-else-dumps-lt2-clause-some c = record {
  dumps_are = entry_of (λ (ws : Bor (List (Bor Text))). texts ws.now) _ _ _ c.words.ensures c.in_ok-dumps.was;
  enough = omega arith;
}
