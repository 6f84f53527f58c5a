use Rattle.std.proofs.Common.{ap, sym, ◌∙◌}
use Rattle.std.specs.Borrow.{Bor}
use Rattle.clap.specs.Walk.{Text}
use Rattle.program_words.proofs.WordLemmas.{entry_of, lacks}
use Rattle.disk_commands.specs.Words.{always, seconds}
use Rattle.disk_commands.proofs.MakeLemmas.{clash}
use Rattle.disk_commands.proofs.words.serve_words.Goals as goal

pub returns-in_err-word-clause-none : goal.returns-in_err-word-clause-none
returns-in_err-word-clause-none c = λ none read is. lacks (λ (w : Bor Text). w.now) _ _ _ c.word.ensures c.in_err-word.was is.disk_is

pub returns-in_err-always-clause-none : goal.returns-in_err-always-clause-none
returns-in_err-always-clause-none c = λ none read is.
    let no = ap always (sym c.word-2.ensures) ∙ (sym c.always.ensures ∙ c.in_err-always.was) in
    clash _ _ is.sync_is no

pub returns-in_err-seconds-clause-none : goal.returns-in_err-seconds-clause-none
returns-in_err-seconds-clause-none c = λ none read is.
    let no = ap seconds (sym c.word-3.ensures) ∙ (sym c.seconds.ensures ∙ c.in_err-seconds.was) in
    clash _ _ is.wait_is no

pub returns-clause-some : goal.returns-clause-some
returns-clause-some c = record {
  disk_is = entry_of (λ (w : Bor Text). w.now) _ _ _ c.word.ensures c.in_ok-word.was;
  read_only_is = sym c.once.ensures ∙ c.in_ok-once.was;
  sync_is = ap always (sym c.word-2.ensures) ∙ (sym c.always.ensures ∙ c.in_ok-always.was);
  wait_is = ap seconds (sym c.word-3.ensures) ∙ (sym c.seconds.ensures ∙ c.in_ok-seconds.was);
}
