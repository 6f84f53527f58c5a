use Rattle.std.proofs.Common.{◌≡◌, [], ◌∷◌, ◌++◌, Some, Err, map, ap, sym, ◌∙◌, string_bytes}
use Rattle.std.proofs.lemmas.List.{map-append}
use Rattle.serde_json.specs.Find.{as_str}
use Rattle.lab_report.proofs.ReadingLemmas.{fault_came, one_more_value, one_value_none}
use Rattle.lab_report.proofs.reading.words_in.Goals as goal

pub returns-in_err-word-clause-none : goal.returns-in_err-word-clause-none
returns-in_err-word-clause-none c = λ is.
    one_value_none as_str c.args.values.now c.loop-value.value-index c.value-item.result c.loop-value-test.true c.value-item.is (c.in_err-word.ensures.none (ap Err (fault_came _ _ _ c.from_residual.ensures.1 is)))

pub loop-value-preserved : goal.loop-value-preserved
loop-value-preserved c =
    let said = map string_bytes c.loop-value.words.items in
    let grown : c.push.new.self.items ≡ c.loop-value.words.items ++ c.in_ok-word.word ∷ [] = c.in-Ok.ensures.items in
    one_more_value as_str c.args.values.now c.loop-value.value-index c.value-item.result said (string_bytes c.in_ok-word.word) c.loop-value-test.true c.value-item.is c.loop-value.invariant c.in_ok-word.ensures.ok
    ∙ ap Some (sym (ap (map string_bytes) grown ∙ map-append (string_bytes) c.loop-value.words.items (c.in_ok-word.word ∷ [])))
