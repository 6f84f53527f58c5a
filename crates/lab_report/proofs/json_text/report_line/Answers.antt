use Rattle.std.proofs.Common.{IfOk, refl, string_bytes}
use Rattle.std.proofs.lemmas.Result.{IfOk-weaker}
use Rattle.serde_json.specs.View.{view}
use Rattle.lab_report.specs.Run.{told_of}
use Rattle.lab_report.proofs.WrittenLemmas.{says_it, text_is}
use Rattle.lab_report.proofs.json_text.report_line.Goals as goal

pub returns-clause-text : goal.returns-clause-text
returns-clause-text c =
    IfOk-weaker c.to_string.result _ _ (λ line is. text_is (told_of c.args.run.now) (view c.in_ok-run_value.field-0) (string_bytes line) _ c.in_ok-run_value.ensures is refl) c.to_string.ensures.text

pub returns-clause-reads_back : goal.returns-clause-reads_back
returns-clause-reads_back c =
    IfOk-weaker c.to_string.result _ _ (λ line back whole. says_it (told_of c.args.run.now) (view c.in_ok-run_value.field-0) (string_bytes line) _ whole c.in_ok-run_value.ensures back refl) c.to_string.ensures.reads_back
