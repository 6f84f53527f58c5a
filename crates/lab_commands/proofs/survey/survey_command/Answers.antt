use Rattle.std.proofs.Common.{inl, inr, subst, ◌≡◌, suc, option_map}
use Rattle.lab_commands.specs.Document.{Prints}
use Rattle.lab_commands.proofs.PrintLemmas.{done_by, undone_by}
use Rattle.lab_commands.specs.Reports.{survey_text}
use Rattle.lab_commands.specs.Survey.{IsSurveyFault, ToldSurvey}
use Rattle.lab_commands.specs.Undone.{form_of_showing}
use Rattle.lab_commands.proofs.UndoneLemmas.{left_all, handed}
use Rattle.lab_commands.proofs.survey.survey_command.Goals as goal

pub returns-in_err-seen : goal.returns-in_err-seen
returns-in_err-seen g c =
    let o = g.W.Output.contents c.args.out.now in
    let a = g.F.LabFiles.answers c.args.files.now in
    rw (handed c.from_residual.result _ c.from_residual.ensures.1) (record {
      ok = tt;
      kept = c.see.ensures.kept;
      fault = (inl (left_all _ _ o c.in_err-seen.ensures.kept, c.in_err-seen.ensures.fault));
      opened = tt;
    })

pub returns : goal.returns
returns g c =
    let o = g.W.Output.contents c.args.out.now in
    let a = g.F.LabFiles.answers c.args.files.now in
    let p = g.W.Output.contents c.print_survey.new.out in
    let broke = g.W.Output.failed c.print_survey.new.out in
    let k = g.F.LabFiles.kept c.args.files.now in
    let l = g.F.LabFiles.kept c.see.new.files in
    let seen = c.in_ok-seen.seen in
    let printed : Prints broke o p (survey_text (form_of_showing c.args.words.showing) seen.geometry seen.rows seen.survey) c.print_survey.result =
    subst (λ f. Prints broke o p (survey_text f seen.geometry seen.rows seen.survey) c.print_survey.result) c.printer.ensures c.print_survey.ensures in
    record {
      opened = done_by (g.F.LabFiles.opened c.see.new.files ≡ option_map suc (g.F.LabFiles.opened c.args.files.now)) broke o p _ c.print_survey.result c.ended.result printed c.ended.ensures (λ told. c.in_ok-seen.ensures.opened);
      ok = done_by (ToldSurvey a c.args.words o p) broke o p _ c.print_survey.result c.ended.result printed c.ended.ensures (λ told. record { g = seen.geometry; rows = seen.rows; survey = seen.survey; has = c.in_ok-seen.ensures.seen; told = told });
      kept = c.in_ok-seen.ensures.kept;
      fault =
          undone_by (IsSurveyFault a c.args.words k l (g.F.LabFiles.opened c.args.files.now) (g.F.LabFiles.opened c.see.new.files) broke o p) broke o p _ c.print_survey.result c.ended.result printed c.ended.ensures
          (λ told half. inr (c.in_ok-seen.ensures.kept, (seen.geometry, seen.rows, seen.survey, c.in_ok-seen.ensures.seen, half)));
    }
