use Rattle.std.proofs.Common.{subst}
use Rattle.program_words.specs.Met.{texts}
use Rattle.lab_commands.specs.declared.words.Asked.TheVariants as asked
use Rattle.lab_commands.specs.Words.{AsksLabProgram}
use Rattle.lab_commands.proofs.HandedLemmas.{on_ok_both}
use Rattle.lab_commands.proofs.program.obey.Goals as goal

pub returns-in-Ok-Geometry-clause-ok : goal.returns-in-Ok-Geometry-clause-ok
returns-in-Ok-Geometry-clause-ok g c =
    let did = c.geometry_command.ensures in
    let is = subst (AsksLabProgram (texts c.args.words.now)) c.in-Ok-Geometry.field-0-is c.in-Ok-Geometry.ensures.ok in
    on_ok_both _ _ _ c.geometry_command.result did.ok did.opened (λ told opened. (asked.Geometry c.in-Ok-Geometry.read, is, (did.kept, told), opened))

pub returns-in-Ok-Array-clause-ok : goal.returns-in-Ok-Array-clause-ok
returns-in-Ok-Array-clause-ok g c =
    let did = c.array_command.ensures in
    let is = subst (AsksLabProgram (texts c.args.words.now)) c.in-Ok-Array.field-0-is c.in-Ok-Array.ensures.ok in
    on_ok_both _ _ _ c.array_command.result did.ok did.opened (λ told opened. (asked.Array c.in-Ok-Array.read, is, told, opened))

pub returns-in-Ok-History-clause-ok : goal.returns-in-Ok-History-clause-ok
returns-in-Ok-History-clause-ok g c =
    let did = c.history_command.ensures in
    let is = subst (AsksLabProgram (texts c.args.words.now)) c.in-Ok-History.field-0-is c.in-Ok-History.ensures.ok in
    on_ok_both _ _ _ c.history_command.result did.ok did.opened (λ told opened. (asked.History c.in-Ok-History.read, is, (did.kept, told), opened))

pub returns-in-Ok-Survey-clause-ok : goal.returns-in-Ok-Survey-clause-ok
returns-in-Ok-Survey-clause-ok g c =
    let did = c.survey_command.ensures in
    let is = subst (AsksLabProgram (texts c.args.words.now)) c.in-Ok-Survey.field-0-is c.in-Ok-Survey.ensures.ok in
    on_ok_both _ _ _ c.survey_command.result did.ok did.opened (λ told opened. (asked.Survey c.in-Ok-Survey.read, is, (did.kept, told), opened))

pub returns-in-Ok-Compare-clause-ok : goal.returns-in-Ok-Compare-clause-ok
returns-in-Ok-Compare-clause-ok g c =
    let did = c.compare_command.ensures in
    let is = subst (AsksLabProgram (texts c.args.words.now)) c.in-Ok-Compare.field-0-is c.in-Ok-Compare.ensures.ok in
    on_ok_both _ _ _ c.compare_command.result did.ok did.opened (λ told opened. (asked.Compare c.in-Ok-Compare.read, is, (did.kept, told), opened))

pub returns-in-Ok-Merge-clause-ok : goal.returns-in-Ok-Merge-clause-ok
returns-in-Ok-Merge-clause-ok g c =
    let did = c.merge_command.ensures in
    let is = subst (AsksLabProgram (texts c.args.words.now)) c.in-Ok-Merge.field-0-is c.in-Ok-Merge.ensures.ok in
    on_ok_both _ _ _ c.merge_command.result did.ok did.opened (λ told opened. (asked.Merge c.in-Ok-Merge.read, is, told, opened))

pub returns-in-Ok-Repair-clause-ok : goal.returns-in-Ok-Repair-clause-ok
returns-in-Ok-Repair-clause-ok g c =
    let did = c.repair_command.ensures in
    let is = subst (AsksLabProgram (texts c.args.words.now)) c.in-Ok-Repair.field-0-is c.in-Ok-Repair.ensures.ok in
    on_ok_both _ _ _ c.repair_command.result did.ok did.opened (λ told opened. (asked.Repair c.in-Ok-Repair.read, is, told, opened))

pub returns-in-Ok-Correct-clause-ok : goal.returns-in-Ok-Correct-clause-ok
returns-in-Ok-Correct-clause-ok g c =
    let did = c.correct_command.ensures in
    let is = subst (AsksLabProgram (texts c.args.words.now)) c.in-Ok-Correct.field-0-is c.in-Ok-Correct.ensures.ok in
    on_ok_both _ _ _ c.correct_command.result did.ok did.opened (λ told opened. (asked.Correct c.in-Ok-Correct.read, is, told, opened))

pub returns-in-Ok-Arrange-clause-ok : goal.returns-in-Ok-Arrange-clause-ok
returns-in-Ok-Arrange-clause-ok g c =
    let did = c.arrange_command.ensures in
    let is = subst (AsksLabProgram (texts c.args.words.now)) c.in-Ok-Arrange.field-0-is c.in-Ok-Arrange.ensures.ok in
    on_ok_both _ _ _ c.arrange_command.result did.ok did.opened (λ told opened. (asked.Arrange c.in-Ok-Arrange.read, is, told, opened))

pub returns-in-Ok-Origin-clause-ok : goal.returns-in-Ok-Origin-clause-ok
returns-in-Ok-Origin-clause-ok g c =
    let did = c.origin_command.ensures in
    let is = subst (AsksLabProgram (texts c.args.words.now)) c.in-Ok-Origin.field-0-is c.in-Ok-Origin.ensures.ok in
    on_ok_both _ _ _ c.origin_command.result did.ok did.opened (λ told opened. (asked.Origin c.in-Ok-Origin.read, is, told, opened))
