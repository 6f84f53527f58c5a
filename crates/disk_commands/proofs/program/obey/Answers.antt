use Rattle.std.proofs.Common.{inr, refl, subst}
use Rattle.program_words.specs.Met.{texts}
use Rattle.disk_commands.specs.declared.words.DiskWords.TheVariants as asked
use Rattle.disk_commands.specs.Program.{Around}
use Rattle.disk_commands.specs.Words.{AsksDiskProgram}
use Rattle.disk_commands.proofs.ProgramLemmas.{checks, creates, tells}
use Rattle.disk_commands.proofs.program.obey.Goals as goal

pub returns-in-Ok-Create : goal.returns-in-Ok-Create
returns-in-Ok-Create g c =
    let files = g.F.DiskFiles in
    let did = c.create_command.ensures in
    let unread = g.I.Read.remaining c.args.input.now in
    let out = g.O.Write.contents c.args.out.now in
    let err = g.E.Write.contents c.args.err.now in
    let old : Around = record { kept = files.kept c.args.files.now; part = files.part c.args.files.now; opened = files.opened c.args.files.now; input = unread; out = out; err = err } in
    let new : Around = record { kept = files.kept c.create_command.new.files; part = files.part c.create_command.new.files; opened = files.opened c.create_command.new.files; input = unread; out = out; err = err } in
    let created = creates g.F.Store.Store.held g.F.Store.Store.honest g.F.Store.Store.failed (files.answers c.args.files.now) c.in-Ok-Create.words old new c.create_command.result did.ok did.fault did.kept in
    inr (asked.Create c.in-Ok-Create.words, subst (AsksDiskProgram (texts c.args.words.now)) c.in-Ok-Create.field-0-is c.in-Ok-Create.ensures.ok, (created, refl, refl, did.opened, refl, did.part))

pub returns-in-Ok-Serve : goal.returns-in-Ok-Serve
returns-in-Ok-Serve g c =
    let did = c.serve_command.ensures in
    inr (asked.Serve c.in-Ok-Serve.words, subst (AsksDiskProgram (texts c.args.words.now)) c.in-Ok-Serve.field-0-is c.in-Ok-Serve.ensures.ok, (did.served, did.kept, did.opened))

pub returns-in-Ok-Info : goal.returns-in-Ok-Info
returns-in-Ok-Info g c =
    let files = g.F.DiskFiles in
    let did = c.info_command.ensures in
    let unread = g.I.Read.remaining c.args.input.now in
    let err = g.E.Write.contents c.args.err.now in
    let old : Around = record { kept = files.kept c.args.files.now; part = files.part c.args.files.now; opened = files.opened c.args.files.now; input = unread; out = g.O.Write.contents c.args.out.now; err = err } in
    let new : Around = record { kept = files.kept c.info_command.new.files; part = files.part c.info_command.new.files; opened = files.opened c.info_command.new.files; input = unread; out = g.O.Write.contents c.info_command.new.out; err = err } in
    let told = tells g.F.Store.Store.held g.F.Store.Store.honest g.F.Store.TellsMended.mended g.F.Store.Store.failed (files.answers c.args.files.now) c.in-Ok-Info.words old new c.info_command.result did.ok did.fault in
    inr (asked.Info c.in-Ok-Info.words, subst (AsksDiskProgram (texts c.args.words.now)) c.in-Ok-Info.field-0-is c.in-Ok-Info.ensures.ok, (told, did.kept, refl, did.opened, refl))

pub returns-in-Ok-Check : goal.returns-in-Ok-Check
returns-in-Ok-Check g c =
    let files = g.F.DiskFiles in
    let did = c.check_command.ensures in
    let unread = g.I.Read.remaining c.args.input.now in
    let err = g.E.Write.contents c.args.err.now in
    let old : Around = record { kept = files.kept c.args.files.now; part = files.part c.args.files.now; opened = files.opened c.args.files.now; input = unread; out = g.O.Write.contents c.args.out.now; err = err } in
    let new : Around = record { kept = files.kept c.check_command.new.files; part = files.part c.check_command.new.files; opened = files.opened c.check_command.new.files; input = unread; out = g.O.Write.contents c.check_command.new.out; err = err } in
    let told = checks g.F.Store.Store.held g.F.Store.Store.honest g.F.Store.Store.failed (files.answers c.args.files.now) c.in-Ok-Check.words old new c.check_command.result did.ok did.fault in
    inr (asked.Check c.in-Ok-Check.words, subst (AsksDiskProgram (texts c.args.words.now)) c.in-Ok-Check.field-0-is c.in-Ok-Check.ensures.ok, (told, did.kept, refl, did.opened, refl))
