use Rattle.std.proofs.Common.{◌∙◌, ap, refl, sym, take}
use Rattle.nbd_stream.specs.Disk.{count_given}
use Rattle.nbd_stream.specs.Tasks.{asks_change}
use Rattle.nbd_stream.proofs.ThroughLemmas.{none, once}
use Rattle.nbd_stream.proofs.Serving.{performed_err, performed_ok, refused}
use Rattle.nbd_stream.proofs.transmission.answer.Goals as goal

pub returns-in-Err-clause-replies : goal.returns-in-Err-clause-replies
returns-in-Err-clause-replies g c = λ body request stands.
    refused g.D.Disk.contents g.D.Disk.honest g.D.Disk.calm g.D.Disk.does c.args.export.now c.args.disk.now c.args.header.now body c.in-Err.error _ _ _ (sym c.requires.asked ∙ c.in-Err.is) c.send_reply.ensures.sends

pub returns-in-Ok-perform-clause-replies : goal.returns-in-Ok-perform-clause-replies
returns-in-Ok-perform-clause-replies g c = λ body request stands.
    performed_ok g.D.Disk.contents g.D.Disk.honest g.D.Disk.calm g.D.Disk.does c.args.export.now c.args.disk.now c.perform.new.disk c.args.header.now c.in-Ok.task body c.args.buffer.now _ _ _
    (sym c.requires.asked ∙ c.in-Ok.is) request stands c.requires.room c.perform.result _ (take (count_given c.in-Ok.task) c.perform.new.buffer)
    c.given_bytes.result.now c.in-Ok-perform.is c.given_bytes.ensures c.perform.ensures.performs c.perform.ensures.does
    c.send_reply-in-Ok-perform.ensures.sends

pub returns-in-Err-perform-clause-replies : goal.returns-in-Err-perform-clause-replies
returns-in-Err-perform-clause-replies g c = λ body request stands.
    performed_err g.D.Disk.contents g.D.Disk.honest g.D.Disk.calm g.D.Disk.does c.args.export.now c.args.disk.now c.perform.new.disk c.args.header.now c.in-Ok.task body c.args.buffer.now _ _ _
    (sym c.requires.asked ∙ c.in-Ok.is) request stands c.requires.room c.perform.result c.in-Err-perform.fault
    (take (count_given c.in-Ok.task) c.perform.new.buffer) c.error_for.result c.in-Err-perform.is c.error_for.ensures c.perform.ensures.performs
    c.perform.ensures.does c.send_reply-in-Err-perform.ensures.sends

pub returns-in-Err-clause-leaves : goal.returns-in-Err-clause-leaves
returns-in-Err-clause-leaves g c = λ reads. none g.D.Disk.leaves c.args.disk.now c.args.disk.now refl

pub returns-in-Ok-perform-clause-leaves : goal.returns-in-Ok-perform-clause-leaves
returns-in-Ok-perform-clause-leaves g c = λ reads. once g.D.Disk.leaves c.args.disk.now c.perform.new.disk (c.perform.ensures.leaves (ap asks_change (sym c.in-Ok.is) ∙ reads))

pub returns-in-Err-perform-clause-leaves : goal.returns-in-Err-perform-clause-leaves
returns-in-Err-perform-clause-leaves g c = λ reads. once g.D.Disk.leaves c.args.disk.now c.perform.new.disk (c.perform.ensures.leaves (ap asks_change (sym c.in-Ok.is) ∙ reads))
