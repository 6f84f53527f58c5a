use Rattle.std.proofs.Common.{◌≡◌, ◌<◌, ◌*◌, ◌∙◌, false, inl, [], length, subst, sym, ap}
use Rattle.nbd_stream.specs.Disk.{PerformsTask, answer_from}
use Rattle.nbd_stream.specs.declared.task.Task.TheVariants as task
use Rattle.promises.specs.Step.{Write}
use Rattle.disk_server.specs.Disk.{KeepsOnError, contents_of, holds, change_answer}
use Rattle.disk_server.proofs.ChangeLemmas.{sets_one}
use Rattle.disk_server.proofs.Calls.{changed_disk, write_keeps, write_performs}
use Rattle.disk_server.proofs.device_disk.DeviceDiskSectors.write_sector.Goals as goal

pub invariant_of-self : goal.invariant_of-self
invariant_of-self g c = changed_disk g.N.PageSource.view
    c.args.sector c.args.bytes.now (Write c.args.sector c.args.bytes.now) c.self.inside.device c.write.new.self c.write.result c.self.invariant
    c.write.ensures.changes c.write.ensures.device

pub returns-clause-performs : goal.returns-clause-performs
returns-clause-performs g c =
    let within : c.args.sector < c.self.inside.device.engine.geometry.sectors = subst (λ d. c.args.sector < d.engine.geometry.sectors) (sym c.self.view_is) c.requires.within in
    let whole : length c.args.bytes.now ≡ c.self.inside.device.engine.geometry.data_bytes = c.requires.whole ∙ ap (λ d. d.engine.geometry.data_bytes) (sym c.self.view_is) in
    let here : PerformsTask (contents_of g.N.PageSource.view) (holds g.N.PageSource.view.honest) (λ d. false)
    (task.Write (c.args.sector * c.self.inside.device.engine.geometry.data_bytes) c.self.inside.device.engine.geometry.data_bytes false) c.args.bytes.now c.self.inside.device
    (answer_from (change_answer c.write.result) []) c.write.new.self =
    write_performs g.N.PageSource.view
    c.args.sector c.args.bytes.now c.self.inside.device c.write.new.self c.write.result c.self.invariant within whole c.write.ensures.changes
    c.write.ensures.geometry c.write.ensures.device in
    subst (λ r. PerformsTask (contents_of g.N.PageSource.view) (holds g.N.PageSource.view.honest) (λ d. false)
    (task.Write (c.args.sector * c.args.self.now.engine.geometry.data_bytes) c.args.self.now.engine.geometry.data_bytes false) c.args.bytes.now c.args.self.now
    (answer_from r []) c.write.new.self) (sym c.change_answer.ensures)
    (subst (λ d. PerformsTask (contents_of g.N.PageSource.view) (holds g.N.PageSource.view.honest) (λ d. false)
    (task.Write (c.args.sector * d.engine.geometry.data_bytes) d.engine.geometry.data_bytes false) c.args.bytes.now d
    (answer_from (change_answer c.write.result) []) c.write.new.self) c.self.view_is here)

pub returns-clause-whole : goal.returns-clause-whole
returns-clause-whole g c =
    let within : c.args.sector < c.self.inside.device.engine.geometry.sectors = subst (λ d. c.args.sector < d.engine.geometry.sectors) (sym c.self.view_is) c.requires.within in
    let whole : length c.args.bytes.now ≡ c.self.inside.device.engine.geometry.data_bytes = c.requires.whole ∙ ap (λ d. d.engine.geometry.data_bytes) (sym c.self.view_is) in
    let here : KeepsOnError g.N.PageSource.view c.self.inside.device (change_answer c.write.result) c.write.new.self =
    write_keeps g.N.PageSource.view
    c.args.sector c.args.bytes.now c.self.inside.device c.write.new.self c.write.result c.self.invariant within whole c.write.ensures.changes in
    subst (λ r. KeepsOnError g.N.PageSource.view c.args.self.now r c.write.new.self) (sym c.change_answer.ensures)
    (subst (λ d. KeepsOnError g.N.PageSource.view d (change_answer c.write.result) c.write.new.self) c.self.view_is here)

pub returns-clause-changes : goal.returns-clause-changes
returns-clause-changes g c =
    let n = g.N.PageSource in
    rw (← c.self.view_is) (sets_one n.view c.self.inside.device c.write.new.self c.args.sector c.change_answer.result (Write c.args.sector c.args.bytes.now)
    (record { answer = c.write.result; told = c.change_answer.ensures; changes = c.write.ensures.changes; disk = invariant_of-self g c }))

pub returns-clause-asked : goal.returns-clause-asked
returns-clause-asked g c = rw (← c.self.view_is) (record { answer = c.write.result; told = c.change_answer.ensures; changes = c.write.ensures.changes; disk = invariant_of-self g c })

pub returns-clause-sets : goal.returns-clause-sets
returns-clause-sets g c = inl (c.args.bytes.now, returns-clause-asked g c)
