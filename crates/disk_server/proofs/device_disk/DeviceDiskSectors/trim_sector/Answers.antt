use Rattle.std.proofs.Common.{◌<◌, ◌*◌, false, inr, [], subst, sym}
use Rattle.nbd_stream.specs.Disk.{PerformsTask, answer_from}
use Rattle.nbd_stream.specs.declared.task.Task.TheVariants as task
use Rattle.page_layout.specs.Array.{zeros}
use Rattle.promises.specs.Step.{Trim}
use Rattle.disk_server.specs.Disk.{KeepsOnError, contents_of, holds, change_answer}
use Rattle.disk_server.proofs.ChangeLemmas.{sets_one}
use Rattle.disk_server.proofs.Calls.{changed_disk, trim_keeps, trim_performs}
use Rattle.disk_server.proofs.device_disk.DeviceDiskSectors.trim_sector.Goals as goal

pub invariant_of-self : goal.invariant_of-self
invariant_of-self g c = changed_disk g.N.PageSource.view
    c.args.sector (zeros c.self.inside.device.engine.geometry) (Trim c.args.sector) c.self.inside.device c.trim.new.self c.trim.result c.self.invariant
    c.trim.ensures.changes c.trim.ensures.device

pub returns-clause-performs : goal.returns-clause-performs
returns-clause-performs g c =
    let within : c.args.sector < c.self.inside.device.engine.geometry.sectors = subst (λ d. c.args.sector < d.engine.geometry.sectors) (sym c.self.view_is) c.requires.within in
    let here : PerformsTask (contents_of g.N.PageSource.view) (holds g.N.PageSource.view.honest) (λ d. false)
    (task.Trim (c.args.sector * c.self.inside.device.engine.geometry.data_bytes) c.self.inside.device.engine.geometry.data_bytes false) [] c.self.inside.device
    (answer_from (change_answer c.trim.result) []) c.trim.new.self =
    trim_performs g.N.PageSource.view
    c.args.sector c.self.inside.device c.trim.new.self c.trim.result c.self.invariant within c.trim.ensures.changes
    c.trim.ensures.geometry c.trim.ensures.device in
    subst (λ r. PerformsTask (contents_of g.N.PageSource.view) (holds g.N.PageSource.view.honest) (λ d. false)
    (task.Trim (c.args.sector * c.args.self.now.engine.geometry.data_bytes) c.args.self.now.engine.geometry.data_bytes false) [] c.args.self.now
    (answer_from r []) c.trim.new.self) (sym c.change_answer.ensures)
    (subst (λ d. PerformsTask (contents_of g.N.PageSource.view) (holds g.N.PageSource.view.honest) (λ d. false)
    (task.Trim (c.args.sector * d.engine.geometry.data_bytes) d.engine.geometry.data_bytes false) [] d
    (answer_from (change_answer c.trim.result) []) c.trim.new.self) c.self.view_is here)

pub returns-clause-whole : goal.returns-clause-whole
returns-clause-whole g c =
    let within : c.args.sector < c.self.inside.device.engine.geometry.sectors = subst (λ d. c.args.sector < d.engine.geometry.sectors) (sym c.self.view_is) c.requires.within in
    let here : KeepsOnError g.N.PageSource.view c.self.inside.device (change_answer c.trim.result) c.trim.new.self =
    trim_keeps g.N.PageSource.view
    c.args.sector c.self.inside.device c.trim.new.self c.trim.result c.self.invariant within c.trim.ensures.changes in
    subst (λ r. KeepsOnError g.N.PageSource.view c.args.self.now r c.trim.new.self) (sym c.change_answer.ensures)
    (subst (λ d. KeepsOnError g.N.PageSource.view d (change_answer c.trim.result) c.trim.new.self) c.self.view_is here)

pub returns-clause-changes : goal.returns-clause-changes
returns-clause-changes g c =
    let n = g.N.PageSource in
    rw (← c.self.view_is) (sets_one n.view c.self.inside.device c.trim.new.self c.args.sector c.change_answer.result (Trim c.args.sector)
    (record { answer = c.trim.result; told = c.change_answer.ensures; changes = c.trim.ensures.changes; disk = invariant_of-self g c }))

pub returns-clause-asked : goal.returns-clause-asked
returns-clause-asked g c = rw (← c.self.view_is) (record { answer = c.trim.result; told = c.change_answer.ensures; changes = c.trim.ensures.changes; disk = invariant_of-self g c })

pub returns-clause-sets : goal.returns-clause-sets
returns-clause-sets g c = inr (returns-clause-asked g c)
