use Rattle.std.proofs.Common.{◌≡◌, ◌<◌, ◌*◌, ◌∙◌, false, [], ap, length, rules, subst, sym}
use Rattle.std.specs.Prelude.{IsOk}
use Rattle.nbd_stream.specs.Disk.{PerformsTask, answer_from}
use Rattle.nbd_stream.specs.declared.task.Task.TheVariants as task
use Rattle.collection.specs.Safe.{page_in_buffer}
use Rattle.disk_server.specs.Disk.{contents_of, holds, read_answer}
use Rattle.disk_server.proofs.ReadCalls.{read_asks, read_disk, read_given, read_performs}
use Rattle.disk_server.proofs.device_disk.DeviceDiskSectors.read_sector.Goals as goal

pub invariant_of-self : goal.invariant_of-self
invariant_of-self g c = read_disk g.N.PageSource.view c.args.sector c.self.inside.device c.read.new.self c.read.result
    (page_in_buffer c.read.new.self.engine.scratch) (page_in_buffer c.read.new.self.engine.page) c.read.new.out c.self.invariant c.read.ensures.only_reads.honest_is
    c.read.ensures.stopped c.read.ensures.memory c.read.ensures.well c.read.ensures.device

pub returns-clause-performs : goal.returns-clause-performs
returns-clause-performs g c =
    let within : c.args.sector < c.self.inside.device.engine.geometry.sectors = subst (λ d. c.args.sector < d.engine.geometry.sectors) (sym c.self.view_is) c.requires.within in
    let same : length c.read.new.out ≡ length c.args.buffer.now = search rules in
    let whole : length c.read.new.out ≡ c.self.inside.device.engine.geometry.data_bytes =
    same ∙ c.requires.whole ∙ ap (λ d. d.engine.geometry.data_bytes) (sym c.self.view_is) in
    subst (λ r. PerformsTask (contents_of g.N.PageSource.view) (holds g.N.PageSource.view.honest) (λ d. false)
    (task.Read (c.args.sector * c.args.self.now.engine.geometry.data_bytes) c.args.self.now.engine.geometry.data_bytes) [] c.args.self.now
    (answer_from r c.read.new.out) c.read.new.self) (sym c.read_answer.ensures)
    (subst (λ d. PerformsTask (contents_of g.N.PageSource.view) (holds g.N.PageSource.view.honest) (λ d. false)
    (task.Read (c.args.sector * d.engine.geometry.data_bytes) d.engine.geometry.data_bytes) [] d
    (answer_from (read_answer c.read.result) c.read.new.out) c.read.new.self) c.self.view_is
    (read_performs g.N.PageSource.view c.args.sector c.self.inside.device c.read.new.self c.read.result
    (page_in_buffer c.read.new.self.engine.scratch) (page_in_buffer c.read.new.self.engine.page) c.read.new.out c.self.invariant c.read.ensures.only_reads.honest_is
    c.read.ensures.stopped c.read.ensures.memory within whole (invariant_of-self g c) c.read.ensures.step))

pub returns-clause-given : goal.returns-clause-given
returns-clause-given g c =
    let within : c.args.sector < c.self.inside.device.engine.geometry.sectors = subst (λ d. c.args.sector < d.engine.geometry.sectors) (sym c.self.view_is) c.requires.within in
    λ h. subst (λ r. IsOk r) (sym c.read_answer.ensures)
    (read_given g.N.PageSource.view c.args.sector c.self.inside.device c.read.new.self c.read.result
    (page_in_buffer c.read.new.self.engine.scratch) (page_in_buffer c.read.new.self.engine.page) c.read.new.out c.self.invariant c.read.ensures.only_reads.honest_is
    c.read.ensures.stopped c.read.ensures.memory within c.read.ensures.step h)

pub returns-clause-reads : goal.returns-clause-reads
returns-clause-reads g c =
    let n = g.N.PageSource in
    rw (← c.self.view_is) (read_asks n.view c.args.sector c.self.inside.device c.read.new.self c.read.result
    (page_in_buffer c.read.new.self.engine.scratch) (page_in_buffer c.read.new.self.engine.page) c.read.new.out c.self.invariant c.read.ensures.only_reads.honest_is
    c.read.ensures.stopped c.read.ensures.memory c.read.ensures.only_reads c.read.ensures.asked c.read.ensures.limits (invariant_of-self g c)
    c.read.ensures.same c.read.ensures.told c.read.ensures.mountable)

pub returns-clause-answers : goal.returns-clause-answers
returns-clause-answers g c = rw (← c.self.view_is) (record { answer = c.read.result; told = c.read_answer.ensures; leaves = c.read.ensures.memory })
