use Rattle.std.proofs.Common.{refl}
use Rattle.promises.specs.Step as step
use Rattle.page_layout.specs.Array.{zeros}
use Rattle.collection.specs.Safe.{ram, page_in_buffer}
use Rattle.command_queue.proofs.RunLemmas.{read_pins, read_happened, unpinned_stale, changed, write_sound, quiet_sound}
use Rattle.command_queue.proofs.queue.tell.Goals as goal

pub returns-in-Read-clause-happened : goal.returns-in-Read-clause-happened
returns-in-Read-clause-happened g c = λ honest w ne.
    rw c.in-Read.is
    (read_happened g.N.PageSource.view c.args.device.now c.read.new.self c.read.result ne c.in-Read.sector c.read.new.out
    (page_in_buffer c.read.new.self.engine.scratch) (page_in_buffer c.read.new.self.engine.page) (c.read.ensures.step honest w ne)
    (c.read.ensures.same honest ne) (c.read.ensures.told honest ne) c.read.ensures.memory c.read.ensures.read_only c.read.ensures.faults
    (c.read.ensures.survives honest w ne))

pub returns-in-Write-clause-happened : goal.returns-in-Write-clause-happened
returns-in-Write-clause-happened g c = λ honest w ne.
    let logs = c.write.ensures.changes.logs honest ne in
    let means = c.write.ensures.changes.means honest w ne in
    rw c.in-Write.is
    (changed g.N.PageSource.view c.args.device.now c.write.new.self c.write.result ne c.requires.device.engine.memory
    c.write.ensures.device.engine.memory c.write.ensures.changes.stays.limits.share c.write.ensures.geometry w means.well logs.went c.write.ensures.changes.refuses.says (logs.shown w)
    (step.Write c.in-Write.sector c.in-Write.body.now) c.args.bytes.now refl (λ turn. (let no : ⊥ = cc in absurd no))
    (λ turn. (let no : ⊥ = cc in absurd no)) (logs.flushed w) (logs.left w)
    (write_sound _ _ _ c.in-Write.sector c.in-Write.body.now c.write.result means.step)
    (λ need. (let its = unpinned_stale c.args.device.now.engine.mapping.share c.args.device.now.engine.pinned _ need in c.write.ensures.changes.stale honest w its.0 its.1 its.2)) means.step
    (logs.stopped w) means.versions)

pub returns-in-Trim-clause-happened : goal.returns-in-Trim-clause-happened
returns-in-Trim-clause-happened g c = λ honest w ne.
    let logs = c.trim.ensures.changes.logs honest ne in
    let means = c.trim.ensures.changes.means honest w ne in
    rw c.in-Trim.is
    (changed g.N.PageSource.view c.args.device.now c.trim.new.self c.trim.result ne c.requires.device.engine.memory
    c.trim.ensures.device.engine.memory c.trim.ensures.changes.stays.limits.share c.trim.ensures.geometry w means.well logs.went c.trim.ensures.changes.refuses.says (logs.shown w)
    (step.Trim c.in-Trim.sector) c.args.bytes.now refl (λ turn. (let no : ⊥ = cc in absurd no)) (λ turn. (let no : ⊥ = cc in absurd no))
    (logs.flushed w) (logs.left w) (write_sound _ _ _ c.in-Trim.sector (zeros c.args.device.now.engine.geometry) c.trim.result means.step)
    (λ need. (let its = unpinned_stale c.args.device.now.engine.mapping.share c.args.device.now.engine.pinned _ need in c.trim.ensures.changes.stale honest w its.0 its.1 its.2)) means.step
    (logs.stopped w) means.versions)

pub returns-in-Flush-clause-happened : goal.returns-in-Flush-clause-happened
returns-in-Flush-clause-happened g c = λ honest w ne.
    let logs = c.flush.ensures.upkeeps.logs honest ne in
    let means = c.flush.ensures.upkeeps.means honest w ne in
    rw c.in-Flush.is
    (changed g.N.PageSource.view c.args.device.now c.flush.new.self c.flush.result ne c.requires.device.engine.memory
    c.flush.ensures.device.engine.memory c.flush.ensures.upkeeps.stays.limits.share c.flush.ensures.geometry w means.well logs.went c.flush.ensures.upkeeps.refuses.says (logs.shown w)
    step.Flush c.args.bytes.now refl (λ turn. (let no : ⊥ = cc in absurd no)) (λ turn. (let no : ⊥ = cc in absurd no)) (logs.flushed w) (logs.left w)
    (quiet_sound _ _ c.flush.result means.step) (λ any. c.flush.ensures.upkeeps.refuses_upkeep.memory) means.step (logs.stopped w) means.versions)

pub returns-in-Turn-clause-happened : goal.returns-in-Turn-clause-happened
returns-in-Turn-clause-happened g c = λ honest w ne.
    let logs = c.turn.ensures.upkeeps.logs honest ne in
    let means = c.turn.ensures.upkeeps.means honest w ne in
    rw c.in-Turn.is
    (changed g.N.PageSource.view c.args.device.now c.turn.new.self c.turn.result ne c.requires.device.engine.memory
    c.turn.ensures.device.engine.memory c.turn.ensures.upkeeps.stays.limits.share c.turn.ensures.geometry w means.well logs.went c.turn.ensures.upkeeps.refuses.says (logs.shown w)
    step.Turn c.args.bytes.now refl (λ turn. c.turn.ensures.rescued honest w) (λ turn. c.turn.ensures.turned) (logs.flushed w) (logs.left w)
    (quiet_sound _ _ c.turn.result means.step) (λ any. c.turn.ensures.upkeeps.refuses_upkeep.memory) means.step (logs.stopped w) means.versions)

pub returns-in-Turn-clause-turned : goal.returns-in-Turn-clause-turned
returns-in-Turn-clause-turned g c =
    let its = c.turn.ensures in
    rw c.in-Turn.is (record {
      refuses = its.upkeeps.refuses_upkeep;
      turned = its.turned;
      rests = its.rests;
      quiet = its.quiet;
      falls = its.falls;
      rescued = its.rescued;
      lowest = its.lowest;
      worked = its.worked;
    })

-- ---- what is programmed

pub returns-in-Read-clause-programs : goal.returns-in-Read-clause-programs
returns-in-Read-clause-programs g c = rw c.in-Read.is tt

pub returns-in-Write-clause-programs : goal.returns-in-Write-clause-programs
returns-in-Write-clause-programs g c = rw c.in-Write.is c.write.ensures.changes.programs

pub returns-in-Trim-clause-programs : goal.returns-in-Trim-clause-programs
returns-in-Trim-clause-programs g c = rw c.in-Trim.is c.trim.ensures.changes.programs

pub returns-in-Flush-clause-programs : goal.returns-in-Flush-clause-programs
returns-in-Flush-clause-programs g c = rw c.in-Flush.is c.flush.ensures.programs

pub returns-in-Turn-clause-programs : goal.returns-in-Turn-clause-programs
returns-in-Turn-clause-programs g c = rw c.in-Turn.is tt

-- ---- what its own contract says

pub returns-in-Read-clause-fulfils : goal.returns-in-Read-clause-fulfils
returns-in-Read-clause-fulfils g c =
    let its = c.read.ensures in
    rw c.in-Read.is (record {
      past = its.past;
      within = its.within;
      faults = its.faults;
      memory = its.memory;
      damaged = its.damaged;
      read_only = its.read_only;
      only_reads = its.only_reads;
      asked = its.asked;
      reads = its.reads;
      hit = its.hit;
      cut = its.cut;
      mountable = its.mountable;
    })

pub returns-in-Write-clause-fulfils : goal.returns-in-Write-clause-fulfils
returns-in-Write-clause-fulfils g c = rw c.in-Write.is c.write.ensures.changes

pub returns-in-Trim-clause-fulfils : goal.returns-in-Trim-clause-fulfils
returns-in-Trim-clause-fulfils g c = rw c.in-Trim.is c.trim.ensures.changes

pub returns-in-Flush-clause-fulfils : goal.returns-in-Flush-clause-fulfils
returns-in-Flush-clause-fulfils g c =
    rw c.in-Flush.is (record {
      upkeeps = c.flush.ensures.upkeeps;
      keys = c.flush.ensures.keys;
      renewed = c.flush.ensures.renewed;
    })

pub returns-in-Turn-clause-fulfils : goal.returns-in-Turn-clause-fulfils
returns-in-Turn-clause-fulfils g c = rw c.in-Turn.is c.turn.ensures.upkeeps

-- ---- only a turn pins a block

pub returns-in-Read-clause-pins : goal.returns-in-Read-clause-pins
returns-in-Read-clause-pins g c = λ no none some. read_pins c.in-Read.sector c.read.result (ram c.args.device.now.engine) (ram c.read.new.self.engine) (page_in_buffer c.read.new.self.engine.scratch) (page_in_buffer c.read.new.self.engine.page) c.read.new.out c.read.ensures.memory none some

pub returns-in-Write-clause-pins : goal.returns-in-Write-clause-pins
returns-in-Write-clause-pins g c = λ no. c.write.ensures.changes.pins

pub returns-in-Trim-clause-pins : goal.returns-in-Trim-clause-pins
returns-in-Trim-clause-pins g c = λ no. c.trim.ensures.changes.pins

pub returns-in-Flush-clause-pins : goal.returns-in-Flush-clause-pins
returns-in-Flush-clause-pins g c = λ no. c.flush.ensures.pins

pub returns-in-Turn-clause-pins : goal.returns-in-Turn-clause-pins
returns-in-Turn-clause-pins g c = rw c.in-Turn.is (λ no. (let never : ⊥ = cc in absurd never))

pub returns-in-Write-clause-well : goal.returns-in-Write-clause-well
returns-in-Write-clause-well g c = λ honest w ne. (c.write.ensures.changes.means honest w ne).well

pub returns-in-Trim-clause-well : goal.returns-in-Trim-clause-well
returns-in-Trim-clause-well g c = λ honest w ne. (c.trim.ensures.changes.means honest w ne).well

pub returns-in-Flush-clause-well : goal.returns-in-Flush-clause-well
returns-in-Flush-clause-well g c = λ honest w ne. (c.flush.ensures.upkeeps.means honest w ne).well

pub returns-in-Turn-clause-well : goal.returns-in-Turn-clause-well
returns-in-Turn-clause-well g c = λ honest w ne. (c.turn.ensures.upkeeps.means honest w ne).well
