use Rattle.std.proofs.Common.{◌≡◌, ◌≤◌, ◌+◌, [], ap, sym, subst, refl, None, Ok, Err, ◌∙◌, ◌<◌}
use Rattle.std.specs.Prelude.{IsSome}
use Rattle.std.proofs.lemmas.Result.{err_from_is_err_and}
use Rattle.page_layout.specs.Counter.{HasRisen}
use Rattle.page_layout.specs.OnlyReads.{OnlyReads}
use Rattle.page_layout.specs.Recording.{EndsAt}
use Rattle.page_layout.specs.DieCalls.{AsksOnly, AskedNothing}
use Rattle.mapping_cache.specs.Mapping.{HasLimitsOf, known}
use Rattle.collection.specs.Stops.{room_of}
use Rattle.collection.specs.Safe.{ram, image_in}
use Rattle.collection.specs.Truth.{IsTrue}
use Rattle.collection.proofs.Looks.{ok_not_bus}
use Rattle.ftl_device.proofs.CallLemmas.{mountable_kept}
use Rattle.ftl_device.proofs.MountableLemmas.{restart_law}
use Rattle.ftl_device.proofs.StoppedLemmas.{stopped_none}
use Rattle.promises.specs.Step as step
use Rattle.ftl_device.proofs.LeaveLemmas.{limits_same}
use Rattle.ftl_device.proofs.ReadLemmas.{read_step, read_done, read_well}
use Rattle.ftl_device.proofs.ReadRefusals.{going_none, going_stop, not_both, done_no, range_not_bus, range_not_damaged, stopped_once, faults_once, within_once, memory_once, only_reads_none, up_to, not_within, not_past, within_by, past_read}
use Rattle.ftl_device.proofs.ReadRefusals.{damage_back, device_looked, noted, refused_within, bus_back, not_bus, refused_memory}
use Rattle.page_layout.specs.declared.geometry.Geometry.{Geometry}
use Rattle.page_layout.specs.Geometry.{row_count}
use Rattle.collection.specs.State.{Ram}
use Rattle.std.specs.Option.{ForSome}
use Rattle.ftl_device.proofs.device.Device.read.Goals as goal

pub returns-in-Ok-clause-memory : goal.returns-in-Ok-clause-memory
returns-in-Ok-clause-memory g c = read_done g.N.PageSource.view.flash c.args.self.now c.read_sector.new.self c.remember.new.self c.args.sector c.in-Ok.row
    c.read_sector.new.out c.in-Ok.ensures.looks.memory c.remember.ensures.same c.in-Ok.ensures.looked_up c.in-Ok.ensures.checked
    c.remember.ensures.looks_up

pub returns-in-Ok-clause-step : goal.returns-in-Ok-clause-step
returns-in-Ok-clause-step g c = λ honest well not_bus. read_step g.N.PageSource.view.flash c.args.self.now c.read_sector.new.self c.remember.new.self
    c.args.sector c.in-Ok.row c.read_sector.new.out (within_by _ _ _ c.sectors.ensures c.if-sector-sectors.false) c.in-Ok.ensures.looks.memory
    (c.in-Ok.ensures.looks.same honest (ok_not_bus c.in-Ok.row)) c.remember.ensures.same (c.in-Ok.ensures.truth honest well.truth)

pub returns-then-sector-sectors-clause-mountable : goal.returns-then-sector-sectors-clause-mountable
returns-then-sector-sectors-clause-mountable g c = λ honest well not_bus most. restart_law (ram c.args.self.now.engine) _ c.requires.device.engine.memory well.truth most

pub returns-in-Ok-clause-mountable : goal.returns-in-Ok-clause-mountable
returns-in-Ok-clause-mountable g c = λ honest well not_bus most.
    let kept = ap (λ d. g.N.PageSource.view.flash d.engine.nand) c.remember.ensures.same ∙ c.in-Ok.ensures.looks.same honest (ok_not_bus c.in-Ok.row) in
    mountable_kept g.N.PageSource.view.flash c.args.self.now.engine c.remember.new.self.engine kept c.requires.device.engine.memory well.truth most

pub returns-in-Ok-clause-well : goal.returns-in-Ok-clause-well
returns-in-Ok-clause-well g c = λ honest well not_bus. read_well g.N.PageSource.view.flash c.args.self.now c.remember.new.self c.read_sector.new.self
    c.in-Ok.ensures.looks.memory (c.in-Ok.ensures.looks.same honest (ok_not_bus c.in-Ok.row)) c.remember.ensures.same c.remember.ensures.limits c.remember.ensures.moved well
    (c.remember.ensures.truth _
    (subst (λ r. IsTrue None r (image_in g.N.PageSource.view.flash c.args.self.now.engine)) (sym c.in-Ok.ensures.looks.memory) well.truth)
    (c.in-Ok.ensures.truth honest well.truth).found)

-- ---- a stop inside it

pub returns-then-sector-sectors-clause-survives : goal.returns-then-sector-sectors-clause-survives
returns-then-sector-sectors-clause-survives g c = λ honest well ne. stopped_none c.args.self.now.engine.geometry
    (room_of (ram c.args.self.now.engine)) (step.Read c.args.sector) _ (image_in g.N.PageSource.view.flash c.args.self.now.engine) _ _
    (restart_law (ram c.args.self.now.engine) _ c.requires.device.engine.memory well.truth)

pub returns-in-Ok-clause-survives : goal.returns-in-Ok-clause-survives
returns-in-Ok-clause-survives g c = λ honest well ne. stopped_none c.args.self.now.engine.geometry (room_of (ram c.args.self.now.engine))
    (step.Read c.args.sector) _ (image_in g.N.PageSource.view.flash c.args.self.now.engine) _ _
    (restart_law (ram c.args.self.now.engine) _ c.requires.device.engine.memory well.truth)

-- ---- where it is refused at once, nothing was asked

pub returns-in_err-going-clause-asked : goal.returns-in_err-going-clause-asked
returns-in_err-going-clause-asked g c = AskedNothing

pub returns-then-sector-sectors-clause-asked : goal.returns-then-sector-sectors-clause-asked
returns-then-sector-sectors-clause-asked g c = AskedNothing

-- ---- a fault stood

pub returns-in_err-going-clause-device : goal.returns-in_err-going-clause-device
returns-in_err-going-clause-device g c = c.requires.device

pub returns-in_err-going-clause-stopped : goal.returns-in_err-going-clause-stopped
returns-in_err-going-clause-stopped g c =
    let p = err_from_is_err_and c.from_residual.result c.from_residual.ensures.1 in
    let e : c.from_residual.result ≡ Err _ = p.1 ∙ ap Err p.2 in
    stopped_once c.args.self.now _ _ _ e (going_stop _ _ _ refl c.in_err-going.ensures)

pub returns-in_err-going-clause-past : goal.returns-in_err-going-clause-past
returns-in_err-going-clause-past g c = λ none. absurd (not_both _ _ (going_stop _ _ _ refl c.in_err-going.ensures) none)

pub returns-in_err-going-clause-within : goal.returns-in_err-going-clause-within
returns-in_err-going-clause-within g c =
    let p = err_from_is_err_and c.from_residual.result c.from_residual.ensures.1 in
    let e : c.from_residual.result ≡ Err _ = p.1 ∙ ap Err p.2 in
    λ within. within_once c.args.self.now.engine.fault _ _ e (going_stop _ _ _ refl c.in_err-going.ensures)

pub returns-in_err-going-clause-faults : goal.returns-in_err-going-clause-faults
returns-in_err-going-clause-faults g c =
    let p = err_from_is_err_and c.from_residual.result c.from_residual.ensures.1 in
    let e : c.from_residual.result ≡ Err _ = p.1 ∙ ap Err p.2 in
    faults_once c.args.self.now.engine.fault _ _ e (going_stop _ _ _ refl c.in_err-going.ensures)

pub returns-in_err-going-clause-refused : goal.returns-in_err-going-clause-refused
returns-in_err-going-clause-refused g c =
    let p = err_from_is_err_and c.from_residual.result c.from_residual.ensures.1 in
    rw p.1 refl

pub returns-in_err-going-clause-limits : goal.returns-in_err-going-clause-limits
returns-in_err-going-clause-limits g c = record { geometry = refl; capacity = refl; share = refl }

pub returns-in_err-going-clause-read_only : goal.returns-in_err-going-clause-read_only
returns-in_err-going-clause-read_only g c = refl

pub returns-in_err-going-clause-cursor : goal.returns-in_err-going-clause-cursor
returns-in_err-going-clause-cursor g c = refl

pub returns-in_err-going-clause-only_reads : goal.returns-in_err-going-clause-only_reads
returns-in_err-going-clause-only_reads g c = only_reads_none g.N.PageSource.view c.args.self.now.engine.nand

pub returns-in_err-going-clause-reads : goal.returns-in_err-going-clause-reads
returns-in_err-going-clause-reads g c = up_to _ 2

pub returns-in_err-going-clause-hit : goal.returns-in_err-going-clause-hit
returns-in_err-going-clause-hit g c = λ some. up_to _ 1

pub returns-in_err-going-clause-same : goal.returns-in_err-going-clause-same
returns-in_err-going-clause-same g c = λ honest ne. refl

pub returns-in_err-going-clause-told : goal.returns-in_err-going-clause-told
returns-in_err-going-clause-told g c = λ honest ne. refl

pub returns-in_err-going-clause-well : goal.returns-in_err-going-clause-well
returns-in_err-going-clause-well g c = λ honest well ne. well

pub returns-in_err-going-clause-rose : goal.returns-in_err-going-clause-rose
returns-in_err-going-clause-rose g c = λ none. absurd (not_both _ _ (going_stop _ _ _ refl c.in_err-going.ensures) none)

pub returns-in_err-going-clause-memory : goal.returns-in_err-going-clause-memory
returns-in_err-going-clause-memory g c =
    let p = err_from_is_err_and c.from_residual.result c.from_residual.ensures.1 in
    let e : c.from_residual.result ≡ Err _ = p.1 ∙ ap Err p.2 in
    memory_once c.args.sector _ _ (ram c.args.self.now.engine) _ _ _ e (going_stop _ _ _ refl c.in_err-going.ensures)

pub returns-in_err-going-clause-cut : goal.returns-in_err-going-clause-cut
returns-in_err-going-clause-cut g c = λ honest none. absurd (not_both _ _ (going_stop _ _ _ refl c.in_err-going.ensures) none)

pub returns-in_err-going-clause-survives : goal.returns-in_err-going-clause-survives
returns-in_err-going-clause-survives g c = λ honest well ne. absurd (not_both _ _ (going_stop _ _ _ refl c.in_err-going.ensures) well.going)

pub returns-in_err-going-clause-step : goal.returns-in_err-going-clause-step
returns-in_err-going-clause-step g c = λ honest well ne. absurd (not_both _ _ (going_stop _ _ _ refl c.in_err-going.ensures) well.going)

pub returns-in_err-going-clause-mountable : goal.returns-in_err-going-clause-mountable
returns-in_err-going-clause-mountable g c = λ honest well ne most. absurd (not_both _ _ (going_stop _ _ _ refl c.in_err-going.ensures) well.going)

pub returns-in_err-going-clause-damaged : goal.returns-in_err-going-clause-damaged
returns-in_err-going-clause-damaged g c = λ none. absurd (not_both _ _ (going_stop _ _ _ refl c.in_err-going.ensures) none)

-- ---- there is no such sector

pub returns-then-sector-sectors-clause-device : goal.returns-then-sector-sectors-clause-device
returns-then-sector-sectors-clause-device g c = c.requires.device

pub returns-then-sector-sectors-clause-stopped : goal.returns-then-sector-sectors-clause-stopped
returns-then-sector-sectors-clause-stopped g c = λ f some. absurd (not_both _ _ some (going_none _ (Ok tt) c.in_ok-going.ensures refl))

pub returns-then-sector-sectors-clause-past : goal.returns-then-sector-sectors-clause-past
returns-then-sector-sectors-clause-past g c = λ none past. (refl, refl)

pub returns-then-sector-sectors-clause-within : goal.returns-then-sector-sectors-clause-within
returns-then-sector-sectors-clause-within g c = λ within. absurd (not_within _ _ _ c.sectors.ensures c.if-sector-sectors.true within)

pub returns-then-sector-sectors-clause-faults : goal.returns-then-sector-sectors-clause-faults
returns-then-sector-sectors-clause-faults g c = tt

pub returns-then-sector-sectors-clause-refused : goal.returns-then-sector-sectors-clause-refused
returns-then-sector-sectors-clause-refused g c = refl

pub returns-then-sector-sectors-clause-limits : goal.returns-then-sector-sectors-clause-limits
returns-then-sector-sectors-clause-limits g c = record { geometry = refl; capacity = refl; share = refl }

pub returns-then-sector-sectors-clause-read_only : goal.returns-then-sector-sectors-clause-read_only
returns-then-sector-sectors-clause-read_only g c = refl

pub returns-then-sector-sectors-clause-cursor : goal.returns-then-sector-sectors-clause-cursor
returns-then-sector-sectors-clause-cursor g c = refl

pub returns-then-sector-sectors-clause-only_reads : goal.returns-then-sector-sectors-clause-only_reads
returns-then-sector-sectors-clause-only_reads g c = only_reads_none g.N.PageSource.view c.args.self.now.engine.nand

pub returns-then-sector-sectors-clause-reads : goal.returns-then-sector-sectors-clause-reads
returns-then-sector-sectors-clause-reads g c = up_to _ 2

pub returns-then-sector-sectors-clause-hit : goal.returns-then-sector-sectors-clause-hit
returns-then-sector-sectors-clause-hit g c = λ some. up_to _ 1

pub returns-then-sector-sectors-clause-same : goal.returns-then-sector-sectors-clause-same
returns-then-sector-sectors-clause-same g c = λ honest ne. refl

pub returns-then-sector-sectors-clause-told : goal.returns-then-sector-sectors-clause-told
returns-then-sector-sectors-clause-told g c = λ honest ne. refl

pub returns-then-sector-sectors-clause-well : goal.returns-then-sector-sectors-clause-well
returns-then-sector-sectors-clause-well g c = λ honest well ne. well

pub returns-then-sector-sectors-clause-rose : goal.returns-then-sector-sectors-clause-rose
returns-then-sector-sectors-clause-rose g c = λ none bad. absurd (range_not_bus _ refl bad)

pub returns-then-sector-sectors-clause-memory : goal.returns-then-sector-sectors-clause-memory
returns-then-sector-sectors-clause-memory g c = refl

pub returns-then-sector-sectors-clause-cut : goal.returns-then-sector-sectors-clause-cut
returns-then-sector-sectors-clause-cut g c = λ honest none bad. absurd (range_not_bus _ refl bad)

pub returns-then-sector-sectors-clause-step : goal.returns-then-sector-sectors-clause-step
returns-then-sector-sectors-clause-step g c = λ honest well ne. past_read _ _ _ _ c.sectors.ensures c.if-sector-sectors.true

pub returns-then-sector-sectors-clause-damaged : goal.returns-then-sector-sectors-clause-damaged
returns-then-sector-sectors-clause-damaged g c = λ none bad. absurd (range_not_damaged _ refl bad)

-- ---- it was read

pub returns-in-Ok-clause-device : goal.returns-in-Ok-clause-device
returns-in-Ok-clause-device g c = c.remember.ensures.device

pub returns-in-Ok-clause-stopped : goal.returns-in-Ok-clause-stopped
returns-in-Ok-clause-stopped g c = λ f some. absurd (not_both _ _ some (going_none _ (Ok tt) c.in_ok-going.ensures refl))

pub returns-in-Ok-clause-past : goal.returns-in-Ok-clause-past
returns-in-Ok-clause-past g c = λ none past. absurd (not_past _ _ _ c.sectors.ensures c.if-sector-sectors.false past)

pub returns-in-Ok-clause-within : goal.returns-in-Ok-clause-within
returns-in-Ok-clause-within g c = λ within bad. absurd (done_no _ _ refl bad)

pub returns-in-Ok-clause-faults : goal.returns-in-Ok-clause-faults
returns-in-Ok-clause-faults g c = tt

pub returns-in-Ok-clause-damaged : goal.returns-in-Ok-clause-damaged
returns-in-Ok-clause-damaged g c = λ none bad. absurd (done_no _ _ refl bad)

pub returns-in-Ok-clause-refused : goal.returns-in-Ok-clause-refused
returns-in-Ok-clause-refused g c = tt

pub returns-in-Ok-clause-limits : goal.returns-in-Ok-clause-limits
returns-in-Ok-clause-limits g c = subst (λ m. HasLimitsOf m c.remember.new.self.engine.mapping) (ap (λ r. r.mapping) c.in-Ok.ensures.looks.memory) c.remember.ensures.limits

pub returns-in-Ok-clause-read_only : goal.returns-in-Ok-clause-read_only
returns-in-Ok-clause-read_only g c = ap (λ d. d.read_only) c.remember.ensures.same

pub returns-in-Ok-clause-cursor : goal.returns-in-Ok-clause-cursor
returns-in-Ok-clause-cursor g c = ap (λ d. d.cursor) c.remember.ensures.same

pub returns-in-Ok-clause-only_reads : goal.returns-in-Ok-clause-only_reads
returns-in-Ok-clause-only_reads g c = subst (λ n. OnlyReads g.N.PageSource.view c.args.self.now.engine.nand n) (sym (ap (λ d. d.engine.nand) c.remember.ensures.same)) c.in-Ok.ensures.looks.only_reads

pub returns-in-Ok-clause-asked : goal.returns-in-Ok-clause-asked
returns-in-Ok-clause-asked g c = subst (λ n. AsksOnly g.N.PageSource.view.called c.args.self.now.engine.nand n) (sym (ap (λ d. d.engine.nand) c.remember.ensures.same)) c.in-Ok.ensures.looks.asked

pub returns-in-Ok-clause-reads : goal.returns-in-Ok-clause-reads
returns-in-Ok-clause-reads g c = subst (λ n. g.N.PageSource.view.reads n ≤ g.N.PageSource.view.reads c.args.self.now.engine.nand + 2) (sym (ap (λ d. d.engine.nand) c.remember.ensures.same)) c.in-Ok.ensures.reads

pub returns-in-Ok-clause-hit : goal.returns-in-Ok-clause-hit
returns-in-Ok-clause-hit g c = λ some. subst (λ n. g.N.PageSource.view.reads n ≤ g.N.PageSource.view.reads c.args.self.now.engine.nand + 1) (sym (ap (λ d. d.engine.nand) c.remember.ensures.same)) (c.in-Ok.ensures.hit some)

pub returns-in-Ok-clause-rose : goal.returns-in-Ok-clause-rose
returns-in-Ok-clause-rose g c = λ none bad. absurd (done_no _ _ refl bad)

pub returns-in-Ok-clause-same : goal.returns-in-Ok-clause-same
returns-in-Ok-clause-same g c = λ honest ne. ap (λ d. g.N.PageSource.view.flash d.engine.nand) c.remember.ensures.same ∙ c.in-Ok.ensures.looks.same honest (ok_not_bus c.in-Ok.row)

pub returns-in-Ok-clause-told : goal.returns-in-Ok-clause-told
returns-in-Ok-clause-told g c = λ honest ne. ap (λ d. g.N.PageSource.view.recorded d.engine.nand) c.remember.ensures.same ∙ c.in-Ok.ensures.looks.told honest (ok_not_bus c.in-Ok.row)

pub returns-in-Ok-clause-cut : goal.returns-in-Ok-clause-cut
returns-in-Ok-clause-cut g c = λ honest none bad. absurd (done_no _ _ refl bad)

-- ---- a fault of the look ended it

pub returns-in-Err-clause-device : goal.returns-in-Err-clause-device
returns-in-Err-clause-device g c = c.refused_read.ensures.device

pub returns-in-Err-clause-stopped : goal.returns-in-Err-clause-stopped
returns-in-Err-clause-stopped g c = λ f some. absurd (not_both _ _ some (going_none _ (Ok tt) c.in_ok-going.ensures refl))

pub returns-in-Err-clause-past : goal.returns-in-Err-clause-past
returns-in-Err-clause-past g c = λ none past. absurd (not_past _ _ _ c.sectors.ensures c.if-sector-sectors.false past)

pub returns-in-Err-clause-within : goal.returns-in-Err-clause-within
returns-in-Err-clause-within g c = λ within. refused_within c.args.self.now c.read_sector.new.self c.in-Err.fault _ _ c.in-Err.ensures.looks.faults c.refused_read.ensures.damaged c.refused_read.ensures.bus _ refl

pub returns-in-Err-clause-faults : goal.returns-in-Err-clause-faults
returns-in-Err-clause-faults g c = c.refused_read.ensures.either

pub returns-in-Err-clause-refused : goal.returns-in-Err-clause-refused
returns-in-Err-clause-refused g c = c.in-Err.ensures.refused

pub returns-in-Err-clause-limits : goal.returns-in-Err-clause-limits
returns-in-Err-clause-limits g c =
    let eq = noted c.args.self.now c.read_sector.new.self c.in-Err.fault _ _ c.in-Err.ensures.looks.faults c.refused_read.ensures.damaged c.refused_read.ensures.bus in
    limits_same _ _ (ap (λ d. d.engine.mapping) eq ∙ ap (λ r. r.mapping) c.in-Err.ensures.looks.memory)

pub returns-in-Err-clause-read_only : goal.returns-in-Err-clause-read_only
returns-in-Err-clause-read_only g c =
    let eq = noted c.args.self.now c.read_sector.new.self c.in-Err.fault _ _ c.in-Err.ensures.looks.faults c.refused_read.ensures.damaged c.refused_read.ensures.bus in
    ap (λ d. d.read_only) eq

pub returns-in-Err-clause-cursor : goal.returns-in-Err-clause-cursor
returns-in-Err-clause-cursor g c =
    let eq = noted c.args.self.now c.read_sector.new.self c.in-Err.fault _ _ c.in-Err.ensures.looks.faults c.refused_read.ensures.damaged c.refused_read.ensures.bus in
    ap (λ d. d.cursor) eq

pub returns-in-Err-clause-only_reads : goal.returns-in-Err-clause-only_reads
returns-in-Err-clause-only_reads g c =
    let eq = noted c.args.self.now c.read_sector.new.self c.in-Err.fault _ _ c.in-Err.ensures.looks.faults c.refused_read.ensures.damaged c.refused_read.ensures.bus in
    subst (λ n. OnlyReads g.N.PageSource.view c.args.self.now.engine.nand n) (sym (ap (λ d. d.engine.nand) eq)) c.in-Err.ensures.looks.only_reads

pub returns-in-Err-clause-asked : goal.returns-in-Err-clause-asked
returns-in-Err-clause-asked g c =
    let eq = noted c.args.self.now c.read_sector.new.self c.in-Err.fault _ _ c.in-Err.ensures.looks.faults c.refused_read.ensures.damaged c.refused_read.ensures.bus in
    subst (λ n. AsksOnly g.N.PageSource.view.called c.args.self.now.engine.nand n) (sym (ap (λ d. d.engine.nand) eq)) c.in-Err.ensures.looks.asked

pub returns-in-Err-clause-reads : goal.returns-in-Err-clause-reads
returns-in-Err-clause-reads g c =
    let eq = noted c.args.self.now c.read_sector.new.self c.in-Err.fault _ _ c.in-Err.ensures.looks.faults c.refused_read.ensures.damaged c.refused_read.ensures.bus in
    subst (λ n. g.N.PageSource.view.reads n ≤ g.N.PageSource.view.reads c.args.self.now.engine.nand + 2) (sym (ap (λ d. d.engine.nand) eq)) c.in-Err.ensures.reads

pub returns-in-Err-clause-hit : goal.returns-in-Err-clause-hit
returns-in-Err-clause-hit g c =
    let eq = noted c.args.self.now c.read_sector.new.self c.in-Err.fault _ _ c.in-Err.ensures.looks.faults c.refused_read.ensures.damaged c.refused_read.ensures.bus in
    λ some. subst (λ n. g.N.PageSource.view.reads n ≤ g.N.PageSource.view.reads c.args.self.now.engine.nand + 1) (sym (ap (λ d. d.engine.nand) eq)) (c.in-Err.ensures.hit some)

pub returns-in-Err-clause-rose : goal.returns-in-Err-clause-rose
returns-in-Err-clause-rose g c =
    let eq = noted c.args.self.now c.read_sector.new.self c.in-Err.fault _ _ c.in-Err.ensures.looks.faults c.refused_read.ensures.damaged c.refused_read.ensures.bus in
    λ none bad. subst (λ n. HasRisen (g.N.PageSource.view.failed c.args.self.now.engine.nand) (g.N.PageSource.view.failed n))
    (sym (ap (λ d. d.engine.nand) eq)) (c.in-Err.ensures.looks.rose (ap Err (bus_back c.args.self.now c.read_sector.new.self c.in-Err.fault _ _ c.in-Err.ensures.looks.faults c.refused_read.ensures.damaged c.refused_read.ensures.bus _ refl bad)))

pub returns-in-Err-clause-memory : goal.returns-in-Err-clause-memory
returns-in-Err-clause-memory g c = refused_memory c.args.self.now c.read_sector.new.self c.in-Err.fault _ _ c.in-Err.ensures.looks.faults c.refused_read.ensures.damaged c.refused_read.ensures.bus c.args.sector c.read_sector.new.out c.in-Err.ensures.looks.memory

pub returns-in-Err-clause-same : goal.returns-in-Err-clause-same
returns-in-Err-clause-same g c =
    let eq = noted c.args.self.now c.read_sector.new.self c.in-Err.fault _ _ c.in-Err.ensures.looks.faults c.refused_read.ensures.damaged c.refused_read.ensures.bus in
    λ honest ne. ap (λ d. g.N.PageSource.view.flash d.engine.nand) eq ∙ c.in-Err.ensures.looks.same honest (not_bus c.args.self.now c.read_sector.new.self c.in-Err.fault _ _ c.in-Err.ensures.looks.faults c.refused_read.ensures.damaged c.refused_read.ensures.bus _ _ refl refl ne)

pub returns-in-Err-clause-told : goal.returns-in-Err-clause-told
returns-in-Err-clause-told g c =
    let eq = noted c.args.self.now c.read_sector.new.self c.in-Err.fault _ _ c.in-Err.ensures.looks.faults c.refused_read.ensures.damaged c.refused_read.ensures.bus in
    λ honest ne. ap (λ d. g.N.PageSource.view.recorded d.engine.nand) eq ∙ c.in-Err.ensures.looks.told honest (not_bus c.args.self.now c.read_sector.new.self c.in-Err.fault _ _ c.in-Err.ensures.looks.faults c.refused_read.ensures.damaged c.refused_read.ensures.bus _ _ refl refl ne)

pub returns-in-Err-clause-cut : goal.returns-in-Err-clause-cut
returns-in-Err-clause-cut g c =
    let eq = noted c.args.self.now c.read_sector.new.self c.in-Err.fault _ _ c.in-Err.ensures.looks.faults c.refused_read.ensures.damaged c.refused_read.ensures.bus in
    λ honest none bad. subst (λ n. EndsAt [] (g.N.PageSource.view.recorded c.args.self.now.engine.nand) (g.N.PageSource.view.recorded n))
    (sym (ap (λ d. d.engine.nand) eq)) (c.in-Err.ensures.looks.cut honest (ap Err (bus_back c.args.self.now c.read_sector.new.self c.in-Err.fault _ _ c.in-Err.ensures.looks.faults c.refused_read.ensures.damaged c.refused_read.ensures.bus _ refl bad)))

pub returns-in-Err-clause-survives : goal.returns-in-Err-clause-survives
returns-in-Err-clause-survives g c = λ honest well ne. absurd (ne (ap Err (c.refused_read.ensures.bus (c.in-Err.ensures.truth honest well.truth)).0))

pub returns-in-Err-clause-well : goal.returns-in-Err-clause-well
returns-in-Err-clause-well g c = λ honest well ne. absurd (ne (ap Err (c.refused_read.ensures.bus (c.in-Err.ensures.truth honest well.truth)).0))

pub returns-in-Err-clause-step : goal.returns-in-Err-clause-step
returns-in-Err-clause-step g c = λ honest well ne. absurd (ne (ap Err (c.refused_read.ensures.bus (c.in-Err.ensures.truth honest well.truth)).0))

pub returns-in-Err-clause-mountable : goal.returns-in-Err-clause-mountable
returns-in-Err-clause-mountable g c = λ honest well ne most. absurd (ne (ap Err (c.refused_read.ensures.bus (c.in-Err.ensures.truth honest well.truth)).0))

pub returns-in-Err-clause-damaged : goal.returns-in-Err-clause-damaged
returns-in-Err-clause-damaged g c = λ none bad. damage_back c.args.self.now c.read_sector.new.self c.in-Err.fault _ _ c.in-Err.ensures.looks.faults c.refused_read.ensures.damaged c.refused_read.ensures.bus
    (ram c.args.self.now.engine) c.args.sector _ refl bad (λ is. c.in-Err.ensures.damaged (ap Err is))

-- ---- what the calls want

pub read_sector-requires-clause-safe : goal.read_sector-requires-clause-safe
read_sector-requires-clause-safe g c = c.requires.device.engine

pub read_sector-requires-clause-sector : goal.read_sector-requires-clause-sector
read_sector-requires-clause-sector g c = within_by _ _ _ c.sectors.ensures c.if-sector-sectors.false

pub read_sector-requires-clause-whole : goal.read_sector-requires-clause-whole
read_sector-requires-clause-whole g c = c.requires.whole

pub remember-requires-clause-device : goal.remember-requires-clause-device
remember-requires-clause-device g c = device_looked g.N.PageSource.view.flash c.args.self.now c.read_sector.new.self c.requires.device c.in-Ok.ensures.looks.safe c.in-Ok.ensures.looks.memory

pub remember-requires-clause-sector : goal.remember-requires-clause-sector
remember-requires-clause-sector g c = subst (λ (geometry : Geometry). c.args.sector < geometry.sectors) (sym (ap (λ (r : Ram). r.geometry) c.in-Ok.ensures.looks.memory)) (within_by _ _ _ c.sectors.ensures c.if-sector-sectors.false)

pub remember-requires-clause-row : goal.remember-requires-clause-row
remember-requires-clause-row g c = subst (λ (geometry : Geometry). ForSome c.in-Ok.row (λ r. r < row_count geometry)) (sym (ap (λ (r : Ram). r.geometry) c.in-Ok.ensures.looks.memory)) c.in-Ok.ensures.row

pub refused_read-requires-clause-device : goal.refused_read-requires-clause-device
refused_read-requires-clause-device g c = device_looked g.N.PageSource.view.flash c.args.self.now c.read_sector.new.self c.requires.device c.in-Err.ensures.looks.safe c.in-Err.ensures.looks.memory

pub refused_read-requires-clause-of_read : goal.refused_read-requires-clause-of_read
refused_read-requires-clause-of_read g c = c.in-Err.ensures.looks.faults
