use Rattle.std.proofs.Common.{◌≡◌, ◌∙◌, [], true, subst, sym}
use Rattle.onfi_cycles.specs.Driver.{DriverState}
use Rattle.file_die.specs.Die.{FileState}
use Rattle.ftl_device.specs.declared.device.Device.{Device}
use Rattle.disk_server.specs.Opened.{is_honest_in}
use Rattle.disk_server.proofs.Holding.{parts}
use Rattle.disk_laws.specs.StoreRuns.{StandsClear}
use Rattle.disk_laws.proofs.opened_calls.open_clear.Goals as goal

pub returns-in-Ok-clause-stands : goal.returns-in-Ok-clause-stands
returns-in-Ok-clause-stands g c = λ h.
    let s = g.S.Store in
    let same : c.device_in.result ≡ c.in-Ok.disk = c.device_in.ensures.same ∙ c.into_sectors.ensures in
    let held = (parts (is_honest_in s.honest) c.in-Ok.disk (c.in-Ok.ensures.honest ∙ h)).0 in
    let is : s.honest c.device_in.result.engine.nand.bus.store ≡ true = subst (λ d. is_honest_in s.honest d.engine.nand ≡ true) (sym same) held in
    let clear : c.device_in.result.engine.nand.told.at_hand ≡ [] = subst (λ d. d.engine.nand.told.at_hand ≡ []) (sym same) (c.in-Ok.ensures.clear h) in
    subst (StandsClear s.held s.honest s.failed) (sym c.device_stands.ensures.same)
    (record { disk = c.device_in.ensures.disk; ready = c.device_stands.ensures.ready is; is_honest = is; images = c.device_stands.ensures.images is; clear = clear })
