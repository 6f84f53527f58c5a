use Rattle.std.proofs.Common.{◌≡◌, Ok, Err, Bool, ℕ, Result, ap, subst, sym, ◌∙◌}
use Rattle.std.proofs.lemmas.Result.{err_from_is_err_and}
use Rattle.ftl_device.specs.declared.fault.DeviceFault.{DeviceFault}
use Rattle.commands.specs.Migrate.{CallsMigrate, HasRenewed}
use Rattle.commands.proofs.MigrateLemmas.{begins, calls_as, ends_done, ends_refused, goes_on}
use Rattle.commands.proofs.migrate_all.renew_all.Goals as goal

pub calls-init : goal.calls-init
calls-init g c = begins g.N.PageSource.view c.args.geometry.now c.args.device.now c.requires.device c.requires.sized c.requires.honest c.requires.well

pub returns-in_err-migrate_one : goal.returns-in_err-migrate_one
returns-in_err-migrate_one g c =
    let view = g.N.PageSource.view in
    let fault = c.in_err-migrate_one.field-0.0 in
    let its = c.in_err-migrate_one.ensures in
    let p = err_from_is_err_and c.from_residual.result c.from_residual.ensures.1 in
    let is : c.from_residual.result ≡ Err fault = p.1 ∙ ap Err p.2 in
    let call = calls_as view _ _ c.calls.device c.migrate_one.new.self _ (Err fault) c.requires.roomy c.calls.invariant its.upkeeps its.migrates its.rests its.brought its.brings its.stays its.moves_on in
    let P : Result ℕ DeviceFault → Type 0 = λ r. HasRenewed view c.args.geometry.now c.args.device.now r c.migrate_one.new.self in
    subst P (sym is) (ends_refused view _ _ c.calls.device _ _ fault c.calls.invariant call its.device its.geometry)

pub returns-then-not-branch : goal.returns-then-not-branch
returns-then-not-branch g c =
    let view = g.N.PageSource.view in
    let its = c.in_ok-migrate_one.ensures in
    let call = calls_as view _ _ c.calls.device c.migrate_one.new.self _ (Ok c.in_ok-migrate_one.field-0) c.requires.roomy c.calls.invariant its.upkeeps its.migrates its.rests its.brought its.brings its.stays its.moves_on in
    let P : Bool → Type 0 = λ b. CallsMigrate view c.calls.device (Ok b) c.migrate_one.new.self in
    ends_done view _ _ c.calls.device _ _ c.calls.invariant (subst P c.if-not-branch.true call) its.device its.geometry

pub calls-preserved : goal.calls-preserved
calls-preserved g c =
    let view = g.N.PageSource.view in
    let its = c.in_ok-migrate_one.ensures in
    let call = calls_as view _ _ c.calls.device c.migrate_one.new.self _ (Ok c.in_ok-migrate_one.field-0) c.requires.roomy c.calls.invariant its.upkeeps its.migrates its.rests its.brought its.brings its.stays its.moves_on in
    let P : Bool → Type 0 = λ b. CallsMigrate view c.calls.device (Ok b) c.migrate_one.new.self in
    goes_on view _ _ c.calls.device _ _ c.requires.roomy c.calls.invariant (subst P c.if-not-branch.false call) its.device its.geometry
