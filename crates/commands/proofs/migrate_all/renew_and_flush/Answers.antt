use Rattle.std.proofs.Common.{◌≡◌, Err, ℕ, Result, ap, subst, sym, ◌∙◌}
use Rattle.std.proofs.lemmas.Result.{err_from_is_err_and}
use Rattle.ftl_device.specs.declared.fault.DeviceFault.{DeviceFault}
use Rattle.commands.specs.Migrate.{IsRenewedThenFlushed}
use Rattle.commands.proofs.MigrateLemmas.{flush_done, flush_refused, none_flushed}
use Rattle.commands.proofs.migrate_all.renew_and_flush.Goals as goal

pub returns-in_err-count : goal.returns-in_err-count
returns-in_err-count g c =
    let fault = c.in_err-count.field-0.0 in
    let p = err_from_is_err_and c.from_residual.result c.from_residual.ensures.1 in
    let is : c.from_residual.result ≡ Err fault = p.1 ∙ ap Err p.2 in
    let P : Result ℕ DeviceFault → Type 0 = λ r. IsRenewedThenFlushed g.N.PageSource.view c.args.geometry.now c.args.device.now r c.renew_all.new.device in
    subst P (sym is) (none_flushed g.N.PageSource.view _ _ _ fault c.in_err-count.ensures)

pub returns-in_err-flush : goal.returns-in_err-flush
returns-in_err-flush g c =
    let fault = c.in_err-flush.field-0.0 in
    let its = c.in_err-flush.ensures in
    let p = err_from_is_err_and c.from_residual-in_err-flush.result c.from_residual-in_err-flush.ensures.1 in
    let is : c.from_residual-in_err-flush.result ≡ Err fault = p.1 ∙ ap Err p.2 in
    let P : Result ℕ DeviceFault → Type 0 = λ r. IsRenewedThenFlushed g.N.PageSource.view c.args.geometry.now c.args.device.now r c.flush.new.self in
    subst P (sym is) (flush_refused g.N.PageSource.view _ _ c.renew_all.new.device _ _ fault c.in_ok-count.ensures its.device its.geometry its.upkeeps)

pub returns : goal.returns
returns g c =
    let its = c.in_ok-flush.ensures in
    flush_done g.N.PageSource.view _ _ c.renew_all.new.device _ _ c.in_ok-count.ensures c.requires.roomy its.device its.geometry its.upkeeps its.renewed
