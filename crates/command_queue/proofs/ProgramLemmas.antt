-- What is programmed is told.
use Rattle.std.proofs.Common.{◌≡◌, ℕ, Result, Ok, subst}
use Rattle.page_layout.specs.View.{View}
use Rattle.promises.specs.Step as step
use Rattle.ftl_device.specs.declared.device.Device.{Device}
use Rattle.ftl_device.specs.declared.fault.DeviceFault.{DeviceFault}
use Rattle.command_queue.specs.Exchanges.{Exchange}
use Rattle.command_queue.specs.Tells.{Tells, Programs, ToldProgramsLaw}

module _ {N : Type 0} (view : View N) where
  told_by : (command : step.Command) (old new : Device N) (x : Exchange) → Tells view old x new → x.result ≡ Ok tt → x.command ≡ command → Programs view command old (Ok tt) new
  told_by command old new x tells done is =
      let P : step.Command → Type 0 = λ k. Programs view k old x.result new in
      let Q : Result (Unit {0}) DeviceFault → Type 0 = λ r. Programs view command old r new in
      subst Q done (subst P is tells.programs)

  pub told_programs : ToldProgramsLaw view
  told_programs old new x tells done = (
    (λ is. told_by step.Flush old new x tells done is),
    (λ n bytes is. told_by (step.Write n bytes) old new x tells done is),
    (λ n is. told_by (step.Trim n) old new x tells done is),
  )
