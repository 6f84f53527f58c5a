use Rattle.std.proofs.Common.{◌≡◌, ℕ, Result, Ok, Err, inr, refl, sym, ◌∙◌}
use Rattle.disk_commands.specs.declared.sizes.SizeWordFault.{SizeWordFault}
use Rattle.disk_commands.proofs.asked.share_from.Goals as goal

pub returns-in-Err : goal.returns-in-Err
returns-in-Err c =
    let none : c.size_from.result ≡ Err c.in-Err.field-0 = c.in-Err.is in
    inr (
      (λ bytes spelled. let clash : ◌≡◌ {A = Result ℕ SizeWordFault} (Err c.in-Err.field-0) (Ok bytes) = sym none ∙ c.size_from.ensures.all bytes spelled in absurd (cc)),
      refl,
    )
