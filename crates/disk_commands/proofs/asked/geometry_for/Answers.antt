use Rattle.std.proofs.Common.{◌≡◌, ℕ, Result, Ok, Err, refl, sym, ap, ◌∙◌}
use Rattle.disk_commands.specs.declared.sizes.SizeWordFault.{SizeWordFault}
use Rattle.disk_commands.specs.declared.sizes.SizeWordFault.TheVariants as size
use Rattle.disk_commands.proofs.asked.geometry_for.Goals as goal

pub returns-in-Err-NoSize-clause-fault : goal.returns-in-Err-NoSize-clause-fault
returns-in-Err-NoSize-clause-fault c =
    let none : c.size_from.result ≡ Err size.NoSize = c.in-Err-NoSize.is ∙ ap Err c.in-Err-NoSize.field-0-is in (
      refl,
      (λ bytes spelled. let clash : ◌≡◌ {A = Result ℕ SizeWordFault} (Err size.NoSize) (Ok bytes) = sym none ∙ c.size_from.ensures.all bytes spelled in absurd (cc)),
      (λ part. let clash : ◌≡◌ {A = Result ℕ SizeWordFault} (Err size.NoSize) (Err size.PartOfByte) = sym none ∙ c.size_from.ensures.all_parts part in absurd (cc)),
    )
