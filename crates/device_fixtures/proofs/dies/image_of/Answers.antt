use Rattle.std.proofs.Common.{◌≡◌, ◌*◌, ◌+◌, ◌∙◌, length, rules, refl, ap, sym, subst, arith}
use Rattle.std.proofs.lemmas.Grind.{common_steps}
use Rattle.page_layout.specs.declared.geometry.Geometry.{Geometry}
use Rattle.page_layout.specs.Geometry.{row_count, page_bytes}
use Rattle.page_layout.specs.Flash.{Flash}
use Rattle.device_fixtures.proofs.dies.image_of.Goals as goal

pub image_into-requires : goal.image_into-requires
image_into-requires c =
    let sized : c.into_bus-die.result.state.flash.geometry ≡ c.args.geometry.now = ap (λ (f : Flash). f.geometry) (c.into_bus-die.ensures.flash refl) ∙ c.requires in
    let long : length c.deref_mut.result.now ≡ row_count c.args.geometry.now * page_bytes c.args.geometry.now = grind (arith, common_steps) in
    record { whole = subst (λ (g : Geometry). length c.deref_mut.result.now ≡ row_count g * page_bytes g) (sym sized) long }
