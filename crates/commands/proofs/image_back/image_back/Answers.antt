use Rattle.std.proofs.Common.{◌≡◌, true, arith, refl, subst, sym}
use Rattle.page_layout.specs.Flash.{Flash}
use Rattle.page_layout.specs.Raw.{raw_bytes, raw_image}
use Rattle.commands.specs.Check.{HasImageLength}
use Rattle.commands.specs.Steady.{has_spared}
use Rattle.commands.proofs.PassedLemmas.{steady_spared}
use Rattle.commands.proofs.image_back.image_back.Goals as goal

pub image_into-requires : goal.image_into-requires
image_into-requires c = record { whole = subst (λ (f : Flash). HasImageLength f.geometry c.args.image.now) (sym (c.into_bus.ensures.flash refl)) c.requires.whole }

pub returns : goal.returns
returns c =
    let same = c.into_bus.ensures.flash refl in
    let few = c.into_bus.ensures.counted refl in
    let after = c.image_into.new.out in
    record {
      none = omega (arith, few);
      spared = subst (λ (f : Flash). has_spared f ≡ true) same (steady_spared c.into_bus.result.die c.into_bus.result.steady);
      pages = subst (λ (f : Flash). raw_image f.geometry after ≡ f.image) same c.image_into.ensures.pages;
      bytes = subst (λ (f : Flash). after ≡ raw_bytes f.image) same c.image_into.ensures.bytes;
    }
