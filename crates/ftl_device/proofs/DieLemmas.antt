-- What stays of a die, one call after another.
use Rattle.std.proofs.Common.{◌∙◌, Result, refl, arith}
use Rattle.page_layout.specs.View.{View}
use Rattle.page_layout.specs.DieCalls.{AskedNothing}
use Rattle.page_layout.proofs.AskedLemmas.{asks_then}
use Rattle.collection.specs.declared.engine.Engine.{Engine}
use Rattle.collection.specs.declared.fault.EngineFault.{EngineFault}
use Rattle.collection.specs.Acts.{Stands}
use Rattle.ftl_device.specs.Changes.{StaysDie}

pub die_same : {N : Type 0} (view : View N) (d : N) → StaysDie view d d
die_same view d = record { honest_is = refl; calm_is = refl; asked = AskedNothing; failed_is = omega arith }

pub die_then : {N : Type 0} (view : View N) (a b c : N) → StaysDie view a b → StaysDie view b c → StaysDie view a c
die_then view a b c x y = record {
  honest_is = y.honest_is ∙ x.honest_is;
  calm_is = y.calm_is ∙ x.calm_is;
  asked = asks_then view.called a b c x.asked y.asked;
  failed_is = omega (arith, x.failed_is, y.failed_is);
}

pub die_of : {A N : Type 0} (view : View N) (old new : Engine N) (result : Result A EngineFault) → Stands view old new result → StaysDie view old.nand new.nand
die_of view old new result s = record { honest_is = s.honest_is; calm_is = s.calm_is; asked = s.asked; failed_is = s.failed_is }
