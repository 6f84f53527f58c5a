use Rattle.std.proofs.Common.{◌∙◌, inl, refl, sym}
use Rattle.collection.specs.Safe.{ram, image_in}
use Rattle.collection.proofs.Lowest.{same_here}
use Rattle.ftl_device.proofs.ReadyLemmas.{least_page, place_made}
use Rattle.ftl_device.proofs.CostLemmas.{place_there, place_taken}
use Rattle.ftl_device.proofs.SpentLemmas.{place_free, place_costs}
use Rattle.ftl_device.proofs.LeaveLemmas.{leaves_by, leaves_same, back_told}
use Rattle.ftl_device.proofs.PinLemmas.{beside_here, beside_back}
use Rattle.ftl_device.proofs.ReadLemmas.{wrote_back}
use Rattle.ftl_device.proofs.AnswerLemmas.{no_bool, no_some, no_more_here, back_same}
use Rattle.ftl_device.proofs.ready.make_place.Goals as goal

pub write_back-requires-clause-page : goal.write_back-requires-clause-page
write_back-requires-clause-page g c = least_page (ram c.args.engine.now) c.in-Some.least c.entries.result _ c.requires.safe.memory (sym c.least_recent.ensures ∙ c.in-Some.is) c.entries.ensures

pub returns-in-Some-clause-place : goal.returns-in-Some-clause-place
returns-in-Some-clause-place g c = place_made c.write_back.result (ram c.args.engine.now) (ram c.write_back.new.self) c.args.sector c.in-Some.least
    c.entries.result _ c.requires.safe.memory c.write_back.ensures.stands.safe.memory (sym c.least_recent.ensures ∙ c.in-Some.is) c.entries.ensures
    c.write_back.ensures.keys c.write_back.ensures.cleans

pub returns-then-can_load-clause-cost : goal.returns-then-can_load-clause-cost
returns-then-can_load-clause-cost g c = place_there c.args.sector (ram c.args.engine.now) (c.can_load.ensures.0 c.if-can_load.true)

pub returns-in-Some-clause-cost : goal.returns-in-Some-clause-cost
returns-in-Some-clause-cost g c = place_taken c.write_back.result c.args.sector (ram c.args.engine.now) (ram c.write_back.new.self) (λ can. no_bool _ c.if-can_load.false (c.can_load.ensures.1 can)) c.write_back.ensures.goes.geometry (c.write_back.ensures.cost c.requires.going)

pub returns-then-can_load-clause-costs : goal.returns-then-can_load-clause-costs
returns-then-can_load-clause-costs g c = place_free (ram c.args.engine.now)

pub returns-in-Some-clause-costs : goal.returns-in-Some-clause-costs
returns-in-Some-clause-costs g c = place_costs c.write_back.result (ram c.args.engine.now) (ram c.write_back.new.self) (c.write_back.ensures.cost c.requires.going)

pub returns-in-None-clause-costs : goal.returns-in-None-clause-costs
returns-in-None-clause-costs g c = place_free (ram c.args.engine.now)

pub returns-then-can_load-clause-leaves : goal.returns-then-can_load-clause-leaves
returns-then-can_load-clause-leaves g c = leaves_same g.N.PageSource.view c.args.engine.now c.requires.safe c.requires.going

pub returns-in-None-clause-leaves : goal.returns-in-None-clause-leaves
returns-in-None-clause-leaves g c = leaves_same g.N.PageSource.view c.args.engine.now c.requires.safe c.requires.going

pub returns-in-Some-clause-leaves : goal.returns-in-Some-clause-leaves
returns-in-Some-clause-leaves g c = leaves_by g.N.PageSource.view c.args.engine.now c.write_back.new.self c.write_back.result c.requires.going c.write_back.ensures.stands
    c.write_back.ensures.goes.geometry
    (back_told c.write_back.result (ram c.args.engine.now) (ram c.write_back.new.self) (c.write_back.ensures.cost c.requires.going))
    (λ honest k ne. c.write_back.ensures.stops honest c.requires.going k.truth ne)
    (λ honest k bus. c.write_back.ensures.cut honest c.requires.going k.truth bus)

pub returns-then-can_load-clause-beside : goal.returns-then-can_load-clause-beside
returns-then-can_load-clause-beside g c = beside_here (ram c.args.engine.now)

pub returns-in-None-clause-beside : goal.returns-in-None-clause-beside
returns-in-None-clause-beside g c = beside_here (ram c.args.engine.now)

pub returns-in-Some-clause-beside : goal.returns-in-Some-clause-beside
returns-in-Some-clause-beside g c = beside_back c.write_back.result (ram c.args.engine.now) (ram c.write_back.new.self) _ c.write_back.ensures.pin c.write_back.ensures.goes c.write_back.ensures.cleaned c.write_back.ensures.mapping

pub returns-then-can_load-clause-mapping : goal.returns-then-can_load-clause-mapping
returns-then-can_load-clause-mapping g c = inl refl

pub returns-in-None-clause-mapping : goal.returns-in-None-clause-mapping
returns-in-None-clause-mapping g c = inl refl

pub returns-in-Some-clause-mapping : goal.returns-in-Some-clause-mapping
returns-in-Some-clause-mapping g c = wrote_back c.write_back.result c.args.engine.now.mapping c.write_back.new.self.mapping _ c.write_back.ensures.cleaned

-- ---- there is one

pub returns-then-can_load-clause-place : goal.returns-then-can_load-clause-place
returns-then-can_load-clause-place g c = c.can_load.ensures.0 c.if-can_load.true

pub returns-then-can_load-clause-keys : goal.returns-then-can_load-clause-keys
returns-then-can_load-clause-keys g c = refl

pub returns-then-can_load-clause-no_more : goal.returns-then-can_load-clause-no_more
returns-then-can_load-clause-no_more g c = no_more_here c.args.engine.now.mapping

pub returns-then-can_load-clause-truth : goal.returns-then-can_load-clause-truth
returns-then-can_load-clause-truth g c = λ honest truth. same_here (ram c.args.engine.now) (image_in g.N.PageSource.view.flash c.args.engine.now) truth

-- ---- no sector is cached

pub returns-in-None-clause-place : goal.returns-in-None-clause-place
returns-in-None-clause-place g c = λ uncached full e is. absurd (no_some _ e (sym c.least_recent.ensures ∙ c.in-None.is) is)

pub returns-in-None-clause-cost : goal.returns-in-None-clause-cost
returns-in-None-clause-cost g c = place_there c.args.sector (ram c.args.engine.now) (λ uncached full e is. absurd (no_some _ e (sym c.least_recent.ensures ∙ c.in-None.is) is))

pub returns-in-None-clause-keys : goal.returns-in-None-clause-keys
returns-in-None-clause-keys g c = refl

pub returns-in-None-clause-no_more : goal.returns-in-None-clause-no_more
returns-in-None-clause-no_more g c = no_more_here c.args.engine.now.mapping

pub returns-in-None-clause-truth : goal.returns-in-None-clause-truth
returns-in-None-clause-truth g c = λ honest truth. same_here (ram c.args.engine.now) (image_in g.N.PageSource.view.flash c.args.engine.now) truth

-- ---- a translation page was written back

pub returns-in-Some-clause-keys : goal.returns-in-Some-clause-keys
returns-in-Some-clause-keys g c = c.write_back.ensures.keys

pub returns-in-Some-clause-no_more : goal.returns-in-Some-clause-no_more
returns-in-Some-clause-no_more g c = c.write_back.ensures.no_more

pub returns-in-Some-clause-truth : goal.returns-in-Some-clause-truth
returns-in-Some-clause-truth g c = λ honest truth. back_same c.write_back.result _
    (ram c.args.engine.now) (image_in g.N.PageSource.view.flash c.args.engine.now) (ram c.write_back.new.self) (image_in g.N.PageSource.view.flash c.write_back.new.self) (c.write_back.ensures.truth honest c.requires.going truth)

-- ---- what the calls want

pub write_back-requires-clause-safe : goal.write_back-requires-clause-safe
write_back-requires-clause-safe g c = c.requires.safe
