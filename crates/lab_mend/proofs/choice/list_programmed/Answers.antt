use Rattle.std.proofs.Common.{◌∙◌, arith}
use Rattle.page_layout.specs.Geometry.{page_bytes}
use Rattle.lab_mend.proofs.TriedLemmas.{page_end, places_more, places_none}
use Rattle.lab_mend.proofs.choice.list_programmed.Goals as goal

pub loop-i-init : goal.loop-i-init
loop-i-init c = record { places = places_none c.args.geometry.now c.args.pages.now c.clear.new.self.items c.clear.ensures.items; room = c.clear.ensures.capacity }

pub loop-i-preserved : goal.loop-i-preserved
loop-i-preserved c =
    let inv = c.loop-i.invariant in
    record {
      places = places_more c.args.geometry.now c.args.pages.now c.loop-i.places.items c.list_place.new.places.items c.loop-i.i inv.places
          (omega (arith, page_end c.loop-i.i c.args.count (page_bytes c.args.geometry.now) (omega arith))) c.list_place.ensures.listed;
      room =
          c.list_place.ensures.room ∙ inv.room;
    }
