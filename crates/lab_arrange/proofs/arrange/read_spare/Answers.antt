use Rattle.std.proofs.Common.{◌≡◌, ◌<◌, ◌∙◌, ℕ, ap, arith}
use Rattle.page_layout.specs.Geometry.{page_bytes}
use Rattle.lab_dump.proofs.ScanLemmas.{ok_map}
use Rattle.lab_arrange.specs.Place.{header_length}
use Rattle.lab_arrange.specs.Reading.{area_from}
use Rattle.lab_arrange.proofs.PlaceLemmas.{body_lt, few_bytes}
use Rattle.lab_arrange.proofs.ReadLemmas.{spare_is}
use Rattle.lab_arrange.proofs.arrange.read_spare.Goals as goal

pub read_area-requires-clause-place : goal.read_area-requires-clause-place
read_area-requires-clause-place g c =
    let geo = c.args.geometry.now in
    let some : geo.data_bytes < page_bytes geo = (let l = geo.limits.spare_size.least in omega arith) in
    let lt = body_lt geo c.args.arrangement.now c.args.row geo.data_bytes c.requires.fits c.requires.row some in
    let few = few_bytes geo in
    omega (arith, lt, few, c.page_starts-start.ensures.spare)

pub returns-clause-read : goal.returns-clause-read
returns-clause-read g c =
    let geo = c.args.geometry.now in
    let a = c.args.arrangement.now in
    let start = c.page_starts-start.result.spare in
    ok_map _ _ c.read_area.result
    (λ read all told size.
    spare_is geo a all c.args.row start c.read_area.new.area c.page_starts-start.ensures.spare
    (read all told size ∙ ap (λ (n : ℕ). area_from (header_length a) a.swapped a.inverted all start n) c.requires.spare_room))
    c.read_area.ensures.read
