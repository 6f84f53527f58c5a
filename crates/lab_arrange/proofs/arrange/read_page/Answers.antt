use Rattle.std.proofs.Common.{◌≡◌, ◌<◌, ◌∙◌, ℕ, ap, arith, length}
use Rattle.page_layout.specs.Geometry.{page_bytes}
use Rattle.lab_dump.proofs.ScanLemmas.{ok_map}
use Rattle.lab_arrange.specs.Place.{header_length}
use Rattle.lab_arrange.specs.Reading.{area_from}
use Rattle.lab_arrange.proofs.PlaceLemmas.{body_lt, few_bytes}
use Rattle.lab_arrange.proofs.ReadLemmas.{page_is}
use Rattle.lab_arrange.proofs.arrange.read_page.Goals as goal

pub read_area-requires-clause-place : goal.read_area-requires-clause-place
read_area-requires-clause-place g c =
    let geo = c.args.geometry.now in
    let some : 0 < page_bytes geo = (let l = geo.limits.data_size.least in omega arith) in
    let lt = body_lt geo c.args.arrangement.now c.args.row 0 c.requires.fits c.requires.row some in
    let few = few_bytes geo in
    omega (arith, lt, few, c.page_starts-starts.ensures.body)

pub read_area-requires-2-clause-place : goal.read_area-requires-2-clause-place
read_area-requires-2-clause-place g c =
    let geo = c.args.geometry.now in
    let some : geo.data_bytes < page_bytes geo = (let l = geo.limits.spare_size.least in omega arith) in
    let lt = body_lt geo c.args.arrangement.now c.args.row geo.data_bytes c.requires.fits c.requires.row some in
    let few = few_bytes geo in
    omega (arith, lt, few, c.page_starts-starts.ensures.spare)

pub returns-clause-read : goal.returns-clause-read
returns-clause-read g c =
    let geo = c.args.geometry.now in
    let a = c.args.arrangement.now in
    let starts = c.page_starts-starts.result in
    let front : length c.split_at_mut-body.result.0.now ≡ geo.data_bytes = omega (arith, c.split_at_mut-body.ensures.front_len, c.data_bytes.ensures) in
    let back : length c.split_at_mut-body.result.1.now ≡ geo.spare_bytes = omega (arith, c.split_at_mut-body.ensures.back_len, c.data_bytes.ensures, c.requires.page_room) in
    ok_map _ _ c.read_area-2.result
    (λ read all told size.
    page_is geo a all c.args.row starts.body starts.spare c.read_area.new.area c.read_area-2.new.area c.page_starts-starts.ensures.body c.page_starts-starts.ensures.spare
    (c.in_ok-read_area.ensures.read all told size ∙ ap (λ (n : ℕ). area_from (header_length a) a.swapped a.inverted all starts.body n) front)
    (read all (c.read_area.ensures.same ∙ told) size ∙ ap (λ (n : ℕ). area_from (header_length a) a.swapped a.inverted all starts.spare n) back))
    c.read_area-2.ensures.read
