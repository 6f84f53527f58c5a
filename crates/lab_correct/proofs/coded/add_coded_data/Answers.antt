use Rattle.std.proofs.Common.{◌≡◌, ◌+◌, ◌-◌, ◌*◌, ◌++◌, ◌∙◌, ap, arith}
use Rattle.std.specs.List.{flat_map, range_with_len}
use Rattle.lab_dump.proofs.FitLemmas.{adds_then, more_from}
use Rattle.lab_correct.specs.Coded.{coded_area_fits, coded_data_fits}
use Rattle.lab_correct.proofs.coded.add_coded_data.Goals as goal

pub loop-spare_bytes-preserved : goal.loop-spare_bytes-preserved
loop-spare_bytes-preserved g c =
    let inv = c.loop-spare_bytes.invariant in
    let spare = c.loop-spare_bytes.spare_bytes in
    record {
      raw_room = (let a = inv.raw_room in omega arith);
      room = (let a = inv.room in omega arith);
      same = c.add_coded_areas.ensures.same ∙ inv.same;
      added = λ all told size. more_from (coded_area_fits all c.args.data_bytes) c.args.fits.now.items 32 spare c.loop-spare_bytes.fits.items _ (omega (arith, c.loop-spare_bytes.auto.spare_bytes)) (inv.added all told size)
          (c.in_ok-add_coded_areas.ensures.added all (inv.same ∙ told) size);
      any = adds_then (7 * (spare - 32)) 7 (7 * (spare + 1 - 32)) _ _ _ inv.any c.in_ok-add_coded_areas.ensures.any (omega (arith, c.loop-spare_bytes.auto.spare_bytes));
      places = c.in_ok-add_coded_areas.ensures.places ∙ inv.places;
    }

pub returns-clause-added : goal.returns-clause-added
unfolding coded_data_fits
returns-clause-added g c = λ all told size.
    let last : c.loop-spare_bytes.spare_bytes - 32 ≡ 225 = omega (arith, c.loop-spare_bytes-test.false, c.loop-spare_bytes.auto.spare_bytes, c.loop-spare_bytes.auto.spare_bytes-end) in
    c.loop-spare_bytes.invariant.added all told size ∙ ap (λ n. c.args.fits.now.items ++ flat_map (coded_area_fits all c.args.data_bytes) (range_with_len 32 n)) last
