use Rattle.std.proofs.Common.{◌≡◌, ◌+◌, ◌-◌, ◌*◌, ◌++◌, ◌∙◌, ap, append-nil, refl, subst, sym, arith}
use Rattle.std.specs.List.{flat_map, range_with_len}
use Rattle.std.proofs.lemmas.Result.{err_from_is_err_and}
use Rattle.lab_dump.specs.Fits.{area_fits, data_fits, AddsFits}
use Rattle.lab_dump.proofs.FitLemmas.{adds_none, adds_then, more_from, places_left}
use Rattle.lab_dump.proofs.find.add_data.Goals as goal

pub loop-spare_bytes-preserved : goal.loop-spare_bytes-preserved
loop-spare_bytes-preserved g c =
    let inv = c.loop-spare_bytes.invariant in
    let spare = c.loop-spare_bytes.spare_bytes in
    record {
      room = (let a = inv.room in omega arith);
      same = c.add_areas.ensures.same ∙ inv.same;
      added = λ all told size. more_from (area_fits all c.args.data_bytes) c.args.fits.now.items 32 spare c.loop-spare_bytes.fits.items _ (omega (arith, c.loop-spare_bytes.auto.spare_bytes)) (inv.added all told size)
          (c.in_ok-add_areas.ensures.added all (inv.same ∙ told) size);
      any = adds_then (7 * (spare - 32)) 7 (7 * (spare + 1 - 32)) _ _ _ inv.any c.in_ok-add_areas.ensures.any (omega (arith, c.loop-spare_bytes.auto.spare_bytes));
      places = c.in_ok-add_areas.ensures.places ∙ inv.places;
    }

pub loop-spare_bytes-init : goal.loop-spare_bytes-init
loop-spare_bytes-init g c = record { room = c.requires.room; same = refl; added = λ all told size. sym (append-nil _); any = adds_none 0 _; places = refl }

pub add_areas-requires : goal.add_areas-requires
add_areas-requires g c =
    let inv = c.loop-spare_bytes.invariant in
    let spare = c.loop-spare_bytes.spare_bytes in
    let least = c.loop-spare_bytes.auto.spare_bytes in
    let below = c.loop-spare_bytes-test.true in
    record {
      data_size = c.requires.data_size;
      spare_size = record { least = omega (arith, least); most = omega (arith, below) };
      room = inv.room;
      place = places_left _ _ (7 * (spare - 32)) 1575 7 _ _ inv.any (omega (arith, least, below)) c.requires.place inv.places;
    }

pub returns-in_err-add_areas : goal.returns-in_err-add_areas
returns-in_err-add_areas g c =
    let p = err_from_is_err_and c.from_residual.result c.from_residual.ensures.1 in
    rw p.1 (record { added = tt; any = tt; places = tt; source = c.in_err-add_areas.ensures.source; same = c.add_areas.ensures.same ∙ c.loop-spare_bytes.invariant.same })

pub returns : goal.returns
unfolding data_fits
returns g c =
    let inv = c.loop-spare_bytes.invariant in
    let last : c.loop-spare_bytes.spare_bytes - 32 ≡ 225 = omega (arith, c.loop-spare_bytes-test.false, c.loop-spare_bytes.auto.spare_bytes, c.loop-spare_bytes.auto.spare_bytes-end) in
    record {
      added = λ all told size. inv.added all told size ∙ ap (λ n. c.args.fits.now.items ++ flat_map (area_fits all c.args.data_bytes) (range_with_len 32 n)) last;
      any = subst (λ n. AddsFits (7 * n) c.args.fits.now.items c.loop-spare_bytes.fits.items) last inv.any;
      places = inv.places;
      source = tt;
      same = inv.same;
    }
