use Rattle.std.proofs.Common.{◌≡◌, ◌+◌, ◌*◌, ◌++◌, ◌∙◌, ap, take, get_or, arith}
use Rattle.std.specs.List.{flat_map}
use Rattle.lab_dump.specs.Shape.{data_sizes}
use Rattle.lab_dump.proofs.FitLemmas.{adds_then, more_at}
use Rattle.lab_correct.specs.Coded.{coded_data_fits, coded_fits}
use Rattle.lab_correct.proofs.coded.add_coded.Goals as goal

pub loop-data_bytes-preserved : goal.loop-data_bytes-preserved
unfolding data_sizes
loop-data_bytes-preserved g c =
    let inv = c.loop-data_bytes.invariant in
    let i = c.loop-data_bytes.data_bytes-index in
    record {
      sizes = inv.sizes;
      items = inv.items;
      raw_room = (let a = inv.raw_room in omega arith);
      room = (let a = inv.room in omega arith);
      same = c.add_coded_data.ensures.same ∙ inv.same;
      added = λ all told size. more_at (coded_data_fits all) c.args.fits.now.items data_sizes i 0 (get_or c.data_sizes-data_bytes-items.result i 0)
          c.loop-data_bytes.fits.items _ c.loop-data_bytes-test.true (ap (λ l. get_or l i 0) inv.items) (inv.added all told size)
          (c.in_ok-add_coded_data.ensures.added all (inv.same ∙ told) size);
      any = adds_then (1575 * i) 1575 (1575 * (i + 1)) _ _ _ inv.any c.in_ok-add_coded_data.ensures.any (omega arith);
      places = c.in_ok-add_coded_data.ensures.places ∙ inv.places;
    }

pub returns-clause-added : goal.returns-clause-added
unfolding coded_fits data_sizes
returns-clause-added g c = λ all told size.
    let last : c.loop-data_bytes.data_bytes-index ≡ 7 = omega (arith, c.loop-data_bytes-test.false, c.loop-data_bytes.auto.data_bytes-index-end) in
    c.loop-data_bytes.invariant.added all told size ∙ ap (λ l. c.args.fits.now.items ++ flat_map (coded_data_fits all) l) (ap (λ n. take n data_sizes) last)
