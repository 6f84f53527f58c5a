use Rattle.std.proofs.Common.{◌≡◌, ◌+◌, ◌*◌, ◌++◌, ◌∙◌, ap, append-nil, take, get_or, refl, subst, sym, arith}
use Rattle.std.specs.List.{flat_map}
use Rattle.std.proofs.lemmas.Result.{err_from_is_err_and}
use Rattle.lab_dump.specs.Shape.{data_sizes}
use Rattle.lab_dump.specs.Fits.{data_fits, fits_of, AddsFits}
use Rattle.lab_dump.proofs.FitLemmas.{adds_none, adds_then, more_at}
use Rattle.lab_dump.proofs.find.add_all.Goals as goal

pub loop-data_bytes-preserved : goal.loop-data_bytes-preserved
unfolding data_sizes
loop-data_bytes-preserved g c =
    let inv = c.loop-data_bytes.invariant in
    let i = c.loop-data_bytes.data_bytes-index in
    record {
      sizes = inv.sizes;
      items = inv.items;
      room = (let a = inv.room in omega arith);
      same = c.add_data.ensures.same ∙ inv.same;
      added = λ all told size. more_at (data_fits all) c.args.fits.now.items data_sizes i 0 (get_or c.data_sizes-data_bytes-items.result i 0)
          c.loop-data_bytes.fits.items _ c.loop-data_bytes-test.true (ap (λ l. get_or l i 0) inv.items) (inv.added all told size)
          (c.in_ok-add_data.ensures.added all (inv.same ∙ told) size);
      any = adds_then (1575 * i) 1575 (1575 * (i + 1)) _ _ _ inv.any c.in_ok-add_data.ensures.any (omega arith);
      places = c.in_ok-add_data.ensures.places ∙ inv.places;
    }

pub loop-data_bytes-init : goal.loop-data_bytes-init
loop-data_bytes-init g c = record {
  sizes = c.data_sizes-data_bytes-items.ensures.sizes;
  items = c.data_sizes-data_bytes-items.ensures.is;
  room = c.requires.room;
  same = refl;
  added = λ all told size. sym (append-nil _);
  any = adds_none 0 _;
  places = refl;
}

pub returns-in_err-add_data : goal.returns-in_err-add_data
returns-in_err-add_data g c =
    let p = err_from_is_err_and c.from_residual.result c.from_residual.ensures.1 in
    rw p.1 (record { added = tt; any = tt; source = c.in_err-add_data.ensures.source; same = c.add_data.ensures.same ∙ c.loop-data_bytes.invariant.same })

pub returns : goal.returns
unfolding fits_of data_sizes
returns g c =
    let inv = c.loop-data_bytes.invariant in
    let last : c.loop-data_bytes.data_bytes-index ≡ 7 = omega (arith, c.loop-data_bytes-test.false, c.loop-data_bytes.auto.data_bytes-index-end) in
    record {
      added = λ all told size. inv.added all told size ∙ ap (λ l. c.args.fits.now.items ++ flat_map (data_fits all) l) (ap (λ n. take n data_sizes) last);
      any = subst (λ n. AddsFits (1575 * n) c.args.fits.now.items c.loop-data_bytes.fits.items) last inv.any;
      source = tt;
      same = inv.same;
    }
