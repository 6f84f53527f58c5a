use Rattle.std.proofs.Common.{◌≡◌, sym, ◌∙◌, ap, arith, ◌+◌, ◌-◌, ◌*◌, min, ◌++◌, drop, length}
use Rattle.std.proofs.lemmas.List.{length-append, length-drop, length-take}
use Rattle.std.proofs.lemmas.Result.{err_from_is_err_and}
use Rattle.lab_dump.specs.Nearest.{nearest_below}
use Rattle.lab_dump.proofs.NearestLemmas.{settled_nearest}
use Rattle.lab_dump.proofs.nearest.find_nearest.Goals as goal

pub loop-stride-init : goal.loop-stride-init
unfolding nearest_below
loop-stride-init g c = record { room = c.requires; same = c.size.ensures.same; nearest = λ all told. (let e : min 0 c.in_ok-size.size ≡ 0 = omega arith in ap (nearest_below all) (sym e)) }

pub loop-stride-preserved : goal.loop-stride-preserved
loop-stride-preserved g c =
    let inv = c.loop-stride.invariant in
    let n = c.loop-stride.stride in
    let size = c.in_ok-size.size in
    record {
      room =
          let new = c.look_on.new.bytes in
          let old = c.loop-stride.room.bytes.items in
          omega (arith, inv.room, c.look_on.ensures.room, c.deref_mut.ensures.len, length-take c.loop-stride.room.bytes.len (new ++ drop (length new) old), length-append new (drop (length new) old), length-drop (length new) old);
      same = c.look_on.ensures.same ∙ inv.same;
      nearest = λ all told.
          let first : min (n * 65536) size ≡ n * 65536 = omega (arith, c.div_ceil-stride-end.ensures, c.loop-stride-test.true) in
          let next : n * 65536 + min (size - n * 65536) 65536 ≡ min ((n + 1) * 65536) size = omega (arith, first) in
          c.in_ok-nearest.ensures.nearest all (inv.same ∙ told) (c.in_ok-size.ensures.size all told) (inv.nearest all told ∙ ap (nearest_below all) first) ∙ ap (nearest_below all) next;
    }

pub returns-then-is_settled : goal.returns-then-is_settled
returns-then-is_settled g c = record {
  nearest = λ all told.
      let inv = c.loop-stride.invariant in
      let n = c.loop-stride.stride in
      let size = c.in_ok-size.size in
      let whole = c.in_ok-size.ensures.size all told in
      let first : min (n * 65536) size ≡ n * 65536 = omega (arith, c.div_ceil-stride-end.ensures, c.loop-stride-test.true) in
      settled_nearest all (n * 65536 + min (size - n * 65536) 65536) c.in_ok-nearest.nearest (omega (arith, first, whole))
      (c.in_ok-nearest.ensures.nearest all (inv.same ∙ told) whole (inv.nearest all told ∙ ap (nearest_below all) first)) (sym c.is_settled.ensures ∙ c.if-is_settled.true);
  source = tt;
  same = c.look_on.ensures.same ∙ c.loop-stride.invariant.same;
}

pub returns : goal.returns
returns g c = record {
  nearest = λ all told.
      let n = c.loop-stride.stride in
      let size = c.in_ok-size.size in
      let last : min (n * 65536) size ≡ length all = omega (arith, c.div_ceil-stride-end.ensures, c.loop-stride-test.false, c.in_ok-size.ensures.size all told) in
      c.loop-stride.invariant.nearest all told ∙ ap (nearest_below all) last;
  source = tt;
  same = c.loop-stride.invariant.same;
}

pub returns-in_err-size : goal.returns-in_err-size
returns-in_err-size g c =
    let p = err_from_is_err_and c.from_residual.result c.from_residual.ensures.1 in
    rw p.1 (record { nearest = tt; source = c.in_err-size.ensures.failed; same = c.size.ensures.same })

pub returns-in_err-nearest : goal.returns-in_err-nearest
returns-in_err-nearest g c =
    let p = err_from_is_err_and c.from_residual-in_err-nearest.result c.from_residual-in_err-nearest.ensures.1 in
    rw p.1 (record { nearest = tt; source = c.in_err-nearest.ensures.source; same = c.look_on.ensures.same ∙ c.loop-stride.invariant.same })
