use Rattle.std.proofs.Common.{◌≡◌, sym, ◌∙◌, ap, arith, ◌+◌}
use Rattle.lab_dump.specs.Nearest.{nearest_below}
use Rattle.lab_dump.proofs.NearestLemmas.{look_more, pass_more}
use Rattle.lab_dump.proofs.nearest.look_through.Goals.{then-names_version, else-names_version}
use Rattle.lab_dump.proofs.nearest.look_through.Goals as goal

pub loop-place-init : goal.loop-place-init
loop-place-init c = record { nearest = λ all h is. (let e : c.args.first + 0 ≡ c.args.first = omega arith in is ∙ ap (nearest_below all) (sym e)) }

pub loop-place-preserved : goal.loop-place-preserved
loop-place-preserved c = record {
  nearest = λ all h is.
      let before = c.loop-place.invariant.nearest all h is in
      elim c.if-names_version.branch [
        | then-names_version w ↦ w.nearest-is ∙ look_more all c.args.first c.args.places c.loop-place.place c.args.bytes.now c.loop-place.nearest _ h c.loop-place-test.true c.requires.within before w.look-nearest.ensures
        | else-names_version w ↦ w.nearest-is ∙ pass_more all c.args.first c.args.places c.loop-place.place c.args.bytes.now c.loop-place.nearest h c.loop-place-test.true c.requires.within before (c.names_version.ensures w.if-names_version.false)
      ];
}

pub returns : goal.returns
returns c = λ all h is.
    let last : c.loop-place.place ≡ c.args.places = omega (arith, c.loop-place-test.false, c.loop-place.auto.place-end) in
    c.loop-place.invariant.nearest all h is ∙ ap (λ n. nearest_below all (c.args.first + n)) last
