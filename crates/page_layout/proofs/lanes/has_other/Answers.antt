use Rattle.std.proofs.Common.{ap, ◌∙◌, eqb, not, w8, arith}
use Rattle.std.proofs.lemmas.Simd.{bitmask_splat, length-chunk}
use Rattle.std.specs.Simd.Lanes.{chunk}
use Rattle.page_layout.proofs.LaneLemmas.{some_set}
use Rattle.page_layout.proofs.lanes.has_other.Goals as goal

pub returns : goal.returns
returns c =
    let lanes = chunk c.args.at 32 c.args.bytes.now in
    let long = length-chunk c.args.at 32 c.args.bytes.now c.requires in
    ap (λ m. not (eqb m 0)) (bitmask_splat w8 (λ a b. not (eqb a b)) lanes 32 c.args.byte long (omega arith)) ∙ some_set (λ b. not (eqb b c.args.byte)) lanes
