use Rattle.std.proofs.Common.{◌≡◌, ◌-◌, ◌∙◌, ℕ, Global, Vec, [], arith, ap, min, rules, sym}
use Rattle.std.specs.Prelude.{filter}
use Rattle.std.specs.List.{range_with_len}
use Rattle.certificate.specs.Claim.{Sizes}
use Rattle.image_check.proofs.StaleLemmas.{noted_more, noted_same}
use Rattle.ftl_device.specs.Begin.{is_bad_in}
use Rattle.commands.proofs.serve.bad_blocks.Goals.{then-is_bad+in_ok-push, else-is_bad}
use Rattle.commands.proofs.serve.bad_blocks.Goals as goal

pub loop-block-preserved : goal.loop-block-preserved
loop-block-preserved c =
    let p = is_bad_in c.args.certificate.now in
    let block = c.loop-block.block in
    let before = c.loop-block.bad.items in
    elim c.if-is_bad.branch [
      | then-is_bad+in_ok-push w ↦ ap (λ (bad : Vec ℕ Global). bad.items) w.bad-is
          ∙ noted_more p 0 block [] before w.push.new.self.items (omega arith) c.loop-block.invariant (search rules) (sym c.is_bad.ensures ∙ w.if-is_bad.true)
      | else-is_bad w ↦ ap (λ (bad : Vec ℕ Global). bad.items) w.bad-is
          ∙ noted_same p 0 block [] before (omega arith) c.loop-block.invariant (sym c.is_bad.ensures ∙ w.if-is_bad.false)
    ]

pub returns : goal.returns
returns c =
    let claim = c.args.certificate.now in
    let size : c.geometry.result.blocks ≡ claim.sizes.blocks = ap (λ (s : Sizes). s.blocks) c.geometry.ensures.is in
    let all : c.loop-block.block - 0 ≡ c.min-block-end.result = omega (arith, c.loop-block-test.false, c.loop-block.auto.block-end) in
    let count : c.loop-block.block - 0 ≡ min c.args.blocks claim.sizes.blocks = all ∙ (c.min-block-end.ensures ∙ ap (min c.args.blocks) (c.blocks-2.ensures ∙ size)) in
    c.loop-block.invariant ∙ ap (λ n. filter (is_bad_in claim) (range_with_len 0 n)) count
