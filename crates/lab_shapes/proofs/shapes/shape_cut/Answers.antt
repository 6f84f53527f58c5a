use Rattle.std.proofs.Common.{◌≡◌, ℕ, ◌+◌, ◌-◌, ◌*◌, ◌/◌, ◌%◌, ◌<◌, ◌≤◌, Some, sym, ap, ◌∙◌, subst, arith}
use Rattle.std.proofs.lemmas.Nat.{mul-le}
use Rattle.std.specs.Prelude.{IsOk}
use Rattle.page_layout.specs.Faults.{HasNumbers}
use Rattle.page_layout.specs.Limits.{IsWithinLimits}
use Rattle.lab_arrange.specs.declared.arrangement.Arrangement.{Arrangement}
use Rattle.lab_shapes.specs.Better.{IsShapeIn, IsArrangedShapeOf}
use Rattle.lab_shapes.specs.declared.tried.Way.TheVariants.{Cut}
use Rattle.lab_shapes.proofs.ShapeLemmas.{cut_many, cut_none, cut_shape, cut_whole, made_of, some_bytes}
use Rattle.lab_shapes.proofs.shapes.shape_cut.Goals as goal
use Rattle.lab_shapes.proofs.shapes.shape_cut.Goals.{then-there-eq0-via-then-there-eq0, then-there-eq0-via-else-there-eq0+then-whole-ge-MOST_BLOCKS}

pub returns-then-there-eq0 : goal.returns-then-there-eq0
returns-then-there-eq0 c =
    let size = c.args.size in
    let d = c.args.data_bytes in
    let s = c.args.spare_bytes in
    let p = c.args.pages in
    let block : c.from-block_bytes.result ≡ p * (d + s) = c.from-block_bytes.ensures in
    elim c.then-there-eq0.branch [
      | then-there-eq0-via-then-there-eq0 w ↦ cut_whole size d s p (ap (λ n. size % n) (sym block) ∙ w.if-there-eq0.true)
      | then-there-eq0-via-else-there-eq0+then-whole-ge-MOST_BLOCKS w ↦ cut_many size d s p (subst (λ n. 4096 ≤ size / n) block w.if-whole-ge-MOST_BLOCKS.true)
    ]

pub returns-in_err-geometry : goal.returns-in_err-geometry
returns-in_err-geometry c =
    let size = c.args.size in
    let d = c.args.data_bytes in
    let s = c.args.spare_bytes in
    let p = c.args.pages in
    let block : c.from-block_bytes.result ≡ p * (d + s) = c.from-block_bytes.ensures in
    subst (IsShapeIn size Cut d s p) (sym c.from_residual.ensures)
    (cut_none c.new.result size d s p (subst (λ n. IsWithinLimits d s p (size / n + 1) 1 → IsOk c.new.result) block c.new.ensures.accepted.1) (sym c.ok.ensures.value ∙ c.in_err-geometry.was))

pub returns : goal.returns
returns c =
    let size = c.args.size in
    let d = c.args.data_bytes in
    let s = c.args.spare_bytes in
    let p = c.args.pages in
    let geo = c.in_ok-geometry.geometry in
    let block : c.from-block_bytes.result ≡ p * (d + s) = c.from-block_bytes.ensures in
    let made : HasNumbers d s p (size / c.from-block_bytes.result + 1) 1 geo = made_of c.new.result geo (HasNumbers d s p (size / c.from-block_bytes.result + 1) 1) (sym c.ok.ensures.value ∙ c.in_ok-geometry.was) c.new.ensures.ok in
    let there : 0 < size % (p * (d + s)) = subst (λ n. 0 < size % n) block (omega (arith, c.if-there-eq0.false)) in
    let some = some_bytes p (d + s) (let l = c.requires.page_count.least in omega arith) (let l = c.requires.data_size.least in omega arith) in
    let most : p * (d + s) ≤ 1114112 = mul-le p (d + s) 256 4352 c.requires.page_count.most (let l = c.requires.data_size.most in let k = c.requires.spare_size.most in omega arith) in
    let cut : ℕ = c.from-block_bytes.result - size % c.from-block_bytes.result in
    subst (λ (o : Arrangement). IsArrangedShapeOf size Cut d s p geo (record { header = o.header; tail = o.tail; cut = Some cut; spares = o.spares; spare_first = o.spare_first; swapped = o.swapped; inverted = o.inverted; planes = o.planes })) (sym c.in_order.ensures)
    (cut_shape size d s p geo cut there some most (subst (λ n. HasNumbers d s p (size / n + 1) 1 geo) block made) (ap (λ n. n - size % n) block))
