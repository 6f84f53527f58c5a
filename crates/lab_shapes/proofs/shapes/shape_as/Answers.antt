use Rattle.std.proofs.Common.{◌+◌, ◌/◌, ◌%◌, ◌∙◌, sym, ap, subst, arith}
use Rattle.lab_shapes.specs.Better.{IsShapeAs}
use Rattle.lab_shapes.proofs.ShapeLemmas.{shape_result, whole_of}
use Rattle.lab_shapes.proofs.shapes.shape_as.Goals as goal

pub returns-then-bytes-page_bytes-ne0 : goal.returns-then-bytes-page_bytes-ne0
returns-then-bytes-page_bytes-ne0 c = λ g de se pe whole.
    c.if-bytes-page_bytes-ne0.true (ap (λ n. c.args.bytes % n) c.from-page_bytes.ensures ∙ (whole_of g c.args.bytes c.args.data_bytes c.args.spare_bytes c.args.pages de se pe whole).pages)

pub returns-then-rows-from-ne0 : goal.returns-then-rows-from-ne0
returns-then-rows-from-ne0 c = λ g de se pe whole.
    let bytes = c.args.bytes in
    c.if-rows-from-ne0.true (ap (λ n. bytes / n % c.from-2.result) c.from-page_bytes.ensures ∙ (ap (λ n. bytes / (c.args.data_bytes + c.args.spare_bytes) % n) c.from-2.ensures
    ∙ (whole_of g bytes c.args.data_bytes c.args.spare_bytes c.args.pages de se pe whole).blocks))

pub returns-then-blocks-gt-MOST_BLOCKS : goal.returns-then-blocks-gt-MOST_BLOCKS
returns-then-blocks-gt-MOST_BLOCKS c = λ g de se pe whole.
    let bytes = c.args.bytes in
    let count = (whole_of g bytes c.args.data_bytes c.args.spare_bytes c.args.pages de se pe whole).count in
    let same = ap (λ n. bytes / n / c.from.result) c.from-page_bytes.ensures ∙ ap (λ n. bytes / (c.args.data_bytes + c.args.spare_bytes) / n) c.from.ensures in
    omega (arith, count, same, g.limits.block_count.most, c.if-blocks-gt-MOST_BLOCKS.true)

pub returns : goal.returns
returns c =
    let bytes = c.args.bytes in
    let d = c.args.data_bytes in
    let s = c.args.spare_bytes in
    let p = c.args.pages in
    let same = ap (λ n. bytes / n / c.from.result) c.from-page_bytes.ensures ∙ ap (λ n. bytes / (d + s) / n) c.from.ensures in
    subst (IsShapeAs bytes d s p) (sym c.ok.ensures.value)
    (shape_result c.new.result bytes d s p _ same
    (sym (ap (λ n. bytes % n) c.from-page_bytes.ensures) ∙ c.if-bytes-page_bytes-ne0.false)
    (sym (ap (λ n. bytes / n % c.from-2.result) c.from-page_bytes.ensures ∙ ap (λ n. bytes / (d + s) % n) c.from-2.ensures) ∙ c.if-rows-from-ne0.false)
    c.new.ensures.accepted.1 c.new.ensures.ok)
