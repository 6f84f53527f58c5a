use Rattle.std.proofs.Common.{◌≡◌, ◌<◌, ◌/◌, ◌*◌, sym, ap, subst, ◌∙◌}
use Rattle.disk_commands.proofs.SizeLemmas.{divided, no_part, out_of_range, ten_positive}
use Rattle.disk_commands.proofs.sizes.amount.Goals as goal

pub nonzero_rem-product : goal.nonzero_rem-product
nonzero_rem-product c = subst (λ x. 0 < x) (sym c.pow-scale.ensures) (ten_positive c.args.places)

pub nonzero_div-bytes : goal.nonzero_div-bytes
nonzero_div-bytes c = subst (λ x. 0 < x) (sym c.pow-scale.ensures) (ten_positive c.args.places)

pub returns-then-product-scale-ne0-clause-part : goal.returns-then-product-scale-ne0-clause-part
returns-then-product-scale-ne0-clause-part c _ bytes e =
    let product : c.from.result * c.from-2.result ≡ c.args.digits * c.args.unit = ap (λ x. x * c.from-2.result) c.from.ensures ∙ ap (λ y. c.args.digits * y) c.from-2.ensures in
    no_part c.pow-scale.result (c.from.result * c.from-2.result) bytes c.if-product-scale-ne0.true (ap (λ x. bytes * x) c.pow-scale.ensures ∙ e ∙ sym product)

pub returns-then-bytes-eq0-clause-none : goal.returns-then-bytes-eq0-clause-none
returns-then-bytes-eq0-clause-none c _ =
    let product : c.from.result * c.from-2.result ≡ c.args.digits * c.args.unit = ap (λ x. x * c.from-2.result) c.from.ensures ∙ ap (λ y. c.args.digits * y) c.from-2.ensures in
    let bytes = c.from.result * c.from-2.result / c.pow-scale.result in (
      bytes,
      ap (λ x. bytes * x) (sym c.pow-scale.ensures) ∙ divided (c.from.result * c.from-2.result) c.pow-scale.result c.if-product-scale-ne0.false ∙ product,
      out_of_range bytes c.then-bytes-eq0.either,
    )
