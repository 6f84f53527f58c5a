use Rattle.std.proofs.Common.{◌≡◌, ◌*◌, ap, arith}
use Rattle.nand_die.proofs.PlaceLemmas.{page_ends}
use Rattle.nand_die.proofs.array.page_start.Goals as goal

pub returns : goal.returns
returns c =
    let is : c.args.row * c.page_length.result ≡ c.args.row * _ = ap (λ n. c.args.row * n) c.page_length.ensures in
    record { is = is; ends = omega (arith, is, page_ends c.args.geometry.now c.args.row _ c.requires.in_range c.page_length.ensures, c.page_length.ensures) }
