use Rattle.std.proofs.Common.{◌≡◌, ◌∙◌, ap, sym, ℕ, ◌+◌, ◌-◌, take, drop, arith}
use Rattle.page_layout.specs.Geometry.{page_bytes}
use Rattle.onfi_cycles.specs.Cycles.{page_of}
use Rattle.nand_die.proofs.PagesLemmas.{page_read}
use Rattle.nand_die.proofs.array.page_slice.Goals as goal

pub returns-clause-page : goal.returns-clause-page
returns-clause-page c =
    let g = c.args.geometry.now in
    let a : ℕ = c.page_start-start.result in
    let k : a + c.page_length-size.result - a ≡ page_bytes g = omega (arith, c.page_length-size.ensures) in
    page_read g c.args.row a c.args.bytes.now c.requires.in_range c.page_start-start.ensures.is ∙ ap (λ n. page_of g (take n (drop a c.args.bytes.now))) (sym k)
