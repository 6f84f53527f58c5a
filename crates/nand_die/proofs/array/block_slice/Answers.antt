use Rattle.std.proofs.Common.{◌≡◌, ◌∙◌, ℕ, ◌+◌, ◌-◌, arith}
use Rattle.nand_die.proofs.PagesLemmas.{block_read, block_within}
use Rattle.nand_die.proofs.array.block_slice.Goals as goal

pub returns-clause-pages : goal.returns-clause-pages
returns-clause-pages c =
    let size : ℕ = c.block_length-size.result in
    let start : ℕ = c.block_start-start.result in
    let is : start + size - start ≡ size = omega arith in
    block_read c.args.geometry.now c.args.block start (start + size - start) c.args.bytes.now (block_within c.args.geometry.now c.args.block c.requires.in_range) c.block_start-start.ensures.is (is ∙ c.block_length-size.ensures) c.requires.whole
