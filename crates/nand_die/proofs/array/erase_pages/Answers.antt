use Rattle.std.proofs.Common.{◌≡◌, ◌∙◌, ap, ℕ, ◌+◌, ◌-◌, ◌≤◌, length, arith, replicate}
use Rattle.nand_die.proofs.PagesLemmas.{block_erased, block_within, part_length}
use Rattle.nand_die.proofs.array.erase_pages.Goals as goal

pub returns-clause-image : goal.returns-clause-image
returns-clause-image c =
    let g = c.args.geometry.now in
    let start : ℕ = c.block_start-start.result in
    let k : ℕ = start + c.block_length-size.result - start in
    let is_k : k ≡ c.block_length-size.result = omega arith in
    let fits : start + k ≤ length c.args.bytes.now = omega (arith, c.block_start-start.ensures.ends, c.block_length-size.ensures, is_k) in
    block_erased g c.args.block start k c.args.bytes.now c.fill.new.self (block_within g c.args.block c.requires.in_range) c.block_start-start.ensures.is (is_k ∙ c.block_length-size.ensures)
    (c.fill.ensures.after (λ y e. e) ∙ ap (λ n. replicate n 255) (part_length start k c.args.bytes.now fits)) c.requires.whole
