use Rattle.std.proofs.Common.{◌≡◌, ◌∙◌, ℕ, ◌-◌, ◌<◌, List, length, arith}
use Rattle.page_layout.specs.Page.{Page}
use Rattle.page_layout.specs.Raw.{raw_image}
use Rattle.page_layout.specs.Block.{block_pages}
use Rattle.page_layout.proofs.RawLemmas.{length-raw_image}
use Rattle.nand_die.proofs.NextLemmas.{next_law, length-block_pages, erased_here, one_less}
use Rattle.nand_die.proofs.make.next_page.Goals as goal

pub returns-then-not-is_erased : goal.returns-then-not-is_erased
returns-then-not-is_erased c =
    let g = c.args.geometry.now in
    let image : List Page = raw_image g c.args.bytes.now in
    let ps : List Page = block_pages g image c.args.block in
    let n : ℕ = c.loop-next.next in
    let long : length ps ≡ g.pages = length-block_pages g image c.args.block (length-raw_image g c.args.bytes.now) c.requires.in_range in
    let inside : n - 1 < g.pages = omega (arith, c.loop-next.invariant.most, c.loop-next-test.true) in
    let here = erased_here g image c.args.block (n - 1) c.row.result c.data_bytes.result c.page_slice-page.result.now _ _ c.is_erased.result inside c.row.ensures.is c.page_slice-page.ensures.page c.data_bytes.ensures
    c.split_at.ensures.front c.split_at.ensures.back c.is_erased.ensures in
    (next_law ps n).1 (record {
      most = omega (arith, long, c.loop-next.invariant.most);
      erased = λ k le lt. c.loop-next.invariant.erased k le (omega (arith, lt, long));
      last = λ some. here ∙ c.if-not-is_erased.true;
    })

pub loop-next-preserved : goal.loop-next-preserved
loop-next-preserved c =
    let g = c.args.geometry.now in
    let image : List Page = raw_image g c.args.bytes.now in
    let n : ℕ = c.loop-next.next in
    let inside : n - 1 < g.pages = omega (arith, c.loop-next.invariant.most, c.loop-next-test.true) in
    let here = erased_here g image c.args.block (n - 1) c.row.result c.data_bytes.result c.page_slice-page.result.now _ _ c.is_erased.result inside c.row.ensures.is c.page_slice-page.ensures.page c.data_bytes.ensures
    c.split_at.ensures.front c.split_at.ensures.back c.is_erased.ensures in
    record {
      most = omega (arith, c.loop-next.invariant.most);
      erased = one_less (block_pages g image c.args.block) n g.pages c.loop-next-test.true (here ∙ c.if-not-is_erased.false) c.loop-next.invariant.erased;
    }

pub returns : goal.returns
returns c =
    let g = c.args.geometry.now in
    let image : List Page = raw_image g c.args.bytes.now in
    let ps : List Page = block_pages g image c.args.block in
    let long : length ps ≡ g.pages = length-block_pages g image c.args.block (length-raw_image g c.args.bytes.now) c.requires.in_range in
    (next_law ps 0).1 (record {
      most = omega arith;
      erased = λ k le lt. c.loop-next.invariant.erased k (omega (arith, c.loop-next-test.false)) (omega (arith, lt, long));
      last = λ some. absurd (omega (arith, some));
    })
