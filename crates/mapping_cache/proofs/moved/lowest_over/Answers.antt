use Rattle.std.proofs.Common.{arith, refl}
use Rattle.mapping_cache.proofs.Runs.{page_at, none_over, lowest_at}
use Rattle.mapping_cache.proofs.moved.lowest_over.Goals as goal

pub returns-then-moved-last : goal.returns-then-moved-last
returns-then-moved-last c = lowest_at c.args.per_page c.args.share c.args.moved.now c.requires.has_entries c.requires.by_sector c.loop-last.last (page_at c.args.per_page c.args.moved.now c.loop-last.last (0, 0)) (0, 0) c.loop-last.auto.last c.loop-last-test.true c.if-moved-last.true refl c.loop-last.invariant

pub returns : goal.returns
returns c = record {
  none = λ e t. none_over c.args.per_page c.args.share c.args.moved.now c.requires.has_entries c.requires.by_sector (λ k l m. c.loop-last.invariant k l (omega arith)) t;
  over = λ t e. cc;
  lowest = λ t e. cc;
}
