use Rattle.std.proofs.Common.{◌≡◌, ◌-◌}
use Rattle.mapping_cache.specs.Mapping.{dirty_from}
use Rattle.mapping_cache.proofs.pages.DirtyOfIterator.next.Given as goal

abbrev pub invariant-loop-self : goal.invariant-loop-self
invariant-loop-self l = record {
  moved : l.self-inside.moved ≡ l.initial.self-inside.moved;
  cache : l.self-inside.cache ≡ l.initial.self-inside.cache;
  end : l.self-inside.end ≡ l.initial.self-inside.end;
  left : dirty_from l.initial.self-inside.cache.now.entries l.self-inside.sector (l.initial.self-inside.end - l.self-inside.sector) ≡ dirty_from l.initial.self-inside.cache.now.entries l.initial.self-inside.sector (l.initial.self-inside.end - l.initial.self-inside.sector);
}

abbrev pub decreases-loop-self : goal.decreases-loop-self
decreases-loop-self l = l.end - l.self-inside.sector
