use Rattle.std.proofs.Common.{◌≡◌, map}
use Rattle.lru.specs.LruCache.{lru_cache}
use Rattle.mapping_cache.specs.Mapping.{clean_between}
use Rattle.mapping_cache.proofs.mapping.clean_sectors.Given as goal

abbrev pub invariant-loop-i : goal.invariant-loop-i
invariant-loop-i l = l.cache ≡ lru_cache (map (clean_between l.first l.i) l.initial.cache.entries) l.initial.cache.cap
