use Rattle.std.proofs.Common.{◌≡◌, sym, ap, ◌∙◌, arith}
use Rattle.lru.specs.LruCache.{lru_cache}
use Rattle.mapping_cache.proofs.Clean.{clean_none, clean_missing, clean_found}
use Rattle.mapping_cache.proofs.mapping.clean_sectors.Goals as goal
use Rattle.mapping_cache.proofs.mapping.clean_sectors.Goals.{in-Some, in_default}

pub loop-i-init : goal.loop-i-init
loop-i-init c = rw (clean_none c.args.first c.args.cache.now.entries)

pub loop-i-preserved : goal.loop-i-preserved
loop-i-preserved c =
    let cap = c.args.cache.now.cap in
    let es = c.args.cache.now.entries in
    elim c.match-peek_mut.branch [
      | in-Some w ↦
          let found = rw c.loop-i.invariant at (sym w.in-Some.ensures.value) in
          w.cache-is ∙ rw c.loop-i.invariant (ap (λ xs. lru_cache xs cap) (sym (clean_found c.args.first c.loop-i.i es w.in-Some.slot.now c.requires.distinct found)))
      | in_default w ↦
          let missing = rw c.loop-i.invariant at (sym w.in_default.ensures.value) in
          w.cache-is ∙ c.loop-i.invariant ∙ ap (λ xs. lru_cache xs cap) (sym (clean_missing c.args.first c.loop-i.i es missing))
    ]

pub returns : goal.returns
returns c =
    let last : c.loop-i.i ≡ c.args.count = omega arith in
    c.loop-i.invariant ∙ rw last
