use Rattle.std.proofs.Common.{ℕ, ltb, rules}
use Rattle.std.proofs.lemmas.Bool.{ltb-true, ltb-false}
use Rattle.std.proofs.lemmas.List.Sorted.{IsPartitionPoint-from_clause, IsPartitionedBy-ltb}
use Rattle.mapping_cache.proofs.Places.{no_fall}
use Rattle.mapping_cache.proofs.moved.place_of.Goals as goal

pub returns : goal.returns
returns c =
    let parted = IsPartitionedBy-ltb (λ (e : ℕ × ℕ). e.0) c.args.moved.now c.args.sector (no_fall c.args.moved.now c.requires) in
    let point = IsPartitionPoint-from_clause (λ (e : ℕ × ℕ). ltb e.0 c.args.sector) c.args.moved.now _ c.partition_point.ensures.partitioned parted (λ a r q k. search rules) in
    record {
      within = c.partition_point.ensures.bound;
      before = λ k d l m. ltb-true _ _ (point.0 k d l m);
      after = λ k d l m. ltb-false _ _ (point.1 k d l m);
    }
