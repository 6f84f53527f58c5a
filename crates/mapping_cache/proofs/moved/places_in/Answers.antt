use Rattle.std.proofs.Common.{ℕ, ◌/◌, ltb, leb, rules}
use Rattle.std.proofs.lemmas.Bool.{ltb-true, ltb-false, leb-true, leb-false}
use Rattle.std.proofs.lemmas.List.Sorted.{IsPartitionPoint-from_clause, IsPartitionedBy-ltb, IsPartitionedBy-leb}
use Rattle.mapping_cache.proofs.Places.{pages_rise}
use Rattle.mapping_cache.proofs.Runs.{IsRunOf, run_rises, run_those, run_others}
use Rattle.mapping_cache.proofs.moved.places_in.Goals as goal

pub returns : goal.returns
returns c =
    let up = pages_rise c.args.per_page c.args.moved.now c.requires.has_entries c.requires.by_sector in
    let lower = IsPartitionPoint-from_clause (λ (e : ℕ × ℕ). ltb (e.0 / c.args.per_page) c.args.t) c.args.moved.now _ c.partition_point-start.ensures.partitioned (IsPartitionedBy-ltb (λ (e : ℕ × ℕ). e.0 / c.args.per_page) c.args.moved.now c.args.t up) (λ a r q k. search rules) in
    let upto = IsPartitionPoint-from_clause (λ (e : ℕ × ℕ). leb (e.0 / c.args.per_page) c.args.t) c.args.moved.now _ c.partition_point-end.ensures.partitioned (IsPartitionedBy-leb (λ (e : ℕ × ℕ). e.0 / c.args.per_page) c.args.moved.now c.args.t up) (λ a r q k. search rules) in
    let run : IsRunOf c.args.per_page c.args.t c.args.moved.now c.partition_point-start.result c.partition_point-end.result = record {
      first_within = c.partition_point-start.ensures.bound;
      end_within = c.partition_point-end.ensures.bound;
      lower = λ k d l m. ltb-true _ _ (lower.0 k d l m);
      not_lower = λ k d l m. ltb-false _ _ (lower.1 k d l m);
      not_higher = λ k d l m. leb-true _ _ (upto.0 k d l m);
      higher = λ k d l m. leb-false _ _ (upto.1 k d l m);
    } in
    record { rising = run_rises _ _ _ _ _ run; within = run.end_within; those = run_those _ _ _ _ _ run; others = run_others _ _ _ _ _ run }
