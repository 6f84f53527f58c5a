use Rattle.std.proofs.Common.{◌<◌, rules}
use Rattle.std.specs.NonZero.{non_zero_usize_get}
use Rattle.mapping_cache.proofs.Steps.{IsMapping-empty}
use Rattle.mapping_cache.proofs.mapping.Mapping.with_share.Goals as goal

pub invariant_of-result : goal.invariant_of-result
invariant_of-result c =
    let some : 0 < non_zero_usize_get c.unwrap-most.result = search rules in
    (rw (c.in_ok-new.ensures, c.in_ok-with_capacity.ensures.items) (IsMapping-empty c.args.geometry.now _ c.args.share some c.requires.share), search rules)

pub returns-clause-valid : goal.returns-clause-valid
returns-clause-valid c =
    let some : 0 < non_zero_usize_get c.unwrap-most.result = search rules in
    rw (c.in_ok-new.ensures, c.in_ok-with_capacity.ensures.items) (IsMapping-empty c.args.geometry.now _ c.args.share some c.requires.share)
