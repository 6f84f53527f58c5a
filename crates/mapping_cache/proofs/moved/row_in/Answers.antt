use Rattle.std.proofs.Common.{sym}
use Rattle.mapping_cache.proofs.Entries.{none_from}
use Rattle.mapping_cache.proofs.Places.{lookup_at, found_there}
use Rattle.mapping_cache.proofs.moved.row_in.Goals as goal

pub bounds-moved-place : goal.bounds-moved-place
bounds-moved-place c = (found_there c.args.sector c.args.moved.now c.place_of-place.result c.requires c.place_of-place.ensures (sym c.if-has_at.ensures)).0

pub returns-then-has_at : goal.returns-then-has_at
returns-then-has_at c =
    let there = found_there c.args.sector c.args.moved.now c.place_of-place.result c.requires c.place_of-place.ensures (sym c.if-has_at.ensures) in
    sym (lookup_at c.args.sector c.args.moved.now c.place_of-place.result c.requires c.place_of-place.ensures _ there.0 (there.1 _))

pub returns-else-has_at : goal.returns-else-has_at
returns-else-has_at c = sym (none_from _ c.if-has_at.ensures)
