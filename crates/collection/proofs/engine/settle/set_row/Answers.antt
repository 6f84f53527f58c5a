use Rattle.std.proofs.Common.{◌/◌, ◌∙◌, ap, rules}
use Rattle.std.specs.Map.{keys_of}
use Rattle.mapping_cache.specs.Mapping.{per_page, moved_in, without_page}
use Rattle.mapping_cache.proofs.Places.{moved_in-placed, without_page-placed}
use Rattle.collection.proofs.engine.settle.set_row.Goals as goal

pub returns-else-is_cached : goal.returns-else-is_cached
returns-else-is_cached c = record {
  known_now = c.move_entry.ensures.knows;
  pending_now = c.move_entry.ensures.pends;
  known_others = c.move_entry.ensures.others_known;
  pending_others = c.move_entry.ensures.others_pending;
  limits = record { geometry = ap (λ m. m.geometry) c.move_entry.ensures.set; capacity = ap (λ m. m.capacity) c.move_entry.ensures.set; share = ap (λ m. m.share) c.move_entry.ensures.set };
  keys = ap (λ m. keys_of m.cached) c.move_entry.ensures.set;
  moved = c.move_entry.ensures.one_more;
  unmoved = search rules;
  moved_others = λ t ne. ap (λ m. moved_in (per_page c.args.mapping.now) t m.moved) c.move_entry.ensures.set ∙ moved_in-placed c.args.sector c.args.row (per_page c.args.mapping.now) t c.args.mapping.now.moved ne;
  moved_but = ap (λ m. without_page (per_page c.args.mapping.now) (c.args.sector / per_page c.args.mapping.now) m.moved) c.move_entry.ensures.set ∙ without_page-placed c.args.sector c.args.row (per_page c.args.mapping.now) c.args.mapping.now.moved;
  valid = c.move_entry.ensures.valid;
}
