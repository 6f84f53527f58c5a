use Rattle.mapping_cache.specs.View.{mapping_state}
use Rattle.mapping_cache.specs.Mapping.{per_page}
use Rattle.mapping_cache.proofs.Clean.{clean_page}
use Rattle.page_layout.proofs.GeometryLemmas.{some_entries}
use Rattle.mapping_cache.proofs.Steps.{IsMapping-cleaned, keys-cleaned, length-cleaned, known-cleaned, pending-cleaned, pending-cleaned_other}
use Rattle.mapping_cache.proofs.mapping.Mapping.clean.Goals as goal

pub invariant_of-self : goal.invariant_of-self
invariant_of-self c = let m = mapping_state c.self.inside in let v = c.self.invariant.0 in (
  rw (c.clean_sectors.ensures, c.forget_page.ensures.items, c.entries-entries.ensures, clean_page (per_page m) c.args.t (some_entries m.geometry))
      (IsMapping-cleaned m c.args.t v),
  rw c.forget_page.ensures.capacity c.self.invariant.1,
)

pub returns-clause-keys : goal.returns-clause-keys
returns-clause-keys c = let m = mapping_state c.self.inside in let v = c.self.invariant.0 in rw (c.clean_sectors.ensures, c.entries-entries.ensures, clean_page (per_page m) c.args.t (some_entries m.geometry), ← c.self.view_is) (keys-cleaned m c.args.t v)

pub returns-clause-moved_fewer : goal.returns-clause-moved_fewer
returns-clause-moved_fewer c = let m = mapping_state c.self.inside in let v = c.self.invariant.0 in rw (c.forget_page.ensures.items, c.entries-entries.ensures, ← c.self.view_is) (length-cleaned m c.args.t v)

pub returns-clause-clean : goal.returns-clause-clean
returns-clause-clean c = let m = mapping_state c.self.inside in let v = c.self.invariant.0 in rw (
  c.clean_sectors.ensures,
  c.forget_page.ensures.items,
  c.entries-entries.ensures,
  clean_page (per_page m) c.args.t (some_entries m.geometry),
  ←
      c.self.view_is,
) (pending-cleaned m c.args.t v)

pub returns-clause-others_pending : goal.returns-clause-others_pending
returns-clause-others_pending c = let m = mapping_state c.self.inside in let v = c.self.invariant.0 in rw (
  c.clean_sectors.ensures,
  c.forget_page.ensures.items,
  c.entries-entries.ensures,
  clean_page (per_page m) c.args.t (some_entries m.geometry),
  ←
      c.self.view_is,
) (pending-cleaned_other m c.args.t v)

pub returns-clause-same_known : goal.returns-clause-same_known
returns-clause-same_known c = let m = mapping_state c.self.inside in let v = c.self.invariant.0 in rw (
  c.clean_sectors.ensures,
  c.forget_page.ensures.items,
  c.entries-entries.ensures,
  clean_page (per_page m) c.args.t (some_entries m.geometry),
  ←
      c.self.view_is,
) (known-cleaned m c.args.t v)

pub returns-clause-valid : goal.returns-clause-valid
returns-clause-valid c = let m = mapping_state c.self.inside in let v = c.self.invariant.0 in rw (c.clean_sectors.ensures, c.forget_page.ensures.items, c.entries-entries.ensures, clean_page (per_page m) c.args.t (some_entries m.geometry)) (IsMapping-cleaned m c.args.t v)

pub returns-clause-cleaned : goal.returns-clause-cleaned
returns-clause-cleaned c = let m = mapping_state c.self.inside in rw (c.clean_sectors.ensures, c.forget_page.ensures.items, c.entries-entries.ensures, clean_page (per_page m) c.args.t (some_entries m.geometry), ← c.self.view_is)
