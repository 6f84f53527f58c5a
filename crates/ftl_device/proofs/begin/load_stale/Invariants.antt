use Rattle.std.proofs.Common.{◌≡◌, take}
use Rattle.mapping_cache.specs.Mapping.{IsMapping}
use Rattle.ftl_device.specs.Begin.{begun_mapping}
use Rattle.ftl_device.proofs.begin.load_stale.Given as goal

abbrev pub invariant-loop-sector : goal.invariant-loop-sector
invariant-loop-sector l = record {
  loaded : l.mapping ≡ begun_mapping l.fn.mapping.geometry l.fn.mapping.share l.certificate (take l.sector-index l.stale);
  valid : IsMapping l.mapping;
}
