-- What contracts see of a `Mapping`.
use Rattle.mapping_cache.specs.Mapping.{MappingState}
use Rattle.mapping_cache.specs.declared.mapping.Mapping.TheInside.{Inside}

abbrev pub mapping_state : Inside → MappingState
mapping_state m = record { geometry = m.geometry; capacity = m.cache.cap; share = m.share; cached = m.cache.entries; moved = m.moved.items }
