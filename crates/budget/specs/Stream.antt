-- The stream in which pages of a kind are programmed.
use Rattle.page_layout.specs.declared.record.Kind.{Kind}
use Rattle.page_layout.specs.declared.record.Kind.TheVariants as kind
use Rattle.budget.specs.declared.stream.Stream.{Stream}
use Rattle.budget.specs.declared.stream.Stream.TheVariants.{Data, Meta}

abbrev pub stream_of : Kind → Stream
stream_of kind.Sector = Data
stream_of kind.Trim = Data
stream_of kind.Translation = Meta
stream_of kind.Table = Meta
