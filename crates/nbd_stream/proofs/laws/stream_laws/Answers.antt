use Rattle.nbd_stream.proofs.OptionOnce.{option_once}
use Rattle.nbd_stream.proofs.StreamOnce.{one_way}
use Rattle.nbd_stream.proofs.StreamSome.{some_way}
use Rattle.nbd_stream.proofs.laws.stream_laws.Goals as goal

pub returns : goal.returns
returns c = record { one_way = one_way; some_way = some_way; option = option_once }
