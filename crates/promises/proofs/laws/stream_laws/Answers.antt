use Rattle.std.proofs.Common.{refl}
use Rattle.promises.proofs.StreamOnce.{one_way}
use Rattle.promises.proofs.StreamSome.{some_way}
use Rattle.promises.proofs.StreamLemmas.{replies_join, op_law}
use Rattle.promises.proofs.laws.stream_laws.Goals as goal

pub returns : goal.returns
returns c = record { one_way = one_way; some_way = some_way; replies_join = replies_join; last = λ fs rs. refl; op = op_law }
