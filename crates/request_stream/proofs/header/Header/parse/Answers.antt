use Rattle.std.proofs.Common.{rules, ◌≡◌, Some, slice_index}
use Rattle.promises.specs.Stream.{op_from}
use Rattle.request_stream.proofs.Parsing.{spelled}
use Rattle.request_stream.proofs.header.Header.parse.Goals as goal

pub returns-clause-spelled : goal.returns-clause-spelled
returns-clause-spelled c =
    let xs = c.args.bytes.now in
    let d : slice_index xs 0 ≡ 68 = search rules in
    let f : slice_index xs 1 ≡ 70 = search rules in
    let z : slice_index xs 3 ≡ 0 = search rules in
    let op : op_from (slice_index xs 2) ≡ Some c.in_ok-op.op = search rules in
    spelled xs c.in_ok-op.op c.from_le_bytes.result c.from_le_bytes-2.result c.told-bytes c.fits-bytes d f op z (search rules) (search rules)
