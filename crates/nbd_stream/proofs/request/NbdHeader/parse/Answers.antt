use Rattle.std.proofs.Common.{rules, ◌≡◌, slice_index}
use Rattle.nbd_stream.proofs.Parsing.{spelled}
use Rattle.nbd_stream.proofs.request.NbdHeader.parse.Goals as goal

pub returns-clause-spelled : goal.returns-clause-spelled
returns-clause-spelled c =
    let xs = c.args.bytes.now in
    let m0 : slice_index xs 0 ≡ 37 = search rules in
    let m1 : slice_index xs 1 ≡ 96 = search rules in
    let m2 : slice_index xs 2 ≡ 149 = search rules in
    let m3 : slice_index xs 3 ≡ 19 = search rules in
    spelled xs (record { flags = c.read_u16.result; code = c.read_u16-2.result; cookie = c.read_u64.result; offset = c.read_u64-2.result; count = c.read_u32.result })
    c.told-bytes c.fits-bytes m0 m1 m2 m3
    (record { flags = c.read_u16.ensures; code = c.read_u16-2.ensures; cookie = c.read_u64.ensures; offset = c.read_u64-2.ensures; count = c.read_u32.ensures })
