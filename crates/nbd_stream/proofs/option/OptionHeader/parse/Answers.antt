use Rattle.std.proofs.Common.{rules}
use Rattle.nbd_stream.proofs.OptionReading.{Magic, option_spelled}
use Rattle.nbd_stream.proofs.option.OptionHeader.parse.Goals as goal

pub returns-clause-spelled : goal.returns-clause-spelled
returns-clause-spelled c =
    let xs = c.args.bytes.now in
    let magic : Magic xs = record {
      m0 = search rules;
      m1 = search rules;
      m2 = search rules;
      m3 = search rules;
      m4 = search rules;
      m5 = search rules;
      m6 = search rules;
      m7 = search rules;
    } in
    option_spelled xs (record { code = c.read_u32.result; count = c.read_u32-2.result }) c.told-bytes c.fits-bytes magic c.read_u32.ensures c.read_u32-2.ensures
