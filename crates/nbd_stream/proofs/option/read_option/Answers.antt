use Rattle.std.proofs.Common.{◌≡◌, ◌≤◌, length, rules, arith, subst}
use Rattle.std.proofs.lemmas.List.{take_all}
use Rattle.std.specs.Io.KnownBytes.{Consumes}
use Rattle.nbd_stream.proofs.OptionReading.{after_option}
use Rattle.nbd_stream.proofs.option.read_option.Goals as goal

pub returns-in-Some-clause-reads : goal.returns-in-Some-clause-reads
returns-in-Some-clause-reads g c =
    let bytes = c.receive-filled.new.buffer in
    let whole : length bytes ≡ 16 = search rules in
    let full : length bytes ≤ c.receive-filled.result.count = omega arith in
    after_option c.in-Some.header _ _ _ _ bytes c.read_rest.result whole c.in-Some.ensures.spelled
    (subst (Consumes _ _) (take_all c.receive-filled.result.count bytes full) c.receive-filled.ensures.read) c.read_rest.ensures.reads
