use Rattle.std.proofs.Common.{◌≡◌, ◌≤◌, length, take, arith, subst, refl, inl, []}
use Rattle.std.proofs.lemmas.List.{take_all}
use Rattle.std.specs.Io.KnownBytes.{Consumes}
use Rattle.request_stream.proofs.Reading.{after_header, short_part, some_part}
use Rattle.request_stream.proofs.request.read_request.Goals as goal

pub returns-in-Some-clause-reads : goal.returns-in-Some-clause-reads
returns-in-Some-clause-reads g c =
    let bytes = c.receive-filled.new.buffer in
    let twelve : length bytes ≡ 12 = omega arith in
    let full : length bytes ≤ c.receive-filled.result.count = omega arith in
    after_header c.in-Some.header _ _ _ _ bytes c.read_body.result c.in-Some.ensures.tag c.in-Some.ensures.sector twelve c.in-Some.ensures.spelled
    (subst (Consumes _ _) (take_all c.receive-filled.result.count bytes full) c.receive-filled.ensures.read) c.read_body.ensures.reads

pub returns-then-filled-clause-reads : goal.returns-then-filled-clause-reads
returns-then-filled-clause-reads g c =
    let its = c.receive-filled.ensures in
    let n = c.receive-filled.result.count in
    let bytes = c.receive-filled.new.buffer in
    let short = its.failed c.if-filled.true in
    (refl, take n bytes, inl (short_part n bytes its.within (omega arith)), its.read)

pub returns-then-filled-eq0-clause-reads : goal.returns-then-filled-eq0-clause-reads
returns-then-filled-eq0-clause-reads g c =
    let its = c.receive-filled.ensures in
    let from = g.R.Read.remaining c.args.reader.now in
    let to = g.R.Read.remaining c.receive-filled.new.self in
    ([], (refl, its.end (omega arith) c.if-filled.false), subst (λ n. Consumes from to (take n c.receive-filled.new.buffer)) c.if-filled-eq0.true its.read)

pub returns-then-filled-lt12-clause-reads : goal.returns-then-filled-lt12-clause-reads
returns-then-filled-lt12-clause-reads g c =
    let its = c.receive-filled.ensures in
    let n = c.receive-filled.result.count in
    let bytes = c.receive-filled.new.buffer in
    let some = some_part n bytes its.within c.if-filled-eq0.false in
    let short = short_part n bytes its.within c.if-filled-lt12.true in
    (take n bytes, ((some, inl short), its.end (omega arith) c.if-filled.false), its.read)

pub returns-in-None-clause-reads : goal.returns-in-None-clause-reads
returns-in-None-clause-reads g c =
    let bytes = c.receive-filled.new.buffer in
    let n = c.receive-filled.result.count in
    let full : length bytes ≤ n = omega arith in
    (bytes, (omega arith, c.in-None.ensures.bad refl), subst (Consumes _ _) (take_all n bytes full) c.receive-filled.ensures.read)
