use Rattle.std.proofs.Common.{◌<◌, ◌∙◌, length, take, arith, subst, sym, refl}
use denote.Enum.Bare.{differs_true, differs_false}
use Rattle.std.proofs.lemmas.List.{take_all, length-take-le}
use Rattle.std.proofs.KnownBytes.{Consumes-nil}
use Rattle.std.specs.Io.KnownBytes.{Consumes}
use Rattle.promises.specs.Stream.{body_length}
use Rattle.promises.specs.contracts.stream.Op.{the_type}
use Rattle.promises.specs.declared.stream.Op.{Op}
use Rattle.promises.specs.declared.stream.Op.TheVariants.{Write}
use Rattle.request_stream.specs.Frames.{body_in_buffer}
use Rattle.request_stream.proofs.Reading.{none_follows}
use Rattle.request_stream.proofs.request.read_body.Goals as goal

pub returns-then-ne-clause-reads : goal.returns-then-ne-clause-reads
returns-then-ne-clause-reads g c =
    let from = g.R.Read.remaining c.args.reader.now in
    let none = none_follows c.args.header.op c.args.body.now (differs_true the_type c.args.header.op Write (sym c.ne.ensures ∙ c.if-ne.true)) in
    (refl, subst (Consumes from from) (sym none) (Consumes-nil from))

pub returns-then-filled-clause-reads : goal.returns-then-filled-clause-reads
returns-then-filled-clause-reads g c =
    let its = c.receive-filled.ensures in
    let n = c.receive-filled.result.count in
    let bytes = c.receive-filled.new.buffer in
    let write = differs_false the_type tt c.args.header.op Write (sym c.ne.ensures ∙ c.if-ne.false) in
    let short = its.failed c.if-filled.true in
    let less : length (take n bytes) < length bytes = omega (arith, length-take-le n bytes its.within) in
    (refl, take n bytes, subst (λ (o : Op). length (take n bytes) < body_length (length bytes) o) (sym write) less, its.read)

pub returns-then-filled-body-clause-reads : goal.returns-then-filled-body-clause-reads
returns-then-filled-body-clause-reads g c =
    let its = c.receive-filled.ensures in
    let n = c.receive-filled.result.count in
    let bytes = c.receive-filled.new.buffer in
    let write = differs_false the_type tt c.args.header.op Write (sym c.ne.ensures ∙ c.if-ne.false) in
    let short = c.if-filled-body.true in
    let less : length (take n bytes) < length bytes = omega (arith, length-take-le n bytes its.within) in
    (refl, its.end short c.if-filled.false, take n bytes, subst (λ (o : Op). length (take n bytes) < body_length (length bytes) o) (sym write) less, its.read)

pub returns-else-filled-body-clause-reads : goal.returns-else-filled-body-clause-reads
returns-else-filled-body-clause-reads g c =
    let its = c.receive-filled.ensures in
    let n = c.receive-filled.result.count in
    let bytes = c.receive-filled.new.buffer in
    let from = g.R.Read.remaining c.args.reader.now in
    let to = g.R.Read.remaining c.receive-filled.new.self in
    let write = differs_false the_type tt c.args.header.op Write (sym c.ne.ensures ∙ c.if-ne.false) in
    (refl, subst (λ (o : Op). Consumes from to (body_in_buffer o bytes)) (sym write) (subst (Consumes from to) (take_all n bytes c.if-filled-body.false) its.read))
