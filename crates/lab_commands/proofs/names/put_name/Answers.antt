use Rattle.std.proofs.Common.{◌≡◌, ◌<◌, ℕ, List, length, subst, arith}
use Rattle.std.specs.Io.KnownBytes.{Appends}
use Rattle.request_stream.specs.Frames.{AppendsPart}
use Rattle.lab_commands.specs.Names.{shown_below}
use Rattle.lab_commands.proofs.NameLemmas.{none_shown, one_shown, part_shown, shown_is}
use Rattle.lab_commands.proofs.TextLemmas.{put_failed}
use Rattle.lab_commands.proofs.names.put_name.Goals as goal

pub loop-place-init : goal.loop-place-init
loop-place-init g c = none_shown c.args.name.now (g.W.Output.contents c.args.out.now)

pub loop-place-preserved : goal.loop-place-preserved
loop-place-preserved g c =
    let name = c.args.name.now in
    let a = g.W.Output.contents c.args.out.now in
    let b = g.W.Output.contents c.loop-place.out in
    let d = g.W.Output.contents c.put_byte.new.out in
    let is = shown_is name c.as_bytes-bytes.result.now c.loop-place.place c.byte_before.result c.byte_at.result c.byte_behind.result c.as_bytes-bytes.ensures.value c.byte_before.ensures c.byte_at.ensures c.byte_behind.ensures in
    one_shown name c.loop-place.place a b d c.loop-place.invariant (subst (λ (xs : List ℕ). Appends b d xs) is c.in_ok-put_byte.ensures.bytes)

pub returns-in_err-put_byte-clause-bytes : goal.returns-in_err-put_byte-clause-bytes
returns-in_err-put_byte-clause-bytes g c =
    let name = c.args.name.now in
    let place = c.loop-place.place in
    let a = g.W.Output.contents c.args.out.now in
    let b = g.W.Output.contents c.loop-place.out in
    let d = g.W.Output.contents c.put_byte.new.out in
    let value = c.as_bytes-bytes.ensures.value in
    let is = shown_is name c.as_bytes-bytes.result.now place c.byte_before.result c.byte_at.result c.byte_behind.result value c.byte_before.ensures c.byte_at.ensures c.byte_behind.ensures in
    let within : place < length c.as_bytes-bytes.result.now = omega arith in
    let inside : place < length name = subst (λ (xs : List ℕ). place < length xs) value within in
    put_failed _ c.from_residual.result a d _ c.from_residual.ensures.1 (part_shown name place (length name) a b d inside c.loop-place.invariant (subst (λ (xs : List ℕ). AppendsPart b d xs) is c.in_err-put_byte.ensures.bytes))

pub returns-clause-bytes : goal.returns-clause-bytes
returns-clause-bytes g c =
    let name = c.args.name.now in
    let a = g.W.Output.contents c.args.out.now in
    let d = g.W.Output.contents c.loop-place.out in
    let all : c.loop-place.place ≡ length c.as_bytes-bytes.result.now = omega arith in
    let whole = subst (λ (n : ℕ). Appends a d (shown_below name n)) all c.loop-place.invariant in
    subst (λ (xs : List ℕ). Appends a d (shown_below name (length xs))) c.as_bytes-bytes.ensures.value whole
