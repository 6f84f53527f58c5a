use Rattle.std.proofs.Common.{◌++◌, rules, take, sym, subst, ap, ◌∙◌}
use Rattle.std.specs.Io.KnownBytes.{Appends}
use Rattle.std.proofs.KnownBytes.{Appends-trans}
use Rattle.std.proofs.lemmas.List.{take_rest}
use lib.Seq.{take-add}
use Rattle.request_stream.proofs.transfer.send_until.Goals as goal

pub loop-count-preserved : goal.loop-count-preserved
loop-count-preserved g c =
    let from = c.loop-count.count in
    let all = c.args.bytes.now in
    let n = c.in-Ok.n in
    let more = take-add from n all ∙ ap (λ l. take from all ++ take n l) (sym (take_rest all from)) in
    (search rules, subst (Appends _ _) (sym more) (Appends-trans _ _ _ _ _ c.loop-count.invariant.1 c.in-Ok.ensures.bytes))
