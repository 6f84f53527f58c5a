use Rattle.std.proofs.Common.{◌≡◌, ◌<◌, ◌∙◌, sym, ap, get_or, length, arith}
use Rattle.std.proofs.lemmas.List.{get_or_default}
use Rattle.lab_dump.specs.declared.trace.Trace.TheVariants.{Never}
use Rattle.lab_dump.specs.Lost.{said_row}
use Rattle.lab_dump.specs.Trace.{is_lost_in_trace}
use Rattle.lab_dump.proofs.LostLemmas.{said_is}
use Rattle.lab_dump.proofs.ComparingLemmas.{told_more}
use Rattle.lab_dump.proofs.compare.note_lost.Goals as goal

pub loop-n-preserved : goal.loop-n-preserved
loop-n-preserved c =
    let claim = c.args.certificate.now in
    let traces = c.args.traces.now in
    let n = c.loop-n.n in
    let size = c.loop-n.invariant.size in
    let within : n < length c.loop-n.lost = omega arith in
    let inside : n < length traces = omega arith in
    let said : said_row claim n ≡ c.sector_row.result = said_is claim.sectors n c.sector_row.result c.sector_row.ensures.is in
    let lost : c.is_lost.result ≡ is_lost_in_trace (said_row claim n) claim.next (get_or traces n Never) =
    c.is_lost.ensures ∙ (ap (λ t. is_lost_in_trace c.sector_row.result c.next_sequence-next.result t) (get_or_default traces n _ Never inside)
    ∙ (ap (λ o. is_lost_in_trace o c.next_sequence-next.result (get_or traces n Never)) (sym said) ∙ ap (λ k. is_lost_in_trace (said_row claim n) k (get_or traces n Never)) c.next_sequence-next.ensures)) in
    told_more claim traces n c.loop-n.lost c.is_lost.result c.loop-n.invariant within lost
