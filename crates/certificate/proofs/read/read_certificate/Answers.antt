use Rattle.std.proofs.Common.{arith}
use Rattle.std.proofs.lemmas.Result.{err_from_is_err_and}
use Rattle.certificate.proofs.PartLemmas.{is_found, only_memory, is_only}
use Rattle.certificate.proofs.FirstLemmas.{fault_or_memory, is_answered}
use Rattle.certificate.proofs.read.read_certificate.Goals as goal

pub returns-in_err-head-clause-only : goal.returns-in_err-head-clause-only
returns-in_err-head-clause-only c = λ claim fits e.
    let p = err_from_is_err_and c.from_residual.result c.from_residual.ensures.1 in
    rw (p.1, p.2) (only_memory c.args.bytes.now claim c.in_err-head.field-0.0 fits e c.in_err-head.ensures.err)

pub returns-in_err-head-clause-answered : goal.returns-in_err-head-clause-answered
returns-in_err-head-clause-answered c = λ fault ne h.
    let p = err_from_is_err_and c.from_residual.result c.from_residual.ensures.1 in
    rw (p.1, p.2) (fault_or_memory c.args.bytes.now fault c.in_err-head.field-0.0 ne h c.in_err-head.ensures.err)

pub returns-clause-found : goal.returns-clause-found
returns-clause-found c = is_found c.args.bytes.now c.read_parts.result (λ i. omega (arith, c.type_inv.bytes i)) c.in_ok-head.ensures.ok.whole c.read_parts.ensures.ok c.read_parts.ensures.fits

pub returns-clause-only : goal.returns-clause-only
returns-clause-only c = λ claim fits e. is_only c.args.bytes.now c.read_parts.result claim c.read_parts.ensures.ok c.read_parts.ensures.err fits e

pub returns-clause-answered : goal.returns-clause-answered
returns-clause-answered c = λ fault ne h.
    let found = is_found c.args.bytes.now c.read_parts.result (λ i. omega (arith, c.type_inv.bytes i)) c.in_ok-head.ensures.ok.whole c.read_parts.ensures.ok c.read_parts.ensures.fits in
    is_answered c.args.bytes.now c.read_parts.result fault found c.read_parts.ensures.err ne h
