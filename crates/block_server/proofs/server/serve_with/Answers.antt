use Rattle.std.proofs.Common.{◌≡◌, ◌≤◌, ◌-◌, ◌^◌, ◌∙◌, arith, inr, refl, rules}
use Rattle.std.proofs.lemmas.Result.{err_from_is_err_and}
use Rattle.std.specs.Io.KnownBytes.{Appends}
use Rattle.std.proofs.KnownBytes.{Appends-trans}
use Rattle.promises.specs.declared.stream.End.TheVariants.{BadFrame}
use Rattle.block_server.proofs.Serving.{serving_none, serving_more, spent, stopped, finished, unfinished, never_next, never_last}
use Rattle.block_server.proofs.server.serve_with.Goals as goal

pub loop-replies-init : goal.loop-replies-init
loop-replies-init g c = (c.requires.body, c.requires.bytes, serving_none g.N.PageSource.view c.args.device.now _ _ c.requires.device, refl)

pub returns-in_err-serve_next-clause-session : goal.returns-in_err-serve_next-clause-session
returns-in_err-serve_next-clause-session g c =
    let p = err_from_is_err_and c.from_residual.result c.from_residual.ensures.1 in
    rw (p.1, p.2)
    (stopped g.N.PageSource.view c.args.device.now
    c.loop-replies.device _ _ _ _ c.loop-replies.replies c.requires.device c.loop-replies.invariant.2 c.serve_next.new.device _ _
    c.in_err-serve_next.field-0.0 c.in_err-serve_next.ensures.serves)

pub returns-in_err-serve_next-clause-never : goal.returns-in_err-serve_next-clause-never
returns-in_err-serve_next-clause-never g c =
    let p = err_from_is_err_and c.from_residual.result c.from_residual.ensures.1 in
    rw (p.1, p.2) (never_next g.N.PageSource.view c.loop-replies.device c.serve_next.new.device _ _ _ _ c.in_err-serve_next.field-0.0 c.in_err-serve_next.ensures.serves)

pub loop-replies-preserved : goal.loop-replies-preserved
loop-replies-preserved g c =
    let one = rw c.in-None.is at c.in_ok-serve_next.ensures.serves in (
      search rules,
      search rules,
      serving_more g.N.PageSource.view c.args.device.now
          c.loop-replies.device _ _ _ _ c.loop-replies.replies c.requires.device c.loop-replies.invariant.2 c.serve_next.new.device _ _ (Appends _ _)
          one
          (λ front bytes wrote more. Appends-trans _ _ _ front bytes wrote more),
      c.serve_next.ensures.calm ∙ c.loop-replies.invariant.3,
    )

pub returns-in-Some-clause-session : goal.returns-in-Some-clause-session
returns-in-Some-clause-session g c =
    let none = rw c.in-Some.is at c.in_ok-serve_next.ensures.serves in
    finished g.N.PageSource.view c.args.device.now
    c.loop-replies.device _ _ _ _ c.loop-replies.replies c.requires.device c.loop-replies.invariant.2 c.serve_next.new.device _ _ _ c.in-Some.end
    none
    c.in_ok-last-in-Some.last c.in_ok-last-in-Some.ensures.sends c.in_ok-last-in-Some.ensures.count

pub returns-in_err-last-in-Some-clause-session : goal.returns-in_err-last-in-Some-clause-session
returns-in_err-last-in-Some-clause-session g c =
    let p = err_from_is_err_and c.from_residual-in_err-last-in-Some.result c.from_residual-in_err-last-in-Some.ensures.1 in
    let none = rw c.in-Some.is at c.in_ok-serve_next.ensures.serves in
    let bad : c.in-Some.end ≡ BadFrame = search rules in
    rw (p.1, p.2)
    (unfinished g.N.PageSource.view c.args.device.now
    c.loop-replies.device _ _ _ _ c.loop-replies.replies c.requires.device c.loop-replies.invariant.2 c.serve_next.new.device _ _ _
    c.in-Some.end none
    c.in_err-last-in-Some.field-0.0 bad c.in_err-last-in-Some.ensures.sends.0 c.in_err-last-in-Some.ensures.sends.1)

pub returns-in_err-last-in-Some-clause-never : goal.returns-in_err-last-in-Some-clause-never
returns-in_err-last-in-Some-clause-never g c =
    let p = err_from_is_err_and c.from_residual-in_err-last-in-Some.result c.from_residual-in_err-last-in-Some.ensures.1 in
    rw (p.1, p.2) (never_last c.in_err-last-in-Some.field-0.0 c.in_err-last-in-Some.ensures.sends.0)

pub returns-clause-stops : goal.returns-clause-stops
returns-clause-stops g c =
    let counted : 2 ^ 64 - 1 ≤ c.loop-replies.replies = omega arith in
    inr (refl, spent g.N.PageSource.view c.args.device.now c.loop-replies.device _ _ _ _ c.loop-replies.replies c.requires.device c.loop-replies.invariant.2 counted)
