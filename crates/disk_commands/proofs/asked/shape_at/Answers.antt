use Rattle.std.proofs.Common.{rules, ◌≡◌, true, false, inl, inr, refl}
use Rattle.disk_server.proofs.FaultLemmas.{handed_on}
use Rattle.disk_commands.specs.Asked.{IsNoShapeAt}
use Rattle.disk_commands.proofs.asked.shape_at.Goals as goal

pub returns-in_err-cache-clause-fault : goal.returns-in_err-cache-clause-fault
returns-in_err-cache-clause-fault c =
    handed_on (IsNoShapeAt c.args.words c.args.share) _ _ c.from_residual-in_err-cache.ensures.1
    (inr (c.in_ok-geometry.geometry, c.in_ok-geometry.ensures.ok, inl c.in_err-cache.ensures.fault))

pub returns-then-not-is_share_for-clause-fault : goal.returns-then-not-is_share_for-clause-fault
returns-then-not-is_share_for-clause-fault c =
    let no : c.is_share_for.result ≡ false = search rules in
    inr (
      c.in_ok-geometry.geometry,
      c.in_ok-geometry.ensures.ok,
      inr (
        c.in_ok-cache.cache,
        c.in_ok-cache.ensures.ok,
        (
          refl,
          λ may. let yes : c.is_share_for.result ≡ true = c.is_share_for.ensures.1 may in absurd (cc),
        ),
      ),
    )
