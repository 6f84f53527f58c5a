use Rattle.std.proofs.Common.{inl, inr}
use Rattle.lab_commands.proofs.UndoneLemmas.{handed}
use Rattle.lab_commands.proofs.repair.asked_at.Goals as goal

pub returns-in_err-geometry : goal.returns-in_err-geometry
returns-in_err-geometry c =
    rw (handed c.from_residual.result _ c.from_residual.ensures.1) (record { ok = tt; fault = inl c.in_err-geometry.ensures.fault })

pub returns-in_err-rows : goal.returns-in_err-rows
returns-in_err-rows c =
    let shape = c.in_ok-geometry in
    let handing = c.from_residual-in_err-rows in
    rw (handed handing.result _ handing.ensures.1) (record { ok = tt; fault = inr (shape.geometry, shape.ensures.ok, inl c.in_err-rows.ensures.fault) })

pub returns-in_err-bits : goal.returns-in_err-bits
returns-in_err-bits c =
    let shape = c.in_ok-geometry in
    let rows = c.in_ok-rows in
    let handing = c.from_residual-in_err-bits in
    rw (handed handing.result _ handing.ensures.1) (record { ok = tt; fault = inr (shape.geometry, shape.ensures.ok, inr (rows.rows, rows.ensures.ok, c.in_err-bits.ensures.fault)) })

pub returns : goal.returns
returns c =
    record { ok = record { geometry_is = c.in_ok-geometry.ensures.ok; rows_are = c.in_ok-rows.ensures.ok; bits_are = c.in_ok-bits.ensures.ok }; fault = tt }
