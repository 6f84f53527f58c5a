use Rattle.std.proofs.lemmas.Grind.{common_steps}
use Rattle.std.proofs.Common.{◌∙◌, get_or, arith, refl, [], inl, Err}
use Rattle.std.proofs.lemmas.Result.{err_from_is_err_and}
use Rattle.onfi_cycles.specs.Cycles.{Address}
use Rattle.onfi_cycles.specs.Recorded.{Calls}
use Rattle.onfi_cycles.proofs.Sending.{left_from, spells_more}
use Rattle.onfi_cycles.proofs.Asking.{sends_more}
use Rattle.onfi_cycles.proofs.spelling.send_addresses.Goals as goal

pub loop-byte-preserved : goal.loop-byte-preserved
loop-byte-preserved g c =
    let i = c.loop-byte.invariant in
    record {
      same_geometry = λ h. c.address.ensures.geometry (i.as_honest ∙ h) ∙ i.same_geometry h;
      as_honest = c.address.ensures.honest ∙ i.as_honest;
      as_calm = c.address.ensures.calm ∙ i.as_calm;
      kept = omega (arith, i.kept, c.address.ensures.failed);
      on = λ h r end t.
          let byte = get_or c.args.bytes.now c.loop-byte.byte-index 0 in
          let more = spells_more _ (g.B.Bus.die c.address.new.self) end (Address byte) _ r (c.in_ok-address.ensures.cycle (i.as_honest ∙ h)) t in
          i.on h r end (rw (left_from c.args.bytes.now c.loop-byte.byte-index byte c.loop-byte-test.true refl) more);
      sends_on = λ r end t.
          let byte = get_or c.args.bytes.now c.loop-byte.byte-index 0 in
          let more = sends_more (Calls g.B.Bus.die g.B.Bus.honest g.B.Bus.recorded g.B.Bus.called) _ c.address.new.self end (Address byte) _ (λ _. [])
          r (let e' = c.in_ok-address.ensures in record { said = e'.called; as_honest = e'.honest; step = e'.cycle; noted = e'.recorded }) t in
          i.sends_on r end (rw (left_from c.args.bytes.now c.loop-byte.byte-index byte c.loop-byte-test.true refl) more);
    }

pub returns-in_err-address-clause-sends : goal.returns-in_err-address-clause-sends
returns-in_err-address-clause-sends g c =
    let e = err_from_is_err_and c.from_residual.result c.from_residual.ensures.1 in
    let byte = get_or c.args.bytes.now c.loop-byte.byte-index 0 in
    let fault = c.in_err-address.field-0.0 in
    rw (e.1, e.2) (c.loop-byte.invariant.sends_on (Err fault) c.address.new.self
    (rw (left_from c.args.bytes.now c.loop-byte.byte-index byte c.loop-byte-test.true refl) (inl ([], (let e' = c.in_err-address.ensures in record { said = e'.called; as_honest = e'.honest; step = e'.cycle; noted = e'.recorded })))))

pub returns-in_err-address-clause-spells : goal.returns-in_err-address-clause-spells
returns-in_err-address-clause-spells g c = grind (arith, common_steps)

pub returns-clause-sends : goal.returns-clause-sends
returns-clause-sends g c = grind (arith, common_steps)

pub returns-clause-spells : goal.returns-clause-spells
returns-clause-spells g c = grind (arith, common_steps)
