use Rattle.std.proofs.Common.{true, false, refl, sym, ap, ◌∙◌, arith}
use Rattle.page_layout.specs.Sound.{is_erased_page}
use Rattle.lab_mend.specs.Bits.{turned_bytes}
use Rattle.lab_mend.proofs.BitLemmas.{back_again}
use Rattle.lab_mend.proofs.MendLemmas.{asked_turned, erased_in, none_more, unerased_in}
use Rattle.lab_mend.proofs.mending.turn_erased.Goals as goal

pub returns-then-is_erased_in-clause-bit : goal.returns-then-is_erased_in-clause-bit
returns-then-is_erased_in-clause-bit c =
    let size = c.args.geometry.now.data_bytes in
    let inv = c.loop-bit.invariant in
    let here = asked_turned is_erased_page size c.args.bytes.now c.loop-bit.bytes c.turn.new.bytes c.loop-bit.bit c.is_erased_in.result true inv.same c.turn.ensures c.is_erased_in.ensures c.if-is_erased_in.true in
    sym (erased_in size c.args.bytes.now c.loop-bit.bit (omega arith) (omega arith) here inv.none)

pub loop-bit-preserved : goal.loop-bit-preserved
loop-bit-preserved c =
    let size = c.args.geometry.now.data_bytes in
    let inv = c.loop-bit.invariant in
    let here = asked_turned is_erased_page size c.args.bytes.now c.loop-bit.bytes c.turn.new.bytes c.loop-bit.bit c.is_erased_in.result false inv.same c.turn.ensures c.is_erased_in.ensures c.if-is_erased_in.false in
    record {
      same = back_again c.args.bytes.now _ _ c.loop-bit.bit (omega arith) (c.turn.ensures ∙ ap (λ b. turned_bytes b c.loop-bit.bit) inv.same) c.turn-in-loop-bit.ensures;
      none = none_more is_erased_page size c.args.bytes.now c.loop-bit.bit here inv.none;
    }

pub returns-clause-bit : goal.returns-clause-bit
returns-clause-bit c = sym (unerased_in c.args.geometry.now.data_bytes c.args.bytes.now (omega arith) (λ j l. c.loop-bit.invariant.none j (omega arith)))

pub loop-bit-init : goal.loop-bit-init
loop-bit-init c = record { same = refl; none = λ j l. absurd (omega arith) }
