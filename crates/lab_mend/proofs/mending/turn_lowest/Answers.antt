use Rattle.std.proofs.Common.{◌≡◌, ◌+◌, true, false, refl, sym, ap, ◌∙◌, subst, arith}
use Rattle.lab_dump.specs.PageBytes.{is_sound}
use Rattle.lab_mend.specs.Bits.{turned_bytes}
use Rattle.lab_mend.specs.Seal.{HasHashedPrefix}
use Rattle.lab_mend.proofs.BitLemmas.{back_again}
use Rattle.lab_mend.proofs.SealLemmas.{taken_turned}
use Rattle.lab_mend.proofs.MendLemmas.{asked_turned, found_in, none_in, none_more}
use Rattle.lab_mend.proofs.mending.turn_lowest.Goals as goal

pub is_sound-requires-clause-taken : goal.is_sound-requires-clause-taken
is_sound-requires-clause-taken c =
    let inv = c.loop-bit.invariant in
    let size = c.args.geometry.now.data_bytes in
    let bit = c.loop-bit.bit in
    let once : c.turn.new.bytes ≡ turned_bytes c.args.bytes.now bit = c.turn.ensures ∙ ap (λ b. turned_bytes b bit) inv.same in
    subst (λ b. HasHashedPrefix size b bit c.loop-bit.prefix) (sym once) (taken_turned size c.args.bytes.now bit c.loop-bit.prefix inv.taken)

pub pass-requires-clause-taken : goal.pass-requires-clause-taken
pass-requires-clause-taken c =
    let inv = c.loop-bit.invariant in
    let size = c.args.geometry.now.data_bytes in
    let bit = c.loop-bit.bit in
    let once : c.turn.new.bytes ≡ turned_bytes c.args.bytes.now bit = c.turn.ensures ∙ ap (λ b. turned_bytes b bit) inv.same in
    subst (λ b. HasHashedPrefix size b bit c.loop-bit.prefix) (sym (back_again c.args.bytes.now _ _ bit (omega arith) once c.turn-in-loop-bit.ensures)) inv.taken

pub returns-then-is_sound-clause-bit : goal.returns-then-is_sound-clause-bit
returns-then-is_sound-clause-bit c =
    let bytes = c.args.bytes.now in
    let size = c.args.geometry.now.data_bytes in
    let inv = c.loop-bit.invariant in
    let here = asked_turned is_sound size bytes c.loop-bit.bytes c.turn.new.bytes c.loop-bit.bit c.is_sound.result true inv.same c.turn.ensures c.is_sound.ensures c.if-is_sound.true in
    sym (found_in size bytes c.loop-bit.bit (omega arith) (omega arith) here inv.none)

pub loop-bit-preserved : goal.loop-bit-preserved
loop-bit-preserved c =
    let bytes = c.args.bytes.now in
    let size = c.args.geometry.now.data_bytes in
    let bit = c.loop-bit.bit in
    let inv = c.loop-bit.invariant in
    let here = asked_turned is_sound size bytes c.loop-bit.bytes c.turn.new.bytes bit c.is_sound.result false inv.same c.turn.ensures c.is_sound.ensures c.if-is_sound.false in
    let back = back_again bytes _ _ bit (omega arith) (c.turn.ensures ∙ ap (λ b. turned_bytes b bit) inv.same) c.turn-in-loop-bit.ensures in
    record {
      same = back;
      taken = subst (λ b. HasHashedPrefix size b (bit + 1) c.pass.new.self) back c.pass.ensures;
      none = none_more is_sound size bytes bit here inv.none;
    }

pub returns-clause-bit : goal.returns-clause-bit
returns-clause-bit c = sym (none_in c.args.geometry.now.data_bytes c.args.bytes.now (omega arith) (λ j l. c.loop-bit.invariant.none j (omega arith)))

pub loop-bit-init : goal.loop-bit-init
loop-bit-init c = record { same = refl; none = λ j l. absurd (omega arith); taken = c.new-prefix.ensures c.args.geometry.now.data_bytes c.args.bytes.now }
