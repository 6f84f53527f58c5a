use Rattle.std.proofs.Common.{◌≡◌, ◌∙◌, ◌+◌, ◌-◌, [], ◌++◌, refl, sym, ap, subst, arith}
use Rattle.lab_dump.specs.PageBytes.{is_sound, page_from_bytes, bits_of}
use Rattle.lab_mend.specs.Bits.{turned_bytes, with_bit_turned}
use Rattle.lab_mend.specs.Pairs.{pairs_with, second_bits, seen_with}
use Rattle.lab_mend.specs.Seal.{HasHashedPrefix}
use Rattle.lab_mend.proofs.BitLemmas.{back_again, count_page, turned_page}
use Rattle.lab_mend.proofs.SealLemmas.{taken_later, taken_turned}
use Rattle.lab_mend.proofs.PairLemmas.{bits_from, bits_found, bits_passed, bits_ended, second_is}
use Rattle.lab_mend.proofs.pairs.try_second.Goals as goal
use Rattle.lab_mend.proofs.pairs.try_second.Goals.{then-is_sound, else-is_sound}

pub loop-high-init : goal.loop-high-init
loop-high-init c =
    let size = c.args.geometry.now.data_bytes in
    let bytes = c.args.bytes.now in
    let low = c.args.low in
    let first : bits_from (page_from_bytes size bytes) (low + 1) (bits_of bytes - (low + 1)) ≡ second_bits (page_from_bytes size bytes) low =
    ap (λ n. bits_from (page_from_bytes size bytes) (low + 1) (n - (low + 1))) (sym (count_page size bytes)) ∙ second_is (page_from_bytes size bytes) low in
    record {
      same = refl;
      taken = c.copy-prefix.ensures size (low + 1) bytes (taken_later size bytes low c.args.prefix.now c.requires.taken);
      seen = λ more. ap (λ bs. seen_with c.args.seen (pairs_with low bs ++ more)) first;
    }

pub is_sound-requires-clause-taken : goal.is_sound-requires-clause-taken
is_sound-requires-clause-taken c =
    let inv = c.loop-high.invariant in
    let size = c.args.geometry.now.data_bytes in
    let high = c.loop-high.high in
    let once : c.turn.new.bytes ≡ turned_bytes c.args.bytes.now high = c.turn.ensures ∙ ap (λ b. turned_bytes b high) inv.same in
    subst (λ b. HasHashedPrefix size b high c.loop-high.prefix) (sym once) (taken_turned size c.args.bytes.now high c.loop-high.prefix inv.taken)

pub pass-requires-clause-taken : goal.pass-requires-clause-taken
pass-requires-clause-taken c =
    let inv = c.loop-high.invariant in
    let size = c.args.geometry.now.data_bytes in
    let high = c.loop-high.high in
    let once : c.turn.new.bytes ≡ turned_bytes c.args.bytes.now high = c.turn.ensures ∙ ap (λ b. turned_bytes b high) inv.same in
    subst (λ b. HasHashedPrefix size b high c.loop-high.prefix) (sym (back_again c.args.bytes.now _ _ high (omega arith) once c.turn-in-loop-high.ensures)) inv.taken

pub loop-high-preserved : goal.loop-high-preserved
loop-high-preserved c =
    let inv = c.loop-high.invariant in
    let size = c.args.geometry.now.data_bytes in
    let bytes = c.args.bytes.now in
    let low = c.args.low in
    let high = c.loop-high.high in
    let n = bits_of bytes in
    let p = page_from_bytes size bytes in
    let once : c.turn.new.bytes ≡ turned_bytes bytes high = c.turn.ensures ∙ ap (λ b. turned_bytes b high) inv.same in
    let back = back_again bytes _ _ high (omega arith) once c.turn-in-loop-high.ensures in
    let tested : is_sound (with_bit_turned p high) ≡ c.is_sound.result = ap is_sound (turned_page size bytes high (omega arith)) ∙ (ap (λ b. is_sound (page_from_bytes size b)) (sym once) ∙ sym c.is_sound.ensures) in
    record {
      same = back;
      taken = subst (λ b. HasHashedPrefix size b (high + 1) c.pass.new.self) back c.pass.ensures;
      seen = λ more. elim c.if-is_sound.branch [
        | then-is_sound w ↦
            ap (λ s. seen_with s (pairs_with low (bits_from p (high + 1) (n - (high + 1))) ++ more)) w.seen-is
            ∙ (w.with-seen.ensures (pairs_with low (bits_from p (high + 1) (n - (high + 1))) ++ more)
            ∙ (ap (λ bs. seen_with c.loop-high.seen (pairs_with low bs ++ more)) (sym (bits_found p high n (omega arith) (tested ∙ w.if-is_sound.true))) ∙ inv.seen more))
        | else-is_sound w ↦
            ap (λ s. seen_with s (pairs_with low (bits_from p (high + 1) (n - (high + 1))) ++ more)) w.seen-is
            ∙ (ap (λ bs. seen_with c.loop-high.seen (pairs_with low bs ++ more)) (sym (bits_passed p high n (omega arith) (tested ∙ w.if-is_sound.false))) ∙ inv.seen more)
      ];
    }

pub returns-clause-seen : goal.returns-clause-seen
returns-clause-seen c = λ more.
    let size = c.args.geometry.now.data_bytes in
    let bytes = c.args.bytes.now in
    let ended : bits_from (page_from_bytes size bytes) c.loop-high.high (bits_of bytes - c.loop-high.high) ≡ [] = bits_ended (page_from_bytes size bytes) c.loop-high.high (bits_of bytes) (omega arith) in
    ap (λ bs. seen_with c.loop-high.seen (pairs_with c.args.low bs ++ more)) (sym ended) ∙ c.loop-high.invariant.seen more
