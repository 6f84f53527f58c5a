use Rattle.std.proofs.Common.{◌≡◌, ◌∙◌, ◌+◌, ◌-◌, ◌++◌, [], refl, sym, ap, subst, arith}
use Rattle.lab_dump.specs.PageBytes.{page_from_bytes, bits_of}
use Rattle.lab_mend.specs.Bits.{turned_bytes, with_bit_turned}
use Rattle.lab_mend.specs.Pairs.{by_pairs, pairs_with, second_bits, seen_with}
use Rattle.lab_mend.specs.Seal.{HasHashedPrefix}
use Rattle.lab_mend.proofs.BitLemmas.{back_again, count_page, turned_page}
use Rattle.lab_mend.proofs.SealLemmas.{taken_turned}
use Rattle.lab_mend.proofs.PairLemmas.{pairs_from, pairs_are, pairs_step, pairs_ended}
use Rattle.lab_mend.proofs.pairs.try_pairs.Goals as goal

pub loop-low-init : goal.loop-low-init
loop-low-init g c =
    let size = c.args.geometry.now.data_bytes in
    let bytes = c.args.bytes.now in
    let p = page_from_bytes size bytes in
    let all : bits_of bytes - 0 ≡ bits_of bytes = omega arith in
    record {
      same = refl;
      taken = c.new-prefix.ensures size bytes;
      seen = ap by_pairs (ap (pairs_from p 0) all ∙ (ap (pairs_from p 0) (sym (count_page size bytes)) ∙ pairs_are p));
    }

pub try_second-seen-requires-clause-taken : goal.try_second-seen-requires-clause-taken
try_second-seen-requires-clause-taken g c =
    let inv = c.loop-low.invariant in
    let size = c.args.geometry.now.data_bytes in
    let low = c.loop-low.low in
    let once : c.turn.new.bytes ≡ turned_bytes c.args.bytes.now low = c.turn.ensures ∙ ap (λ b. turned_bytes b low) inv.same in
    subst (λ b. HasHashedPrefix size b low c.loop-low.prefix) (sym once) (taken_turned size c.args.bytes.now low c.loop-low.prefix inv.taken)

pub pass-requires-clause-taken : goal.pass-requires-clause-taken
pass-requires-clause-taken g c =
    let inv = c.loop-low.invariant in
    let size = c.args.geometry.now.data_bytes in
    let low = c.loop-low.low in
    let once : c.try_second-seen.new.bytes ≡ turned_bytes c.args.bytes.now low = c.try_second-seen.ensures.same ∙ (c.turn.ensures ∙ ap (λ b. turned_bytes b low) inv.same) in
    subst (λ b. HasHashedPrefix size b low c.loop-low.prefix) (sym (back_again c.args.bytes.now _ _ low (omega arith) once c.turn-in-loop-low.ensures)) inv.taken

pub loop-low-preserved : goal.loop-low-preserved
loop-low-preserved g c =
    let inv = c.loop-low.invariant in
    let size = c.args.geometry.now.data_bytes in
    let bytes = c.args.bytes.now in
    let low = c.loop-low.low in
    let n = bits_of bytes in
    let p = page_from_bytes size bytes in
    let turns : c.turn.new.bytes ≡ turned_bytes bytes low = c.turn.ensures ∙ ap (λ b. turned_bytes b low) inv.same in
    let once : c.try_second-seen.new.bytes ≡ turned_bytes bytes low = c.try_second-seen.ensures.same ∙ turns in
    let back = back_again bytes _ _ low (omega arith) once c.turn-in-loop-low.ensures in
    let rest = pairs_from p (low + 1) (n - (low + 1)) in
    let page : page_from_bytes size c.turn.new.bytes ≡ with_bit_turned p low = ap (page_from_bytes size) turns ∙ sym (turned_page size bytes low (omega arith)) in
    record {
      same = back;
      taken = subst (λ b. HasHashedPrefix size b (low + 1) c.pass.new.self) back c.pass.ensures;
      seen =
          c.try_second-seen.ensures.seen rest
          ∙ (ap (λ q. seen_with c.loop-low.seen (pairs_with low (second_bits q low) ++ rest)) page
          ∙ (ap (seen_with c.loop-low.seen) (sym (pairs_step p low n (omega arith))) ∙ inv.seen));
    }

pub returns-clause-turn : goal.returns-clause-turn
returns-clause-turn g c =
    let size = c.args.geometry.now.data_bytes in
    let bytes = c.args.bytes.now in
    let ended : pairs_from (page_from_bytes size bytes) c.loop-low.low (bits_of bytes - c.loop-low.low) ≡ [] = pairs_ended (page_from_bytes size bytes) c.loop-low.low (bits_of bytes) (omega arith) in
    c.turn-2.ensures ∙ (ap (seen_with c.loop-low.seen) (sym ended) ∙ c.loop-low.invariant.seen)
