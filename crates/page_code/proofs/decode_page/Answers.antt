use Rattle.std.proofs.Common.{◌+◌, ◌-◌, length, take, drop, ap, ◌∙◌, sym, subst, refl, arith}
use Rattle.error_correction.specs.Bits.{bits_apart}
use Rattle.error_correction.specs.Correct.{wrong_bits}
use Rattle.page_code.specs.Layout.{chunk_count, codes_of}
use Rattle.page_code.specs.Near.{AreNear}
use Rattle.page_code.proofs.PutRight.{codes_of_body, code_of_plain}
use Rattle.page_code.proofs.Wrongs.{page_wrong}
use Rattle.page_code.proofs.decode_page.Goals as goal

pub returns-clause-wrong : goal.returns-clause-wrong
returns-clause-wrong c =
    let g = c.args.geometry.now in
    let body = c.args.body.now in
    let outer = c.args.outer.now in
    let n = length c.args.spare.now in
    let e = c.requires.spare_whole in
    let new = c.decode_chunks.new.body in
    let spare = c.correct.new.chunk in
    let plain = c.copy_from_slice.ensures.after ∙ ap (λ k. take k outer) e in
    page_wrong g new body spare outer c.in_ok-here.here c.in_ok-rest.rest _ (c.correct.auto.chunk ∙ (c.copy_from_slice.auto.self ∙ e))
    (ap (λ z. wrong_bits spare (take g.spare_bytes outer) z) (sym (code_of_plain n g.spare_bytes outer e)) ∙ (ap (λ z. wrong_bits spare z (take (n + 3 - n) (drop n outer))) (sym plain) ∙ c.in_ok-here.ensures.found.1))
    (c.in_ok-rest.ensures.wrong
    ∙ (ap (λ k. bits_apart new body + bits_apart (codes_of k new) (take (length outer - (n + 3)) (drop (n + 3) outer))) c.chunk_count.ensures
    ∙ ap (λ z. bits_apart new body + bits_apart (codes_of (chunk_count g) new) z) (codes_of_body n g.spare_bytes outer e))) refl

pub returns-clause-near : goal.returns-clause-near
returns-clause-near c =
    let g = c.args.geometry.now in
    let body = c.args.body.now in
    let outer = c.args.outer.now in
    let n = length c.args.spare.now in
    let e = c.requires.spare_whole in
    let new = c.decode_chunks.new.body in
    let spare = c.correct.new.chunk in
    let plain = c.copy_from_slice.ensures.after ∙ ap (λ k. take k outer) e in
    let here = ap (λ z. wrong_bits spare (take g.spare_bytes outer) z) (sym (code_of_plain n g.spare_bytes outer e))
    ∙ (ap (λ z. wrong_bits spare z (take (n + 3 - n) (drop n outer))) (sym plain) ∙ c.in_ok-here.ensures.found.1) in
    record {
      spare = omega (arith, here, c.in_ok-here.ensures.found.0);
      chunks = subst (λ k. AreNear k new body (drop (g.spare_bytes + 3) outer)) c.chunk_count.ensures
          (subst (λ z. AreNear c.chunk_count.result new body z) (codes_of_body n g.spare_bytes outer e) c.in_ok-rest.ensures.near);
    }

pub returns-in_err-rest-clause-far : goal.returns-in_err-rest-clause-far
returns-in_err-rest-clause-far c = rw c.from_residual-in_err-rest.ensures (λ right is_page near.
    let g = c.args.geometry.now in
    let body = c.args.body.now in
    let outer = c.args.outer.now in
    let n = length c.args.spare.now in
    c.in_err-rest.ensures.far right.body (is_page.body_size ∙ sym c.requires.body_whole) is_page.body_fits
    (subst (λ k. AreNear k right.body body (take (length outer - (n + 3)) (drop (n + 3) outer))) (sym c.chunk_count.ensures)
    (subst (λ z. AreNear (chunk_count g) right.body body z) (sym (codes_of_body n g.spare_bytes outer c.requires.spare_whole)) near.chunks)))
