use Rattle.std.proofs.Common.{◌≡◌, ◌++◌, ◌-◌, length, take, drop, refl, sym, ap, ◌∙◌, subst, arith, length-take, length-drop}
use Rattle.std.proofs.lemmas.List.{take_at, drop_at}
use borrow.Rule.Slice.PartMut.{put_mid}
use Rattle.error_correction.specs.Code.{code_of}
use Rattle.page_code.specs.Layout.{codes_of}
use Rattle.page_code.specs.Near.{AreNear}
use Rattle.page_code.proofs.Chunks.{codes_step}
use Rattle.page_code.proofs.Parts.{first_256, after_256, tail_put, rest_is}
use Rattle.noisy_chip.proofs.Turns.{more_near}
use Rattle.noisy_chip.proofs.garble.+turn_chunks.Goals as goal

pub returns : goal.returns
returns t c = λ e.
    let n = c.args.count in
    let body = c.args.body.now in
    let codes = c.args.codes.now in
    let s = c.min-size.result in
    let m = c.min-size.ensures in
    let none = c.if-count-eq0.false in
    let new = c.turn_one.new.chunk in
    let code = c.turn_one.new.code in
    let ys = c.turn_chunks.new.body in
    let rest = c.turn_chunks.new.codes in
    let whole = c.requires.whole in
    let size : length new ≡ s = c.turn_one.auto.chunk ∙ omega (arith, length-take s body, m) in
    let three : length code ≡ 3 = c.turn_one.auto.code ∙ omega (arith, length-take 3 codes, whole, none) in
    let its = rest_is s new body size in
    let others = rest_is 3 code codes three in
    let more : length ys ≡ length body - s = c.turn_chunks.auto.body ∙ (ap length its ∙ length-drop s body) in
    let step : codes ≡ code_of (take 256 body) ++ codes_of (n - 1) (drop 256 body) = e ∙ codes_step n body none in
    let first : take 3 codes ≡ code_of (take s body) = ap (take 3) step ∙ (take_at (code_of (take 256 body)) (codes_of (n - 1) (drop 256 body)) 3 refl ∙ ap code_of (sym (first_256 body s m))) in
    let later : drop 3 codes ≡ codes_of (n - 1) (drop 256 body) = ap (drop 3) step ∙ drop_at (code_of (take 256 body)) (codes_of (n - 1) (drop 256 body)) 3 refl in
    let near = subst (λ z. AreNear (n - 1) z ys rest) its (c.turn_chunks.ensures (others ∙ (later ∙ ap (codes_of (n - 1)) (sym (its ∙ after_256 body s m))))) in
    subst (λ z. AreNear n body z (put_mid 3 (length (code ++ drop 3 codes) - 3) (code ++ drop 3 codes) rest)) (sym (tail_put s new (drop s body) ys size)) (subst (λ z. AreNear n body (new ++ ys) z) (sym (tail_put 3 code (drop 3 codes) rest three))
    (more_near n s body new ys code rest none m size more three (c.turn_one.ensures.most first) near))
