use Rattle.std.proofs.Common.{◌≡◌, ◌+◌, ◌-◌, ◌∙◌, ℕ, ap, arith, length, map, replicate}
use Rattle.std.specs.Prelude.{slice_range}
use Rattle.std.proofs.lemmas.List.{length-map}
use Rattle.lab_arrange.specs.Place.{value_of}
use Rattle.lab_arrange.proofs.ReadLemmas.{bytes_whole}
use Rattle.lab_arrange.proofs.area.read_bytes.Goals as goal

pub returns-then-there-eq0-clause-read : goal.returns-then-there-eq0-clause-read
returns-then-there-eq0-clause-read g c = λ all told size.
    let n = length c.args.bytes.now in
    let there = c.there_of-there.result in
    let front : length c.split_at_mut-found.result.0.now ≡ there = omega (arith, c.split_at_mut-found.ensures.front_len) in
    let back : length c.split_at_mut-found.result.1.now ≡ n - there = omega (arith, c.split_at_mut-found.ensures.back_len) in
    bytes_whole c.args.inverted all c.args.size c.args.at n there c.split_at_mut-found.result.0.now c.clear.new.bytes size c.there_of-there.ensures
    (λ some. absurd (omega (arith, some, c.if-there-eq0.true))) front (c.clear.ensures ∙ ap (λ (k : ℕ). replicate k 0) back)

pub returns-clause-read : goal.returns-clause-read
returns-clause-read g c = λ all told size.
    let n = length c.args.bytes.now in
    let there = c.there_of-there.result in
    let front : length c.split_at_mut-found.result.0.now ≡ there = omega (arith, c.split_at_mut-found.ensures.front_len) in
    let back : length c.split_at_mut-found.result.1.now ≡ n - there = omega (arith, c.split_at_mut-found.ensures.back_len) in
    let kept : length c.read_at.new.buffer ≡ there = omega (arith, front, c.read_at.auto.buffer) in
    let read = c.in_ok-read_at.ensures.read all told ∙ ap (λ (k : ℕ). slice_range all c.args.at (c.args.at + k)) kept in
    bytes_whole c.args.inverted all c.args.size c.args.at n there c.turn_back.new.bytes c.clear.new.bytes size c.there_of-there.ensures
    (λ some. c.turn_back.ensures ∙ ap (map (value_of c.args.inverted)) read)
    (ap length c.turn_back.ensures ∙ (length-map c.read_at.new.buffer (value_of c.args.inverted) ∙ kept))
    (c.clear.ensures ∙ ap (λ (k : ℕ). replicate k 0) back)
