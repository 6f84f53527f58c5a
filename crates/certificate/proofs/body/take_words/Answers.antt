use Rattle.std.proofs.Common.{◌<◌, ◌++◌, ◌∷◌, [], List, ℕ, length, ap, sym, ◌∙◌, append_assoc, arith}
use Rattle.std.proofs.lemmas.List.{append-nil}
use Rattle.certificate.specs.Reading.{words_of}
use Rattle.certificate.proofs.RowLemmas.{words_more, words_end}
use Rattle.certificate.proofs.body.take_words.Goals as goal

pub loop-preserved : goal.loop-preserved
loop-preserved c =
    let rest = c.loop.rest.now in
    let after = c.split_at.result.1.now in
    let items = c.loop.words.items in
    let more = words_more rest c.split_at.result.0.now after (omega arith) c.split_at.ensures.front c.split_at.ensures.back in
    let grown = rw c.unwrap.ensures at c.push.ensures.items in
    let longer = rw c.unwrap.ensures at c.push.ensures.len in
    record {
      read = rw grown (append_assoc items (c.from_le_bytes.result ∷ []) (words_of after) ∙ (ap (λ (ws : List ℕ). items ++ ws) (ap (λ (n : ℕ). n ∷ words_of after) c.from_le_bytes.ensures ∙ sym more) ∙ c.loop.invariant.read));
      left = omega arith;
      room = omega (arith, longer, c.push.ensures.capacity);
    }

pub returns : goal.returns
returns c =
    let short : length c.loop.rest.now < 4 = omega arith in
    sym (append-nil c.loop.words.items) ∙ (ap (λ (ws : List ℕ). c.loop.words.items ++ ws) (sym (words_end c.loop.rest.now short)) ∙ c.loop.invariant.read)
