use Rattle.std.proofs.Common.{ℕ, ◌*◌, ◌%◌, ◌<◌, ◌≤◌, ◌∙◌, subst, arith, true, false}
use Rattle.std.proofs.lemmas.Bool.{lt-ltb, le-ltb}
use Rattle.page_layout.specs.Word.{word_at}
use Rattle.lab_dump.proofs.ToldLemmas.{used_more, used_all}
use Rattle.lab_dump.proofs.told.words_used.Goals.{then-read_word-lt-CLASSES, else-read_word-lt-CLASSES}
use Rattle.lab_dump.proofs.told.words_used.Goals as goal

pub loop-i-preserved : goal.loop-i-preserved
loop-i-preserved c =
    let inv = c.loop-i.invariant in
    let body = c.args.body.now in
    let i = c.loop-i.i in
    let class : ℕ = word_at body (4 * i) % 256 in
    elim c.if-read_word-lt-CLASSES.branch [
      | then-read_word-lt-CLASSES w ↦
          let few = inv.few in
          let low : class < 3 = subst (λ (n : ℕ). n % 256 < 3) c.read_word.ensures w.if-read_word-lt-CLASSES.true in
          record { few = rw w.used-is (omega arith); used = w.used-is ∙ used_more body i c.loop-i.used true inv.used (lt-ltb class 3 low) }
      | else-read_word-lt-CLASSES w ↦
          let few = inv.few in
          let high : 3 ≤ class = subst (λ (n : ℕ). 3 ≤ n % 256) c.read_word.ensures w.if-read_word-lt-CLASSES.false in
          record { few = rw w.used-is (omega arith); used = w.used-is ∙ (omega arith ∙ used_more body i c.loop-i.used false inv.used (le-ltb class 3 high)) }
    ]

pub returns-clause-is : goal.returns-clause-is
returns-clause-is c = used_all c.args.body.now c.loop-i.i c.loop-i.used (omega (arith, c.loop-i-test.false, c.loop-i.auto.i-end)) c.loop-i.invariant.used
