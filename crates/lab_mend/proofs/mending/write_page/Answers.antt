use Rattle.std.proofs.Common.{◌≡◌, ◌∙◌, true, false, sym, ap, arith}
use Rattle.page_layout.specs.Page.{page}
use Rattle.lab_dump.specs.PageBytes.{page_from_bytes}
use Rattle.lab_dump.specs.Rows.{is_asked}
use Rattle.lab_dump.proofs.PageLemmas.{page_joined}
use Rattle.lab_mend.specs.Pairs.{page_turn_of}
use Rattle.lab_mend.specs.Repairing.{repaired_bytes}
use Rattle.lab_mend.proofs.RepairedLemmas.{repaired_own, repaired_piece, unasked_own, asked_same, unasked_same, asked_piece, unasked_piece}
use Rattle.lab_mend.proofs.mending.write_page.Goals as goal

pub returns-then-is_asked : goal.returns-then-is_asked
returns-then-is_asked g c = record {
  turn =
      let d = c.args.geometry.now.data_bytes in
      let bits = c.args.asked.bits in
      let is : is_asked c.args.asked.rows c.args.row ≡ true = sym c.is_asked.ensures ∙ c.if-is_asked.true in
      asked_same c.args.asked c.args.row (page c.args.body.now c.args.spare.now) c.repair_page.result is
      (c.repair_page.ensures.turn ∙ ap (page_turn_of bits) (ap (page_from_bytes d) c.join_page.ensures ∙ page_joined c.args.body.now c.args.spare.now d c.requires.body_whole));
  piece =
      let d = c.args.geometry.now.data_bytes in
      let bits = c.args.asked.bits in
      let is : is_asked c.args.asked.rows c.args.row ≡ true = sym c.is_asked.ensures ∙ c.if-is_asked.true in
      repaired_piece c.args.geometry.now bits c.join_page.new.bytes c.repair_page.new.bytes c.repair_page.ensures.after
      ∙ (ap (repaired_bytes bits) (ap (page_from_bytes d) c.join_page.ensures ∙ page_joined c.args.body.now c.args.spare.now d c.requires.body_whole)
      ∙ sym (asked_piece c.args.asked c.args.row (page c.args.body.now c.args.spare.now) is));
  own =
      repaired_own c.args.geometry.now c.args.asked c.args.row c.join_page.new.bytes c.repair_page.new.bytes c.repair_page.result (sym c.is_asked.ensures ∙ c.if-is_asked.true)
      c.repair_page.ensures.turn c.repair_page.ensures.after (omega arith);
}

pub returns-else-is_asked : goal.returns-else-is_asked
returns-else-is_asked g c = record {
  turn = unasked_same c.args.asked c.args.row (page c.args.body.now c.args.spare.now) (sym c.is_asked.ensures ∙ c.if-is_asked.false);
  piece =
      let is : is_asked c.args.asked.rows c.args.row ≡ false = sym c.is_asked.ensures ∙ c.if-is_asked.false in
      c.join_page.ensures ∙ sym (unasked_piece c.args.asked c.args.row (page c.args.body.now c.args.spare.now) is);
  own = unasked_own c.args.geometry.now c.args.asked c.args.row c.join_page.new.bytes (sym c.is_asked.ensures ∙ c.if-is_asked.false) (omega arith);
}
