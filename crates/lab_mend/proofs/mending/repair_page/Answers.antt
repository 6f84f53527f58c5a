use Rattle.std.proofs.Common.{◌≡◌, Some, None, sym, ap, ◌∙◌, arith}
use Rattle.lab_dump.specs.PageBytes.{page_from_bytes}
use Rattle.lab_mend.specs.declared.pairs.BitTurn.TheVariants.{One}
use Rattle.lab_mend.specs.Pairs.{by_pairs, page_turn_of, sound_pairs, page_turned_by}
use Rattle.lab_mend.proofs.PairLemmas.{repaired_by, turn_none, turn_one, turn_two, turn_whole}
use Rattle.lab_mend.proofs.mending.repair_page.Goals as goal

pub returns-in-Some : goal.returns-in-Some
returns-in-Some g c = record {
  turn = turn_one c.args.bits (page_from_bytes c.args.geometry.now.data_bytes c.args.bytes.now) c.in-Some.turned (sym c.is_broken.ensures ∙ c.if-is_broken.true) c.in-Some.ensures.turn;
  after =
      let p = page_from_bytes c.args.geometry.now.data_bytes c.args.bytes.now in
      c.in-Some.ensures.after ∙ sym (repaired_by c.args.bits p (Some (One c.in-Some.turned)) (sym (turn_one c.args.bits p c.in-Some.turned (sym c.is_broken.ensures ∙ c.if-is_broken.true) c.in-Some.ensures.turn)));
}

pub returns-then-bits-ge2 : goal.returns-then-bits-ge2
returns-then-bits-ge2 g c = record {
  turn =
      let p = page_from_bytes c.args.geometry.now.data_bytes c.args.bytes.now in
      ap Some (c.turn_pair.ensures.turn ∙ ap (λ q. by_pairs (sound_pairs q)) c.in-None.ensures.after) ∙ turn_two c.args.bits p (omega arith) (sym c.is_broken.ensures ∙ c.if-is_broken.true) c.in-None.ensures.turn;
  after =
      let p = page_from_bytes c.args.geometry.now.data_bytes c.args.bytes.now in
      let is : Some c.turn_pair.result ≡ page_turn_of c.args.bits p =
      ap Some (c.turn_pair.ensures.turn ∙ ap (λ q. by_pairs (sound_pairs q)) c.in-None.ensures.after) ∙ turn_two c.args.bits p (omega arith) (sym c.is_broken.ensures ∙ c.if-is_broken.true) c.in-None.ensures.turn in
      c.turn_pair.ensures.after ∙ (ap (λ q. page_turned_by q (Some c.turn_pair.result)) c.in-None.ensures.after ∙ sym (repaired_by c.args.bits p (Some c.turn_pair.result) (sym is)));
}

pub returns-else-bits-ge2 : goal.returns-else-bits-ge2
returns-else-bits-ge2 g c = record {
  turn = turn_none c.args.bits (page_from_bytes c.args.geometry.now.data_bytes c.args.bytes.now) (omega arith) (sym c.is_broken.ensures ∙ c.if-is_broken.true) c.in-None.ensures.turn;
  after =
      let p = page_from_bytes c.args.geometry.now.data_bytes c.args.bytes.now in
      c.in-None.ensures.after ∙ sym (repaired_by c.args.bits p None (sym (turn_none c.args.bits p (omega arith) (sym c.is_broken.ensures ∙ c.if-is_broken.true) c.in-None.ensures.turn)));
}

pub returns-else-is_broken : goal.returns-else-is_broken
returns-else-is_broken g c = record {
  turn = sym (turn_whole c.args.bits (page_from_bytes c.args.geometry.now.data_bytes c.args.bytes.now) (sym c.is_broken.ensures ∙ c.if-is_broken.false));
  after =
      let p = page_from_bytes c.args.geometry.now.data_bytes c.args.bytes.now in
      sym (repaired_by c.args.bits p None (turn_whole c.args.bits p (sym c.is_broken.ensures ∙ c.if-is_broken.false)));
}
