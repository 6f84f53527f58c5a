use Rattle.std.proofs.Common.{◌≡◌, ℕ, List, length, get_or, ap, sym, subst, ◌∙◌}
use Rattle.std.specs.Prelude.{IfSome, option_map}
use Rattle.std.specs.Global.{Vec}
use Rattle.std.specs.Vec.{with_items}
use Rattle.std.proofs.lemmas.List.{with_items_is}
use Rattle.certificate.specs.declared.block_state.BlockState.{BlockState}
use Rattle.image_check.specs.Surveyed.{Surveys}
use Rattle.lab_dump.specs.declared.held.KeyState.{KeyState}
use Rattle.lab_dump.specs.declared.trace.Trace.{Trace}
use Rattle.lab_dump.specs.Count.{unsound_below}
use Rattle.lab_dump.specs.Surveyed.{BlocksAs}
use Rattle.lab_dump.proofs.CountLemmas.{counts_whole}
use Rattle.lab_dump.proofs.KeyLemmas.{keys_stated, formed_all}
use Rattle.lab_dump.proofs.survey.conclude.Goals as goal

pub returns : goal.returns
returns c = record {
  whole =
      let s = c.args.seeing in
      let keys_is : (with_items s.keys c.note_keys.new.keys).items ≡ c.note_keys.new.keys = with_items_is s.keys c.note_keys.new.keys (c.note_keys.auto.keys ∙ c.deref_mut.ensures.len) in
      record {
        keys = ap (λ (xs : List KeyState). length xs) keys_is ∙ (c.note_keys.ensures.size ∙ (ap (λ (xs : List Trace). length xs) c.deref.ensures.value ∙ c.requires.doubting.traces));
        formed = c.requires.formed;
        unsound = ap (λ (v : Vec ℕ). length v.items) c.conclude-doubts.ensures.unsound ∙ c.requires.doubting.unsound;
        blocks = subst (λ k. IfSome c.blocks_of-blocks.result (λ states. length states.items ≡ k.blocks)) c.requires.geometry_is c.blocks_of-blocks.ensures.size;
      };
  survey = λ image whole h.
      let s = c.args.seeing in
      let geo = c.args.geometry.now in
      let keys_is : (with_items s.keys c.note_keys.new.keys).items ≡ c.note_keys.new.keys = with_items_is s.keys c.note_keys.new.keys (c.note_keys.auto.keys ∙ c.deref_mut.ensures.len) in
      let stand = keys_stated geo image s.doubting.traces.items c.note_keys.new.keys whole h.doubting.traces (rw (← c.deref.ensures.value) c.note_keys.ensures.each) in
      record {
        counts = counts_whole geo image _ s.counts whole h.counts;
        repeated = c.shared_sequence-repeated.ensures geo image s.survey.pairs.items whole h.survey.pairs (rw c.deref_mut-2.ensures.value c.blocks_of-blocks.ensures.permutation);
        keys = rw keys_is stand;
        formed = formed_all geo image s.formed.items whole h.formed;
        unsound = λ b l. ap (λ (v : Vec ℕ). get_or v.items b 0) c.conclude-doubts.ensures.unsound ∙ (h.doubting.unsound.at b l ∙ ap (λ n. unsound_below geo image n b) (sym whole));
        blocks = subst (λ k. Surveys k image s.survey → BlocksAs k image (option_map (λ (v : Vec BlockState). v.items) c.blocks_of-blocks.result)) c.requires.geometry_is (c.blocks_of-blocks.ensures.blocks image) (record { whole = whole; survey = h.survey });
        said_is = c.conclude-doubts.ensures.said image whole h.doubting;
        legible_is = c.conclude-doubts.ensures.legible image whole h.doubting;
        doubts_is = c.conclude-doubts.ensures.is image whole h.doubting;
      };
}
