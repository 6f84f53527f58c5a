use Rattle.std.proofs.Common.{◌≡◌, List, Bool, false, length, get_or, ap, refl, ◌∙◌}
use Rattle.std.specs.Vec.{with_items}
use Rattle.std.proofs.lemmas.List.{with_items_is, length-replicate}
use Rattle.lab_dump.proofs.ConcludeLemmas.{none_kept, seen_marked}
use Rattle.lab_dump.proofs.doubting.Doubting.conclude.Goals as goal

pub mark_kept-requires-clause-none : goal.mark_kept-requires-clause-none
mark_kept-requires-clause-none c = λ b. ap (λ (xs : List Bool). get_or xs b false) (c.deref_mut.ensures.value ∙ c.requires.stands.kept) ∙ none_kept c.args.geometry.now.blocks b

pub sum_blocks-requires : goal.sum_blocks-requires
sum_blocks-requires c =
    let self = c.args.self.now in
    let stands = c.requires.stands in
    let kept_is : (with_items self.kept c.mark_kept.new.kept).items ≡ c.mark_kept.new.kept = with_items_is self.kept c.mark_kept.new.kept (c.mark_kept.auto.kept ∙ c.deref_mut.ensures.len) in
    let blocks : length c.mark_kept.new.kept ≡ c.args.geometry.now.blocks = c.mark_kept.ensures.size ∙ (ap length (c.deref_mut.ensures.value ∙ stands.kept) ∙ length-replicate c.args.geometry.now.blocks false) in
    record { traces = stands.traces; tables = stands.tables; unsound = stands.unsound; holes = stands.holes; kept = ap length kept_is ∙ blocks }

pub returns : goal.returns
returns c =
    let g = c.args.geometry.now in
    let self = c.args.self.now in
    let kept_is : (with_items self.kept c.mark_kept.new.kept).items ≡ c.mark_kept.new.kept = with_items_is self.kept c.mark_kept.new.kept (c.mark_kept.auto.kept ∙ c.deref_mut.ensures.len) in
    let blocks : length c.mark_kept.new.kept ≡ g.blocks = c.mark_kept.ensures.size ∙ (ap length (c.deref_mut.ensures.value ∙ c.requires.stands.kept) ∙ length-replicate g.blocks false) in
    record {
      is = λ image size h. c.sum_blocks.ensures image size
          (seen_marked g image self _ _ _ _ _ _ size h c.deref.ensures.value c.is_plain-plain.ensures c.deref-2.ensures.value c.pages.ensures kept_is blocks c.mark_kept.ensures.each refl refl refl refl refl);
      legible = λ image size h. c.count_legible-self.ensures image size
          (seen_marked g image self _ _ _ _ _ _ size h c.deref.ensures.value c.is_plain-plain.ensures c.deref-2.ensures.value c.pages.ensures kept_is blocks c.mark_kept.ensures.each refl refl refl refl refl) h.said_is;
      said = λ image size h. with_items_is self.said c.judge.new.said (c.judge.auto.said ∙ c.deref_mut-2.ensures.len)
          ∙ c.judge.ensures image size (rw c.deref-3.ensures.value h.traces) (c.deref_mut-2.ensures.value ∙ h.said_is);
      unsound = refl;
      traces = refl;
    }
