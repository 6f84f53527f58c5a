use Rattle.std.proofs.Common.{◌≡◌, ◌<◌, ◌+◌, ◌*◌, ◌∙◌, length, ap, subst, sym, refl}
use Rattle.std.proofs.lemmas.Result.{err_from_is_err_and}
use Rattle.page_layout.specs.Flash.{Flash}
use Rattle.page_layout.specs.Geometry.{row_count}
use Rattle.page_layout.specs.Page.{IsImage}
use Rattle.bad_blocks.specs.Marks.{is_marked}
use Rattle.image_check.proofs.ReadLemmas.{reads_none, reads_then, risen_over, none_below, at_end}
use Rattle.mount.specs.Fresh.{is_used, IsFirst}
use Rattle.mount.proofs.CountLemmas.{attempts_start, attempts_next, blocks_start, blocks_more, blocks_all, blocks_stopped, attempts_to}
use Rattle.mount.proofs.FirstLemmas.{none_yet}
use Rattle.mount.proofs.SurveyLemmas.{no_class, classes_more, classes_table, first_more, IfSome-or, some_blocks}
use Rattle.mount.proofs.format_survey.survey.Goals as goal

pub loop-block-init : goal.loop-block-init
loop-block-init g c = record {
  classes = λ h k below. absurd (no_class below);
  first = λ h. none_yet _ _;
  row = tt;
  same = λ h. refl;
  whole = λ h some. absurd (none_below some);
  only_reads = reads_none _ _;
  reads = λ fits. blocks_start _ _;
  most_reads = attempts_start _ _;
}

pub survey_block-requires : goal.survey_block-requires
survey_block-requires g c = record {
  within = subst (λ n. c.loop-block.block < n) c.blocks-block-end.ensures c.loop-block-test.true;
  geometry = c.loop-block.invariant.only_reads.geometry_is ∙ c.requires.geometry;
  body_whole = c.loop-block.auto.body ∙ c.requires.body_whole;
  spare_whole = c.loop-block.auto.spare ∙ c.requires.spare_whole;
}

pub loop-block-preserved : goal.loop-block-preserved
loop-block-preserved g c =
    let geometry = c.args.geometry.now in
    let image = (g.S.PageSource.view.flash c.args.source.now).image in
    let i = c.loop-block.invariant in
    let block = c.loop-block.block in
    let from = block * geometry.pages in
    let made = c.in_ok-marked.ensures in
    let within : block < length c.loop-block.classes = subst (λ n. block < n) (c.blocks-block-end.ensures ∙ sym (c.loop-block.auto.classes ∙ c.requires.classes_whole)) c.loop-block-test.true in
    record {
      classes = λ h. classes_more geometry image block c.in_ok-marked.marked c.fresh_class.result c.loop-block.classes
          (made.marked (i.only_reads.honest_is ∙ h) ∙ ap (λ (f : Flash). is_marked geometry f.image block) (i.same h)) c.fresh_class.ensures within (i.classes h);
      first = λ h. rw c.or-first.ensures (first_more (is_used geometry image) block geometry.pages c.loop-block.first c.in_ok-marked.used (i.first h)
          (subst (λ (f : Flash). IsFirst (is_used geometry f.image) from (from + geometry.pages) c.in_ok-marked.used) (i.same h) (made.first (i.only_reads.honest_is ∙ h))));
      row = rw c.or-first.ensures (IfSome-or (λ row. row < row_count geometry) c.loop-block.first c.in_ok-marked.used i.row made.row);
      same = λ h. made.same (i.only_reads.honest_is ∙ h) ∙ i.same h;
      whole = λ h some. subst (λ (f : Flash). IsImage geometry f.image) (i.same h) (made.whole (i.only_reads.honest_is ∙ h));
      only_reads = reads_then _ _ _ _ i.only_reads made.only_reads;
      reads = blocks_more _ _ _ _ _ i.reads made.reads;
      most_reads = attempts_next _ _ _ _ _ i.most_reads made.most_reads;
    }

pub returns-in_err-marked : goal.returns-in_err-marked
returns-in_err-marked g c =
    let p = err_from_is_err_and c.from_residual.result c.from_residual.ensures.1 in
    let i = c.loop-block.invariant in
    let made = c.in_err-marked.ensures in
    rw (p.1, p.2) (record {
      table = tt;
      first = tt;
      row = tt;
      only = refl;
      same = tt;
      whole = tt;
      only_reads = reads_then _ _ _ _ i.only_reads made.only_reads;
      reads = tt;
      most_reads = blocks_stopped _ _ _ _ _ _ _ i.most_reads made.most_reads c.loop-block-test.true c.blocks-block-end.ensures;
      rose = risen_over _ _ _ i.only_reads.failed_is made.rose;
    })

pub returns : goal.returns
returns g c =
    let geo = c.args.geometry.now in
    let flash = g.S.PageSource.view.flash c.args.source.now in
    let i = c.loop-block.invariant in
    let end : c.loop-block.block ≡ geo.blocks = at_end _ _ _ c.loop-block.auto.block-end c.loop-block-test.false c.blocks-block-end.ensures in
    record {
      table = λ h. classes_table geo flash.image c.loop-block.classes (c.loop-block.auto.classes ∙ c.requires.classes_whole) (λ k below. i.classes h k (subst (λ n. k < n) (sym end) below));
      first = λ h. subst (λ n. IsFirst (is_used geo flash.image) 0 (n * geo.pages) c.loop-block.first) end (i.first h);
      row = i.row;
      only = tt;
      same = i.same;
      whole = λ h. i.whole h (subst (λ n. 0 < n) (sym end) (some_blocks geo));
      only_reads = i.only_reads;
      reads = blocks_all _ _ _ _ _ i.reads end;
      most_reads = attempts_to _ _ _ _ _ i.most_reads end;
      rose = tt;
    }
