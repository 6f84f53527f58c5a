use Rattle.std.proofs.Common.{◌≡◌, ◌+◌, true, ◌||◌, get_or, sym, ◌∙◌, ap, subst}
use Rattle.std.proofs.lemmas.Result.{err_from_is_err_and}
use Rattle.page_layout.specs.Flash.{Flash, page_at, no_page}
use Rattle.image_check.proofs.ReadLemmas.{reads_then, risen_over}
use Rattle.mount.specs.Fresh.{is_page_used, is_used, IsFirst}
use Rattle.mount.specs.FreshLook.{fresh_look_of, is_look_used}
use Rattle.mount.specs.declared.format_survey.FreshLook.{FreshLook}
use Rattle.mount.proofs.SurveyLemmas.{block_rows, is_used-block, first_used-block, reads_first, reads_last, reads_inner, reads_whole, row_past, two_pages, or_then, or_else, marked_block}
use Rattle.mount.proofs.format_survey.survey_block.Goals.{then-first, else-first}
use Rattle.mount.proofs.format_survey.survey_block.Goals as goal

pub read_look-requires : goal.read_look-requires
read_look-requires g c = record {
  within = c.row-first_row.ensures.within;
  geometry = c.requires.geometry;
  body_whole = c.requires.body_whole;
  spare_whole = c.requires.spare_whole;
}

pub read_look-requires-2 : goal.read_look-requires-2
read_look-requires-2 g c = record {
  within = c.row-last_row.ensures.within;
  geometry = c.in_ok-first.ensures.only_reads.geometry_is ∙ c.requires.geometry;
  body_whole = c.read_look.auto.body ∙ c.requires.body_whole;
  spare_whole = c.read_look.auto.spare ∙ c.requires.spare_whole;
}

pub used_between-requires : goal.used_between-requires
used_between-requires g c =
    let rows = block_rows c.args.geometry.now c.args.block _ _ _ c.row-first_row.ensures.is c.row-last_row.ensures.is c.row-last_row.ensures.within c.pages.ensures in
    record {
      order = rows.inner_order;
      within = rows.inner_in;
      geometry = (c.in_ok-last.ensures.only_reads.geometry_is ∙ c.in_ok-first.ensures.only_reads.geometry_is) ∙ c.requires.geometry;
      body_whole = (c.read_look-2.auto.body ∙ c.read_look.auto.body) ∙ c.requires.body_whole;
      spare_whole = (c.read_look-2.auto.spare ∙ c.read_look.auto.spare) ∙ c.requires.spare_whole;
    }

pub first_of_block-used-requires : goal.first_of_block-used-requires
first_of_block-used-requires g c = record {
  order = (block_rows c.args.geometry.now c.args.block _ _ _ c.row-first_row.ensures.is c.row-last_row.ensures.is c.row-last_row.ensures.within c.pages.ensures).order;
  row = c.in_ok-inner.ensures.row;
}

pub returns-in_err-first : goal.returns-in_err-first
returns-in_err-first g c =
    let p = err_from_is_err_and c.from_residual.result c.from_residual.ensures.1 in
    let read = c.in_err-first.ensures in
    rw p.1 (record {
      marked = tt;
      first = tt;
      row = tt;
      same = tt;
      whole = tt;
      only_reads = read.only_reads;
      reads = tt;
      most_reads = reads_first _ _ _ read.reads (two_pages c.args.geometry.now);
      rose = read.rose;
    })

pub returns-in_err-last : goal.returns-in_err-last
returns-in_err-last g c =
    let p = err_from_is_err_and c.from_residual-in_err-last.result c.from_residual-in_err-last.ensures.1 in
    let before = c.in_ok-first.ensures in
    let read = c.in_err-last.ensures in
    rw p.1 (record {
      marked = tt;
      first = tt;
      row = tt;
      same = tt;
      whole = tt;
      only_reads = reads_then _ _ _ _ before.only_reads read.only_reads;
      reads = tt;
      most_reads = reads_last _ _ _ _ before.reads read.reads (two_pages c.args.geometry.now);
      rose = risen_over _ _ _ before.only_reads.failed_is read.rose;
    })

pub returns-in_err-inner : goal.returns-in_err-inner
returns-in_err-inner g c =
    let p = err_from_is_err_and c.from_residual-in_err-inner.result c.from_residual-in_err-inner.ensures.1 in
    let rows = block_rows c.args.geometry.now c.args.block _ _ _ c.row-first_row.ensures.is c.row-last_row.ensures.is c.row-last_row.ensures.within c.pages.ensures in
    let before = reads_then _ _ _ _ c.in_ok-first.ensures.only_reads c.in_ok-last.ensures.only_reads in
    let read = c.in_err-inner.ensures in
    rw p.1 (record {
      marked = tt;
      first = tt;
      row = tt;
      same = tt;
      whole = tt;
      only_reads = reads_then _ _ _ _ before read.only_reads;
      reads = tt;
      most_reads = reads_inner _ _ _ _ _ _ c.in_ok-first.ensures.reads c.in_ok-last.ensures.reads read.most_reads rows.all;
      rose = risen_over _ _ _ before.failed_is read.rose;
    })

pub returns : goal.returns
returns g c =
    let geometry = c.args.geometry.now in
    let flash = g.S.PageSource.view.flash c.args.source.now in
    let block = c.args.block in
    let marked = c.if-first.marked in
    let first_row = c.row-first_row.result in
    let last_row = c.row-last_row.result in
    let rows = block_rows geometry block _ _ _ c.row-first_row.ensures.is c.row-last_row.ensures.is c.row-last_row.ensures.within c.pages.ensures in
    let made1 = c.in_ok-first.ensures in
    let made2 = c.in_ok-last.ensures in
    let made = c.in_ok-inner.ensures in
    let before = reads_then _ _ _ _ made1.only_reads made2.only_reads in
    let either : marked ≡ c.in_ok-first.first.has_zero || c.in_ok-last.last.has_zero = elim c.if-first.branch [
      | then-first w ↦ or_then _ _ _ w.if-first.true w.marked-is
      | else-first w ↦ or_else _ _ _ w.if-first.false w.marked-is
    ] in
    let last_look = λ (h : g.S.PageSource.view.honest c.args.source.now ≡ true). made2.looked (made1.only_reads.honest_is ∙ h) ∙ ap (λ (f : Flash). fresh_look_of (page_at f last_row)) (made1.same h) in
    let marked_is = λ (h : g.S.PageSource.view.honest c.args.source.now ≡ true).
    marked_block geometry flash.image block first_row last_row _ marked _ _ either (made1.looked h) (last_look h) rows.first_is c.row-last_row.ensures.is c.pages.ensures in
    record {
      marked = marked_is;
      first = λ h.
          let is = marked_is h in
          let inner : IsFirst (λ row. is_page_used marked (get_or flash.image row no_page)) (first_row + 1) last_row c.in_ok-inner.inner =
          subst (λ (f : Flash). IsFirst (λ row. is_page_used marked (page_at f row)) (first_row + 1) last_row c.in_ok-inner.inner) (made2.same (made1.only_reads.honest_is ∙ h) ∙ made1.same h) (made.first (before.honest_is ∙ h)) in
          let found : IsFirst (is_used geometry flash.image) first_row (last_row + 1) c.first_of_block-used.result =
          c.first_of_block-used.ensures.first (is_used geometry flash.image)
          (is_used-block geometry flash.image block first_row marked is rows.first_low rows.first_high ∙ ap (λ (l : FreshLook). is_look_used marked l) (sym (made1.looked h)))
          (first_used-block geometry flash.image block (first_row + 1) last_row marked c.in_ok-inner.inner is rows.inner_low rows.inner_high inner)
          (is_used-block geometry flash.image block last_row marked is rows.last_low rows.last_high ∙ ap (λ (l : FreshLook). is_look_used marked l) (sym (last_look h))) in
          rw (← rows.last_is, ← rows.first_is) found;
      row = row_past _ _ _ c.first_of_block-used.ensures.row c.row-last_row.ensures.within;
      same = λ h. made.same (before.honest_is ∙ h) ∙ (made2.same (made1.only_reads.honest_is ∙ h) ∙ made1.same h);
      whole = made1.whole;
      only_reads = reads_then _ _ _ _ before made.only_reads;
      reads = reads_whole _ _ _ _ _ _ made1.reads made2.reads made.reads rows.all;
      most_reads = reads_inner _ _ _ _ _ _ made1.reads made2.reads made.most_reads rows.all;
      rose = tt;
    }
