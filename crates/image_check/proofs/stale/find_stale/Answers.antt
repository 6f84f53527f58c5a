use Rattle.std.proofs.Common.{◌≡◌, ◌<◌, ◌+◌, ◌*◌, arith, refl, ap, sym, ◌∙◌, subst, inl, inr}
use Rattle.std.proofs.lemmas.Result.{err_from_is_err_and}
use Rattle.page_layout.specs.Geometry.{translation_pages}
use Rattle.image_check.specs.Rising.{IsRisingBelow}
use Rattle.image_check.proofs.ReadLemmas.{reads_none, reads_then, reads_start, reads_to, at_end, risen_over}
use Rattle.image_check.proofs.RefusalLemmas.{same_refusal, memory_not_source, ok_not_source}
use Rattle.image_check.proofs.SpanLemmas.{IsSpan, span_of, span_none, span_all, page_key, reads_one_more, reads_ended}
use Rattle.image_check.proofs.StaleLemmas.{AreStaleBelow, AreEntries, entries_read, stale_more, stale_all, stale_start, rising_none}
use Rattle.image_check.proofs.stale.find_stale.Goals as goal

pub loop-page-init : goal.loop-page-init
loop-page-init g c = record {
  told = λ honest. refl;
  only_reads = reads_none _ _;
  same = λ honest. refl;
  noted = λ honest keys.
      let geo = c.args.geometry.now in
      let image = (g.S.PageSource.view.flash c.args.source.now).image in
      subst (λ k. AreStaleBelow geo image k c.args.stale.now.items) (span_none geo) (stale_start geo image c.args.stale.now.items c.requires.empty);
  rising = subst (λ k. IsRisingBelow k c.args.stale.now.items) (span_none c.args.geometry.now) (rising_none c.args.stale.now.items c.requires.empty);
  reads = reads_start _;
}

pub read_translation-requires : goal.read_translation-requires
read_translation-requires g c = record {
  same_geometry = c.loop-page.invariant.only_reads.geometry_is ∙ c.requires.same_geometry;
  within = c.requires.within (c.sectors-sectors.result + c.loop-page.page) _ (page_key c.args.geometry.now _ _ _ _ c.loop-page-test.true c.translation_pages-page-end.ensures c.sectors-sectors.ensures c.requires.newest);
  body_whole = c.loop-page.auto.body ∙ c.requires.body_whole;
  spare_whole = c.loop-page.auto.spare ∙ c.requires.spare_whole;
}

pub note_stale-requires-clause-order : goal.note_stale-requires-clause-order
note_stale-requires-clause-order g c =
    (span_of c.args.geometry.now c.loop-page.page _ (c.loop-page.page * c.entries-entries.result) _ _ _ c.loop-page-test.true c.translation_pages-page-end.ensures c.sectors-sectors.ensures c.entries-entries.ensures refl c.min-end.ensures).order

pub note_stale-requires-clause-sectors : goal.note_stale-requires-clause-sectors
note_stale-requires-clause-sectors g c = omega arith

pub note_stale-requires-clause-entries : goal.note_stale-requires-clause-entries
note_stale-requires-clause-entries g c = omega arith

pub loop-page-preserved : goal.loop-page-preserved
loop-page-preserved g c =
    let geo = c.args.geometry.now in
    let inv = c.loop-page.invariant in
    let read = c.in_ok-read_translation.ensures in
    let t = c.loop-page.page in
    let first = t * c.entries-entries.result in
    let end = c.min-end.result in
    let flash = g.S.PageSource.view.flash c.args.source.now in
    let span : IsSpan geo t first end = span_of geo t _ first end _ _ c.loop-page-test.true c.translation_pages-page-end.ensures c.sectors-sectors.ensures c.entries-entries.ensures refl c.min-end.ensures in
    record {
      told = λ honest. read.told (inv.only_reads.honest_is ∙ honest) ∙ inv.told honest;
      only_reads = reads_then _ _ _ _ inv.only_reads read.only_reads;
      same = λ honest. read.same (inv.only_reads.honest_is ∙ honest) ∙ inv.same honest;
      noted = λ honest keys.
          let entry : AreEntries geo flash.image t c.read_translation.new.body = entries_read geo flash
          (g.S.PageSource.view.flash c.loop-page.source) c.args.newest.now t (c.sectors-sectors.result + t) _ _ c.read_translation.new.body keys
          (subst (λ k. t < k) c.translation_pages-page-end.ensures c.loop-page-test.true) (ap (λ k. k + t) c.sectors-sectors.ensures) refl (inv.same honest) (read.entries (inv.only_reads.honest_is ∙ honest)) in
          subst (λ k. AreStaleBelow geo flash.image k c.note_stale.new.stale.items) (sym span.finish)
          (stale_more geo flash.image c.args.newest.now t first end c.read_translation.new.body c.loop-page.stale.items c.note_stale.new.stale.items keys entry span.begins span.order span.within span.short
          (subst (λ k. AreStaleBelow geo flash.image k c.loop-page.stale.items) span.start (inv.noted honest keys)) c.in_ok-note_stale.ensures.noted);
      rising = subst (λ k. IsRisingBelow k c.note_stale.new.stale.items) (sym span.finish) (c.in_ok-note_stale.ensures.rising (subst (λ k. IsRisingBelow k c.loop-page.stale.items) span.start inv.rising));
      reads = reads_one_more _ _ _ _ inv.reads read.reads;
    }

pub returns : goal.returns
returns g c =
    let geo = c.args.geometry.now in
    let inv = c.loop-page.invariant in
    let end : c.loop-page.page ≡ translation_pages geo = at_end _ _ _ c.loop-page.auto.page-end c.loop-page-test.false c.translation_pages-page-end.ensures in
    record {
      stale = λ honest keys. stale_all geo (g.S.PageSource.view.flash c.args.source.now).image _ c.loop-page.stale.items (span_all geo _ end) (inv.noted honest keys);
      rising = subst (λ k. IsRisingBelow k c.loop-page.stale.items) (span_all geo _ end) inv.rising;
      same = λ other. inv.same;
      stops = tt;
      told = inv.told;
      only_reads = inv.only_reads;
      reads = reads_to _ _ _ _ inv.reads end;
      rose = λ failed. absurd (ok_not_source _ _ refl failed);
    }

pub returns-in_err-read_translation : goal.returns-in_err-read_translation
returns-in_err-read_translation g c =
    let p = err_from_is_err_and c.from_residual.result c.from_residual.ensures.1 in
    let inv = c.loop-page.invariant in
    let read = c.read_translation.ensures in
    rw (p.1, p.2) (record {
      stale = tt;
      rising = tt;
      same = λ other. absurd (other refl);
      stops = inl refl;
      told = tt;
      only_reads = reads_then _ _ _ _ inv.only_reads read.only_reads;
      reads = reads_ended _ _ _ _ _ _ inv.reads read.reads c.loop-page-test.true c.translation_pages-page-end.ensures;
      rose = λ failed. risen_over _ _ _ inv.only_reads.failed_is c.in_err-read_translation.ensures.rose;
    })

pub returns-in_err-note_stale : goal.returns-in_err-note_stale
returns-in_err-note_stale g c =
    let p = err_from_is_err_and c.from_residual-in_err-note_stale.result c.from_residual-in_err-note_stale.ensures.1 in
    let inv = c.loop-page.invariant in
    let read = c.in_ok-read_translation.ensures in
    rw (p.1, p.2) (record {
      stale = tt;
      rising = tt;
      same = λ other honest. read.same (inv.only_reads.honest_is ∙ honest) ∙ inv.same honest;
      stops = inr refl;
      told = tt;
      only_reads = reads_then _ _ _ _ inv.only_reads read.only_reads;
      reads = reads_ended _ _ _ _ _ _ inv.reads read.reads c.loop-page-test.true c.translation_pages-page-end.ensures;
      rose = λ failed. absurd (memory_not_source (same_refusal _ _ _ refl failed));
    })
