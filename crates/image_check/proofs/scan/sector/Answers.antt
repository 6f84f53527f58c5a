use Rattle.std.proofs.Common.{◌≡◌, ◌<◌, true, arith, le_refl, subst, ap, replicate, ◌∙◌, refl, inl}
use Rattle.std.proofs.lemmas.Result.{err_from_is_err_and}
use Rattle.page_layout.specs.Geometry.{row_count}
use Rattle.image_check.specs.Sector.{IsBelow}
use Rattle.image_check.proofs.SectorLemmas.{ambiguous, clear, lowest_read, none_read, one_read, read_of_sector, two_read}
use Rattle.image_check.proofs.ReadLemmas.{is_past, not_past, past_not_below, shown_not, range_no_source, source_in_range, repeated_in_range, repeated_no_source}
use Rattle.image_check.proofs.ReadLemmas.{reads_none, reads_then, reads_spare, reads_below, reads_more, reads_on, risen_over, shows_own}
use Rattle.image_check.proofs.scan.sector.Goals as goal

pub latest_of-requires-clause-same_geometry : goal.latest_of-requires-clause-same_geometry
latest_of-requires-clause-same_geometry g c = c.requires.same_geometry

pub latest_of-requires-clause-body_whole : goal.latest_of-requires-clause-body_whole
latest_of-requires-clause-body_whole g c = omega arith

pub latest_of-requires-clause-spare_whole : goal.latest_of-requires-clause-spare_whole
latest_of-requires-clause-spare_whole g c = omega arith

pub read_page-requires-clause-row_in : goal.read_page-requires-clause-row_in
read_page-requires-clause-row_in g c =
    let rows = row_count c.args.geometry.now in
    let below : c.in-Once.row < rows = subst (λ l. IsBelow rows l) c.in-Once.is c.in_ok-latest.ensures.within in
    rw (c.latest_of.ensures.only_reads.geometry_is, c.requires.same_geometry) below

-- there is no such sector
pub returns-then-sector-sectors : goal.returns-then-sector-sectors
returns-then-sector-sectors g c =
    let past = is_past _ _ c.args.sector c.sectors.ensures c.if-sector-sectors.true in
    record {
      range = (λ is. past, λ over. refl);
      zeros = c.fill.ensures.after (λ y e. e) ∙ ap (λ k. replicate k 0) c.requires.out_whole;
      rose = λ failed. absurd (range_no_source _ refl failed);
      ok = tt;
      repeated = λ honest other. (λ never. absurd never, λ clash. past_not_below _ _ past clash.in_range);
      rows = λ honest. tt;
      lowest = λ honest. tt;
      same = λ honest other. refl;
      own = tt;
      unread = λ over. refl;
      only_reads = reads_none _ _;
      reads = reads_spare _ _;
      counted = λ few. le_refl _;
    }

-- a page of the scan could not be read
pub returns-in_err-latest : goal.returns-in_err-latest
returns-in_err-latest g c =
    let p = err_from_is_err_and c.from_residual.result c.from_residual.ensures.1 in
    let scan = c.latest_of.ensures in
    rw (p.1, p.2) (record {
      range = (λ is. absurd (source_in_range _ refl is), λ past. absurd (not_past _ _ _ c.sectors.ensures c.if-sector-sectors.false past));
      zeros = c.fill.ensures.after (λ y e. e) ∙ ap (λ k. replicate k 0) c.requires.out_whole;
      rose = λ failed. c.in_err-latest.ensures.rose;
      ok = tt;
      repeated = λ honest other. absurd (other refl);
      rows = λ honest. tt;
      lowest = λ honest. tt;
      same = λ honest other. absurd (other refl);
      own = tt;
      unread = λ past. absurd (not_past _ _ _ c.sectors.ensures c.if-sector-sectors.false past);
      only_reads = scan.only_reads;
      reads = reads_below _ _ _ scan.reads;
      counted = λ few. (scan.counted few).0;
    })

-- the sector has no page
pub returns-in-Never : goal.returns-in-Never
returns-in-Never g c =
    let scan = c.latest_of.ensures in
    let done = c.in_ok-latest.ensures in
    let filled = c.fill.ensures.after (λ y e. e) ∙ ap (λ k. replicate k 0) c.requires.out_whole in
    record {
      range = (λ is. absurd (shown_not _ _ _ refl is), λ past. absurd (not_past _ _ _ c.sectors.ensures c.if-sector-sectors.false past));
      zeros = tt;
      rose = λ failed. absurd (shown_not _ _ _ refl failed);
      ok = λ honest. (none_read c.args.geometry.now _ _ c.args.sector _ _ (done.whole honest) (done.same honest) (done.found honest) c.in-Never.is filled).holds;
      repeated = λ honest unfailed. clear _ _ _ _ (none_read c.args.geometry.now _ _ c.args.sector _ _ (done.whole honest) (done.same honest) (done.found honest) c.in-Never.is filled);
      rows = λ honest. tt;
      lowest = λ honest. tt;
      same = λ honest other. done.same honest;
      own = inl filled;
      unread = λ past. absurd (not_past _ _ _ c.sectors.ensures c.if-sector-sectors.false past);
      only_reads = scan.only_reads;
      reads = reads_below _ _ _ scan.reads;
      counted = λ few. (scan.counted few).0;
    }

-- two of its pages share its greatest sequence
pub returns-in-Tied : goal.returns-in-Tied
returns-in-Tied g c =
    let geo = c.args.geometry.now in
    let done = c.in_ok-latest.ensures in
    let scan = c.latest_of.ensures in
    record {
      range = (λ is. absurd (repeated_in_range _ _ _ refl is), λ past. absurd (not_past _ _ _ c.sectors.ensures c.if-sector-sectors.false past));
      zeros = c.fill.ensures.after (λ y e. e) ∙ ap (λ k. replicate k 0) c.requires.out_whole;
      rose = λ failed. absurd (repeated_no_source _ _ _ refl failed);
      ok = tt;
      repeated = λ honest unfailed. ambiguous _ _ _ _ _ (subst (λ k. c.args.sector < k) c.sectors.ensures c.if-sector-sectors.false) (two_read geo _ _ c.args.sector _ _ _ _ (done.whole honest) (done.same honest) (done.found honest) c.in-Tied.is);
      rows = λ honest. two_read geo _ _ c.args.sector _ _ _ _ (done.whole honest) (done.same honest) (done.found honest) c.in-Tied.is;
      lowest = λ honest. lowest_read geo _ _ c.args.sector _ _ _ _ (done.whole honest) (done.same honest) (done.found honest) c.in-Tied.is;
      same = λ honest other. done.same honest;
      own = tt;
      unread = λ past. absurd (not_past _ _ _ c.sectors.ensures c.if-sector-sectors.false past);
      only_reads = scan.only_reads;
      counted = λ few. (scan.counted few).0;
      reads = reads_below _ _ _ scan.reads;
    }

-- its page could not be read once more
pub returns-in_err-read_page : goal.returns-in_err-read_page
returns-in_err-read_page g c =
    let p = err_from_is_err_and c.from_residual-in_err-read_page.result c.from_residual-in_err-read_page.ensures.1 in
    let scan = c.latest_of.ensures in
    let read = c.read_page.ensures in
    rw (p.1, p.2) (record {
      rose = λ failed. risen_over _ _ _ scan.only_reads.failed_is c.in_err-read_page.ensures.rose;
      range = (λ is. absurd (source_in_range _ refl is), λ past. absurd (not_past _ _ _ c.sectors.ensures c.if-sector-sectors.false past));
      zeros = c.fill.ensures.after (λ y e. e) ∙ ap (λ k. replicate k 0) c.requires.out_whole;
      ok = tt;
      repeated = λ honest other. absurd (other refl);
      same = λ honest other. absurd (other refl);
      rows = λ honest. tt;
      lowest = λ honest. tt;
      own = tt;
      unread = λ past. absurd (not_past _ _ _ c.sectors.ensures c.if-sector-sectors.false past);
      only_reads = reads_then _ _ _ _ scan.only_reads (record { geometry_is = read.geometry; honest_is = read.honest; calm_is = read.calm; programs_are = read.programs; erases_are = read.erases; failed_is = read.failed });
      reads = reads_more _ _ _ _ scan.reads read.reads;
      counted = λ few. reads_on _ _ _ (scan.counted few) read.reads;
    })

-- its page is shown
pub returns-in-Some : goal.returns-in-Some
returns-in-Some g c =
    let geo = c.args.geometry.now in
    let scan = c.latest_of.ensures in
    let done = c.in_ok-latest.ensures in
    let read = c.in_ok-read_page.ensures in
    let found = λ (honest : g.S.PageSource.view.honest c.args.source.now ≡ true).
    let page = read.page (scan.only_reads.honest_is ∙ honest) in
    one_read geo _ _ c.args.sector _ _ _ _ _ (done.whole honest) (done.same honest) (done.found honest) c.in-Once.is page
    (c.copy_from_slice.ensures.after ∙ c.in-Some.ensures.is (read_of_sector _ _ c.args.sector _ _ _ _ _ (done.same honest) (done.found honest) c.in-Once.is page)) in
    record {
      range = (λ is. absurd (shown_not _ _ _ refl is), λ past. absurd (not_past _ _ _ c.sectors.ensures c.if-sector-sectors.false past));
      zeros = tt;
      rose = λ failed. absurd (shown_not _ _ _ refl failed);
      ok = λ honest. (found honest).holds;
      repeated = λ honest unfailed. clear _ _ _ _ (found honest);
      rows = λ honest. tt;
      lowest = λ honest. tt;
      same = λ honest other. read.same (scan.only_reads.honest_is ∙ honest) ∙ done.same honest;
      own = shows_own geo c.args.sector c.read_page.new.body c.read_page.new.spare c.in-Some.found.now _ (omega arith) c.in-Some.ensures.own c.copy_from_slice.ensures.after;
      unread = λ past. absurd (not_past _ _ _ c.sectors.ensures c.if-sector-sectors.false past);
      only_reads = reads_then _ _ _ _ scan.only_reads (record { geometry_is = read.geometry; honest_is = read.honest; calm_is = read.calm; programs_are = read.programs; erases_are = read.erases; failed_is = read.failed });
      reads = reads_more _ _ _ _ scan.reads read.reads;
      counted = λ few. reads_on _ _ _ (scan.counted few) read.reads;
    }

-- its page is a trim, or is no longer one of the sector
pub returns-in_default : goal.returns-in_default
returns-in_default g c =
    let geo = c.args.geometry.now in
    let scan = c.latest_of.ensures in
    let done = c.in_ok-latest.ensures in
    let read = c.in_ok-read_page.ensures in
    let filled = c.fill.ensures.after (λ y e. e) ∙ ap (λ k. replicate k 0) c.requires.out_whole in
    let found = λ (honest : g.S.PageSource.view.honest c.args.source.now ≡ true).
    let page = read.page (scan.only_reads.honest_is ∙ honest) in
    one_read geo _ _ c.args.sector _ _ _ _ _ (done.whole honest) (done.same honest) (done.found honest) c.in-Once.is page
    (filled ∙ c.in_default.ensures.is (read_of_sector _ _ c.args.sector _ _ _ _ _ (done.same honest) (done.found honest) c.in-Once.is page)) in
    record {
      zeros = tt;
      range = (λ is. absurd (shown_not _ _ _ refl is), λ past. absurd (not_past _ _ _ c.sectors.ensures c.if-sector-sectors.false past));
      rose = λ failed. absurd (shown_not _ _ _ refl failed);
      ok = λ honest. (found honest).holds;
      repeated = λ honest unfailed. clear _ _ _ _ (found honest);
      same = λ honest other. read.same (scan.only_reads.honest_is ∙ honest) ∙ done.same honest;
      rows = λ honest. tt;
      lowest = λ honest. tt;
      own = inl filled;
      unread = λ past. absurd (not_past _ _ _ c.sectors.ensures c.if-sector-sectors.false past);
      reads = reads_more _ _ _ _ scan.reads read.reads;
      counted = λ few. reads_on _ _ _ (scan.counted few) read.reads;
      only_reads = reads_then _ _ _ _ scan.only_reads (record { geometry_is = read.geometry; honest_is = read.honest; calm_is = read.calm; programs_are = read.programs; erases_are = read.erases; failed_is = read.failed });
    }
