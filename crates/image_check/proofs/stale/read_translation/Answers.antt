use Rattle.std.proofs.Common.{◌≡◌, ◌+◌, ◌<◌, ◌≤◌, arith, ap, sym, subst, refl, ◌∙◌, length, List, ℕ}
use Rattle.std.proofs.lemmas.Result.{on_ok_weaker}
use Rattle.page_layout.specs.Counter.{counted}
use Rattle.page_layout.specs.Geometry.{row_count}
use Rattle.page_layout.specs.Page.{Image, page}
use Rattle.page_layout.proofs.ArrayLemmas.{body_page}
use Rattle.certificate.specs.Spelling.{IsRowOf}
use Rattle.translation_pages.specs.TranslationPage.{entry_at}
use Rattle.translation_pages.specs.Entry.{entry_in}
use Rattle.image_check.proofs.ReadLemmas.{reads_none, reads_same, place_fits}
use Rattle.image_check.proofs.StaleLemmas.{blank_entry}
use Rattle.image_check.proofs.stale.read_translation.Goals as goal

reads_once : (a c : ℕ) → c ≡ counted a → c ≤ a + 1
reads_once a c one = omega arith

pub read_page-requires : goal.read_page-requires
read_page-requires g c =
    let geo = c.args.geometry.now in
    let below : c.in-Some.row < row_count geo = subst (λ o. IsRowOf (row_count geo) o) (sym c.row.ensures ∙ c.in-Some.is) c.requires.within in
    let fits = place_fits geo _ _ _ _ _ _ _ c.requires.same_geometry below refl refl c.requires.body_whole refl c.requires.spare_whole in
    record { row_in = fits.row_in; body_whole = fits.body_whole; spare_whole = fits.spare_whole }

pub returns-in-None : goal.returns-in-None
returns-in-None g c = record {
  entries = λ honest i l.
      blank_entry c.fill.new.self (length c.args.body.now) i (c.fill.ensures.after (λ y e. e)) (omega arith)
      ∙ ap (entry_in (g.S.PageSource.view.flash c.args.source.now).image i) (sym c.in-None.is ∙ c.row.ensures);
  same = λ honest. refl;
  told = λ honest. refl;
  only_reads = reads_none _ _;
  reads = reads_same _ _;
  rose = tt;
}

pub returns-in-Some : goal.returns-in-Some
returns-in-Some g c =
    let read = c.read_page.ensures in
    record {
      entries = on_ok_weaker c.read_page.result
          (λ read honest i l.
          let image : Image = (g.S.PageSource.view.flash c.args.source.now).image in
          ap (λ (b : List ℕ). entry_at b i) (sym (body_page image c.in-Some.row (page c.read_page.new.body c.read_page.new.spare) (read honest)))
          ∙ ap (entry_in image i) (sym c.in-Some.is ∙ c.row.ensures))
          c.read_page.ensures.page;
      same = read.same;
      told = read.recorded;
      only_reads = record { geometry_is = read.geometry; honest_is = read.honest; calm_is = read.calm; programs_are = read.programs; erases_are = read.erases; failed_is = read.failed };
      reads = reads_once _ _ read.reads;
      rose = read.rose;
    }
