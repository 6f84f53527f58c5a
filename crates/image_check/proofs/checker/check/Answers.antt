use Rattle.std.proofs.Common.{◌≡◌, true, length, ap, subst, ◌∙◌, refl, inl, inr}
use Rattle.std.proofs.lemmas.Result.{err_from_is_err_and}
use Rattle.page_layout.specs.Flash.{Flash}
use Rattle.page_layout.specs.Page.{IsImage}
use Rattle.image_check.specs.Accepted.{IsAcceptance}
use Rattle.image_check.specs.Refused.{IsFirstWrong, IsRefusal}
use Rattle.image_check.proofs.PassLemmas.{rows_of, IsOwn, own_pass, full_pass, finished_ok, finished_err, ok_under, err_under, on_ok}
use Rattle.image_check.proofs.ReadLemmas.{reads_none, reads_same}
use Rattle.image_check.proofs.RefusalLemmas.{same_refusal, judged, neither, accepted_of, unbegun_of, unbegun_asked, unbegun_refusal}
use Rattle.image_check.proofs.RefusalLemmas.{length_not_asked, length_not_memory, source_not_asked, source_not_memory, source_not_length}
use Rattle.image_check.proofs.checker.check.Goals as goal

pub show_pages-requires : goal.show_pages-requires
show_pages-requires g c =
    let made = c.in_ok-begun.ensures.begun in
    record {
      same_geometry = c.requires.same_geometry;
      pass = made.pass;
      pass_geometry = made.geometry;
      body_whole = ap length c.deref_mut.ensures.value ∙ made.body;
      spare_whole = ap length c.deref_mut-2.ensures.value ∙ made.spare;
    }

pub finish-requires : goal.finish-requires
finish-requires g c =
    let done = c.in_ok-show_pages.ensures in
    full_pass c.args.geometry.now c.show_pages.new.pass (done.same_pass.geometry ∙ c.in_ok-begun.ensures.begun.geometry) done.pass

pub returns-in_err-begun : goal.returns-in_err-begun
returns-in_err-begun g c =
    let p = err_from_is_err_and c.from_residual.result c.from_residual.ensures.1 in
    let no = c.in_err-begun.ensures.unbegun in
    rw (p.1, p.2) (record {
      ok = tt;
      whole = tt;
      accepted = tt;
      err = λ honest. unbegun_refusal _ _ _ _ _ no;
      same = λ other honest. refl;
      told = λ other honest. refl;
      asked = unbegun_asked _ _ _ _ _ refl no;
      unread = λ is. refl;
      memory = λ is. refl;
      only = neither _ _ _ _ _ (unbegun_of _ _ _ _ no) refl length_not_asked length_not_memory;
      only_reads = reads_none _ _;
      reads = reads_same _ _;
      rose = λ is. absurd (neither _ _ _ _ _ (unbegun_of _ _ _ _ no) refl source_not_asked source_not_memory is);
    })

pub returns-in_err-show_pages : goal.returns-in_err-show_pages
returns-in_err-show_pages g c =
    let p = err_from_is_err_and c.from_residual-in_err-show_pages.result c.from_residual-in_err-show_pages.ensures.1 in
    let read = c.show_pages.ensures in
    rw (p.1, p.2) (record {
      ok = tt;
      whole = tt;
      accepted = tt;
      err = λ honest. inl (inl refl);
      same = λ other. absurd (other refl);
      told = λ other. absurd (other refl);
      asked = (λ is. absurd (source_not_asked (same_refusal _ _ _ refl is)), λ differs. absurd (differs c.in_ok-begun.ensures.asked));
      unread = λ is. absurd (source_not_asked (same_refusal _ _ _ refl is));
      memory = λ is. absurd (source_not_memory (same_refusal _ _ _ refl is));
      only = λ is. source_not_length (same_refusal _ _ _ refl is);
      only_reads = read.only_reads;
      reads = read.reads;
      rose = λ is. c.in_err-show_pages.ensures.rose;
    })

pub returns : goal.returns
returns g c =
    let geo = c.args.geometry.now in
    let claim = c.args.certificate.now in
    let first = g.S.PageSource.view.flash c.args.source.now in
    let made = c.in_ok-begun.ensures in
    let done = c.in_ok-show_pages.ensures in
    let named = c.finish.ensures.named in
    let own : IsOwn geo c.args.capacity claim c.show_pages.new.pass = own_pass geo c.args.capacity claim _ _ made.asked made.begun.geometry made.begun.claim done.same_pass in
    record {
      ok = ok_under (g.S.PageSource.view.honest c.args.source.now ≡ true) (IsAcceptance geo c.args.capacity first.image claim) c.finish.result (λ honest.
          finished_ok geo c.args.capacity first.image claim _ c.finish.result own (rows_of geo (g.S.PageSource.view.flash c.show_pages.new.source) first (done.same honest) (done.whole honest)) (done.shows honest (made.begun.shows first.image)) c.finish.ensures.ok);
      err = err_under (g.S.PageSource.view.honest c.args.source.now ≡ true) (IsFirstWrong geo c.args.capacity first.image claim) (IsRefusal geo c.args.capacity first.image claim) c.finish.result (λ r w. inr w) (λ honest.
          finished_err geo c.args.capacity first.image claim _ c.finish.result own (rows_of geo (g.S.PageSource.view.flash c.show_pages.new.source) first (done.same honest) (done.whole honest)) (done.shows honest (made.begun.shows first.image)) c.finish.ensures.err);
      whole = on_ok (g.S.PageSource.view.honest c.args.source.now ≡ true → IsImage geo first.image) c.finish.result (λ honest. subst (λ (f : Flash). IsImage geo f.image) (done.same honest) (done.whole honest));
      same = λ other. done.same;
      told = λ other. done.told;
      asked = (λ is. absurd (judged _ _ named is), λ differs. absurd (differs made.asked));
      unread = λ is. absurd (judged _ _ named is);
      memory = λ is. absurd (judged _ _ named is);
      only = λ is. judged _ _ named is;
      accepted = accepted_of c.finish.result geo c.args.capacity _ claim c.finish.ensures.claim own.claim made.asked;
      only_reads = c.show_pages.ensures.only_reads;
      reads = c.show_pages.ensures.reads;
      rose = λ is. absurd (judged _ _ named is);
    }
