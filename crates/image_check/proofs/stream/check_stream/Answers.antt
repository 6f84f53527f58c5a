use Rattle.std.proofs.Common.{ℕ, List, Option, Err, IfSome, ap, refl, ◌∙◌}
use Rattle.std.proofs.lemmas.Result.{err_from_is_err_and}
use Rattle.page_layout.specs.declared.geometry.Geometry.{Geometry}
use Rattle.certificate.specs.Claim.{Claim}
use Rattle.image_check.specs.declared.refusal.Refusal.{Refusal}
use Rattle.image_check.specs.Passed.{IsUnbegun}
use Rattle.image_check.specs.Streamed.{IsStreamRefusal}
use Rattle.image_check.proofs.PageReaderLemmas.{if_all, read_nothing}
use Rattle.image_check.proofs.PassLemmas.{IsOwn, own_pass, full_pass}
use Rattle.image_check.proofs.StreamLemmas.{streamed_ok, streamed_err, streamed_whole, streamed_judged, begun_own}
use Rattle.image_check.proofs.RefusalLemmas.{judged, neither, same_refusal, stopped_unjudged, untaken_refusal, accepted_of, unbegun_asked, unbegun_not_source, unbegun_streamed, unbegun_unjudged}
use Rattle.image_check.proofs.RefusalLemmas.{asked_not_source, asked_not_length, memory_not_source, memory_not_length}
use Rattle.image_check.proofs.stream.check_stream.Goals as goal

unbegun_some : (o : Option (List ℕ)) (g : Geometry) (capacity : ℕ) (c : Claim) (x : Refusal) → IsUnbegun g capacity c x → IfSome o (λ bytes. IsStreamRefusal g capacity bytes c x)
unbegun_some o g capacity c x h = if_all o (λ bytes. IsStreamRefusal g capacity bytes c x) (λ bytes. unbegun_streamed g capacity bytes c x h)

pub take_image-requires : goal.take_image-requires
take_image-requires g c = begun_own _ _ _ c.in_ok-begun.ensures.begun

pub finish-requires : goal.finish-requires
finish-requires g c =
    let done = c.in_ok-pass.ensures in
    full_pass c.args.geometry.now _ (done.same_pass.geometry ∙ c.in_ok-begun.ensures.begun.geometry) done.pass

pub returns-in_err-begun : goal.returns-in_err-begun
returns-in_err-begun g c =
    let no = c.in_err-begun.ensures.unbegun in
    let p = err_from_is_err_and c.from_residual.result c.from_residual.ensures.1 in
    rw (p.1, p.2) (record {
      ok = tt;
      whole = tt;
      err = unbegun_some _ _ _ _ _ no;
      judged = λ judgement. absurd (unbegun_unjudged _ _ _ _ no judgement);
      read = read_nothing _ _;
      asked = unbegun_asked _ _ _ _ _ refl no;
      unread = λ is. refl;
      memory = λ is. refl;
      source = λ is. absurd (unbegun_not_source _ _ _ _ _ no refl is);
      accepted = tt;
    })

pub returns-in_err-pass : goal.returns-in_err-pass
returns-in_err-pass g c =
    let p = err_from_is_err_and c.from_residual-in_err-pass.result c.from_residual-in_err-pass.ensures.1 in
    let no = c.in_err-pass.ensures in
    rw (p.1, p.2) (record {
      ok = tt;
      whole = tt;
      err = untaken_refusal c.args.geometry.now c.args.capacity _ c.args.certificate.now _ no.untaken;
      judged = λ judgement. absurd (stopped_unjudged _ no.stops judgement);
      read = c.take_image.ensures.read;
      asked = (λ is. absurd (neither _ _ _ _ _ no.stops refl asked_not_source asked_not_length is), λ differs. absurd (differs c.in_ok-begun.ensures.asked));
      unread = λ is. absurd (neither _ _ _ _ _ no.stops refl asked_not_source asked_not_length is);
      memory = λ is. absurd (neither _ _ _ _ _ no.stops refl memory_not_source memory_not_length is);
      source = λ is. c.take_image.ensures.source (c.in_err-pass.was ∙ ap Err (same_refusal _ _ _ refl is));
      accepted = tt;
    })

pub returns : goal.returns
returns g c =
    let geo = c.args.geometry.now in
    let claim = c.args.certificate.now in
    let o = g.R.DumpReader.remaining c.args.reader.now in
    let made = c.in_ok-begun.ensures in
    let done = c.in_ok-pass.ensures in
    let p = c.in_ok-pass.pass in
    let own : IsOwn geo c.args.capacity claim p = own_pass geo c.args.capacity claim _ _ made.asked made.begun.geometry made.begun.claim done.same_pass in
    let named = c.finish.ensures.named in
    record {
      ok = streamed_ok geo c.args.capacity o claim p c.finish.result own done.taken c.finish.ensures.ok;
      whole = streamed_whole geo o p c.finish.result done.taken;
      err = streamed_err geo c.args.capacity o claim p c.finish.result own done.taken c.finish.ensures.err;
      judged = streamed_judged geo o p c.finish.result done.taken;
      read = c.take_image.ensures.read;
      asked = (λ is. absurd (judged _ _ named is), λ differs. absurd (differs made.asked));
      unread = λ is. absurd (judged _ _ named is);
      memory = λ is. absurd (judged _ _ named is);
      source = λ is. absurd (judged _ _ named is);
      accepted = accepted_of c.finish.result geo c.args.capacity _ claim c.finish.ensures.claim own.claim made.asked;
    }
