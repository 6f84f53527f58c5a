use Rattle.std.proofs.Common.{◌≡◌, ◌+◌, sym, ap, subst, ◌∙◌, refl, length}
use Rattle.std.specs.Vec.{with_items}
use Rattle.std.proofs.lemmas.List.{with_items_is}
use Rattle.page_layout.specs.Page.{page}
use Rattle.page_layout.specs.Array.{marks}
use Rattle.image_check.specs.Survey.{HasPassed}
use Rattle.image_check.proofs.NotedLemmas.{some_more}
use Rattle.image_check.proofs.PassLemmas.{pass_of, shows_of, claim_seen}
use Rattle.image_check.proofs.pass.Pass.page.Goals as goal

pub returns-clause-pass : goal.returns-clause-pass
returns-clause-pass c =
    let old = c.args.self.now in
    let g = old.survey.geometry in
    let p = page c.args.body.now c.args.spare.now in
    let is : (with_items old.passed c.note_claim.new.passed).items ≡ c.note_claim.new.passed = with_items_is old.passed c.note_claim.new.passed (c.note_claim.auto.passed ∙ c.deref_mut.ensures.len) in
    pass_of g (c.args.row + 1) _ c.see-found.ensures.sized.geometry_is (record {
      asked = c.requires.pass.asked;
      certificate = c.requires.pass.certificate;
      survey = c.see-found.ensures.sized;
      passed = ap length is ∙ (c.note_claim.auto.passed ∙ (ap length c.deref_mut.ensures.value ∙ c.requires.pass.passed));
      most = c.note_entries.ensures.most ∙ c.requires.pass.most;
      noted = some_more g old.certificate.now c.args.row p old.noted c.note_entries.new.noted c.requires.pass.noted (λ image h at. c.note_entries.ensures.noted image p h at c.see-found.ensures.found refl);
      scratch = c.requires.pass.scratch;
    })

pub returns-clause-shows : goal.returns-clause-shows
returns-clause-shows c = λ image h at.
    let old = c.args.self.now in
    let g = old.survey.geometry in
    let claims = old.certificate.now.sectors in
    let p = page c.args.body.now c.args.spare.now in
    let is : (with_items old.passed c.note_claim.new.passed).items ≡ c.note_claim.new.passed = with_items_is old.passed c.note_claim.new.passed (c.note_claim.auto.passed ∙ c.deref_mut.ensures.len) in
    let start : HasPassed (marks image) c.args.row claims c.deref_mut.result.now = subst (λ xs. HasPassed (marks image) c.args.row claims xs) (sym c.deref_mut.ensures.value) h.claims in
    shows_of g image (c.args.row + 1) _ c.see-found.ensures.sized.geometry_is (record {
      survey = c.see-found.ensures.survey image h.survey at;
      claims = subst (λ xs. HasPassed (marks image) (c.args.row + 1) claims xs) (sym is) (claim_seen image c.args.row claims c.deref_mut.result.now c.note_claim.new.passed p c.see-found.result start at c.see-found.ensures.found c.note_claim.ensures);
      noted = c.note_entries.ensures.noted image p h.noted at c.see-found.ensures.found refl;
    })
