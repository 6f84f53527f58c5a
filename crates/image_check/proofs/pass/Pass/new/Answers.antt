use Rattle.std.proofs.Common.{arith, ◌∙◌}
use Rattle.page_layout.specs.Array.{marks}
use Rattle.image_check.proofs.NotedLemmas.{some_start}
use Rattle.image_check.proofs.PassLemmas.{pass_of, shows_of, claims_start}
use Rattle.image_check.proofs.pass.Pass.new.Goals as goal

pub returns-clause-pass : goal.returns-clause-pass
returns-clause-pass c = pass_of c.args.geometry.now 0 _ c.in_ok-survey.ensures.sized.geometry_is (record {
  asked = c.requires.asked;
  certificate = c.requires.certificate;
  survey = c.in_ok-survey.ensures.sized;
  passed = omega (arith, c.in_ok-passed.ensures.len);
  most = c.note_absent.ensures.most ∙ (c.in_ok-noted.ensures.most ∙ c.capacity.ensures.is);
  noted = some_start c.args.geometry.now c.args.certificate.now c.note_absent.new.noted c.note_absent.ensures.noted;
  scratch = c.in_ok-scratch.ensures;
})

pub returns-clause-shows : goal.returns-clause-shows
returns-clause-shows c = λ image. shows_of c.args.geometry.now image 0 _ c.in_ok-survey.ensures.sized.geometry_is (record {
  survey = c.in_ok-survey.ensures.survey image;
  claims = claims_start (marks image) c.args.certificate.now.sectors c.in_ok-passed.passed.items _ (c.in_ok-passed.ensures.items_if_clones_equal (λ y e. e));
  noted = c.note_absent.ensures.noted image;
})
