-- One page more of an honest source.
use Rattle.std.proofs.Common.{◌≡◌, ℕ, ◌+◌, ap, sym, subst, ◌∙◌, Some, slice_get}
use Rattle.page_layout.specs.declared.geometry.Geometry.{Geometry}
use Rattle.page_layout.specs.Page.{Page, Image}
use Rattle.page_layout.specs.Flash.{Flash}
use Rattle.image_check.specs.declared.survey.Survey.{Survey}
use Rattle.image_check.specs.Surveyed.{IsSized, IsSurvey}

pub seen : (g : Geometry) (first now : Flash) (row : ℕ) (s t : Survey) (p : Page) → IsSurvey g first.image row s → now ≡ first
    → slice_get now.image row ≡ Some p → s.geometry ≡ g
    → ((i : Image) → IsSurvey s.geometry i row s → slice_get i row ≡ Some p → IsSurvey s.geometry i (row + 1) t)
    → IsSurvey g first.image (row + 1) t
seen g first now row s t p h stays at same more =
    subst (λ k. IsSurvey k first.image (row + 1) t) same (more first.image (subst (λ k. IsSurvey k first.image row s) (sym same) h) (ap (λ f. slice_get f.image row) (sym stays) ∙ at))

pub sized_more : (g : Geometry) (row : ℕ) (s t : Survey) → s.geometry ≡ g → IsSized s.geometry (row + 1) t → IsSized g (row + 1) t
sized_more g row s t same h = subst (λ k. IsSized k (row + 1) t) same h
