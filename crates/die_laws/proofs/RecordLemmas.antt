-- The record of a driver and that of its bus stay the same.
use Rattle.std.proofs.Common.{◌≡◌, ◌≢◌, inl, inr, List, [], ◌∷◌, ◌++◌, None, refl, ap, ◌∙◌}
use Rattle.std.specs.Prelude.{unwrap_or}
use Rattle.page_layout.specs.Flash.{Operation}
use Rattle.page_layout.specs.Recording.{hand_after, noted}
use Rattle.die_laws.specs.Records.{AgreeingLaw, BehindFaultLaw, UntouchedLaw}

pub agreeing : AgreeingLaw
agreeing own behind behind' op agrees (inl ended) = inl ended
agreeing own behind behind' op (inl none) (inr on) = inl (on ∙ ap (noted (op ∷ [])) none)
agreeing own behind behind' op (inr same) (inr on) = inr (on ∙ ap (noted (op ∷ [])) same)

pub untouched_law : UntouchedLaw
untouched_law s = (refl, refl, refl)

kept : (hand log : List Operation) → hand ≢ [] → hand_after hand log ≡ hand ++ log
kept [] log some = absurd (some refl)
kept (op ∷ ops) log some = refl

pub behind_fault : BehindFaultLaw
behind_fault r s log is =
    let hand : s.at_hand ≡ hand_after r.at_hand log = ap (λ o. (unwrap_or o s).at_hand) is in
    (λ none. hand ∙ ap (λ h. hand_after h log) none, λ some. hand ∙ kept r.at_hand log some)
