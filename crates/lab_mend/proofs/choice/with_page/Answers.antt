use Rattle.std.proofs.Common.{List, sym, ◌∙◌, subst}
use Rattle.page_layout.specs.Page.{Page}
use Rattle.lab_mend.specs.Found.{IsAgreed}
use Rattle.lab_mend.proofs.FoundLemmas.{sound_yes, sound_no}
use Rattle.lab_mend.proofs.choice.with_page.Goals as goal

pub returns-then-sound : goal.returns-then-sound
returns-then-sound c =
    let geo = c.args.geometry.now in
    let bytes = c.args.pages.now in
    subst (λ (sound : List Page). IsAgreed geo bytes c.args.count sound c.meet.result) (sym (sound_yes geo bytes c.args.i (sym c.requires.sound_is ∙ c.if-sound.true))) c.meet.ensures

pub returns-else-sound : goal.returns-else-sound
returns-else-sound c =
    let geo = c.args.geometry.now in
    let bytes = c.args.pages.now in
    subst (λ (sound : List Page). IsAgreed geo bytes c.args.count sound c.args.agreed) (sym (sound_no geo bytes c.args.i (sym c.requires.sound_is ∙ c.if-sound.false))) c.requires.agreed
