-- What a turn does for bad blocks, by the fields of its definition.
use Rattle.std.proofs.Common.{ℕ, Bool, List, [], subst, refl, inl, inr, arith}
use Rattle.std.proofs.lemmas.Bool.{cases_lt}
use Rattle.page_layout.specs.Flash.{Operation}
use Rattle.promises.specs.Log.{bad_of}
use Rattle.command_queue.specs.Rescues.{Rescues, newest_in}
use Rattle.command_laws.specs.Rescues.{NoGainLaw, NoneAilsLaw, RescuedEventLaw}

pub no_gain : NoGainLaw
no_gain g bad piece old new b r within is = r.keeps b within is

pub none_ails : NoneAilsLaw
none_ails g bad old new b r within is = elim (cases_lt 0 (newest_in g old b)) [
  | inl some ↦ absurd (r.works b (record { within = within; bad_is = is; some = some }) refl)
  | inr none ↦ omega (arith, none)
]

pub rescued_event : RescuedEventLaw
rescued_event first old before event x b fair turn done within bad =
    let bad_then : ℕ → Bool = bad_of first.geometry.pages first.bad before in
    let rescues = fair.rescues turn done in
    let of_piece : List Operation → Type 0 = λ piece. Rescues first.geometry bad_then piece old.flash.image event.left.flash.image in (
      no_gain first.geometry bad_then event.piece old.flash.image event.left.flash.image b rescues within bad,
      λ none. none_ails first.geometry bad_then old.flash.image event.left.flash.image b (subst of_piece none rescues) within bad,
    )
