use Rattle.std.proofs.Common.{◌≡◌, ◌∙◌, refl, sym, ap, subst, true, arith}
use Rattle.page_layout.specs.Geometry.{row_count}
use Rattle.lab_dump.specs.Fits.{fit_of}
use Rattle.lab_dump.specs.Sample.{sample_of}
use Rattle.lab_shapes.specs.Ordered.{in_turn_of, is_likely, ordered, shows_sound}
use Rattle.lab_shapes.proofs.ExitLemmas.{no_value, with_error}
use Rattle.lab_shapes.proofs.LookLemmas.{sample_whole, shows_not, some_of_all}
use Rattle.lab_shapes.proofs.fitting.fit_whole.Goals as goal
use Rattle.lab_shapes.proofs.fitting.fit_whole.Goals.{then-over-eq0-via-then-over-eq0, then-over-eq0-via-else-over-eq0+then-over-least}

pub returns-then-not-shows-clause-found : goal.returns-then-not-shows-clause-found
returns-then-not-shows-clause-found g c = λ all told size y same h.
    let geo = c.args.geometry.now in
    absurd (shows_not _ (sym (c.in_ok-shows.ensures.shows all told size) ∙ c.if-not-shows.true) (subst (λ a. shows_sound geo (ordered geo a all) ≡ true) same h.sound))

pub returns-then-not-likely-clause-found : goal.returns-then-not-likely-clause-found
returns-then-not-likely-clause-found g c = λ all told size y same h.
    let geo = c.args.geometry.now in
    absurd (shows_not _ (sym (c.in_ok-likely.ensures.likely all (c.shows_sound.ensures.same ∙ told) size) ∙ c.if-not-likely.true) (subst (λ a. is_likely geo a (ordered geo a all) ≡ true) same h.likely))

pub returns-then-over-eq0-clause-found : goal.returns-then-over-eq0-clause-found
returns-then-over-eq0-clause-found g c = λ all told size y same h.
    let geo = c.args.geometry.now in
    let bytes = ordered geo c.args.arrangement.now all in
    let second = c.is_likely.ensures.same ∙ (c.shows_sound.ensures.same ∙ told) in
    elim c.then-over-eq0.branch [
      | then-over-eq0-via-then-over-eq0 w ↦
          absurd (some_of_all geo bytes c.in_ok-over.over.sample _ refl (sym (c.in_ok-shows.ensures.shows all told size) ∙ c.if-not-shows.false) (c.in_ok-over.ensures.sample all second size) w.if-over-eq0.true)
      | then-over-eq0-via-else-over-eq0+then-over-least w ↦
          (let turns : y.in_turn.0 ≡ c.in_ok-over.over.in_turn = h.in_turn_is ∙ (ap (λ a. in_turn_of geo (ordered geo a all)) same ∙ sym (c.in_ok-over.ensures.turns all second size)) in
          omega (arith, turns, w.if-over-least.true))
    ]

pub returns-clause-found : goal.returns-clause-found
returns-clause-found g c = λ all told size.
    let geo = c.args.geometry.now in
    let bytes = ordered geo c.args.arrangement.now all in
    let d = geo.data_bytes in
    let s = geo.spare_bytes in
    let second = c.is_likely.ensures.same ∙ (c.shows_sound.ensures.same ∙ told) in
    let third = c.look_over.ensures.same ∙ second in
    let sample = sample_whole geo bytes c.in_ok-over.over.sample _ refl (c.in_ok-over.ensures.sample all second size) in (
      refl,
      record {
        fits = c.requires.fits;
        whole = sym size ∙ c.requires.whole;
        sound = sym (c.in_ok-shows.ensures.shows all told size) ∙ c.if-not-shows.false;
        likely = sym (c.in_ok-likely.ensures.likely all (c.shows_sound.ensures.same ∙ told) size) ∙ c.if-not-likely.false;
        in_turn_is = c.in_ok-over.ensures.turns all second size;
        fit_is = c.fit_of.ensures ∙ (ap (λ x. fit_of d s geo.pages geo.blocks x c.in_ok-told.told) sample ∙ ap (fit_of d s geo.pages geo.blocks (sample_of d s (row_count geo) bytes)) (c.in_ok-told.ensures.told all third size));
      },
    )

pub returns-in_err-shows-clause-found : goal.returns-in_err-shows-clause-found
returns-in_err-shows-clause-found g c = no_value _ _ c.from_residual.result c.from_residual.ensures.1

pub returns-in_err-shows-clause-possible : goal.returns-in_err-shows-clause-possible
returns-in_err-shows-clause-possible g c = no_value _ _ c.from_residual.result c.from_residual.ensures.1

pub returns-in_err-shows-clause-source : goal.returns-in_err-shows-clause-source
returns-in_err-shows-clause-source g c = with_error c.from_residual.result c.in_err-shows.ensures.failed

pub returns-in_err-shows-clause-same : goal.returns-in_err-shows-clause-same
returns-in_err-shows-clause-same g c = c.shows_sound.ensures.same

pub returns-in_err-likely-clause-found : goal.returns-in_err-likely-clause-found
returns-in_err-likely-clause-found g c = no_value _ _ c.from_residual-in_err-likely.result c.from_residual-in_err-likely.ensures.1

pub returns-in_err-likely-clause-possible : goal.returns-in_err-likely-clause-possible
returns-in_err-likely-clause-possible g c = no_value _ _ c.from_residual-in_err-likely.result c.from_residual-in_err-likely.ensures.1

pub returns-in_err-likely-clause-source : goal.returns-in_err-likely-clause-source
returns-in_err-likely-clause-source g c = with_error c.from_residual-in_err-likely.result c.in_err-likely.ensures.failed

pub returns-in_err-likely-clause-same : goal.returns-in_err-likely-clause-same
returns-in_err-likely-clause-same g c = c.is_likely.ensures.same ∙ c.shows_sound.ensures.same

pub returns-in_err-over-clause-found : goal.returns-in_err-over-clause-found
returns-in_err-over-clause-found g c = no_value _ _ c.from_residual-in_err-over.result c.from_residual-in_err-over.ensures.1

pub returns-in_err-over-clause-possible : goal.returns-in_err-over-clause-possible
returns-in_err-over-clause-possible g c = no_value _ _ c.from_residual-in_err-over.result c.from_residual-in_err-over.ensures.1

pub returns-in_err-over-clause-source : goal.returns-in_err-over-clause-source
returns-in_err-over-clause-source g c = with_error c.from_residual-in_err-over.result c.in_err-over.ensures.failed

pub returns-in_err-over-clause-same : goal.returns-in_err-over-clause-same
returns-in_err-over-clause-same g c = c.look_over.ensures.same ∙ (c.is_likely.ensures.same ∙ c.shows_sound.ensures.same)

pub returns-in_err-told-clause-found : goal.returns-in_err-told-clause-found
returns-in_err-told-clause-found g c = no_value _ _ c.from_residual-in_err-told.result c.from_residual-in_err-told.ensures.1

pub returns-in_err-told-clause-possible : goal.returns-in_err-told-clause-possible
returns-in_err-told-clause-possible g c = no_value _ _ c.from_residual-in_err-told.result c.from_residual-in_err-told.ensures.1

pub returns-in_err-told-clause-source : goal.returns-in_err-told-clause-source
returns-in_err-told-clause-source g c = with_error c.from_residual-in_err-told.result c.in_err-told.ensures.failed

pub returns-in_err-told-clause-same : goal.returns-in_err-told-clause-same
returns-in_err-told-clause-same g c = c.told_in_order.ensures.same ∙ (c.look_over.ensures.same ∙ (c.is_likely.ensures.same ∙ c.shows_sound.ensures.same))

pub returns-then-not-shows-clause-same : goal.returns-then-not-shows-clause-same
returns-then-not-shows-clause-same g c = c.shows_sound.ensures.same

pub returns-then-not-likely-clause-same : goal.returns-then-not-likely-clause-same
returns-then-not-likely-clause-same g c = c.is_likely.ensures.same ∙ c.shows_sound.ensures.same

pub returns-then-over-eq0-clause-same : goal.returns-then-over-eq0-clause-same
returns-then-over-eq0-clause-same g c = c.look_over.ensures.same ∙ (c.is_likely.ensures.same ∙ c.shows_sound.ensures.same)

pub returns-clause-same : goal.returns-clause-same
returns-clause-same g c = c.told_in_order.ensures.same ∙ (c.look_over.ensures.same ∙ (c.is_likely.ensures.same ∙ c.shows_sound.ensures.same))

pub is_likely-requires-clause-page_room : goal.is_likely-requires-clause-page_room
is_likely-requires-clause-page_room g c = c.shows_sound.auto.page ∙ c.requires.page_room

pub is_likely-requires-clause-raw_room : goal.is_likely-requires-clause-raw_room
is_likely-requires-clause-raw_room g c = c.shows_sound.auto.raw ∙ c.requires.raw_room

pub look_over-requires-clause-page_room : goal.look_over-requires-clause-page_room
look_over-requires-clause-page_room g c = c.is_likely.auto.page ∙ (c.shows_sound.auto.page ∙ c.requires.page_room)

pub look_over-requires-clause-raw_room : goal.look_over-requires-clause-raw_room
look_over-requires-clause-raw_room g c = c.is_likely.auto.raw ∙ (c.shows_sound.auto.raw ∙ c.requires.raw_room)

pub told_in_order-requires-clause-page_room : goal.told_in_order-requires-clause-page_room
told_in_order-requires-clause-page_room g c = c.look_over.auto.page ∙ (c.is_likely.auto.page ∙ (c.shows_sound.auto.page ∙ c.requires.page_room))

pub told_in_order-requires-clause-raw_room : goal.told_in_order-requires-clause-raw_room
told_in_order-requires-clause-raw_room g c = c.look_over.auto.raw ∙ (c.is_likely.auto.raw ∙ (c.shows_sound.auto.raw ∙ c.requires.raw_room))
