use Rattle.std.proofs.Common.{◌<◌, ◌+◌, Ok, length, ap, refl, sym, subst, ◌∙◌}
use Rattle.std.proofs.lemmas.Bool.{false≢true}
use Rattle.std.proofs.lemmas.Result.{err_from_is_err_and}
use Rattle.collection.specs.Safe.{ram}
use Rattle.collection.specs.Collect.{waiting}
use Rattle.collection.proofs.Ends.{has_room, some_room}
use Rattle.collection.proofs.Finds.{err_not_unfound, true_not_false}
use Rattle.collection.proofs.Looks.{none_from, ok_not_bus}
use Rattle.collection.proofs.Moves.{moves_full, moves_unread, moves_none}
use Rattle.collection.proofs.Renews.{renewal_found, none_renewed}
use Rattle.collection.proofs.engine.Engine.renew.Goals as goal

-- ---- no place is left

pub returns-then-not-has_place : goal.returns-then-not-has_place
returns-then-not-has_place g c = record {
  moves = moves_full _ c.args.self.now c.requires.safe (λ room. false≢true (sym c.if-not-has_place.true ∙ c.has_place.ensures.1 (some_room (ram c.args.self.now) c.requires.safe.memory room)));
  unfound = λ is. absurd (err_not_unfound _ _ _ refl is);
}

-- ---- the look was refused, or found none

pub returns-in_err-due : goal.returns-in_err-due
returns-in_err-due g c =
    let p = err_from_is_err_and c.from_residual.result c.from_residual.ensures.1 in
    let room = has_room (ram c.args.self.now) c.requires.safe.memory (c.has_place.ensures.0 c.if-not-has_place.false) in
    rw (p.1, p.2) (record {
      moves = moves_unread _ c.args.self.now c.due_record.new.self c.requires.safe room _ c.in_err-due.ensures.looks c.in_err-due.ensures.truth;
      unfound = λ is. absurd (err_not_unfound _ _ _ refl is);
    })

pub returns-in_default : goal.returns-in_default
returns-in_default g c =
    let room = has_room (ram c.args.self.now) c.requires.safe.memory (c.has_place.ensures.0 c.if-not-has_place.false) in
    let looks = c.in_ok-due.ensures.looks in
    record {
      moves = moves_none _ c.args.self.now c.due_record.new.self c.requires.safe room _ looks
          (λ honest w. none_renewed (ram c.args.self.now) (ram c.due_record.new.self) _ _ c.args.row _ c.in_ok-due.due looks.memory
          (ap (λ f. f.image) (looks.same honest (ok_not_bus _))) w (c.in_ok-due.ensures.truth honest w) (none_from c.in_ok-due.due c.in_default.not-Some));
      unfound = λ _. c.in_ok-due.ensures.unfound (ap Ok (none_from c.in_ok-due.due c.in_default.not-Some));
    }

-- ---- the page is moved

pub move_page-requires-clause-safe : goal.move_page-requires-clause-safe
move_page-requires-clause-safe g c = c.due_record.ensures.looks.safe

pub move_page-requires-clause-key : goal.move_page-requires-clause-key
move_page-requires-clause-key g c = rw (ap (λ r. r.geometry) c.due_record.ensures.looks.memory) (c.in_ok-due.ensures.checked _ c.in-Some.is).of_key

pub move_page-requires-clause-row : goal.move_page-requires-clause-row
move_page-requires-clause-row g c = rw (ap (λ r. r.geometry) c.due_record.ensures.looks.memory) c.requires.row

pub move_page-requires-clause-room : goal.move_page-requires-clause-room
move_page-requires-clause-room g c =
    let room = has_room (ram c.args.self.now) c.requires.safe.memory (c.has_place.ensures.0 c.if-not-has_place.false) in
    subst (λ r. length r.mapping.moved < waiting r + r.geometry.pages) (sym c.due_record.ensures.looks.memory) room

pub returns-in_err-move_page : goal.returns-in_err-move_page
returns-in_err-move_page g c =
    let p = err_from_is_err_and c.from_residual-in_err-move_page.result c.from_residual-in_err-move_page.ensures.1 in
    let room = has_room (ram c.args.self.now) c.requires.safe.memory (c.has_place.ensures.0 c.if-not-has_place.false) in
    rw (p.1, p.2) (record { moves = renewal_found c.args.self.now c.due_record.new.self c.move_page.new.self c.args.row c.in-Some.found c.in_ok-due.due _ c.requires.safe room c.in_ok-due.ensures.looks c.in_ok-due.ensures.truth c.in-Some.is c.in_err-move_page.ensures; unfound = λ is. absurd (err_not_unfound _ _ _ refl is) })

pub returns : goal.returns
returns g c =
    let room = has_room (ram c.args.self.now) c.requires.safe.memory (c.has_place.ensures.0 c.if-not-has_place.false) in
    record { moves = renewal_found c.args.self.now c.due_record.new.self c.move_page.new.self c.args.row c.in-Some.found c.in_ok-due.due _ c.requires.safe room c.in_ok-due.ensures.looks c.in_ok-due.ensures.truth c.in-Some.is c.in_ok-move_page.ensures; unfound = λ is. absurd (true_not_false _ refl is) }
