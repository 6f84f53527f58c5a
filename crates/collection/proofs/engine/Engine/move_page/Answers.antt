use Rattle.std.proofs.Common.{refl, sym, subst, ◌∙◌}
use Rattle.std.proofs.lemmas.Result.{err_from_is_err_and}
use Rattle.page_layout.specs.Key.{key_of}
use Rattle.page_layout.specs.Live.{IsKeyOf}
use Rattle.collection.specs.Safe.{ram}
use Rattle.collection.specs.Results.{Goes}
use Rattle.collection.specs.Collect.{KeepsKeys}
use Rattle.collection.proofs.Acts.{acts_then}
use Rattle.collection.proofs.Copies.{keys_then}
use Rattle.collection.proofs.Cuts.{cut_after}
use Rattle.collection.proofs.Ends.{one_more_is}
use Rattle.collection.proofs.Looks.{ok_not_bus}
use Rattle.collection.proofs.Memory.{goes_then}
use Rattle.collection.proofs.Moves.{moved_result, moved_beside, moved_more, moved_cost, uncopied_cost}
use Rattle.collection.proofs.Stops.{stops_then, sized_after}
use Rattle.collection.proofs.engine.Engine.move_page.Goals as goal

pub copy_page-requires : goal.copy_page-requires
copy_page-requires g c = c.requires

pub follow_moved-requires-clause-safe : goal.follow_moved-requires-clause-safe
follow_moved-requires-clause-safe g c = c.copy_page.ensures.leaves.acts.safe

pub follow_moved-requires-clause-key : goal.follow_moved-requires-clause-key
follow_moved-requires-clause-key g c = subst (IsKeyOf c.copy_page.new.self.geometry) (sym c.key.ensures) (subst (λ x. IsKeyOf x (key_of c.args.found.now)) (sym c.copy_page.ensures.leaves.goes.geometry) c.requires.key)

-- the copy was refused
pub returns-in_err-copy_page : goal.returns-in_err-copy_page
returns-in_err-copy_page g c =
    let p = err_from_is_err_and c.from_residual.result c.from_residual.ensures.1 in
    let e = c.in_err-copy_page.ensures.leaves in
    rw (p.1, p.2) (record {
      moves = record {
        acts = e.acts;
        goes = e.goes;
        erases = e.only_programs.erases_are;
        keys = e.keys;
        beside = tt;
        pin = e.pinned refl;
        one_more = one_more_is _ _ e.unmoved;
      };
      cost = uncopied_cost (ram c.args.self.now) (ram c.copy_page.new.self) _ c.requires.safe.memory c.in_err-copy_page.ensures.cost;
      truth = c.in_err-copy_page.ensures.renews;
      stops = e.stops;
      cut = e.cut;
    })

-- its translation page follows
pub returns : goal.returns
returns g c =
    let a = ram c.args.self.now in
    let n = ram c.copy_page.new.self in
    let d = ram c.follow_moved.new.self in
    let key = key_of c.args.found.now in
    let copied = c.in_ok-copy_page.ensures in
    let e = copied.leaves in
    let f = c.follow_moved.ensures in
    let goes : Goes a d = goes_then a n d e.goes f.goes in
    let keys : KeepsKeys c.args.self.now.mapping c.follow_moved.new.self.mapping = keys_then _ _ _ e.keys f.keys in
    let beside = moved_beside key c.key.result copied.settled.0 a n d c.follow_moved.result goes copied.settled.1 keys (f.pin ∙ e.pinned refl) c.key.ensures f.followed in
    record {
      moves = record {
        acts = acts_then _ _ _ _ _ e.goes.geometry e.acts f.acts;
        goes = goes;
        erases = f.erases ∙ e.only_programs.erases_are;
        keys = keys;
        beside = beside;
        pin = f.pin ∙ e.pinned refl;
        one_more = moved_more key copied.settled.0 a n d c.follow_moved.result copied.settled.1 f.unmoved beside;
      };
      cost = moved_cost key c.key.result copied.settled.0 a n d c.follow_moved.result c.requires.safe.memory e.goes.geometry copied.cost copied.settled.1 c.key.ensures f.cost f.followed;
      truth = λ honest w live.
          let m = copied.renews honest w live in
          moved_result key c.args.row a n d _ _ _ e.goes f.goes.geometry c.key.result c.follow_moved.result e.acts.safe.memory f.acts.safe.memory c.requires.row e.keys.keys c.key.ensures
          m (λ shut. e.truth honest w shut live) (f.truth (e.acts.honest_is ∙ honest) m.same.truth);
      stops = λ honest w live ne.
          let m = copied.renews honest w live in
          stops_then a n _ _ _ _ _ _ (sized_after a a n refl e.goes e.keys) m.same.array (e.stops honest w live (ok_not_bus _)) (f.stops (e.acts.honest_is ∙ honest) m.same.truth ne);
      cut = λ honest w live is.
          let m = copied.renews honest w live in
          cut_after a n _ _ _ _ _ (sized_after a a n refl e.goes e.keys) m.same.array (e.stops honest w live (ok_not_bus _)) (f.cut (e.acts.honest_is ∙ honest) m.same.truth is);
    }
