use Rattle.std.proofs.Common.{◌∙◌, sym, refl}
use Rattle.promises.proofs.StopLemmas.{leaves_nothing}
use Rattle.collection.proofs.Stops.{same_left}
use Rattle.collection.specs.Safe.{ram}
use Rattle.collection.proofs.Acts.{acts_same}
use Rattle.collection.proofs.Follows.{none_if}
use Rattle.collection.proofs.Rescues.{followed_result, followed_none, none_behind, cached_behind}
use Rattle.collection.proofs.Memory.{goes_same}
use Rattle.collection.proofs.Copies.{keys_same}
use Rattle.collection.proofs.Looks.{ok_not_bus}
use Rattle.collection.proofs.Afters.{followed_other, behind_other, followed_cached, behind_cached, followed_now, followed_costs}
use Rattle.collection.proofs.engine.Engine.follow_moved.Goals as goal

-- ---- what a stop leaves

pub returns-in_default-clause-stops : goal.returns-in_default-clause-stops
returns-in_default-clause-stops g c = λ honest w ne. leaves_nothing _ _ _ (same_left (ram c.args.self.now) _ _ c.requires.safe.memory w)

pub returns-then-is_cached-clause-stops : goal.returns-then-is_cached-clause-stops
returns-then-is_cached-clause-stops g c = λ honest w ne. leaves_nothing _ _ _ (same_left (ram c.args.self.now) _ _ c.requires.safe.memory w)

pub returns-clause-stops : goal.returns-clause-stops
returns-clause-stops g c = λ honest w ne. c.write_page_back.ensures.stops honest w ne

-- ---- nothing was to be done

pub returns-in_default-clause-acts : goal.returns-in_default-clause-acts
returns-in_default-clause-acts g c = acts_same c.args.self.now c.requires.safe

pub returns-then-is_cached-clause-acts : goal.returns-then-is_cached-clause-acts
returns-then-is_cached-clause-acts g c = acts_same c.args.self.now c.requires.safe

-- ---- the page follows

pub returns-clause-truth : goal.returns-clause-truth
returns-clause-truth g c = λ honest w.
    followed_result c.args.key c.in-Sector.n c.entries.result (ram c.args.self.now) (ram c.write_page_back.new.self) _ _ c.write_page_back.result
    c.in-Sector.is (none_if _ (sym c.is_cached.ensures ∙ c.if-is_cached.false)) c.entries.ensures (c.write_page_back.ensures.truth honest w)

-- ---- what a fault of the die leaves

pub returns-clause-cut : goal.returns-clause-cut
returns-clause-cut g c = λ honest w is. c.write_page_back.ensures.cut honest w is

pub returns-clause-acts : goal.returns-clause-acts
returns-clause-acts g c = c.write_page_back.ensures.acts

pub returns-clause-goes : goal.returns-clause-goes
returns-clause-goes g c = c.write_page_back.ensures.goes

pub returns-clause-erases : goal.returns-clause-erases
returns-clause-erases g c = c.write_page_back.ensures.erases

pub returns-clause-pin : goal.returns-clause-pin
returns-clause-pin g c = c.write_page_back.ensures.pin

pub returns-in_default-clause-goes : goal.returns-in_default-clause-goes
returns-in_default-clause-goes g c = goes_same _

pub returns-in_default-clause-erases : goal.returns-in_default-clause-erases
returns-in_default-clause-erases g c = refl

pub returns-in_default-clause-keys : goal.returns-in_default-clause-keys
returns-in_default-clause-keys g c = keys_same _ _ refl

pub returns-in_default-clause-pin : goal.returns-in_default-clause-pin
returns-in_default-clause-pin g c = refl

pub returns-in_default-clause-unmoved : goal.returns-in_default-clause-unmoved
returns-in_default-clause-unmoved g c = tt

pub returns-in_default-clause-cut : goal.returns-in_default-clause-cut
returns-in_default-clause-cut g c = λ _ _ e. absurd (ok_not_bus _ e)

pub returns-then-is_cached-clause-goes : goal.returns-then-is_cached-clause-goes
returns-then-is_cached-clause-goes g c = goes_same _

pub returns-then-is_cached-clause-erases : goal.returns-then-is_cached-clause-erases
returns-then-is_cached-clause-erases g c = refl

pub returns-then-is_cached-clause-keys : goal.returns-then-is_cached-clause-keys
returns-then-is_cached-clause-keys g c = keys_same _ _ refl

pub returns-then-is_cached-clause-pin : goal.returns-then-is_cached-clause-pin
returns-then-is_cached-clause-pin g c = refl

pub returns-then-is_cached-clause-unmoved : goal.returns-then-is_cached-clause-unmoved
returns-then-is_cached-clause-unmoved g c = tt

pub returns-then-is_cached-clause-cut : goal.returns-then-is_cached-clause-cut
returns-then-is_cached-clause-cut g c = λ _ _ e. absurd (ok_not_bus _ e)

pub returns-clause-keys : goal.returns-clause-keys
returns-clause-keys g c = record { limits = c.write_page_back.ensures.no_more.limits; keys = c.write_page_back.ensures.keys }

pub returns-clause-followed : goal.returns-clause-followed
returns-clause-followed g c = followed_now c.args.key c.in-Sector.n c.in-Sector.is c.entries.result (ram c.args.self.now) _ c.write_page_back.result
    (none_if _ (sym c.is_cached.ensures ∙ c.if-is_cached.false)) c.entries.ensures c.requires.safe.memory.mapping_of c.write_page_back.ensures.cleaned

pub returns-clause-unmoved : goal.returns-clause-unmoved
returns-clause-unmoved g c = c.write_page_back.ensures.mapping

pub returns-clause-cost : goal.returns-clause-cost
returns-clause-cost g c = followed_costs c.args.key c.in-Sector.n c.in-Sector.is (ram c.args.self.now) (ram c.write_page_back.new.self) c.write_page_back.result
    (none_if _ (sym c.is_cached.ensures ∙ c.if-is_cached.false)) c.write_page_back.ensures.cost

pub returns-in_default-clause-followed : goal.returns-in_default-clause-followed
returns-in_default-clause-followed g c = followed_other c.args.key _ c.in_default.not-Sector

pub returns-in_default-clause-cost : goal.returns-in_default-clause-cost
returns-in_default-clause-cost g c = behind_other c.args.key (ram c.args.self.now) c.in_default.not-Sector

pub returns-in_default-clause-truth : goal.returns-in_default-clause-truth
returns-in_default-clause-truth g c = λ _ w. followed_none c.args.key (ram c.args.self.now) _ (none_behind c.args.key (ram c.args.self.now) c.in_default.not-Sector) w

pub returns-then-is_cached-clause-followed : goal.returns-then-is_cached-clause-followed
returns-then-is_cached-clause-followed g c = followed_cached c.args.key c.in-Sector.n c.in-Sector.is _ (sym c.is_cached.ensures ∙ c.if-is_cached.true)

pub returns-then-is_cached-clause-cost : goal.returns-then-is_cached-clause-cost
returns-then-is_cached-clause-cost g c = behind_cached c.args.key c.in-Sector.n c.in-Sector.is (ram c.args.self.now) (sym c.is_cached.ensures ∙ c.if-is_cached.true)

pub returns-then-is_cached-clause-truth : goal.returns-then-is_cached-clause-truth
returns-then-is_cached-clause-truth g c = λ _ w. followed_none c.args.key (ram c.args.self.now) _ (cached_behind c.args.key c.in-Sector.n (ram c.args.self.now) c.in-Sector.is (sym c.is_cached.ensures ∙ c.if-is_cached.true)) w
