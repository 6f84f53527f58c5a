-- A WAY TO A DIE, and what it is that a call goes it.
use Rattle.std.specs.Prelude.{◌≡◌, ◌⊎◌, ℕ, Bool}
use Rattle.page_layout.specs.Flash.{Flash}
use Rattle.page_layout.specs.View.{View}
use Rattle.onfi_cycles.specs.Cycles.{DieState}
use Rattle.ftl_disk.specs.Either.{AskedOfLink, IsDieFor, IsUnreset, either_view}
use Rattle.ftl_disk.specs.declared.either.EitherDie.{EitherDie}
use Rattle.ftl_disk.specs.declared.plan.Plan.{Plan}

-- a way's own words: that it was gone for a plan, and gave this link; and that it was left with this die
pub record WayCalls (W : Type 0) : Type 1 where
  pub goes : (old : W) → Plan → (link : W) → (new : W) → Type 0
  pub leaves : {D : Type 0} → (old : W) → (die : D) → (new : W) → Type 0

-- all that is said of a way: those, what its links say of one exchange, and what contracts say of its dies
pub record WayWords (W : Type 0) : Type 1 where
  pub calls : WayCalls W
  pub called : AskedOfLink W
  pub view : View (EitherDie W)

abbrev pub way_words : {W : Type 0} → WayCalls W → (W → DieState) → (chip : W → Flash) → (honest keeps : W → Bool) → AskedOfLink W → WayWords W
way_words calls die chip honest keeps called = record { calls = calls; called = called; view = either_view die chip honest keeps called }

-- THE DIE THAT THE WAY LED TO: it took Reset, and this comes of it
pub record IsDieReached {W : Type 0} (called : AskedOfLink W) (p : Plan) (link : W) (Comes : EitherDie W → Type 0) : Type 0 where
  pub die : EitherDie W
  pub its : IsDieFor called p link die
  pub comes : Comes die

-- A CALL GOES ITS WAY ONCE: what comes of the very die that it led to; or the number of why there was none, and nothing else changes
pub record GoesOnce {W : Type 0} (w : WayWords W) (p : Plan) (was is : W) (number : ℕ) (Stays : Type 0) (Comes : (between : W) → EitherDie W → Type 0) : Type 0 where
  pub link : W
  pub between : W
  pub goes : w.calls.goes was p link between
  pub comes : IsDieReached w.called p link (Comes between) ⊎ ((is ≡ between) × Stays × IsUnreset w.called p link number)
