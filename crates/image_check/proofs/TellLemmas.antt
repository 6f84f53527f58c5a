-- What a pass knows of the newest page of a key, beside what a scan knows.
use Rattle.std.proofs.Common.{◌≡◌, ℕ, ◌<◌, ◌≤◌, Some, None, refl, ap, ◌∙◌, arith}
use Rattle.std.proofs.lemmas.Bool.{lt-ltb, le-ltb}
use Rattle.page_layout.specs.declared.newest.Latest.{Latest}
use Rattle.page_layout.specs.declared.newest.Latest.TheVariants.{Never, Once, Tied}
use Rattle.page_layout.specs.Greatest.{step, place_of}
use Rattle.image_check.specs.declared.newest.Newest.{Newest}
use Rattle.image_check.specs.Newest.{TellsNewest, place_in, tied}

-- with a sound page of this row and sequence more it is said by another
abbrev pub IsNext : Newest → ℕ → ℕ → Newest → Type 0
IsNext x row s next = (l : Latest) → TellsNewest x l → TellsNewest next (step l row (Some s))

place_some : (x : Newest) → x.row < tied → place_in x ≡ Some x.row
place_some x l = rw (lt-ltb x.row tied l) refl

place_none : (x : Newest) → tied ≤ x.row → place_in x ≡ None
place_none x l = rw (le-ltb x.row tied l) refl

pub tells_place : (x : Newest) (l : Latest) → TellsNewest x l → place_in x ≡ place_of l
tells_place x Never h = place_none x (omega (arith, h))
tells_place x (Once row s) h = let at = h.0 in let few = h.1 in place_some x (omega arith) ∙ ap Some h.0
tells_place x (Tied a b s) h = let at = h.0 in place_none x (omega arith)
