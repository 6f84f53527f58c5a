-- Whether a geometry that fits a dump as it stands is one of two planes.
use Rattle.std.specs.Prelude.{◌≡◌, ℕ, ◌<◌, true, false, List, Option, Some, None}
use Rattle.page_layout.specs.declared.geometry.Geometry.{Geometry}
use Rattle.page_layout.specs.Faults.{HasNumbers}
use Rattle.lab_dump.specs.declared.fit.Fit.{Fit}
use Rattle.lab_arrange.specs.declared.arrangement.Arrangement.{Arrangement}
use Rattle.lab_arrange.specs.Words.{in_order}
use Rattle.lab_shapes.specs.declared.find.ArrangedFit.{ArrangedFit}
use Rattle.lab_shapes.specs.Arranged.{FitsAs}
use Rattle.lab_shapes.specs.Ordered.{in_turn_of, ordered}

-- the pages of two planes in turns, and nothing else
abbrev pub in_planes : Arrangement
in_planes = record { header = None; tail = None; cut = None; spares = None; spare_first = false; swapped = false; inverted = false; planes = true }

-- This geometry fits the dump with the pages of two planes in turns, and of the pages that are looked at more are in their turn so than as it stands.
pub record IsMoreInTurn (all : List ℕ) (g : Geometry) (x : ArrangedFit) : Type 0 where
  pub planes : x.arrangement ≡ in_planes
  pub fits : FitsAs all g x
  pub more : in_turn_of g (ordered g in_order all) < x.in_turn.0

-- it is the one, or none is
abbrev pub IsInTurns : List ℕ → Geometry → Option ArrangedFit → Type 0
IsInTurns all g None = (x : ArrangedFit) → ¬ IsMoreInTurn all g x
IsInTurns all g (Some x) = IsMoreInTurn all g x

-- THE SAME of the geometry with the numbers of a fit, and one sector
abbrev pub IsTurnedOf : List ℕ → Fit → Option ArrangedFit → Type 0
IsTurnedOf all f turned = (g : Geometry) → HasNumbers f.data_bytes f.spare_bytes f.pages f.blocks 1 g → IsInTurns all g turned
