-- A geometry of two planes, by its numbers.
use Rattle.std.proofs.Common.{List, ℕ, Option, subst}
use Rattle.std.specs.Prelude.{Result, Ok, Err, IfOk}
use Rattle.page_layout.specs.declared.geometry.Geometry.{Geometry}
use Rattle.page_layout.specs.Faults.{HasNumbers}
use Rattle.lab_dump.specs.declared.fit.Fit.{Fit}
use Rattle.lab_shapes.specs.declared.find.ArrangedFit.{ArrangedFit}
use Rattle.lab_shapes.specs.Planes.{IsInTurns, IsTurnedOf}
use Rattle.lab_shapes.proofs.ShapeLemmas.{numbered_once}

-- it is the only one with them
pub for_numbers : (all : List ℕ) (f : Fit) (g : Geometry) (turned : Option ArrangedFit) → HasNumbers f.data_bytes f.spare_bytes f.pages f.blocks 1 g → IsInTurns all g turned → IsTurnedOf all f turned
for_numbers all f g turned is h = λ k numbers. subst (λ z. IsInTurns all z turned) (numbered_once _ _ _ _ _ g k is numbers) h

pub turned_map : {E : Type 0} (P Q : Option ArrangedFit → Type 0) (r : Result (Option ArrangedFit) E) → ((x : Option ArrangedFit) → P x → Q x) → IfOk r P → IfOk r Q
turned_map P Q (Ok x) f h = f x h
turned_map P Q (Err e) f h = tt
