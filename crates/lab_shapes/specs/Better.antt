-- What is best so far, and one more is tried.
use Rattle.std.specs.Prelude.{◌≡◌, ◌≢◌, ◌⊎◌, ℕ, ◌+◌, ◌-◌, ◌/◌, ◌<◌, nat_le, if◌then◌else◌, List, Option, Some, None, IfSome}
use Rattle.std.specs.Option.{unwrap_or}
use Rattle.page_layout.specs.declared.geometry.Geometry.{Geometry}
use Rattle.page_layout.specs.Faults.{HasNumbers}
use Rattle.lab_dump.specs.Scan.{image_bytes}
use Rattle.lab_arrange.specs.declared.arrangement.Arrangement.{Arrangement}
use Rattle.lab_shapes.specs.declared.find.ArrangedFit.{ArrangedFit}
use Rattle.lab_arrange.specs.Place.{length_of}
use Rattle.lab_shapes.specs.declared.tried.Way.{Way}
use Rattle.lab_shapes.specs.Tried.{IsOfWay}
use Rattle.lab_shapes.specs.Arranged.{FitsArranged, FitsAs, IsCutShort, IsNotAfter, IsPossibleAs}

-- there is one that comes no later than this one
abbrev pub IsMatched : Option ArrangedFit → ArrangedFit → Type 0
IsMatched None y = ⊥
IsMatched (Some x) y = IsNotAfter x y

-- After these were tried the best is what it was, or one of these; and neither what it was nor one of these comes before it.
pub record Improves (Q : ArrangedFit → Type 0) (old new : Option ArrangedFit) : Type 0 where
  pub among : (new ≡ old) ⊎ ((x : ArrangedFit) × (new ≡ Some x) × Q x)
  pub kept : (y : ArrangedFit) → old ≡ Some y → IsMatched new y
  pub best : (y : ArrangedFit) → Q y → IsMatched new y

-- whatever the dump gave, what is best stays possible
abbrev pub KeepsPossible : Option ArrangedFit → Option ArrangedFit → Type 0
KeepsPossible old new = IfSome old IsPossibleAs → IfSome new IsPossibleAs

-- ---- which ones are tried

-- those in an arrangement of a way
abbrev pub InWay : List ℕ → Way → ArrangedFit → Type 0
InWay all way y = FitsArranged all y × IsOfWay way y.arrangement

-- whose data areas have so many bytes
abbrev pub InData : List ℕ → Way → ℕ → ArrangedFit → Type 0
InData all way data_bytes y = InWay all way y × (y.fit.data_bytes ≡ data_bytes)

-- and whose spare areas so many
abbrev pub InAreas : List ℕ → Way → ℕ → ℕ → ArrangedFit → Type 0
InAreas all way data_bytes spare_bytes y = InData all way data_bytes y × (y.fit.spare_bytes ≡ spare_bytes)

-- and whose blocks so many pages
abbrev pub InShape : List ℕ → Way → ℕ → ℕ → ℕ → ArrangedFit → Type 0
InShape all way data_bytes spare_bytes pages y = InAreas all way data_bytes spare_bytes y × (y.fit.pages ≡ pages)

-- ---- one geometry

-- the pages in their turn of the best one so far: what has fewer comes behind it
abbrev pub least_turns : Option ArrangedFit → ℕ
least_turns None = 0
least_turns (Some x) = x.in_turn.0

-- what was found of a geometry and an arrangement: it fits, or what does has fewer than so many pages in their turn
abbrev pub IsFoundAs : List ℕ → ℕ → Geometry → Arrangement → Option ArrangedFit → Type 0
IsFoundAs all least g a None = (y : ArrangedFit) → y.arrangement ≡ a → FitsAs all g y → y.in_turn.0 < least
IsFoundAs all least g a (Some x) = (x.arrangement ≡ a) × FitsAs all g x

-- the geometry with one sector of such areas and blocks that comes to so many bytes, if there is one
abbrev pub IsShapeAs : (bytes data_bytes spare_bytes pages : ℕ) → Option Geometry → Type 0
IsShapeAs bytes d s p None = (g : Geometry) → g.data_bytes ≡ d → g.spare_bytes ≡ s → g.pages ≡ p → image_bytes g ≢ bytes
IsShapeAs bytes d s p (Some g) = (image_bytes g ≡ bytes) × HasNumbers d s p (bytes / (d + s) / p) 1 g

-- A GEOMETRY IS OF A DUMP OF THIS SIZE in an arrangement of a way: with one sector, and with such areas and blocks, it comes to so many bytes
pub record IsArrangedShapeOf (size : ℕ) (way : Way) (data_bytes spare_bytes pages : ℕ) (g : Geometry) (a : Arrangement) : Type 0 where
  pub of_way : IsOfWay way a
  pub short : IsCutShort g a
  pub whole : length_of g a ≡ size
  pub data_is : g.data_bytes ≡ data_bytes
  pub spare_is : g.spare_bytes ≡ spare_bytes
  pub pages_is : g.pages ≡ pages
  pub sector : g.sectors ≡ 1

-- it is the one, or there is none
abbrev pub IsShapeIn : (size : ℕ) → Way → (data_bytes spare_bytes pages : ℕ) → Option (Geometry × Arrangement) → Type 0
IsShapeIn size way d s p None = (g : Geometry) (a : Arrangement) → ¬ IsArrangedShapeOf size way d s p g a
IsShapeIn size way d s p (Some (g, a)) = IsArrangedShapeOf size way d s p g a

-- how many bytes the pages have of a dump of this size, if it has room for what stands around them
abbrev pub pages_size : ℕ → Arrangement → Option ℕ
pages_size size a = if nat_le (unwrap_or a.header 0 + unwrap_or a.tail 0) size then Some (size - (unwrap_or a.header 0 + unwrap_or a.tail 0)) else None
