-- What fits a dump in another arrangement, and what fits best.
use Rattle.std.specs.Prelude.{◌≡◌, ℕ, ◌*◌, ◌<◌, true, false, List, length, Option, Some, None}
use Rattle.std.specs.declared.cmp.Ordering.{Ordering}
use Rattle.std.specs.Ordering.{bool_cmp, is_gt, nat_cmp, ordering_then}
use Rattle.std.specs.Option.{option_cmp, unwrap_or}
use Rattle.page_layout.specs.declared.geometry.Geometry.{Geometry}
use Rattle.page_layout.specs.Geometry.{page_bytes, row_count}
use Rattle.lab_dump.specs.declared.fit.Fit.{Fit}
use Rattle.lab_dump.specs.Sample.{sample_of}
use Rattle.lab_dump.specs.Told.{pages_told_of}
use Rattle.lab_dump.specs.Fits.{IsPossible, fit_of, rank}
use Rattle.lab_arrange.specs.declared.arrangement.Arrangement.{Arrangement}
use Rattle.lab_arrange.specs.declared.arrangement.Spares.{Spares}
use Rattle.lab_arrange.specs.declared.arrangement.Spares.TheVariants.{Block, Die}
use Rattle.lab_arrange.specs.Place.{IsFitting, length_of}
use Rattle.lab_shapes.specs.declared.find.ArrangedFit.{ArrangedFit}
use Rattle.lab_shapes.specs.Ordered.{in_turn_of, is_likely, ordered, shows_sound}
use Rattle.lab_shapes.specs.Tried.{IsTried}

-- ---- what fits

-- what a dump that is in order says for this geometry
abbrev pub fit_in_order : Geometry → List ℕ → Fit
fit_in_order g all = fit_of g.data_bytes g.spare_bytes g.pages g.blocks (sample_of g.data_bytes g.spare_bytes (row_count g) all) (pages_told_of g.data_bytes g.spare_bytes (row_count g) all)

-- This geometry fits the dump in this arrangement: such a die can stand so, and comes to the dump's bytes; and of the dump put in order one of the first
-- 64 pages that are looked at is sound, and where something was cut off more of these are than neither sound nor erased. What is told of it is what the dump put in order says.
pub record FitsAs (all : List ℕ) (g : Geometry) (x : ArrangedFit) : Type 0 where
  pub fits : IsFitting g x.arrangement
  pub whole : length all ≡ length_of g x.arrangement
  pub sound : shows_sound g (ordered g x.arrangement all) ≡ true
  pub likely : is_likely g x.arrangement (ordered g x.arrangement all) ≡ true
  pub in_turn_is : x.in_turn.0 ≡ in_turn_of g (ordered g x.arrangement all)
  pub fit_is : x.fit ≡ fit_in_order g (ordered g x.arrangement all)

-- less than a block was cut off
abbrev pub IsCutShort : Geometry → Arrangement → Type 0
IsCutShort g a = unwrap_or a.cut 0 < g.pages * page_bytes g

-- A GEOMETRY FITS A DUMP IN AN ARRANGEMENT: one with one sector, in an arrangement that is tried, of whose last block some is there
pub record FitsArranged (all : List ℕ) (x : ArrangedFit) : Type 0 where
  pub geometry : Geometry
  pub sector : geometry.sectors ≡ 1
  pub tried : IsTried x.arrangement
  pub short : IsCutShort geometry x.arrangement
  pub fits : FitsAs all geometry x

-- ---- what fits best

-- those of a block come before those of the die
abbrev pub spares_place : Spares → ℕ
spares_place Block = 0
spares_place Die = 1

abbrev pub spares_cmp : Spares → Spares → Ordering
spares_cmp x y = nat_cmp (spares_place x) (spares_place y)

-- of two arrangements the one comes first that lacks a word which the other has, by the words in their order
abbrev pub arrangement_rank : Arrangement → Arrangement → Ordering
arrangement_rank a b =
    ordering_then (option_cmp nat_cmp a.header b.header) (ordering_then (option_cmp nat_cmp a.tail b.tail) (ordering_then (option_cmp nat_cmp a.cut b.cut)
    (ordering_then (option_cmp spares_cmp a.spares b.spares) (ordering_then (bool_cmp a.spare_first b.spare_first) (ordering_then (bool_cmp a.swapped b.swapped)
    (ordering_then (bool_cmp a.inverted b.inverted) (bool_cmp a.planes b.planes)))))))

-- Which of two comes first: the one with more pages in their turn; then by what the dump says for the geometry; then by the arrangement.
abbrev pub arranged_rank : ArrangedFit → ArrangedFit → Ordering
arranged_rank x y = ordering_then (nat_cmp y.in_turn.0 x.in_turn.0) (ordering_then (rank x.fit y.fit) (arrangement_rank x.arrangement y.arrangement))

-- one comes no later than the other
abbrev pub IsNotAfter : ArrangedFit → ArrangedFit → Type 0
IsNotAfter x y = is_gt (arranged_rank x y) ≡ false

-- THE BEST ONE: it fits, and none that fits comes before it; or there is none, and none fits.
abbrev pub IsBest : List ℕ → Option ArrangedFit → Type 0
IsBest all None = (y : ArrangedFit) → ¬ FitsArranged all y
IsBest all (Some x) = FitsArranged all x × ((y : ArrangedFit) → FitsArranged all y → IsNotAfter x y)

-- ---- whatever the dump gives

-- the five numbers are those of a die, some pages that were looked at are sound, and the arrangement is one that is tried
pub record IsPossibleAs (x : ArrangedFit) : Type 0 where
  pub fit : IsPossible x.fit
  pub tried : IsTried x.arrangement
