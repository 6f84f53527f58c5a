-- The rows that are asked for.
use Rattle.std.proofs.Common.{◌≡◌, ℕ, ◌+◌, length, slice_get, get_or, map, Option, Some, None, refl, sym, ap, ◌∙◌, inl, inr, arith, cond, List}
use Rattle.std.specs.List.{enumerate_from}
use Rattle.std.specs.Prelude.{option_map, nat_le, nat_lt}
use Rattle.std.proofs.lemmas.Bool.{and_parts, and_from}
use Rattle.std.proofs.lemmas.Bool.Decides.{nat_tests}
use Rattle.std.proofs.lemmas.List.{length-map}
use Rattle.std.proofs.lemmas.List.FromFn.{length-enumerate_from, get_or-enumerate_from}
use Rattle.std.proofs.lemmas.Option.{slice_get-map, slice_get-get_or, slice_get_past, slice_get_cases}
use Rattle.page_layout.specs.declared.geometry.Geometry.{Geometry}
use Rattle.page_layout.specs.Page.{Page, Image, page}
use Rattle.page_layout.specs.Change.{erased_page}
use Rattle.lab_dump.specs.declared.rows.Rows.{Rows}
use Rattle.lab_dump.specs.Rows.{shown_page, within, AskedLaw, WithinLaw, NoRowsNamedLaw}

-- ---- a list with its places

pub numbered_size : {X Y : Type 0} (f : ℕ × X → Y) (xs : List X) → length (map f (enumerate_from 0 xs)) ≡ length xs
numbered_size f xs = length-map (enumerate_from 0 xs) f ∙ length-enumerate_from 0 xs

pub numbered_get : {X Y : Type 0} (f : ℕ × X → Y) (xs : List X) (i : ℕ) → slice_get (map f (enumerate_from 0 xs)) i ≡ option_map (λ x. f (i, x)) (slice_get xs i)
numbered_get f xs i = elim ((slice_get_cases xs i).1) [
  | inl (x, inside, at, here) ↦
      let from : 0 + i ≡ i = omega arith in
      let there : get_or (enumerate_from 0 xs) i (0, x) ≡ (i, x) = get_or-enumerate_from 0 xs i (0, x) inside ∙ (ap (λ j. (j, get_or xs i x)) from ∙ ap (λ y. (i, y)) here) in
      slice_get-map f (enumerate_from 0 xs) i
      ∙ (ap (option_map f) (slice_get-get_or (enumerate_from 0 xs) i (0, x) (omega (arith, length-enumerate_from 0 xs)) ∙ ap Some there) ∙ ap (option_map (λ x. f (i, x))) (sym at))
  | inr (past, none) ↦ slice_get_past (map f (enumerate_from 0 xs)) i (omega (arith, numbered_size f xs)) ∙ ap (option_map (λ x. f (i, x))) (sym none)
]

-- ---- the rows asked for

pub asked_law : AskedLaw
asked_law r row = (
  λ is. let parts = and_parts (nat_le r.first row) (nat_lt row r.end) is in (grind (arith, nat_tests), grind (arith, nat_tests)),
  λ h. and_from (nat_le r.first row) (nat_lt row r.end) (grind (arith, nat_tests)) (grind (arith, nat_tests)),
)

-- ---- the image of some rows

pub within_size : (g : Geometry) (rows : Option Rows) (image : Image) → length (within g rows image) ≡ length image
unfolding within
within_size g None image = refl
within_size g (Some r) image = numbered_size (λ numbered. shown_page g (Some r) numbered.0 numbered.1) image

within_at : (g : Geometry) (rows : Option Rows) (image : Image) (row : ℕ) → slice_get (within g rows image) row ≡ option_map (shown_page g rows row) (slice_get image row)
unfolding within
within_at g None image row = same (slice_get image row)
  where
    same : (o : Option Page) → o ≡ option_map (λ p. p) o
    same None = refl
    same (Some p) = refl
within_at g (Some r) image row = numbered_get (λ numbered. shown_page g (Some r) numbered.0 numbered.1) image row

pub within_law : WithinLaw
within_law g rows image = record {
  size = within_size g rows image;
  asked = λ row is. within_at g rows image row ∙ (ap (λ b. option_map (λ p. cond b p (erased_page g)) (slice_get image row)) is ∙ same (slice_get image row));
  others = λ row p is at. within_at g rows image row ∙ (ap (option_map (shown_page g rows row)) at ∙ ap (λ b. Some (cond b p (erased_page g))) is);
}
  where
    same : (o : Option Page) → option_map (λ p. p) o ≡ o
    same None = refl
    same (Some p) = refl

pub each_law : NoRowsNamedLaw
unfolding within
each_law g image = refl

-- the page of a row that was read, and what was shown of it
pub shown_at : (g : Geometry) (rows : Option Rows) (image : Image) (row : ℕ) (body spare shown_body shown_spare : List ℕ) → slice_get image row ≡ Some (page body spare)
    → page shown_body shown_spare ≡ shown_page g rows row (page body spare) → slice_get (within g rows image) row ≡ Some (page shown_body shown_spare)
shown_at g rows image row body spare shown_body shown_spare at is = within_at g rows image row ∙ (ap (option_map (shown_page g rows row)) at ∙ ap Some (sym is))
