-- All that are tried, one after another.
use Rattle.std.proofs.Common.{◌≡◌, ℕ, ◌+◌, ◌<◌, ◌≤◌, List, Option, inl, inr, sym, ap, ◌∙◌, subst, arith}
use Rattle.std.specs.Prelude.{◌⊎◌}
use Rattle.std.specs.List.{Contains}
use Rattle.std.proofs.lemmas.Bool.{cases_lt}
use Rattle.lab_dump.specs.Shape.{data_sizes, page_counts}
use Rattle.lab_dump.proofs.ShapeLemmas.{count_among, size_among}
use Rattle.lab_shapes.specs.declared.find.ArrangedFit.{ArrangedFit}
use Rattle.lab_shapes.specs.declared.tried.Way.{Way}
use Rattle.lab_shapes.specs.Tried.{IsOfWay, way_numbered}
use Rattle.lab_shapes.specs.Arranged.{FitsArranged}
use Rattle.lab_shapes.specs.Better.{Improves, InWay}
use Rattle.lab_shapes.proofs.BetterLemmas.{improves_as, improves_none, improves_then}
use Rattle.lab_shapes.proofs.TriedLemmas.{way_number}

-- ---- the numbers of one that fits

abbrev pub data_of : ArrangedFit → ℕ
data_of y = y.fit.data_bytes

abbrev pub spare_of : ArrangedFit → ℕ
spare_of y = y.fit.spare_bytes

abbrev pub pages_of : ArrangedFit → ℕ
pages_of y = y.fit.pages

pub data_among : (all : List ℕ) (y : ArrangedFit) → FitsArranged all y → Contains data_sizes (data_of y)
data_among all y h = subst (Contains data_sizes) (sym (ap (λ f. f.data_bytes) h.fits.fit_is)) (size_among h.geometry.data_bytes h.geometry.limits.data_size)

pub pages_among : (all : List ℕ) (y : ArrangedFit) → FitsArranged all y → Contains page_counts (pages_of y)
pages_among all y h = subst (Contains page_counts) (sym (ap (λ f. f.pages) h.fits.fit_is)) (count_among h.geometry.pages h.geometry.limits.page_count)

pub spare_least : (all : List ℕ) (y : ArrangedFit) → FitsArranged all y → 32 ≤ spare_of y
spare_least all y h = (let is = ap (λ f. f.spare_bytes) h.fits.fit_is in let l = h.geometry.limits.spare_size.least in omega arith)

pub spare_most : (all : List ℕ) (y : ArrangedFit) → FitsArranged all y → spare_of y < 257
spare_most all y h = (let is = ap (λ f. f.spare_bytes) h.fits.fit_is in let l = h.geometry.limits.spare_size.most in omega arith)

-- ---- the ways by their numbers

-- those of a way of a number below this one
pub record Numbered (all : List ℕ) (n : ℕ) (y : ArrangedFit) : Type 0 where
  pub fits : FitsArranged all y
  pub number : ℕ
  pub below : number < n
  pub is : IsOfWay (way_numbered number) y.arrangement

pub numbers_start : (all : List ℕ) (old : Option ArrangedFit) → Improves (Numbered all 0) old old
numbers_start all old = improves_none (Numbered all 0) old (λ y h. absurd (let l = h.below in omega arith))

pub numbers_more : (all : List ℕ) (n : ℕ) (w : Way) (old mid new : Option ArrangedFit) → w ≡ way_numbered n → Improves (Numbered all n) old mid → Improves (InWay all w) mid new → Improves (Numbered all (n + 1)) old new
numbers_more all n w old mid new is first second =
    improves_then (Numbered all n) (InWay all w) (Numbered all (n + 1)) old mid new first second
    (λ y h. record { fits = h.fits; number = h.number; below = (let l = h.below in omega arith); is = h.is })
    (λ y h. record { fits = h.0; number = n; below = omega arith; is = subst (λ v. IsOfWay v y.arrangement) is h.1 })
    (λ y h. by y h (cases_lt h.number n))
  where
    by : (y : ArrangedFit) → (h : Numbered all (n + 1) y) → (h.number < n) ⊎ (n ≤ h.number) → Numbered all n y ⊎ InWay all w y
    by y h (inl less) = inl (record { fits = h.fits; number = h.number; below = less; is = h.is })
    by y h (inr most) =
        let l = h.below in
        let same : h.number ≡ n = omega arith in
        inr (h.fits, subst (λ v. IsOfWay v y.arrangement) (ap way_numbered same ∙ sym is) h.is)

pub numbers_all : (all : List ℕ) (n : ℕ) (old new : Option ArrangedFit) → n ≡ 1297 → Improves (Numbered all n) old new → Improves (FitsArranged all) old new
numbers_all all n old new e h =
    improves_as (Numbered all n) (FitsArranged all) old new h (λ y a. a.fits)
    (λ y f. (let k = way_number y.arrangement f.tried in record { fits = f; number = k.number; below = (let l = k.below in omega arith); is = k.is }))
