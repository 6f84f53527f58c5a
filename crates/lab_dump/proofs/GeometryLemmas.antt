-- A geometry is its numbers.
use Rattle.std.proofs.Common.{◌≡◌, ℕ, ap, subst}
use Rattle.std.proofs.Math.Bool.{Bool-set}
use Rattle.std.proofs.Math.Bridge.{le_prop}
use Rattle.page_layout.specs.declared.geometry.Geometry.{Geometry}
use Rattle.page_layout.specs.Limits.{IsWithinLimits}

record Numbers : Type 0 where
  data_bytes : ℕ
  spare_bytes : ℕ
  pages : ℕ
  blocks : ℕ
  sectors : ℕ

abbrev numbers_of : Geometry → Numbers
numbers_of g = record { data_bytes = g.data_bytes; spare_bytes = g.spare_bytes; pages = g.pages; blocks = g.blocks; sectors = g.sectors }

abbrev IsLimited : Numbers → Type 0
IsLimited z = IsWithinLimits z.data_bytes z.spare_bytes z.pages z.blocks z.sectors

limits_one : (z : Numbers) (l k : IsLimited z) → l ≡ k
limits_one z l k =
    let one : IsProp (IsLimited z) = hlevel (Bool-set, le_prop) in
    one l k

abbrev geometry_of : (z : Numbers) → IsLimited z → Geometry
geometry_of z l = record { data_bytes = z.data_bytes; spare_bytes = z.spare_bytes; pages = z.pages; blocks = z.blocks; sectors = z.sectors; limits = l }

same_geometry : (a b : Geometry) → numbers_of a ≡ numbers_of b → a ≡ b
same_geometry a b e = subst (λ (w : Numbers). (k : IsLimited w) → a ≡ geometry_of w k) e (λ k. ap (geometry_of (numbers_of a)) (limits_one (numbers_of a) a.limits k)) b.limits

same_numbers : (d d' s s' p p' b b' n n' : ℕ) → d ≡ d' → s ≡ s' → p ≡ p' → b ≡ b' → n ≡ n'
    → (let x : Numbers = record { data_bytes = d; spare_bytes = s; pages = p; blocks = b; sectors = n } in x) ≡ record { data_bytes = d'; spare_bytes = s'; pages = p'; blocks = b'; sectors = n' }
same_numbers d d' s s' p p' b b' n n' e f h i j = cc

pub geometry_by : (a b : Geometry) → a.data_bytes ≡ b.data_bytes → a.spare_bytes ≡ b.spare_bytes → a.pages ≡ b.pages → a.blocks ≡ b.blocks → a.sectors ≡ b.sectors → a ≡ b
geometry_by a b d s p k n = same_geometry a b (same_numbers _ _ _ _ _ _ _ _ _ _ d s p k n)
