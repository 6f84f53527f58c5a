-- A geometry is its five numbers.
use Rattle.std.proofs.Common.{◌≡◌, ap, subst}
use Rattle.std.proofs.Math.Bool.{Bool-set}
use Rattle.std.proofs.Math.Bridge.{le_prop}
use Rattle.page_layout.specs.declared.geometry.Geometry.{Geometry}
use Rattle.page_layout.specs.Limits.{IsWithinLimits}
use Rattle.certificate.specs.Claim.{Sizes, sizes_of}

abbrev IsLimited : Sizes → Type 0
IsLimited z = IsWithinLimits z.data_bytes z.spare_bytes z.pages z.blocks z.sectors

limits_one : (z : Sizes) (l k : IsLimited z) → l ≡ k
limits_one z l k =
    let one : IsProp (IsLimited z) = hlevel (Bool-set, le_prop) in
    one l k

abbrev geometry_of : (z : Sizes) → IsLimited z → Geometry
geometry_of z l = record { data_bytes = z.data_bytes; spare_bytes = z.spare_bytes; pages = z.pages; blocks = z.blocks; sectors = z.sectors; limits = l }

pub same_geometry : (a b : Geometry) → sizes_of a ≡ sizes_of b → a ≡ b
same_geometry a b e = subst (λ (w : Sizes). (k : IsLimited w) → a ≡ geometry_of w k) e (λ k. ap (geometry_of (sizes_of a)) (limits_one (sizes_of a) a.limits k)) b.limits
