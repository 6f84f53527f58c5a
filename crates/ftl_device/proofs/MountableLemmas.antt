-- What an engine knows of an image makes it mountable.
use Rattle.std.proofs.Common.{◌≡◌, ◌≤◌, inl, inr, ℕ, ◌+◌, eqb}
use Rattle.std.proofs.Common.{Option, Some, None, IsSome, ap, subst, arith}
use Rattle.std.specs.Map.{lookup}
use Rattle.mapping_cache.specs.Mapping.{moved_row}
use Rattle.page_layout.specs.declared.geometry.Geometry.{Geometry}
use Rattle.page_layout.specs.Page.{Image}
use Rattle.image_check.specs.Mountable.{IsMountable, IsOrderly}
use Rattle.image_check.proofs.MountableLemmas.{mountable}
use Rattle.collection.specs.State.{Ram}
use Rattle.collection.specs.Safe.{IsRam}
use Rattle.collection.specs.Truth.{IsTrue}
use Rattle.collection.specs.Stops.{room_of}
use Rattle.collection.proofs.Mounts.{stale_held, orderly}
use Rattle.ftl_device.specs.Calls.{StaleLaw, RestartLaw}

-- ---- stale sectors are cached

pub stale_law : StaleLaw
stale_law r image n w unmoved lt old = elim (stale_held r image n w lt old) [
  | inl cached ↦ cached
  | inr moved ↦ (let none : moved_row r.mapping n ≡ None = ap (λ ms. lookup (eqb n) ms) unmoved in let no : ⊥ = at (moved_row r.mapping n) none moved in absurd no)
]
  where
    at : (o : Option ℕ) → o ≡ None → IsSome o → ⊥
    at None e some = (let no : ⊥ = cc in no)
    at (Some row) e some = (let no : ⊥ = cc in no)

-- ---- a certificate is to be had

-- for one stale sector at least
pub some_room : (r : Ram) → IsRam r → 1 ≤ room_of r
some_room r s = omega (arith, s.mapping.holds_one, r.geometry.limits.sector_count.least)

more_orderly : (g : Geometry) (few many : ℕ) (image : Image) → few ≤ many → IsOrderly g few image → IsOrderly g many image
more_orderly g few many image le o = record { numbers = o.numbers; sequences = o.sequences; tables = o.tables; last = o.last; fresh = omega (arith, o.fresh, le) }

-- at that capacity, or a greater one
pub restart_more : (r : Ram) (image : Image) (capacity : ℕ) → IsRam r → IsTrue None r image → room_of r ≤ capacity → capacity ≤ 65536 → IsMountable r.geometry capacity image
restart_more r image capacity s w within most =
    (mountable r.geometry capacity image w.whole.rows (omega (arith, some_room r s, within)) most).1
    (more_orderly r.geometry (room_of r) capacity image within (orderly r image s w))

pub restart_law : RestartLaw
restart_law r image s w most = restart_more r image (room_of r) s w (omega arith) most
