-- The order of geometries, as it is derived, is that of the words.
use Rattle.std.proofs.Common.{◌≡◌, refl, ap}
use Rattle.std.specs.Ordering.{nat_cmp, ordering_then}
use Rattle.lab_dump.specs.declared.fit.Fit.{Fit}
use Rattle.lab_dump.specs.declared.fit.TableSays.{TableSays}
use Rattle.lab_dump.specs.declared.fit.TableSays.TheVariants.{Agrees, Short, Silent, Differs}
use Rattle.lab_dump.specs.contracts.fit.TableSaysOrd.TheImpl as says
use Rattle.lab_dump.specs.contracts.fit.FitOrd.TheImpl as fit
use Rattle.lab_dump.specs.Fits.{table_place, rank}

-- the order of what the table says, as it is derived, is that of the places
same_place : (x y : TableSays) → says.ghosts.cmp x y ≡ nat_cmp (table_place x) (table_place y)
same_place Agrees Agrees = refl
same_place Agrees Short = refl
same_place Agrees Silent = refl
same_place Agrees Differs = refl
same_place Short Agrees = refl
same_place Short Short = refl
same_place Short Silent = refl
same_place Short Differs = refl
same_place Silent Agrees = refl
same_place Silent Short = refl
same_place Silent Silent = refl
same_place Silent Differs = refl
same_place Differs Agrees = refl
same_place Differs Short = refl
same_place Differs Silent = refl
same_place Differs Differs = refl

-- the same of the whole order
pub same_rank : (x y : Fit) → fit.ghosts.cmp x y ≡ rank x y
same_rank x y = ap (λ o. ordering_then (nat_cmp y.sound.0 x.sound.0) (ordering_then o (ordering_then (nat_cmp x.missing y.missing) (ordering_then (nat_cmp x.unsound_bytes y.unsound_bytes)
    (ordering_then (nat_cmp x.data_bytes y.data_bytes) (ordering_then (nat_cmp x.spare_bytes y.spare_bytes) (ordering_then (nat_cmp x.pages y.pages)
    (ordering_then (nat_cmp x.blocks y.blocks) (ordering_then (nat_cmp x.sectors y.sectors) (ordering_then (nat_cmp x.looked y.looked)
    (ordering_then (nat_cmp x.unsound y.unsound) (ordering_then (nat_cmp x.blocks_told y.blocks_told) (nat_cmp x.sectors_told y.sectors_told))))))))))))) (same_place x.table y.table)
