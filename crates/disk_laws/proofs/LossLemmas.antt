-- What may be lost, against what may be left by a kill.
use Rattle.std.proofs.Common.{ℕ, List, inl, inr, [], ◌∷◌, refl, sym, subst}
use Rattle.page_layout.specs.Page.{Image}
use Rattle.page_layout.specs.Flash.{Erase, Operation, Program}
use Rattle.page_layout.specs.Recording.{image_after}
use Rattle.image_laws.specs.Power.{LosesSince}
use Rattle.image_laws.proofs.PowerLemmas.{none_lost}
use Rattle.disk_laws.specs.Lost.{LostAfterEraseLaw, AllGoneLaw, AllThereLaw, LostBy}

pub all_there : AllThereLaw
all_there pages stored image [] found same = subst (LosesSince stored image) (sym same) (none_lost stored image)
all_there pages stored image (Program row page passed left ∷ log) found (inl torn) = inl (found, torn, none_lost stored found)
all_there pages stored image (Program row page passed left ∷ log) found (inr later) = inr (all_there pages stored (image_after pages image (Program row page passed left)) log found later)
all_there pages stored image (Erase block passed left ∷ log) found (inl torn) = inr (inl torn)
all_there pages stored image (Erase block passed left ∷ log) found (inr later) =
    inr (inr (all_there pages (image_after pages image (Erase block passed left)) (image_after pages image (Erase block passed left)) log found later))

pub after_erase : LostAfterEraseLaw
after_erase pages stored image block passed left log found later = inr (inr later)

-- what was lost before operations is what may be lost with them
pub lost_then : (pages : ℕ) (stored image found : Image) (log : List Operation) → LosesSince stored image found → LostBy pages stored image log found
lost_then pages stored image found [] loses = loses
lost_then pages stored image found (Program row page passed left ∷ log) loses = inl (image, inl refl, loses)
lost_then pages stored image found (Erase block passed left ∷ log) loses = inl loses

pub all_gone : AllGoneLaw
all_gone pages stored image log loses = lost_then pages stored image stored log loses
